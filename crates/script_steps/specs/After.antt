-- What is left of a form's rule where a node inside it has ended, and what a step comes to.
-- This project's own: each case is the rest of one rule of `script_meaning`, behind the point where it waits.
use Rattle.std.specs.Prelude.{◌≡◌, ◌≢◌, ℕ, suc, [], ◌∷◌, ◌++◌, slice_index_or, drop, Err, if◌then◌else◌}
use Rattle.charged_heap.specs.Store.{Store}
use Rattle.charged_heap.specs.declared.values.Value.TheVariants as value
use Rattle.js_ops.specs.Outcome.{binary_outcome, unary_outcome}
use Rattle.js_ops.specs.Values.{truthy}
use Rattle.js_members.specs.Arrays.{pushed}
use Rattle.js_members.specs.Reads.{read_outcome}
use Rattle.js_members.specs.Writes.{write_outcome}
use Rattle.js_scopes.specs.Scopes.{initialised}
use Rattle.js_trees.specs.Tree.{kids_from}
use Rattle.script_meaning.specs.Outcome.{State, Out, Inside, gives, of_heap, with_value, with_end, with_place, with_callee}
use Rattle.script_meaning.specs.Ticks.{TakesTicks}
use Rattle.script_meaning.specs.Places.{ScriptList, form_at, name_at, key_of, place_read, place_written, place_type}
use Rattle.script_meaning.specs.Functions.{call_rule, builtin_rule, returned}
use Rattle.script_meaning.specs.Expressions.{goes_right, given, member_for, computed_for, arguments_rule, elements_rule, properties_rule}
use Rattle.script_meaning.specs.Statements.{after_statement, list_rule, declare_rule, filled, else_by}
use Rattle.script_meaning.specs.Loops.{after_body, first_round, loop_end, loop_rule, to_next, turn}
use Rattle.script_meaning.specs.Handlers.{handled, kept, try_end}
use Rattle.script_meaning.specs.declared.completion.Abrupt.TheVariants as abrupt
use Rattle.script_meaning.specs.declared.site.Key.TheVariants as key
use Rattle.script_meaning.specs.declared.site.Role.{Role}
use Rattle.script_meaning.specs.declared.site.Role.TheVariants as role
use Rattle.script_meaning.specs.declared.site.Site.{Site}
use Rattle.script_steps.specs.declared.frame.Frame.{Frame}
use Rattle.script_steps.specs.declared.frame.Frame.TheVariants as frame
use Rattle.script_steps.specs.declared.frame.Step.{Step}
use Rattle.script_steps.specs.declared.frame.Step.TheVariants.{Ended, Into, Builtin}
use Rattle.script_steps.specs.Loops.{loop_of}

-- a node of the site's script, evaluated there
abbrev pub node_out : Inside → ScriptList → Role → ℕ → Site → State → Out
node_out at scripts for n site s = at for (form_at scripts site.script n) site s

-- ---- frames

unfoldable pub after : Inside → ScriptList → Frame → Out → Out
after at scripts frame.Pass o = o
after at scripts (frame.Comma right site) o = with_value o (λ _ s. node_out at scripts role.Value right site s)
after at scripts (frame.Left operator right site) o =
    with_value o (λ left s. with_value (node_out at scripts role.Value right site s) (λ right s. of_heap s (binary_outcome operator left right s.heap)))
after at scripts (frame.Right operator left) o = with_value o (λ right s. of_heap s (binary_outcome operator left right s.heap))
after at scripts (frame.Operand operator) o = with_value o (λ operand s. of_heap s (unary_outcome operator operand s.heap))
after at scripts (frame.TypeOfPlace site) o = with_place o (λ target s. of_heap s (place_type scripts site target s.heap))
after at scripts frame.Void o = with_value o (λ _ s. gives value.Undefined s)
after at scripts (frame.Condition good bad site) o =
    with_value o (λ v s. if truthy s.heap v then node_out at scripts role.Value good site s else node_out at scripts role.Value bad site s)
after at scripts (frame.Logical operator right site) o =
    with_value o (λ v s. if goes_right operator s.heap v then node_out at scripts role.Value right site s else gives v s)
after at scripts (frame.AssignTarget right site) o =
    with_place o (λ target s. with_value (node_out at scripts role.Value right site s) (λ v s. of_heap s (place_written scripts site target v s.heap)))
after at scripts (frame.AssignValue target site) o = with_value o (λ v s. of_heap s (place_written scripts site target v s.heap))
after at scripts (frame.UpdateTarget operator right site) o =
    with_place o (λ target s.
    with_value (of_heap s (place_read scripts site target s.heap)) (λ old s.
    with_value (node_out at scripts role.Value right site s) (λ v s.
    with_value (of_heap s (binary_outcome operator old v s.heap)) (λ new s.
    of_heap s (place_written scripts site target new s.heap)))))
after at scripts (frame.UpdateValue operator target old site) o =
    with_value o (λ v s.
    with_value (of_heap s (binary_outcome operator old v s.heap)) (λ new s.
    of_heap s (place_written scripts site target new s.heap)))
after at scripts (frame.StepTarget operator before site) o =
    with_place o (λ target s.
    with_value (of_heap s (place_read scripts site target s.heap)) (λ old s.
    with_value (of_heap s (unary_outcome operator old s.heap)) (λ new s.
    with_value (of_heap s (place_written scripts site target new s.heap)) (λ _ s.
    gives (given before old new) s))))
after at scripts (frame.Member for node script) o =
    with_value o (λ base s. member_for for base (key.Name node) s (read_outcome base (name_at scripts script node) s.heap))
after at scripts (frame.IndexObject for n site) o =
    with_value o (λ base s. with_value (node_out at scripts role.Value n site s) (λ k s. computed_for for base k s (key_of s.heap k)))
after at scripts (frame.IndexKey for base) o = with_value o (λ k s. computed_for for base k s (key_of s.heap k))
after at scripts (frame.Callee node site) o =
    with_callee o (λ function receiver s.
    arguments_rule at (kids_from 1 (form_at scripts site.script node).kids) site [] (λ arguments s. call_rule at scripts function receiver arguments s) s)
after at scripts (frame.Argument node place function receiver values site) o =
    with_value o (λ v s.
    arguments_rule at (kids_from (suc place) (form_at scripts site.script node).kids) site (values ++ v ∷ [])
    (λ arguments s. call_rule at scripts function receiver arguments s) s)
after at scripts frame.Body o = returned o
after at scripts (frame.Element node place array site) o =
    with_value o (λ v s.
    with_value (of_heap s (pushed array (v ∷ []) s.heap)) (λ _ s.
    elements_rule at array (kids_from (suc place) (form_at scripts site.script node).kids) site s))
after at scripts (frame.Property node place object site) o =
    with_value o (λ v s.
    with_value (of_heap s (write_outcome (value.Item object) (slice_index_or (form_at scripts site.script node).head.names place []) v s.heap)) (λ _ s.
    properties_rule at object (drop (suc place) (form_at scripts site.script node).head.names) (kids_from (suc place) (form_at scripts site.script node).kids) site s))
after at scripts (frame.List node place last site) o =
    after_statement last o (λ last s. list_rule at (kids_from (suc place) (form_at scripts site.script node).kids) site last s)
after at scripts (frame.Declarator node place site) o =
    with_value o (λ v s.
    declare_rule at (drop (suc place) (form_at scripts site.script node).head.names) (kids_from (suc place) (form_at scripts site.script node).kids) site
    (record s { heap = initialised s.heap site.scope (slice_index_or (form_at scripts site.script node).head.names place []) v }))
after at scripts (frame.If good bad site) o =
    with_value o (λ v s. filled (if truthy s.heap v then node_out at scripts role.Statement good site s
    else else_by (form_at scripts site.script bad).head.kind (node_out at scripts role.Statement bad site s) s))
after at scripts frame.Filled o = filled o
after at scripts frame.Return o = with_value o (λ v s. (Err (abrupt.Return v), s))
after at scripts (frame.LoopTest parts last site) o =
    with_value o (λ v s. if truthy s.heap v
    then turn at (loop_of scripts site.script parts) last site s (λ last inside s. loop_rule at (loop_of scripts site.script parts) last inside s)
    else loop_end last s)
after at scripts (frame.LoopBody parts last site) o =
    after_body last o (λ last s.
    to_next at (loop_of scripts site.script parts) site s (λ inside s. loop_rule at (loop_of scripts site.script parts) last inside s))
after at scripts (frame.LoopUpdate parts last site) o =
    with_value o (λ _ s. loop_rule at (loop_of scripts site.script parts) last site s)
after at scripts (frame.ForHead parts site) o = with_end o (λ s. first_round at (loop_of scripts site.script parts) site s)
after at scripts frame.Throw o = with_value o (λ v s. (Err (abrupt.Throw v), s))
after at scripts (frame.Try node site) o =
    try_end at (form_at scripts site.script node) site (handled at (form_at scripts site.script node) site o)
after at scripts (frame.Catch node site) o = try_end at (form_at scripts site.script node) site o
after at scripts (frame.Finally before) o = filled (kept before o)

-- ---- steps

-- what a step comes to
abbrev pub step_out : Inside → ScriptList → Step → State → Out
step_out at scripts (Ended r) s = (r, s)
step_out at scripts (Into waiting inner) s = after at scripts waiting (node_out at scripts inner.role inner.node inner.site s)
step_out at scripts (Builtin which receiver arguments) s = builtin_rule which receiver arguments s

-- a store with ticks that are left
abbrev pub with_left : Store → ℕ → State
with_left heap left = record { heap = heap; left = left }

-- the step comes to the meaning, however many ticks are left and whatever stands inside, unless no memory was found
abbrev pub Steps : ScriptList → Step → Store → Store → (Inside → State → Out) → Type 0
Steps scripts step old new meaning =
    step ≢ Ended (Err abrupt.NoMemory) → (at : Inside) (left : ℕ) → step_out at scripts step (with_left new left) ≡ meaning at (with_left old left)

-- the same of a step that leaves every store as it is
abbrev pub Waits : ScriptList → Step → (Inside → State → Out) → Type 0
Waits scripts step meaning = (at : Inside) (s : State) → step_out at scripts step s ≡ meaning at s

-- so comes a step to it, however many ticks are left, where each node inside takes a tick
abbrev pub Turns : ScriptList → Step → Store → Store → (Inside → State → Out) → Type 0
Turns scripts step old new meaning =
    step ≢ Ended (Err abrupt.NoMemory) → (at : Inside) → TakesTicks at → (left : ℕ)
    → step_out at scripts step (with_left new left) ≡ meaning at (with_left old left)
