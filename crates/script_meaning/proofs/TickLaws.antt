-- Every node takes a tick and stays within the limits: whatever its form is, its rule takes no tick back, and its heap
-- stays within its cells.
use Rattle.std.proofs.Common.{◌≡◌, sym, subst, ◌⊎◌, inl, inr, ℕ, zero, suc, ◌<◌, ◌≤◌, Bool, true, false, List, [], ◌∷◌, ◌++◌, Option, Some, None, Result, Ok, Err, refl, arith, if◌then◌else◌}
use Rattle.charged_heap.specs.declared.builtin.Builtin.{Builtin}
use Rattle.charged_heap.specs.declared.item.Item.{Item}
use Rattle.charged_heap.specs.declared.item.Item.TheVariants as item
use Rattle.charged_heap.specs.declared.values.Value.{Value}
use Rattle.charged_heap.specs.declared.values.Value.TheVariants as value
use Rattle.js_syntax.specs.declared.kind.Kind.{Kind}
use Rattle.js_syntax.specs.declared.kind.Kind.TheVariants as kinds
use Rattle.js_syntax.specs.Tree.{Trees, nothing, tree}
use Rattle.js_ops.specs.Outcome.{binary_outcome, text_made, thrown, value_made, unary_outcome}
use Rattle.js_members.specs.Arrays.{pushed}
use Rattle.js_members.specs.Reads.{read_outcome}
use Rattle.js_members.specs.Writes.{write_outcome}
use Rattle.js_ops.specs.Operators.{operator_of}
use Rattle.js_ops.specs.declared.operators.Operator.{Operator}
use Rattle.js_ops.specs.declared.operators.Operator.TheVariants as operator
use Rattle.js_ops.specs.declared.operators.BinaryOperator.{BinaryOperator}
use Rattle.js_ops.specs.declared.operators.UnaryOperator.{UnaryOperator}
use Rattle.js_ops.specs.declared.operators.UnaryOperator.TheVariants as unary
use Rattle.js_trees.specs.Tree.{Tree, kid}
use Rattle.js_trees.specs.declared.declaration.Declaration.{Declaration}
use Rattle.charged_heap.specs.Ends.{Ends}
use Rattle.charged_heap.specs.Store.{Store}
use Rattle.charged_heap.specs.declared.fault.Fail.{Fail}
use Rattle.charged_heap.specs.declared.fault.Fail.TheVariants as fail
use Rattle.js_ops.specs.Values.{truthy}
use Rattle.ivm_text.specs.declared.copies.ErrorKind.TheVariants.{RangeError}
use Rattle.std.specs.Prelude.{codes}
use Rattle.js_scopes.specs.Lists.{block_scope, call_scope, catch_scope, name_scope}
use Rattle.js_scopes.specs.Names.{name_outcome}
use Rattle.js_scopes.specs.Scopes.{initialised}
use Rattle.js_scopes.specs.Scripts.{script_declared}
use Rattle.js_trees.specs.Declarations.{declarations}
use Rattle.script_meaning.specs.Evaluates.{NESTING, call_run, script_run, callee_by, evaluated, node_by, operation, statement_by, target_by, too_deep, value_by}
use Rattle.script_meaning.specs.Expressions.{arguments_rule, array_rule, assign_rule, binary_rule, called_rule, closure_made, comma_rule, computed_for, condition_rule, elements_rule, function_by, function_rule, goes_right, index_rule, item_number, logical_rule, member_for, member_rule, object_rule, properties_rule, step_rule, typeof_by, typeof_rule, unary_rule, update_rule, void_rule}
use Rattle.script_meaning.specs.Functions.{body_declares, body_rule, builtin_outcome, builtin_rule, call_rule, enter_rule, is_body, item_call, no_function, returned, this_of}
use Rattle.script_meaning.specs.Handlers.{at_last, caught, finalized_by, handled_by, handler_by, kept, throw_rule, try_rule}
use Rattle.script_meaning.specs.Loops.{Loop, after_body, first_round, for_by, for_loop, for_rule, headed, loop_end, loop_rule, round_site, rounds, started, tested, to_next, turn, updated, while_rule}
use Rattle.script_meaning.specs.Limits.{StaysWithin, TellsFail, EndsWithin, Follows, TellsAbrupt, TellsEnd, RunsWithin}
use Rattle.script_meaning.specs.Outcome.{State, Out, Inside, abrupt_of, gives, of_heap, on_heap, ticked, with_callee, with_end, with_place, with_tick, with_value}
use Rattle.script_meaning.specs.Places.{ScriptList, form_at, name_of, place_read, place_type, place_written, wrong_kind}
use Rattle.script_meaning.specs.Statements.{after_statement, block_by, block_rule, declarator, declare_rule, else_by, filled, if_rule, list_rule, return_by, return_rule}
use Rattle.script_meaning.specs.Ticks.{TakesTicks}
use Rattle.script_meaning.specs.declared.completion.Abrupt.{Abrupt}
use Rattle.script_meaning.specs.declared.completion.Abrupt.TheVariants as abrupt
use Rattle.script_meaning.specs.declared.completion.Ended.{Ended}
use Rattle.script_meaning.specs.declared.completion.Ended.TheVariants as ended
use Rattle.script_meaning.specs.declared.completion.StopCause.TheVariants.{Timeout}
use Rattle.script_meaning.specs.declared.site.Key.{Key}
use Rattle.script_meaning.specs.declared.site.Place.{Place}
use Rattle.script_meaning.specs.declared.site.Role.{Role}
use Rattle.script_meaning.specs.declared.site.Role.TheVariants as role
use Rattle.script_meaning.specs.declared.site.Site.{Site}
use Rattle.script_meaning.proofs.OutcomeLimits.{o-binary, o-block, o-builtin, o-call, o-catch, o-closure, o-name, o-name-scope, o-no-function, o-place-read, o-place-type, o-place-written, o-pushed, o-read, o-round, o-script, o-thrown, o-unary, o-value, o-write, o-wrong, s-initialised}
use Rattle.script_meaning.proofs.StoreLimits.{stays, stays-then}

-- a node that began in this state stays within its limits
Keeps : State → Out → Type 0
Keeps b o = RunsWithin b o

-- each node inside takes a tick and stays within its limits
pub record IsLawful (at : Inside) : Type 0 where
  pub takes : TakesTicks at
  pub within : (for : Role) (t : Tree) (site : Site) (s : State) → RunsWithin s (at for t site s)

-- ---- one state after another

pub f-same : (s : State) → Follows s s
f-same s = record { heap = stays s.heap; left = omega arith }

pub f-then : (a b c : State) → Follows a b → Follows b c → Follows a c
f-then a b c one more = record { heap = stays-then a.heap b.heap c.heap one.heap more.heap; left = omega (arith, one.left, more.left) }

-- with another heap
f-heap : (b s : State) (heap : Store) → Follows b s → StaysWithin s.heap heap → Follows b (record s { heap = heap })
f-heap b s heap few change = record { heap = stays-then b.heap s.heap heap few.heap change; left = few.left }

-- what a node leaves that began later
pub later : (b s : State) (o : Out) → Follows b s → RunsWithin s o → RunsWithin b o
later b s (end, after) first one = (f-then b s after first one.0, one.1)

pub ticks_left : (b : State) (o : Out) → RunsWithin b o → o.1.left ≤ b.left
ticks_left b (end, after) one = one.0.left

m-done : (b : State) (end : Ended) (s : State) → Follows b s → Keeps b (Ok end, s)
unfolding Keeps
m-done b end s few = (few, tt)

-- ---- going on

-- where the value began in a state, and the rest sees what it left of that
m-value-from : (b s : State) (o : Out) (go : Value → State → Out) → Follows b s → RunsWithin s o
    → ((v : Value) (after : State) → Follows s after → Keeps b (go v after)) → Keeps b (with_value o go)
unfolding Keeps
m-value-from b s (Ok (ended.Value v), after) go few one on = on v after one.0
m-value-from b s (Ok ended.Empty, after) go few one on = (f-then b s after few one.0, tt)
m-value-from b s (Ok (ended.Place p), after) go few one on = (f-then b s after few one.0, tt)
m-value-from b s (Ok (ended.Member f r), after) go few one on = (f-then b s after few one.0, tt)
m-value-from b s (Err e, after) go few one on = (f-then b s after few one.0, one.1)

m-value : (b : State) (o : Out) (go : Value → State → Out) → Keeps b o → ((v : Value) (s : State) → Follows b s → Keeps b (go v s)) → Keeps b (with_value o go)
unfolding Keeps
m-value b (Ok (ended.Value v), s) go few on = on v s few.0
m-value b (Ok ended.Empty, s) go few on = few
m-value b (Ok (ended.Place p), s) go few on = few
m-value b (Ok (ended.Member f r), s) go few on = few
m-value b (Err e, s) go few on = few

m-place : (b : State) (o : Out) (go : Place → State → Out) → Keeps b o → ((p : Place) (s : State) → Follows b s → Keeps b (go p s)) → Keeps b (with_place o go)
unfolding Keeps
m-place b (Ok (ended.Place p), s) go few on = on p s few.0
m-place b (Ok ended.Empty, s) go few on = few
m-place b (Ok (ended.Value v), s) go few on = few
m-place b (Ok (ended.Member f r), s) go few on = few
m-place b (Err e, s) go few on = few

m-callee : (b : State) (o : Out) (go : Value → Value → State → Out) → Keeps b o → ((f r : Value) (s : State) → Follows b s → Keeps b (go f r s)) → Keeps b (with_callee o go)
unfolding Keeps
m-callee b (Ok (ended.Member f r), s) go few on = on f r s few.0
m-callee b (Ok (ended.Value v), s) go few on = on v value.Undefined s few.0
m-callee b (Ok ended.Empty, s) go few on = few
m-callee b (Ok (ended.Place p), s) go few on = few
m-callee b (Err e, s) go few on = few

m-end : (b : State) (o : Out) (go : State → Out) → Keeps b o → ((s : State) → Follows b s → Keeps b (go s)) → Keeps b (with_end o go)
unfolding Keeps
m-end b (Ok end, s) go few on = on s few.0
m-end b (Err e, s) go few on = few

-- what a call over the heap refuses is told as the stop
told_abrupt : (s : State) (failed : Fail) → TellsFail s.heap failed → TellsAbrupt s (abrupt_of failed)
told_abrupt s (fail.Throw v) told = tt
told_abrupt s (fail.Over told) tells = tells
told_abrupt s fail.NoMemory told = tt

m-heap-from : {A : Type 0} → (b s : State) (made : Ends A) (go : A → State → Out) → Follows b s → EndsWithin s.heap made
    → ((a : A) (heap : Store) → Follows b (record s { heap = heap }) → Keeps b (go a (record s { heap = heap }))) → Keeps b (on_heap s made go)
unfolding Keeps
m-heap-from b s (Ok a, heap) go few within on = on a heap (f-heap b s heap few within.0)
m-heap-from b s (Err failed, heap) go few within on = (f-heap b s heap few within.0, told_abrupt (record s { heap = heap }) failed within.1)

m-heap : {A : Type 0} → (b s : State) (made : Ends A) (go : A → State → Out) → Follows b s → EndsWithin s.heap made
    → ((a : A) (s : State) → Follows b s → Keeps b (go a s)) → Keeps b (on_heap s made go)
m-heap b s made go few within on = m-heap-from b s made go few within (λ a heap few. on a (record s { heap = heap }) few)

m-of : (b s : State) (made : Ends Value) → Follows b s → EndsWithin s.heap made → Keeps b (of_heap s made)
m-of b s made few within = m-heap b s made gives few within (λ v s few. m-done b (ended.Value v) s few)

m-if : (b : State) (is : Bool) (x y : Out) → Keeps b x → Keeps b y → Keeps b (if is then x else y)
m-if b true x y few few' = few
m-if b false x y few few' = few'

m-at : (b : State) (at : Inside) (for : Role) (t : Tree) (site : Site) (s : State) → IsLawful at → Follows b s → Keeps b (at for t site s)
unfolding Keeps
m-at b at for t site s lawful few = later b s (at for t site s) few (lawful.within for t site s)

-- a tick is taken, or none is left
m-ticked : (b : State) (left : ℕ) (s : State) (go : State → Out) → s.left ≡ left → Follows b s → ((s : State) → Follows b s → Keeps b (go s)) → Keeps b (ticked left s go)
unfolding Keeps
m-ticked b zero s go is few on = (few, is)
m-ticked b (suc left) s go is few on = on (record s { left = left }) (record { heap = few.heap; left = omega (arith, is, few.left) })

-- ---- calls

m-returned : (b : State) (o : Out) → Keeps b o → Keeps b (returned o)
unfolding Keeps
m-returned b (Ok end, s) few = (few.0, tt)
m-returned b (Err (abrupt.Return v), s) few = (few.0, tt)
m-returned b (Err (abrupt.Throw v), s) few = few
m-returned b (Err (abrupt.Break v), s) few = few
m-returned b (Err (abrupt.Continue v), s) few = few
m-returned b (Err (abrupt.Stop cause), s) few = few
m-returned b (Err abrupt.NoMemory, s) few = few

m-body : (b : State) (is : Bool) (at : Inside) (body : Tree) (site : Site) (s : State) → IsLawful at → Follows b s → Keeps b (body_rule is at body site s)
m-body b true at body site s takes few = m-returned b (at role.Statement body site s) (m-at b at role.Statement body site s takes few)
m-body b false at body site s takes few = m-at b at role.Value body site s takes few

m-enter : (b : State) (at : Inside) (f : Tree) (site : Site) (arguments : List Value) (s : State) → IsLawful at → Follows b s → Keeps b (enter_rule at f site arguments s)
unfolding enter_rule
m-enter b at f site arguments s takes few =
    m-heap {A = ℕ} b s (call_scope site.script site.global site.scope f.head.names (body_declares (kid 0 f.kids)) arguments s.heap) _ few
    (o-call site.script site.global site.scope f.head.names (body_declares (kid 0 f.kids)) arguments s.heap)
    (λ scope s few. m-body b (is_body (kid 0 f.kids).head.kind) at (kid 0 f.kids) (record site { scope = scope }) s takes few)

m-item : (b : State) (at : Inside) (scripts : ScriptList) (one : Item) (receiver : Value) (arguments : List Value) (s : State)
    → IsLawful at → Follows b s → Keeps b (item_call at scripts one receiver arguments s)
m-item b at scripts (item.Closure script node scope global kept) receiver arguments s takes few =
    m-enter b at (form_at scripts script node)
    (record { script = script; scope = scope; global = global; receiver = this_of (form_at scripts script node).head.kind kept receiver }) arguments s takes few
m-item b at scripts _ receiver arguments s takes few = m-of b s _ few (o-no-function s.heap)

m-builtin : (b : State) (which : Builtin) (receiver : Value) (arguments : List Value) (s : State) → Follows b s → Keeps b (builtin_rule which receiver arguments s)
unfolding builtin_rule
m-builtin b which receiver arguments s few =
    m-ticked b s.left s _ refl few (λ s few. m-of b s (builtin_outcome which receiver arguments s.heap) few (o-builtin which receiver arguments s.heap))

m-call : (b : State) (at : Inside) (scripts : ScriptList) (f receiver : Value) (arguments : List Value) (s : State)
    → IsLawful at → Follows b s → Keeps b (call_rule at scripts f receiver arguments s)
unfolding call_rule
m-call b at scripts (value.Builtin which) receiver arguments s takes few = m-builtin b which receiver arguments s few
m-call b at scripts (value.Item k) receiver arguments s takes few = m-item b at scripts _ receiver arguments s takes few
m-call b at scripts _ receiver arguments s takes few = m-of b s _ few (o-no-function s.heap)

m-arguments : (b : State) (at : Inside) (kids : Trees) (site : Site) (values : List Value) (go : List Value → State → Out) (s : State) → IsLawful at → Follows b s
    → ((values : List Value) (s : State) → Follows b s → Keeps b (go values s)) → Keeps b (arguments_rule at kids site values go s)
unfolding arguments_rule
m-arguments b at nothing site values go s takes few on = on values s few
m-arguments b at (tree head kids rest) site values go s takes few on =
    m-value b _ _ (m-at b at role.Value _ site s takes few) (λ v s few. m-arguments b at rest site (values ++ v ∷ []) go s takes few on)

m-called : (b : State) (scripts : ScriptList) (at : Inside) (kids : Trees) (site : Site) (s : State) → IsLawful at → Follows b s → Keeps b (called_rule scripts at kids site s)
unfolding called_rule
m-called b scripts at kids site s takes few =
    m-callee b _ _ (m-at b at role.Callee _ site s takes few)
    (λ f receiver s few. m-arguments b at _ site [] _ s takes few (λ values s few. m-call b at scripts f receiver values s takes few))

-- ---- expressions

m-comma : (b : State) (at : Inside) (kids : Trees) (site : Site) (s : State) → IsLawful at → Follows b s → Keeps b (comma_rule at kids site s)
unfolding comma_rule
m-comma b at kids site s takes few = m-value b _ _ (m-at b at role.Value _ site s takes few) (λ v s few. m-at b at role.Value _ site s takes few)

m-binary : (b : State) (op : BinaryOperator) (at : Inside) (kids : Trees) (site : Site) (s : State) → IsLawful at → Follows b s → Keeps b (binary_rule op at kids site s)
unfolding binary_rule
m-binary b op at kids site s takes few =
    m-value b _ _ (m-at b at role.Value _ site s takes few) (λ left s few.
    m-value b _ _ (m-at b at role.Value _ site s takes few) (λ right s few. m-of b s (binary_outcome op left right s.heap) few (o-binary op left right s.heap)))

m-unary : (b : State) (op : UnaryOperator) (at : Inside) (kids : Trees) (site : Site) (s : State) → IsLawful at → Follows b s → Keeps b (unary_rule op at kids site s)
unfolding unary_rule
m-unary b op at kids site s takes few =
    m-value b _ _ (m-at b at role.Value _ site s takes few) (λ v s few. m-of b s (unary_outcome op v s.heap) few (o-unary op v s.heap))

m-typeof-by : (b : State) (kind : Kind) (scripts : ScriptList) (at : Inside) (kids : Trees) (site : Site) (s : State) → IsLawful at → Follows b s → Keeps b (typeof_by kind scripts at kids site s)
m-typeof-by b kinds.Name scripts at kids site s takes few = m-place b _ _ (m-at b at role.Target _ site s takes few) (λ p s few.
    m-of b s (place_type scripts site p s.heap) few (o-place-type scripts site p s.heap))
m-typeof-by b _ scripts at kids site s takes few = m-unary b _ at kids site s takes few

m-typeof : (b : State) (scripts : ScriptList) (at : Inside) (kids : Trees) (site : Site) (s : State) → IsLawful at → Follows b s → Keeps b (typeof_rule scripts at kids site s)
unfolding typeof_rule
m-typeof b scripts at kids site s takes few = m-typeof-by b _ scripts at kids site s takes few

m-void : (b : State) (at : Inside) (kids : Trees) (site : Site) (s : State) → IsLawful at → Follows b s → Keeps b (void_rule at kids site s)
unfolding void_rule Keeps
m-void b at kids site s takes few = m-value b _ _ (m-at b at role.Value _ site s takes few) (λ v s few. (few, tt))

m-condition : (b : State) (at : Inside) (kids : Trees) (site : Site) (s : State) → IsLawful at → Follows b s → Keeps b (condition_rule at kids site s)
unfolding condition_rule
m-condition b at kids site s takes few =
    m-value b _ _ (m-at b at role.Value _ site s takes few) (λ v s few.
    m-if b _ _ _ (m-at b at role.Value _ site s takes few) (m-at b at role.Value _ site s takes few))

m-logical : (b : State) (op : Kind) (at : Inside) (kids : Trees) (site : Site) (s : State) → IsLawful at → Follows b s → Keeps b (logical_rule op at kids site s)
unfolding logical_rule
m-logical b op at kids site s takes few =
    m-value b _ _ (m-at b at role.Value _ site s takes few) (λ v s few.
    m-if b (goes_right op s.heap v) (at role.Value (kid 1 kids) site s) (gives v s) (m-at b at role.Value (kid 1 kids) site s takes few) (m-done b _ s few))

m-assign : (b : State) (scripts : ScriptList) (at : Inside) (kids : Trees) (site : Site) (s : State) → IsLawful at → Follows b s → Keeps b (assign_rule scripts at kids site s)
unfolding assign_rule
m-assign b scripts at kids site s takes few =
    m-place b _ _ (m-at b at role.Target _ site s takes few) (λ p s few.
    m-value b _ _ (m-at b at role.Value _ site s takes few) (λ v s few. m-of b s (place_written scripts site p v s.heap) few (o-place-written scripts site p v s.heap)))

m-update : (b : State) (op : BinaryOperator) (scripts : ScriptList) (at : Inside) (kids : Trees) (site : Site) (s : State) → IsLawful at → Follows b s → Keeps b (update_rule op scripts at kids site s)
unfolding update_rule
m-update b op scripts at kids site s takes few =
    m-place b _ _ (m-at b at role.Target _ site s takes few) (λ p s few.
    m-value b _ _ (m-of b s (place_read scripts site p s.heap) few (o-place-read scripts site p s.heap)) (λ old s few.
    m-value b _ _ (m-at b at role.Value (kid 1 kids) site s takes few) (λ v s few.
    m-value b _ _ (m-of b s (binary_outcome op old v s.heap) few (o-binary op old v s.heap)) (λ new s few. m-of b s (place_written scripts site p new s.heap) few (o-place-written scripts site p new s.heap)))))

m-step : (b : State) (op : UnaryOperator) (before : Bool) (scripts : ScriptList) (at : Inside) (kids : Trees) (site : Site) (s : State) → IsLawful at → Follows b s
    → Keeps b (step_rule op before scripts at kids site s)
unfolding step_rule
m-step b op before scripts at kids site s takes few =
    m-place b _ _ (m-at b at role.Target _ site s takes few) (λ p s few.
    m-value b _ _ (m-of b s (place_read scripts site p s.heap) few (o-place-read scripts site p s.heap)) (λ old s few.
    m-value b _ _ (m-of b s (unary_outcome op old s.heap) few (o-unary op old s.heap)) (λ new s few.
    m-value b _ _ (m-of b s (place_written scripts site p new s.heap) few (o-place-written scripts site p new s.heap)) (λ v s few. m-done b _ s few))))

m-member-for : (b : State) (for : Role) (base : Value) (k : Key) (s : State) (read : Ends Value) → Follows b s → EndsWithin s.heap read → Keeps b (member_for for base k s read)
unfolding Keeps
m-member-for b role.Target base k s read few within = (few, tt)
m-member-for b role.Callee base k s read few within = m-heap b s read _ few within (λ v s few. (few, tt))
m-member-for b role.Value base k s read few within = m-of b s read few within
m-member-for b role.Statement base k s read few within = m-of b s read few within

m-member : (b : State) (for : Role) (at : Inside) (t : Tree) (site : Site) (s : State) → IsLawful at → Follows b s → Keeps b (member_rule for at t site s)
unfolding member_rule
m-member b for at t site s takes few = m-value b _ _ (m-at b at role.Value _ site s takes few) (λ v s few.
    m-member-for b for v _ s (read_outcome v (name_of t) s.heap) few (o-read v (name_of t) s.heap))

m-computed : (b : State) (for : Role) (base k : Value) (s : State) (units : Option (List ℕ)) → Follows b s → Keeps b (computed_for for base k s units)
m-computed b for base k s None few = m-of b s (wrong_kind s.heap) few (o-wrong s.heap)
m-computed b for base k s (Some units) few = m-member-for b for base _ s (read_outcome base units s.heap) few (o-read base units s.heap)

m-index : (b : State) (for : Role) (at : Inside) (kids : Trees) (site : Site) (s : State) → IsLawful at → Follows b s → Keeps b (index_rule for at kids site s)
unfolding index_rule
m-index b for at kids site s takes few =
    m-value b _ _ (m-at b at role.Value _ site s takes few) (λ base s few.
    m-value b _ _ (m-at b at role.Value _ site s takes few) (λ k s few. m-computed b for base k s _ few))

m-elements : (b : State) (at : Inside) (array : ℕ) (kids : Trees) (site : Site) (s : State) → IsLawful at → Follows b s → Keeps b (elements_rule at array kids site s)
unfolding elements_rule
m-elements b at array nothing site s takes few = m-done b _ s few
m-elements b at array (tree head kids rest) site s takes few =
    m-value b _ _ (m-at b at role.Value _ site s takes few) (λ v s few.
    m-value b _ _ (m-of b s (pushed array (v ∷ []) s.heap) few (o-pushed array (v ∷ []) s.heap)) (λ _ s few. m-elements b at array rest site s takes few))

m-array : (b : State) (at : Inside) (kids : Trees) (site : Site) (s : State) → IsLawful at → Follows b s → Keeps b (array_rule at kids site s)
unfolding array_rule
m-array b at kids site s takes few =
    m-value b _ _ (m-of b s (value_made (item.Array []) s.heap) few (o-value (item.Array []) s.heap))
    (λ array s few. m-elements b at (item_number array) kids site s takes few)

m-properties : (b : State) (at : Inside) (object : ℕ) (names : List (List ℕ)) (kids : Trees) (site : Site) (s : State) → IsLawful at → Follows b s
    → Keeps b (properties_rule at object names kids site s)
unfolding properties_rule
m-properties b at object names nothing site s takes few = m-done b _ s few
m-properties b at object [] (tree head kids rest) site s takes few = m-done b _ s few
m-properties b at object (name ∷ names) (tree head kids rest) site s takes few =
    m-value b _ _ (m-at b at role.Value _ site s takes few) (λ v s few.
    m-value b _ _ (m-of b s (write_outcome (value.Item object) name v s.heap) few (o-write (value.Item object) name v s.heap)) (λ _ s few. m-properties b at object names rest site s takes few))

m-object : (b : State) (at : Inside) (t : Tree) (site : Site) (s : State) → IsLawful at → Follows b s → Keeps b (object_rule at t site s)
unfolding object_rule
m-object b at t site s takes few =
    m-value b _ _ (m-of b s (value_made (item.Plain []) s.heap) few (o-value (item.Plain []) s.heap))
    (λ object s few. m-properties b at (item_number object) t.head.names t.kids site s takes few)

m-function-by : (b : State) (name : Option (List ℕ)) (node : ℕ) (site : Site) (s : State) → Follows b s → Keeps b (function_by name node site s)
m-function-by b None node site s few = m-of b s (closure_made node site value.Undefined s.heap) few (o-closure node site value.Undefined s.heap)
m-function-by b (Some name) node site s few =
    m-heap {A = ℕ} b s (name_scope site.scope name s.heap) _ few (o-name-scope site.scope name s.heap) (λ scope s few.
    m-value b _ _ (m-of b s (closure_made node (record site { scope = scope }) value.Undefined s.heap) few (o-closure node (record site { scope = scope }) value.Undefined s.heap))
    (λ f s few. m-done b (ended.Value f) (record s { heap = initialised s.heap scope name f }) (f-heap b s (initialised s.heap scope name f) few (s-initialised s.heap scope name f))))

m-function : (b : State) (t : Tree) (site : Site) (s : State) → Follows b s → Keeps b (function_rule t site s)
unfolding function_rule
m-function b t site s few = m-function-by b _ _ site s few

-- ---- statements

m-after : (b : State) (last : Option Value) (o : Out) (go : Option Value → State → Out) → Keeps b o
    → ((last : Option Value) (s : State) → Follows b s → Keeps b (go last s)) → Keeps b (after_statement last o go)
unfolding Keeps
m-after b last (Ok end, s) go few on = on _ s few.0
m-after b last (Err (abrupt.Break v), s) go few on = (few.0, tt)
m-after b last (Err (abrupt.Continue v), s) go few on = (few.0, tt)
m-after b last (Err (abrupt.Throw v), s) go few on = few
m-after b last (Err (abrupt.Return v), s) go few on = few
m-after b last (Err (abrupt.Stop cause), s) go few on = few
m-after b last (Err abrupt.NoMemory, s) go few on = few

m-list : (b : State) (at : Inside) (kids : Trees) (site : Site) (last : Option Value) (s : State) → IsLawful at → Follows b s → Keeps b (list_rule at kids site last s)
unfolding list_rule Keeps
m-list b at nothing site last s takes few = (few, tt)
m-list b at (tree head kids rest) site last s takes few =
    m-after b last _ _ (m-at b at role.Statement _ site s takes few) (λ last s few. m-list b at rest site last s takes few)

m-block-by : (b : State) (declared : List Declaration) (at : Inside) (kids : Trees) (site : Site) (s : State) → IsLawful at → Follows b s → Keeps b (block_by declared at kids site s)
m-block-by b [] at kids site s takes few = m-list b at kids site None s takes few
m-block-by b (first ∷ more) at kids site s takes few =
    m-heap {A = ℕ} b s (block_scope site.script site.global site.scope (first ∷ more) s.heap) _ few
    (o-block site.script site.global site.scope (first ∷ more) s.heap) (λ scope s few. m-list b at kids (record site { scope = scope }) None s takes few)

m-block : (b : State) (at : Inside) (kids : Trees) (site : Site) (s : State) → IsLawful at → Follows b s → Keeps b (block_rule at kids site s)
unfolding block_rule
m-block b at kids site s takes few = m-block-by b _ at kids site s takes few

m-declarator : (b : State) (kind : Kind) (o : Out) (name : List ℕ) (site : Site) (s : State) (go : State → Out) → Keeps b o → Follows b s
    → ((s : State) → Follows b s → Keeps b (go s)) → Keeps b (declarator kind o name site s go)
m-declarator b kinds.Absent o name site s go few fewer on =
    on (record s { heap = initialised s.heap site.scope name value.Undefined })
    (f-heap b s (initialised s.heap site.scope name value.Undefined) fewer (s-initialised s.heap site.scope name value.Undefined))
m-declarator b _ o name site s go few fewer on =
    m-value b o _ few (λ v s few. on (record s { heap = initialised s.heap site.scope name v })
    (f-heap b s (initialised s.heap site.scope name v) few (s-initialised s.heap site.scope name v)))

m-declare : (b : State) (at : Inside) (names : List (List ℕ)) (kids : Trees) (site : Site) (s : State) → IsLawful at → Follows b s → Keeps b (declare_rule at names kids site s)
unfolding declare_rule Keeps
m-declare b at [] kids site s takes few = (few, tt)
m-declare b at (name ∷ names) nothing site s takes few = (few, tt)
m-declare b at (name ∷ names) (tree head kids rest) site s takes few =
    m-declarator b head.kind _ name site s _ (m-at b at role.Value _ site s takes few) few (λ s few. m-declare b at names rest site s takes few)

m-filled : (b : State) (o : Out) → Keeps b o → Keeps b (filled o)
unfolding Keeps
m-filled b (Ok end, s) few = (few.0, tt)
m-filled b (Err (abrupt.Break v), s) few = (few.0, tt)
m-filled b (Err (abrupt.Continue v), s) few = (few.0, tt)
m-filled b (Err (abrupt.Throw v), s) few = few
m-filled b (Err (abrupt.Return v), s) few = few
m-filled b (Err (abrupt.Stop cause), s) few = few
m-filled b (Err abrupt.NoMemory, s) few = few

m-else : (b : State) (kind : Kind) (o : Out) (s : State) → Keeps b o → Follows b s → Keeps b (else_by kind o s)
unfolding Keeps
m-else b kinds.Absent o s few fewer = (fewer, tt)
m-else b _ o s few fewer = few

m-choice : (b : State) (at : Inside) (kids : Trees) (site : Site) (s : State) → IsLawful at → Follows b s → Keeps b (if_rule at kids site s)
unfolding if_rule
m-choice b at kids site s takes few =
    m-value b _ _ (m-at b at role.Value _ site s takes few) (λ v s few.
    m-filled b _ (m-if b _ _ _ (m-at b at role.Statement _ site s takes few) (m-else b _ _ s (m-at b at role.Statement _ site s takes few) few)))

m-return-by : (b : State) (kind : Kind) (o : Out) (s : State) → Keeps b o → Follows b s → Keeps b (return_by kind o s)
unfolding Keeps
m-return-by b kinds.Absent o s few fewer = (fewer, tt)
m-return-by b _ o s few fewer = m-value b o _ few (λ v s few. (few, tt))

m-return : (b : State) (at : Inside) (kids : Trees) (site : Site) (s : State) → IsLawful at → Follows b s → Keeps b (return_rule at kids site s)
unfolding return_rule
m-return b at kids site s takes few = m-return-by b _ _ s (m-at b at role.Value _ site s takes few) few

-- ---- loops

m-updated : (b : State) (at : Inside) (update : Option Tree) (site : Site) (s : State) (go : State → Out) → IsLawful at → Follows b s
    → ((after : State) → Follows b after → after.left ≤ s.left → Keeps b (go after)) → Keeps b (updated at update site s go)
m-updated b at None site s go takes few on = on s few (omega arith)
m-updated b at (Some update) site s go takes few on =
    m-value-from b s (at role.Value update site s) (λ _ s. go s) few (takes.within role.Value update site s) (λ v after fewer. on after (f-then b s after few fewer) fewer.left)

m-next : (b : State) (at : Inside) (loop : Loop) (site : Site) (s : State) (go : Site → State → Out) → IsLawful at → Follows b s
    → ((site : Site) (after : State) → Follows b after → after.left ≤ s.left → Keeps b (go site after)) → Keeps b (to_next at loop site s go)
m-next b at loop site s go takes few on =
    m-heap-from b s (round_site loop.fresh site s.heap) (λ site s. updated at loop.update site s (λ s. go site s)) few (o-round loop.fresh site s.heap) (λ site heap fewer.
    m-updated b at loop.update site (record s { heap = heap }) (λ s. go site s) takes fewer (λ after few less. on site after few less))

-- the body takes a tick, or none is left and the run stops there
m-turn-by : (b : State) (at : Inside) (loop : Loop) (last : Option Value) (site : Site) (s : State) (go : Option Value → Site → State → Out) (o : Out)
    → IsLawful at → Keeps b o → (o.1.left < s.left) ⊎ (o ≡ (Err (abrupt.Stop Timeout), s))
    → ((last : Option Value) (site : Site) (after : State) → Follows b after → after.left < s.left → Keeps b (go last site after))
    → Keeps b (after_body last o (λ last s. to_next at loop site s (λ site s. go last site s)))
unfolding Keeps
m-turn-by b at loop last site s go (Ok end, t) takes few (inl less) on =
    m-next b at loop site t (λ site s. go _ site s) takes few.0 (λ site after few most. on _ site after few (omega (arith, less, most)))
m-turn-by b at loop last site s go (Err (abrupt.Continue v), t) takes few (inl less) on =
    m-next b at loop site t (λ site s. go _ site s) takes few.0 (λ site after few most. on _ site after few (omega (arith, less, most)))
m-turn-by b at loop last site s go (Err (abrupt.Break v), t) takes few (inl less) on = (few.0, tt)
m-turn-by b at loop last site s go (Err (abrupt.Throw v), t) takes few (inl less) on = few
m-turn-by b at loop last site s go (Err (abrupt.Return v), t) takes few (inl less) on = few
m-turn-by b at loop last site s go (Err (abrupt.Stop cause), t) takes few (inl less) on = few
m-turn-by b at loop last site s go (Err abrupt.NoMemory, t) takes few (inl less) on = few
m-turn-by b at loop last site s go o takes few (inr stops) on = subst (λ (o : Out). Keeps b (after_body last o (λ last s. to_next at loop site s (λ site s. go last site s)))) (sym stops) (subst (Keeps b) stops few)

m-turn : (b : State) (at : Inside) (loop : Loop) (last : Option Value) (site : Site) (s : State) (go : Option Value → Site → State → Out) → IsLawful at → Follows b s
    → ((last : Option Value) (site : Site) (after : State) → Follows b after → after.left < s.left → Keeps b (go last site after)) → Keeps b (turn at loop last site s go)
m-turn b at loop last site s go takes few on =
    m-turn-by b at loop last site s go (at role.Statement loop.body site s) takes (m-at b at role.Statement loop.body site s takes few)
    (takes.takes.takes role.Statement loop.body site s) on

m-tested : (b : State) (at : Inside) (test : Option Tree) (site : Site) (s : State) (good bad : State → Out) → IsLawful at → Follows b s
    → ((after : State) → Follows b after → after.left ≤ s.left → Keeps b (good after)) → ((after : State) → Follows b after → Keeps b (bad after)) → Keeps b (tested at test site s good bad)
m-tested b at None site s good bad takes few on off = on s few (omega arith)
m-tested b at (Some test) site s good bad takes few on off =
    m-value-from b s (at role.Value test site s) (λ v s. if truthy s.heap v then good s else bad s) few (takes.within role.Value test site s) (λ v after fewer.
    m-if b _ _ _ (on after (f-then b s after few fewer) fewer.left) (off after (f-then b s after few fewer)))

-- a round takes a tick at least, so that the rounds never end before the ticks
m-rounds : (b : State) (most : ℕ) (at : Inside) (loop : Loop) (last : Option Value) (site : Site) (s : State) → IsLawful at → s.left < most → Follows b s → Keeps b (rounds most at loop last site s)
unfolding rounds Keeps
m-rounds b zero at loop last site s takes less few = absurd (omega (arith, less))
m-rounds b (suc most) at loop last site s takes less few =
    m-tested b at loop.test site s (λ s. turn at loop last site s (λ last site s. rounds most at loop last site s)) (λ s. loop_end last s) takes few
    (λ now few fewer. m-turn b at loop last site now (λ last site s. rounds most at loop last site s) takes few
    (λ last site after few lower. m-rounds b most at loop last site after takes (omega (arith, less, fewer, lower)) few))
    (λ s few. (few, tt))

m-loop : (b : State) (at : Inside) (loop : Loop) (last : Option Value) (site : Site) (s : State) → IsLawful at → Follows b s → Keeps b (loop_rule at loop last site s)
unfolding loop_rule
m-loop b at loop last site s takes few = m-rounds b (suc s.left) at loop last site s takes (omega arith) few

m-while : (b : State) (at : Inside) (kids : Trees) (site : Site) (s : State) → IsLawful at → Follows b s → Keeps b (while_rule at kids site s)
unfolding while_rule
m-while b at kids site s takes few = m-loop b at _ None site s takes few

m-started : (b : State) (kind : Kind) (at : Inside) (head : Tree) (site : Site) (s : State) (go : State → Out) → IsLawful at → Follows b s
    → ((s : State) → Follows b s → Keeps b (go s)) → Keeps b (started kind at head site s go)
m-started b kinds.Absent at head site s go takes few on = on s few
m-started b _ at head site s go takes few on = m-end b _ go (m-at b at _ head site s takes few) on

m-headed : (b : State) (at : Inside) (kids : Trees) (site : Site) (s : State) → IsLawful at → Follows b s → Keeps b (headed at kids site s)
m-headed b at kids site s takes few =
    m-started b (kid 0 kids).head.kind at (kid 0 kids) site s (λ s. first_round at (for_loop kids) site s) takes few
    (λ s few. m-heap b s (round_site (for_loop kids).fresh site s.heap) _ few (o-round (for_loop kids).fresh site s.heap) (λ site s few. m-loop b at (for_loop kids) None site s takes few))

m-for-by : (b : State) (declared : List Declaration) (at : Inside) (kids : Trees) (site : Site) (s : State) → IsLawful at → Follows b s → Keeps b (for_by declared at kids site s)
m-for-by b [] at kids site s takes few = m-headed b at kids site s takes few
m-for-by b (first ∷ more) at kids site s takes few =
    m-heap {A = ℕ} b s (block_scope site.script site.global site.scope (first ∷ more) s.heap) _ few
    (o-block site.script site.global site.scope (first ∷ more) s.heap) (λ scope s few. m-headed b at kids (record site { scope = scope }) s takes few)

m-for : (b : State) (at : Inside) (kids : Trees) (site : Site) (s : State) → IsLawful at → Follows b s → Keeps b (for_rule at kids site s)
unfolding for_rule
m-for b at kids site s takes few = m-for-by b _ at kids site s takes few

-- ---- handlers

m-throw : (b : State) (at : Inside) (kids : Trees) (site : Site) (s : State) → IsLawful at → Follows b s → Keeps b (throw_rule at kids site s)
unfolding throw_rule Keeps
m-throw b at kids site s takes few = m-value b _ _ (m-at b at role.Value _ site s takes few) (λ v s few. (few, tt))

m-handler : (b : State) (name : Option (List ℕ)) (at : Inside) (handler : Tree) (site : Site) (v : Value) (s : State) → IsLawful at → Follows b s
    → Keeps b (handler_by name at handler site v s)
m-handler b None at handler site v s takes few = m-at b at role.Statement handler site s takes few
m-handler b (Some name) at handler site v s takes few =
    m-heap {A = ℕ} b s (catch_scope site.scope name v s.heap) _ few (o-catch site.scope name v s.heap) (λ scope s few. m-at b at role.Statement handler _ s takes few)

m-caught : (b : State) (o : Out) (handle : Value → State → Out) → Keeps b o → ((v : Value) (s : State) → Follows b s → Keeps b (handle v s)) → Keeps b (caught o handle)
unfolding Keeps
m-caught b (Err (abrupt.Throw v), s) handle few on = on v s few.0
m-caught b (Err (abrupt.Return v), s) handle few on = few
m-caught b (Err (abrupt.Break v), s) handle few on = few
m-caught b (Err (abrupt.Continue v), s) handle few on = few
m-caught b (Err (abrupt.Stop cause), s) handle few on = few
m-caught b (Err abrupt.NoMemory, s) handle few on = few
m-caught b (Ok end, s) handle few on = few

m-handled-by : (b : State) (kind : Kind) (at : Inside) (name : Option (List ℕ)) (handler : Tree) (site : Site) (o : Out) → IsLawful at → Keeps b o
    → Keeps b (handled_by kind at name handler site o)
m-handled-by b kinds.Absent at name handler site o takes few = few
m-handled-by b _ at name handler site o takes few = m-caught b o _ few (λ v s few. m-handler b name at handler site v s takes few)

m-kept : (b : State) (before : Result Ended Abrupt) (o : Out) → ((s : State) → TellsEnd s before) → Keeps b o → Keeps b (kept before o)
unfolding Keeps
m-kept b before (Ok end, s) told few = (few.0, told s)
m-kept b before (Err e, s) told few = few

m-last : (b : State) (o : Out) (finish : State → Out) → Keeps b o → ((s : State) → Follows b s → Keeps b (finish s)) → Keeps b (at_last o finish)
unfolding Keeps
m-last b (Ok end, s) finish few on = m-kept b _ (finish s) (λ s. tt) (on s few.0)
m-last b (Err (abrupt.Throw v), s) finish few on = m-kept b _ (finish s) (λ s. tt) (on s few.0)
m-last b (Err (abrupt.Return v), s) finish few on = m-kept b _ (finish s) (λ s. tt) (on s few.0)
m-last b (Err (abrupt.Break v), s) finish few on = m-kept b _ (finish s) (λ s. tt) (on s few.0)
m-last b (Err (abrupt.Continue v), s) finish few on = m-kept b _ (finish s) (λ s. tt) (on s few.0)
m-last b (Err (abrupt.Stop cause), s) finish few on = few
m-last b (Err abrupt.NoMemory, s) finish few on = few

m-finalized-by : (b : State) (kind : Kind) (at : Inside) (finalizer : Tree) (site : Site) (o : Out) → IsLawful at → Keeps b o → Keeps b (finalized_by kind at finalizer site o)
m-finalized-by b kinds.Absent at finalizer site o takes few = few
m-finalized-by b _ at finalizer site o takes few = m-last b o _ few (λ s few. m-at b at role.Statement finalizer site s takes few)

m-try : (b : State) (at : Inside) (t : Tree) (site : Site) (s : State) → IsLawful at → Follows b s → Keeps b (try_rule at t site s)
unfolding try_rule
m-try b at t site s takes few =
    m-filled b _ (m-finalized-by b (kid 2 t.kids).head.kind at (kid 2 t.kids) site _ takes
    (m-handled-by b (kid 1 t.kids).head.kind at t.head.name (kid 1 t.kids) site _ takes (m-at b at role.Statement (kid 0 t.kids) site s takes few)))

-- ---- forms

m-operation : (b : State) (op : Option Operator) (scripts : ScriptList) (at : Inside) (kids : Trees) (site : Site) (s : State) → IsLawful at → Follows b s
    → Keeps b (operation op scripts at kids site s)
unfolding Keeps
m-operation b (Some (operator.Binary op)) scripts at kids site s takes few = m-binary b op at kids site s takes few
m-operation b (Some (operator.Unary unary.TypeOf)) scripts at kids site s takes few = m-typeof b scripts at kids site s takes few
m-operation b (Some (operator.Unary op)) scripts at kids site s takes few = m-unary b op at kids site s takes few
m-operation b (Some (operator.Update op)) scripts at kids site s takes few = m-update b op scripts at kids site s takes few
m-operation b (Some (operator.Step op before)) scripts at kids site s takes few = m-step b op before scripts at kids site s takes few
m-operation b None scripts at kids site s takes few = (few, tt)

m-by-value : (b : State) (kind : Kind) (scripts : ScriptList) (at : Inside) (t : Tree) (site : Site) (s : State) → IsLawful at → Follows b s
    → Keeps b (value_by kind scripts at t site s)
unfolding Keeps
m-by-value b kinds.Num scripts at t site s takes few = (few, tt)
m-by-value b kinds.Text scripts at t site s takes few = m-of b s (text_made (name_of t) s.heap) few (o-value (item.Text (name_of t)) s.heap)
m-by-value b kinds.Undefined scripts at t site s takes few = (few, tt)
m-by-value b kinds.Null scripts at t site s takes few = (few, tt)
m-by-value b kinds.True scripts at t site s takes few = (few, tt)
m-by-value b kinds.False scripts at t site s takes few = (few, tt)
m-by-value b kinds.This scripts at t site s takes few = (few, tt)
m-by-value b kinds.Name scripts at t site s takes few =
    m-of b s (name_outcome (name_of t) site.scope site.global s.heap) few (o-name (name_of t) site.scope site.global s.heap)
m-by-value b kinds.Comma scripts at t site s takes few = m-comma b at t.kids site s takes few
m-by-value b kinds.Assign scripts at t site s takes few = m-assign b scripts at t.kids site s takes few
m-by-value b kinds.Arrow scripts at t site s takes few =
    m-of b s (closure_made t.head.number_of_node site site.receiver s.heap) few (o-closure t.head.number_of_node site site.receiver s.heap)
m-by-value b kinds.FunctionExpr scripts at t site s takes few = m-function b t site s few
m-by-value b kinds.Cond scripts at t site s takes few = m-condition b at t.kids site s takes few
m-by-value b kinds.Coalesce scripts at t site s takes few = m-logical b _ at t.kids site s takes few
m-by-value b kinds.Or scripts at t site s takes few = m-logical b _ at t.kids site s takes few
m-by-value b kinds.And scripts at t site s takes few = m-logical b _ at t.kids site s takes few
m-by-value b kinds.Void scripts at t site s takes few = m-void b at t.kids site s takes few
m-by-value b kinds.Member scripts at t site s takes few = m-member b role.Value at t site s takes few
m-by-value b kinds.Index scripts at t site s takes few = m-index b role.Value at t.kids site s takes few
m-by-value b kinds.Call scripts at t site s takes few = m-called b scripts at t.kids site s takes few
m-by-value b kinds.Array scripts at t site s takes few = m-array b at t.kids site s takes few
m-by-value b kinds.Object scripts at t site s takes few = m-object b at t site s takes few
m-by-value b kind scripts at t site s takes few = m-operation b (operator_of kind) scripts at t.kids site s takes few

m-by-target : (b : State) (kind : Kind) (at : Inside) (t : Tree) (site : Site) (s : State) → IsLawful at → Follows b s → Keeps b (target_by kind at t site s)
unfolding Keeps
m-by-target b kinds.Name at t site s takes few = (few, tt)
m-by-target b kinds.Member at t site s takes few = m-member b role.Target at t site s takes few
m-by-target b kinds.Index at t site s takes few = m-index b role.Target at t.kids site s takes few
m-by-target b _ at t site s takes few = (few, tt)

m-by-callee : (b : State) (kind : Kind) (scripts : ScriptList) (at : Inside) (t : Tree) (site : Site) (s : State) → IsLawful at → Follows b s
    → Keeps b (callee_by kind scripts at t site s)
m-by-callee b kinds.Member scripts at t site s takes few = m-member b role.Callee at t site s takes few
m-by-callee b kinds.Index scripts at t site s takes few = m-index b role.Callee at t.kids site s takes few
m-by-callee b kind scripts at t site s takes few = m-by-value b kind scripts at t site s takes few

m-by-statement : (b : State) (kind : Kind) (at : Inside) (t : Tree) (site : Site) (s : State) → IsLawful at → Follows b s → Keeps b (statement_by kind at t site s)
unfolding Keeps
m-by-statement b kinds.Script at t site s takes few = m-list b at t.kids site None s takes few
m-by-statement b kinds.Body at t site s takes few = m-list b at t.kids site None s takes few
m-by-statement b kinds.Block at t site s takes few = m-block b at t.kids site s takes few
m-by-statement b kinds.Let at t site s takes few = m-declare b at t.head.names t.kids site s takes few
m-by-statement b kinds.Const at t site s takes few = m-declare b at t.head.names t.kids site s takes few
m-by-statement b kinds.ExprStmt at t site s takes few = m-at b at role.Value _ site s takes few
m-by-statement b kinds.If at t site s takes few = m-choice b at t.kids site s takes few
m-by-statement b kinds.Return at t site s takes few = m-return b at t.kids site s takes few
m-by-statement b kinds.While at t site s takes few = m-while b at t.kids site s takes few
m-by-statement b kinds.For at t site s takes few = m-for b at t.kids site s takes few
m-by-statement b kinds.Throw at t site s takes few = m-throw b at t.kids site s takes few
m-by-statement b kinds.Try at t site s takes few = m-try b at t site s takes few
m-by-statement b _ at t site s takes few = (few, tt)

m-node : (b : State) (for : Role) (scripts : ScriptList) (at : Inside) (t : Tree) (site : Site) (s : State) → IsLawful at → Follows b s
    → Keeps b (node_by for scripts at t site s)
m-node b role.Value scripts at t site s takes few = m-by-value b t.head.kind scripts at t site s takes few
m-node b role.Target scripts at t site s takes few = m-by-target b t.head.kind at t site s takes few
m-node b role.Callee scripts at t site s takes few = m-by-callee b t.head.kind scripts at t site s takes few
m-node b role.Statement scripts at t site s takes few = m-by-statement b t.head.kind at t site s takes few

-- ---- nodes

too-deep-within : (b s : State) → Follows b s → Keeps b (too_deep s)
too-deep-within b s few = m-of b s (thrown RangeError (codes "nesting too deep") s.heap) few (o-thrown RangeError (codes "nesting too deep") s.heap)

-- a tick that is there is taken, and one that isn't stops the run
one-tick : (left : ℕ) (s : State) (go : State → Out) → s.left ≡ left → ((b s : State) → Follows b s → Keeps b (go s))
    → ((ticked left s go).1.left < s.left) ⊎ (ticked left s go ≡ (Err (abrupt.Stop Timeout), s))
unfolding Keeps
one-tick zero s go is on = inr refl
one-tick (suc left) s go is on =
    let now = record s { left = left } in
    let less : (go now).1.left ≤ left = ticks_left now (go now) (on now now (f-same now)) in
    inl (omega (arith, is, less))

tick-within : (s : State) (go : State → Out) → ((b s : State) → Follows b s → Keeps b (go s)) → RunsWithin s (ticked s.left s go)
unfolding Keeps
tick-within s go on = m-ticked s s.left s go refl (f-same s) (λ now few. on s now few)

node-lawful : (go : Role → Tree → Site → State → Out) → ((b : State) (for : Role) (t : Tree) (site : Site) (s : State) → Follows b s → Keeps b (go for t site s))
    → IsLawful (λ for t site s. with_tick s (λ s. go for t site s))
node-lawful go on = record {
  takes = record { takes = λ for t site s. one-tick s.left s (λ s. go for t site s) refl (λ b s few. on b for t site s few) };
  within = λ for t site s. tick-within s (λ s. go for t site s) (λ b s few. on b for t site s few);
}

pub lawful : (scripts : ScriptList) (room : ℕ) → IsLawful (evaluated scripts room)
unfolding evaluated
lawful scripts zero = node-lawful (λ for t site s. too_deep s) (λ b for t site s few. too-deep-within b s few)
lawful scripts (suc room) =
    node-lawful (λ for t site s. node_by for scripts (evaluated scripts room) t site s)
    (λ b for t site s few. m-node b for scripts (evaluated scripts room) t site s (lawful scripts room) few)

pub takes_ticks : (scripts : ScriptList) (room : ℕ) → TakesTicks (evaluated scripts room)
takes_ticks scripts room = (lawful scripts room).takes

-- ---- runs

pub script_within : (scripts : ScriptList) (script root names global : ℕ) (s : State) → RunsWithin s (script_run scripts script root names global s)
unfolding script_run Keeps
script_within scripts script root names global s =
    m-heap {A = Unit {0}} s s (script_declared script names global (declarations (form_at scripts script root).kids) s.heap) _ (f-same s)
    (o-script script names global (declarations (form_at scripts script root).kids) s.heap)
    (λ _ now few. m-at s (evaluated scripts NESTING) role.Statement (form_at scripts script root) _ now (lawful scripts NESTING) few)

pub call_within : (scripts : ScriptList) (function receiver : Value) (arguments : List Value) (s : State) → RunsWithin s (call_run scripts function receiver arguments s)
unfolding call_run Keeps
call_within scripts function receiver arguments s =
    m-call s (evaluated scripts NESTING) scripts function receiver arguments s (lawful scripts NESTING) (f-same s)
