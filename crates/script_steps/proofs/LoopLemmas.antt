-- A loop waits for its test, or for its body where it has none.
use Rattle.std.proofs.Common.{◌≡◌, ◌∙◌, ℕ, Option, Some, None, Result, Ok, Err, refl, sym, if◌then◌else◌}
use Rattle.std.specs.Prelude.{IfErr}
use Rattle.charged_heap.specs.Store.{Store, item_at}
use Rattle.charged_heap.specs.declared.fault.Fail.{Fail}
use Rattle.charged_heap.specs.declared.values.Value.{Value}
use Rattle.js_ops.specs.Values.{truthy}
use Rattle.js_scopes.specs.Bindings.{bindings_of, parent_of}
use Rattle.js_scopes.specs.Scopes.{scope_copied}
use Rattle.charged_heap.specs.Ends.{Meets, IsSoundFail}
use Rattle.js_scopes.proofs.NewScopes.{scope_throws_nothing}
use Rattle.js_trees.specs.Tree.{Tree}
use Rattle.script_meaning.specs.Loops.{loop_end, loop_rule, tested, to_next, turn}
use Rattle.script_meaning.specs.Outcome.{State, Out, Inside, with_value}
use Rattle.script_meaning.specs.Places.{ScriptList, form_at}
use Rattle.script_meaning.specs.Statements.{latest, value_in}
use Rattle.script_meaning.specs.Ticks.{TakesTicks}
use Rattle.script_meaning.specs.declared.completion.Abrupt.TheVariants as abrupt
use Rattle.script_meaning.specs.declared.completion.Ended.{Ended}
use Rattle.script_meaning.specs.declared.site.Role.TheVariants as role
use Rattle.script_meaning.specs.declared.site.Site.{Site}
use Rattle.script_meaning.proofs.LoopLaws.{loop_goes_on}
use Rattle.script_steps.specs.After.{after, node_out}
use Rattle.script_steps.specs.Loops.{form_of, loop_of}
use Rattle.script_steps.specs.declared.frame.Frame.TheVariants as frame
use Rattle.script_steps.specs.declared.frame.LoopParts.{LoopParts}

tested-some : (at : Inside) (test : Option Tree) (t : Tree) (site : Site) (s : State) (good bad : State → Out) → test ≡ Some t
    → tested at test site s good bad ≡ with_value (at role.Value t site s) (λ v s. if truthy s.heap v then good s else bad s)
tested-some at test t site s good bad e = rw e refl

tested-none : (at : Inside) (test : Option Tree) (site : Site) (s : State) (good bad : State → Out) → test ≡ None → tested at test site s good bad ≡ good s
tested-none at test site s good bad e = rw e refl

-- so a loop with a test waits for it, and one without for its body
pub waits_for_test : (at : Inside) (scripts : ScriptList) (parts : LoopParts) (test : ℕ) (last : Option Value) (site : Site) (s : State)
    → TakesTicks at → parts.test ≡ Some test
    → after at scripts (frame.LoopTest parts last site) (node_out at scripts role.Value test site s) ≡ loop_rule at (loop_of scripts site.script parts) last site s
unfolding after
waits_for_test at scripts parts test last site s takes is =
    sym (loop_goes_on at (loop_of scripts site.script parts) last site s takes
    ∙ tested-some at (form_of scripts site.script parts.test) (form_at scripts site.script test) site s
    (λ s. turn at (loop_of scripts site.script parts) last site s (λ last site' s. loop_rule at (loop_of scripts site.script parts) last site' s))
    (λ s. loop_end last s) (rw is refl))

pub waits_for_body : (at : Inside) (scripts : ScriptList) (parts : LoopParts) (last : Option Value) (site : Site) (s : State)
    → TakesTicks at → parts.test ≡ None
    → after at scripts (frame.LoopBody parts last site) (node_out at scripts role.Statement parts.body site s) ≡ loop_rule at (loop_of scripts site.script parts) last site s
unfolding after
waits_for_body at scripts parts last site s takes is =
    sym (loop_goes_on at (loop_of scripts site.script parts) last site s takes
    ∙ tested-none at (form_of scripts site.script parts.test) site s
    (λ s. turn at (loop_of scripts site.script parts) last site s (λ last site' s. loop_rule at (loop_of scripts site.script parts) last site' s))
    (λ s. loop_end last s) (rw is refl))

-- behind a body the loop goes on with the later of the two values
pub body_ended : (at : Inside) (scripts : ScriptList) (parts : LoopParts) (last later : Option Value) (site : Site) (end : Ended) (s : State)
    → later ≡ latest (value_in end) last
    → to_next at (loop_of scripts site.script parts) site s (λ inside s. loop_rule at (loop_of scripts site.script parts) later inside s)
    ≡ after at scripts (frame.LoopBody parts last site) (Ok end, s)
unfolding after
body_ended at scripts parts last later site end s is = rw is refl

pub body_continued : (at : Inside) (scripts : ScriptList) (parts : LoopParts) (last later : Option Value) (site : Site) (v : Option Value) (s : State)
    → later ≡ latest v last
    → to_next at (loop_of scripts site.script parts) site s (λ inside s. loop_rule at (loop_of scripts site.script parts) later inside s)
    ≡ after at scripts (frame.LoopBody parts last site) (Err (abrupt.Continue v), s)
unfolding after
body_continued at scripts parts last later site v s is = rw is refl

-- a copy of a scope is made, or it is refused or finds no memory
pub copy_throws_nothing : (n : ℕ) (s t : Store) (result : Result ℕ Fail) → Meets result t (scope_copied n s) → IfErr result (IsSoundFail t)
unfolding scope_copied
copy_throws_nothing n s t result gives = scope_throws_nothing (parent_of (item_at s n)) (bindings_of (item_at s n)) s t result gives

pub ruleset turns = (waits_for_test, waits_for_body)
