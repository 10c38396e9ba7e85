-- Loops. `at` evaluates what stands inside the form.
-- ECMA-262, Iteration Statements and CreatePerIterationEnvironment; docs/SCRIPTS.md, "Loops".
use Rattle.std.specs.Prelude.{ℕ, zero, suc, List, [], ◌∷◌, Option, Some, None, Bool, true, false, Ok, Err, if◌then◌else◌}
use Rattle.charged_heap.specs.Store.{Store}
use Rattle.charged_heap.specs.declared.values.Value.{Value}
use Rattle.js_syntax.specs.declared.kind.Kind.{Kind}
use Rattle.js_syntax.specs.declared.kind.Kind.TheVariants as kinds
use Rattle.js_syntax.specs.Tree.{Trees}
use Rattle.js_ops.specs.Values.{truthy}
use Rattle.js_scopes.specs.Scopes.{scope_copied}
use Rattle.js_trees.specs.Tree.{Tree, kid}
use Rattle.js_trees.specs.Declarations.{declarations}
use Rattle.js_trees.specs.declared.declaration.Declaration.{Declaration}
use Rattle.charged_heap.specs.Ends.{Ends, and_then}
use Rattle.js_scopes.specs.Lists.{block_scope}
use Rattle.script_meaning.specs.Outcome.{State, Out, Inside, on_heap, with_value, with_end}
use Rattle.script_meaning.specs.Statements.{value_in, latest, ended_with, or_undefined}
use Rattle.script_meaning.specs.declared.completion.Abrupt.TheVariants as abrupt
use Rattle.script_meaning.specs.declared.completion.StopCause.TheVariants.{Timeout}
use Rattle.script_meaning.specs.declared.site.Role.{Role}
use Rattle.script_meaning.specs.declared.site.Role.TheVariants as role
use Rattle.script_meaning.specs.declared.site.Site.{Site}

-- ---- parts

-- what a loop goes round: its test and its update, where they are there, its body, and whether each round has
-- a scope of its own
pub record Loop : Type 0 where
  pub test : Option Tree
  pub body : Tree
  pub update : Option Tree
  pub fresh : Bool

abbrev pub part_by : Kind → Tree → Option Tree
part_by kinds.Absent t = None
part_by _ t = Some t

-- a part that may be left out
abbrev pub part : Tree → Option Tree
part t = part_by t.head.kind t

abbrev pub while_loop : Trees → Loop
while_loop kids = record { test = Some (kid 0 kids); body = kid 1 kids; update = None; fresh = false }

-- only what `let` declares is new in each round
abbrev pub is_fresh : Kind → Bool
is_fresh kinds.Let = true
is_fresh _ = false

abbrev pub for_loop : Trees → Loop
for_loop kids = record { test = part (kid 1 kids); body = kid 3 kids; update = part (kid 2 kids); fresh = is_fresh (kid 0 kids).head.kind }

-- ---- a round

-- a loop ends with the last value, and with undefined without one
abbrev pub loop_end : Option Value → State → Out
loop_end last s = (Ok (ended_with (or_undefined last)), s)

-- a test that is left out holds, and takes no tick
abbrev pub tested : Inside → Option Tree → Site → State → (State → Out) → (State → Out) → Out
tested at None site s good bad = good s
tested at (Some test) site s good bad = with_value (at role.Value test site s) (λ v s. if truthy s.heap v then good s else bad s)

-- after the body: on with the next round, behind a `continue` too; a `break` ends the loop
abbrev pub after_body : Option Value → Out → (Option Value → State → Out) → Out
after_body last (Ok end, s) next = next (latest (value_in end) last) s
after_body last (Err (abrupt.Continue v), s) next = next (latest v last) s
after_body last (Err (abrupt.Break v), s) next = loop_end (latest v last) s
after_body last (Err (abrupt.Throw v), s) next = (Err (abrupt.Throw v), s)
after_body last (Err (abrupt.Return v), s) next = (Err (abrupt.Return v), s)
after_body last (Err (abrupt.Stop cause), s) next = (Err (abrupt.Stop cause), s)
after_body last (Err abrupt.NoMemory, s) next = (Err abrupt.NoMemory, s)

-- where a round stands: in a copy of the scope of the one before, where each round has its own
abbrev pub round_site : Bool → Site → Store → Ends Site
round_site false site s = (Ok site, s)
round_site true site s = and_then (scope_copied site.scope s) (λ scope after. (Ok (record site { scope = scope }), after))

abbrev pub in_round : Loop → Site → State → (Site → State → Out) → Out
in_round loop site s go = on_heap s (round_site loop.fresh site s.heap) go

abbrev pub updated : Inside → Option Tree → Site → State → (State → Out) → Out
updated at None site s go = go s
updated at (Some update) site s go = with_value (at role.Value update site s) (λ _ s. go s)

-- from a body to the next test: a scope for the round, and the update in it
abbrev pub to_next : Inside → Loop → Site → State → (Site → State → Out) → Out
to_next at loop site s next = in_round loop site s (λ site s. updated at loop.update site s (λ s. next site s))

-- the body, and on to the next round
abbrev pub turn : Inside → Loop → Option Value → Site → State → (Option Value → Site → State → Out) → Out
turn at loop last site s next =
    after_body last (at role.Statement loop.body site s) (λ last s. to_next at loop site s (λ site s. next last site s))

abbrev pub round : Inside → Loop → Option Value → Site → State → (Option Value → Site → State → Out) → Out
round at loop last site s next = tested at loop.test site s (λ s. turn at loop last site s next) (λ s. loop_end last s)

-- ---- rounds

-- at most so many rounds
unfoldable pub rounds : ℕ → Inside → Loop → Option Value → Site → State → Out
rounds zero at loop last site s = (Err (abrupt.Stop Timeout), s)
rounds (suc most) at loop last site s = round at loop last site s (λ last site s. rounds most at loop last site s)

-- each round takes a tick for its body at least, so there are no more rounds than ticks that are left, but for the
-- one that stops the run or in which the test fails
unfoldable pub loop_rule : Inside → Loop → Option Value → Site → State → Out
loop_rule at loop last site s = rounds (suc s.left) at loop last site s

unfoldable pub while_rule : Inside → Trees → Site → State → Out
while_rule at kids site s = loop_rule at (while_loop kids) None site s

-- ---- heads

-- the first round has a scope of its own too, where each has
abbrev pub first_round : Inside → Loop → Site → State → Out
first_round at loop site s = in_round loop site s (λ site s. loop_rule at loop None site s)

-- a declaration is carried out, and an expression evaluated
abbrev pub head_role : Kind → Role
head_role kinds.Let = role.Statement
head_role kinds.Const = role.Statement
head_role _ = role.Value

-- what stands before the first `;` is evaluated once; where it is left out, for no tick
abbrev pub started : Kind → Inside → Tree → Site → State → (State → Out) → Out
started kinds.Absent at head site s go = go s
started kind at head site s go = with_end (at (head_role kind) head site s) go

abbrev pub headed : Inside → Trees → Site → State → Out
headed at kids site s = started (kid 0 kids).head.kind at (kid 0 kids) site s (λ s. first_round at (for_loop kids) site s)

-- a head that declares names has a scope of them
abbrev pub for_by : List Declaration → Inside → Trees → Site → State → Out
for_by [] at kids site s = headed at kids site s
for_by (first ∷ more) at kids site s =
    on_heap s (block_scope site.script site.global site.scope (first ∷ more) s.heap)
    (λ scope s. headed at kids (record site { scope = scope }) s)

unfoldable pub for_rule : Inside → Trees → Site → State → Out
for_rule at kids site s = for_by (declarations kids) at kids site s
