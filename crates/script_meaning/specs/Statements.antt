-- One rule for each form of statement. `at` evaluates what stands inside the form.
-- ECMA-262, Statements and Declarations; docs/SCRIPTS.md, "Evaluation".
use Rattle.std.specs.Prelude.{ℕ, List, [], ◌∷◌, Option, Some, None, Ok, Err, if◌then◌else◌}
use Rattle.charged_heap.specs.declared.values.Value.{Value}
use Rattle.charged_heap.specs.declared.values.Value.TheVariants as value
use Rattle.js_syntax.specs.declared.kind.Kind.{Kind}
use Rattle.js_syntax.specs.declared.kind.Kind.TheVariants as kinds
use Rattle.js_syntax.specs.Tree.{Trees, nothing, tree}
use Rattle.js_ops.specs.Values.{truthy}
use Rattle.js_scopes.specs.Scopes.{initialised}
use Rattle.js_trees.specs.Tree.{kid}
use Rattle.js_trees.specs.Declarations.{declarations}
use Rattle.js_trees.specs.declared.declaration.Declaration.{Declaration}
use Rattle.js_scopes.specs.Lists.{block_scope}
use Rattle.script_meaning.specs.Outcome.{State, Out, Inside, is_empty, on_heap, with_value}
use Rattle.script_meaning.specs.declared.completion.Abrupt.TheVariants as abrupt
use Rattle.script_meaning.specs.declared.completion.Ended.{Ended}
use Rattle.script_meaning.specs.declared.completion.Ended.TheVariants as ended
use Rattle.script_meaning.specs.declared.site.Role.TheVariants as role
use Rattle.script_meaning.specs.declared.site.Site.{Site}

-- ---- values of statements

-- the value of a statement, where it has one
abbrev pub value_in : Ended → Option Value
value_in (ended.Value v) = Some v
value_in _ = None

-- the later value, where there is one
abbrev pub latest : Option Value → Option Value → Option Value
latest (Some v) last = Some v
latest None last = last

-- a statement that has a value, or none
abbrev pub ended_with : Option Value → Ended
ended_with (Some v) = ended.Value v
ended_with None = ended.Empty

abbrev pub or_undefined : Option Value → Option Value
or_undefined (Some v) = Some v
or_undefined None = Some value.Undefined

-- ---- lists

-- after a statement of a list: on with the rest; a `break` or `continue` takes the last value along
abbrev pub after_statement : Option Value → Out → (Option Value → State → Out) → Out
after_statement last (Ok end, s) go = go (latest (value_in end) last) s
after_statement last (Err (abrupt.Break v), s) go = (Err (abrupt.Break (latest v last)), s)
after_statement last (Err (abrupt.Continue v), s) go = (Err (abrupt.Continue (latest v last)), s)
after_statement last (Err (abrupt.Throw v), s) go = (Err (abrupt.Throw v), s)
after_statement last (Err (abrupt.Return v), s) go = (Err (abrupt.Return v), s)
after_statement last (Err (abrupt.Stop cause), s) go = (Err (abrupt.Stop cause), s)
after_statement last (Err abrupt.NoMemory, s) go = (Err abrupt.NoMemory, s)

-- the statements one after another; the list has the last value that isn't empty
unfoldable pub list_rule : Inside → Trees → Site → Option Value → State → Out
list_rule at nothing site last s = (Ok (ended_with last), s)
list_rule at (tree head kids rest) site last s =
    after_statement last (at role.Statement (record { head = head; kids = kids }) site s) (λ last s. list_rule at rest site last s)

-- a block that declares nothing makes no scope
abbrev pub block_by : List Declaration → Inside → Trees → Site → State → Out
block_by [] at kids site s = list_rule at kids site None s
block_by (first ∷ more) at kids site s =
    on_heap s (block_scope site.script site.global site.scope (first ∷ more) s.heap)
    (λ scope s. list_rule at kids (record site { scope = scope }) None s)

unfoldable pub block_rule : Inside → Trees → Site → State → Out
block_rule at kids site s = block_by (declarations kids) at kids site s

-- ---- declarations

-- a name gets the value of its initialiser, and undefined without one; an initialiser that is left out takes no tick
abbrev pub declarator : Kind → Out → List ℕ → Site → State → (State → Out) → Out
declarator kinds.Absent initialiser name site s go = go (record s { heap = initialised s.heap site.scope name value.Undefined })
declarator _ initialiser name site s go =
    with_value initialiser (λ v s. go (record s { heap = initialised s.heap site.scope name v }))

-- the names of a `let` or `const` in order
unfoldable pub declare_rule : Inside → List (List ℕ) → Trees → Site → State → Out
declare_rule at [] kids site s = is_empty s
declare_rule at (name ∷ names) nothing site s = is_empty s
declare_rule at (name ∷ names) (tree head kids rest) site s =
    declarator head.kind (at role.Value (record { head = head; kids = kids }) site s) name site s
    (λ s. declare_rule at names rest site s)

-- ---- choices and ends

-- a statement that may be empty has the value undefined then, also in a `break` or `continue` that leaves it
abbrev pub filled : Out → Out
filled (Ok end, s) = (Ok (ended_with (or_undefined (value_in end))), s)
filled (Err (abrupt.Break v), s) = (Err (abrupt.Break (or_undefined v)), s)
filled (Err (abrupt.Continue v), s) = (Err (abrupt.Continue (or_undefined v)), s)
filled (Err (abrupt.Throw v), s) = (Err (abrupt.Throw v), s)
filled (Err (abrupt.Return v), s) = (Err (abrupt.Return v), s)
filled (Err (abrupt.Stop cause), s) = (Err (abrupt.Stop cause), s)
filled (Err abrupt.NoMemory, s) = (Err abrupt.NoMemory, s)

-- an `else` that is left out is empty, and takes no tick
abbrev pub else_by : Kind → Out → State → Out
else_by kinds.Absent otherwise s = is_empty s
else_by _ otherwise s = otherwise

unfoldable pub if_rule : Inside → Trees → Site → State → Out
if_rule at kids site s =
    with_value (at role.Value (kid 0 kids) site s)
    (λ v s. filled (if truthy s.heap v then at role.Statement (kid 1 kids) site s
    else else_by (kid 2 kids).head.kind (at role.Statement (kid 2 kids) site s) s))

-- what is returned: a value, and undefined where it is left out
abbrev pub return_by : Kind → Out → State → Out
return_by kinds.Absent result s = (Err (abrupt.Return value.Undefined), s)
return_by _ result s = with_value result (λ v s. (Err (abrupt.Return v), s))

unfoldable pub return_rule : Inside → Trees → Site → State → Out
return_rule at kids site s = return_by (kid 0 kids).head.kind (at role.Value (kid 0 kids) site s) s
