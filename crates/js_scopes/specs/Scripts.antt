-- What is looked at and declared before a script runs.
-- ECMA-262, GlobalDeclarationInstantiation; docs/SCRIPTS.md, "Names and scopes".
use Rattle.std.specs.Prelude.{ℕ, ◌+◌, List, [], ◌∷◌, Option, Some, None, Ok, Err, Bool, true, false, nat_le, if◌then◌else◌}
use Rattle.charged_heap.specs.Price.{charge_of}
use Rattle.charged_heap.specs.Room.{overrun_of}
use Rattle.charged_heap.specs.Store.{Store, item_at, with_item, with_binding, with_function}
use Rattle.charged_heap.specs.declared.price.TheConstants.{BINDING_CELLS}
use Rattle.charged_heap.specs.declared.fault.Fail.TheVariants.{Over}
use Rattle.charged_heap.specs.declared.values.Value.TheVariants as value
use Rattle.js_members.specs.Writes.{write_outcome}
use Rattle.js_scopes.specs.Bindings.{new_binding}
use Rattle.js_scopes.specs.Clashes.{is_clash, clash_outcome}
use Rattle.js_trees.specs.declared.declaration.Declaration.{Declaration}
use Rattle.js_trees.specs.declared.declaration.Declaration.TheVariants.{Variable, Constant, Function}
use Rattle.charged_heap.specs.Ends.{Ends, and_then, item_made}
use Rattle.js_scopes.specs.Lists.{function_item}

-- ---- clashes

-- the first of these names that the record can't take
abbrev pub clash_among : ℕ → Store → List Declaration → Option (List ℕ)
clash_among names s [] = None
clash_among names s (Variable name ∷ more) = if is_clash s names name false then Some name else clash_among names s more
clash_among names s (Constant name ∷ more) = if is_clash s names name false then Some name else clash_among names s more
clash_among names s (Function name node ∷ more) = if is_clash s names name true then Some name else clash_among names s more

-- ---- declarations

-- the record has one more name, without a value, for the cell of a binding; where that doesn't fit, the refusal alone
abbrev pub name_declared : List ℕ → Bool → ℕ → Store → Ends (Unit {0})
name_declared name constant names s =
    if nat_le (charge_of s.items + BINDING_CELLS) s.limit
    then (Ok tt, with_item s names (with_binding (item_at s names) (new_binding name constant)))
    else (Err (Over (overrun_of s BINDING_CELLS)), s)

-- the record notes a function's name
abbrev pub noted : List ℕ → ℕ → Store → Store
noted name names s = with_item s names (with_function (item_at s names) name)

-- each name of a `let` or a `const` joins the record, without a value
abbrev pub names_declared : ℕ → List Declaration → Store → Ends (Unit {0})
names_declared names [] s = (Ok tt, s)
names_declared names (Variable name ∷ more) s = and_then (name_declared name false names s) (λ _ after. names_declared names more after)
names_declared names (Constant name ∷ more) s = and_then (name_declared name true names s) (λ _ after. names_declared names more after)
names_declared names (Function name node ∷ more) s = names_declared names more s

-- each function is made and becomes a property of the global object; its name is noted beside the record's
abbrev pub functions_declared : ℕ → ℕ → ℕ → List Declaration → Store → Ends (Unit {0})
functions_declared script names global [] s = (Ok tt, s)
functions_declared script names global (Variable name ∷ more) s = functions_declared script names global more s
functions_declared script names global (Constant name ∷ more) s = functions_declared script names global more s
functions_declared script names global (Function name node ∷ more) s =
    and_then (item_made (function_item script node names global) s) (λ n made.
    and_then (write_outcome (value.Item global) name (value.Item n) made) (λ _ after.
    functions_declared script names global more (noted name names after)))

-- a name that clashes is thrown, and nothing is declared; else the names and then the functions are
abbrev pub declared_unless : Option (List ℕ) → ℕ → ℕ → ℕ → List Declaration → Store → Ends (Unit {0})
declared_unless (Some name) script names global declared s = and_then (clash_outcome name s) (λ _ after. (Ok tt, after))
declared_unless None script names global declared s =
    and_then (names_declared names declared s) (λ _ after. functions_declared script names global declared after)

-- what is done before a script runs that declares these, with the record and the global object of its context
unfoldable pub script_declared : ℕ → ℕ → ℕ → List Declaration → Store → Ends (Unit {0})
script_declared script names global declared s =
    declared_unless (clash_among names s declared) script names global declared s
