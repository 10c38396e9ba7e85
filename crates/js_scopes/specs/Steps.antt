-- What one declaration of a list gives. No caller needs this.
-- This project's own; docs/SCRIPTS.md, "Names and scopes".
use Rattle.std.specs.Prelude.{ℕ, List, Bool, true, false, Ok}
use Rattle.charged_heap.specs.Store.{Store}
use Rattle.charged_heap.specs.declared.values.Binding.{Binding}
use Rattle.charged_heap.specs.declared.values.Value.TheVariants as value
use Rattle.js_members.specs.Writes.{write_outcome}
use Rattle.js_scopes.specs.Bindings.{with_new}
use Rattle.js_scopes.specs.Clashes.{is_clash, clash_outcome}
use Rattle.js_scopes.specs.Scopes.{initialised}
use Rattle.js_trees.specs.declared.declaration.Declaration.{Declaration}
use Rattle.js_trees.specs.declared.declaration.Declaration.TheVariants.{Variable, Constant, Function}
use Rattle.charged_heap.specs.Ends.{Ends, and_then, item_made}
use Rattle.js_scopes.specs.Lists.{function_item}
use Rattle.js_scopes.specs.Scripts.{name_declared, noted, names_declared, functions_declared}

-- ---- in the scope of a list

-- the bindings with the name that it declares
abbrev pub with_one : List Binding → Declaration → List Binding
with_one bindings (Variable name) = with_new bindings name false
with_one bindings (Constant name) = with_new bindings name true
with_one bindings (Function name node) = with_new bindings name false

-- a function that it declares is made, as the value of its name in the scope
abbrev pub function_made : ℕ → ℕ → ℕ → Declaration → Store → Ends (Unit {0})
function_made script global scope (Variable name) s = (Ok tt, s)
function_made script global scope (Constant name) s = (Ok tt, s)
function_made script global scope (Function name node) s =
    and_then (item_made (function_item script node scope global) s) (λ n after. (Ok tt, initialised after scope name (value.Item n)))

-- ---- in the record of a context

abbrev pub name_of : Declaration → List ℕ
name_of (Variable name) = name
name_of (Constant name) = name
name_of (Function name node) = name

abbrev pub is_function : Declaration → Bool
is_function (Variable name) = false
is_function (Constant name) = false
is_function (Function name node) = true

-- the record can't take it
abbrev pub clashes : ℕ → Store → Declaration → Bool
clashes names s one = is_clash s names (name_of one) (is_function one)

-- the error of a clash is thrown
abbrev pub refused : List ℕ → Store → Ends (Unit {0})
refused name s = and_then (clash_outcome name s) (λ _ after. (Ok tt, after))

-- a name of a `let` or a `const` joins the record
abbrev pub one_named : ℕ → Declaration → Store → Ends (Unit {0})
one_named names (Variable name) s = name_declared name false names s
one_named names (Constant name) s = name_declared name true names s
one_named names (Function name node) s = (Ok tt, s)

-- the function of a node is made and becomes a property of the global object, and its name is noted
abbrev pub function_declared : ℕ → ℕ → ℕ → List ℕ → ℕ → Store → Ends (Unit {0})
function_declared script names global name node s =
    and_then (item_made (function_item script node names global) s) (λ n made.
    and_then (write_outcome (value.Item global) name (value.Item n) made) (λ _ after. (Ok tt, noted name names after)))

-- so it is with a function that is declared
abbrev pub one_function : ℕ → ℕ → ℕ → Declaration → Store → Ends (Unit {0})
one_function script names global (Variable name) s = (Ok tt, s)
one_function script names global (Constant name) s = (Ok tt, s)
one_function script names global (Function name node) s = function_declared script names global name node s

-- the names of a list, and then its functions
abbrev pub all_declared : ℕ → ℕ → ℕ → List Declaration → Store → Ends (Unit {0})
all_declared script names global declared s =
    and_then (names_declared names declared s) (λ _ after. functions_declared script names global declared after)
