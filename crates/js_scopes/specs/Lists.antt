-- The names that a list of statements binds in its scope, and the functions that are made there.
-- ECMA-262, FunctionDeclarationInstantiation and BlockDeclarationInstantiation; docs/SCRIPTS.md, "Names and scopes".
use Rattle.std.specs.Prelude.{ℕ, List, [], ◌∷◌, Some, Ok, true, false}
use Rattle.charged_heap.specs.Store.{Store}
use Rattle.charged_heap.specs.declared.item.Item.{Item}
use Rattle.charged_heap.specs.declared.item.Item.TheVariants as item
use Rattle.charged_heap.specs.declared.values.Binding.{Binding}
use Rattle.charged_heap.specs.declared.values.Value.{Value}
use Rattle.charged_heap.specs.declared.values.Value.TheVariants as value
use Rattle.js_scopes.specs.Bindings.{with_new}
use Rattle.js_scopes.specs.Scopes.{initialised, scope_made}
use Rattle.js_trees.specs.declared.declaration.Declaration.{Declaration}
use Rattle.js_trees.specs.declared.declaration.Declaration.TheVariants.{Variable, Constant, Function}
use Rattle.charged_heap.specs.Ends.{Ends, and_then, item_made}

-- ---- the names of a scope

-- a function's parameters are names that may change
abbrev pub with_parameters : List Binding → List (List ℕ) → List Binding
with_parameters bindings [] = bindings
with_parameters bindings (name ∷ names) = with_parameters (with_new bindings name false) names

-- and so are the names that a list declares, but those of `const`; a name that is there already stays as it is
abbrev pub with_declared : List Binding → List Declaration → List Binding
with_declared bindings [] = bindings
with_declared bindings (Variable name ∷ more) = with_declared (with_new bindings name false) more
with_declared bindings (Constant name ∷ more) = with_declared (with_new bindings name true) more
with_declared bindings (Function name node ∷ more) = with_declared (with_new bindings name false) more

-- ---- functions

-- a function of a script that is no arrow: it takes no `this` from the place where it is made
abbrev pub function_item : ℕ → ℕ → ℕ → ℕ → Item
function_item script node scope global = item.Closure script node scope global value.Undefined

-- the functions of a list are made in order, each the value of its name in the scope; then the scope is given
unfoldable pub functions_made : ℕ → ℕ → ℕ → List Declaration → Store → Ends ℕ
functions_made script global scope [] s = (Ok scope, s)
functions_made script global scope (Variable name ∷ more) s = functions_made script global scope more s
functions_made script global scope (Constant name ∷ more) s = functions_made script global scope more s
functions_made script global scope (Function name node ∷ more) s =
    and_then (item_made (function_item script node scope global) s)
    (λ n after. functions_made script global scope more (initialised after scope name (value.Item n)))

-- ---- scopes

-- the scope of a block that declares these: one charge with all its names, and then the functions
unfoldable pub block_scope : ℕ → ℕ → ℕ → List Declaration → Store → Ends ℕ
block_scope script global parent declared s =
    and_then (scope_made (Some parent) (with_declared [] declared) s)
    (λ scope after. functions_made script global scope declared after)

-- the parameters get the arguments in order, and undefined where there are no more; further arguments are dropped
abbrev pub with_arguments : ℕ → List (List ℕ) → List Value → Store → Store
with_arguments scope [] arguments s = s
with_arguments scope (name ∷ names) [] s = with_arguments scope names [] (initialised s scope name value.Undefined)
with_arguments scope (name ∷ names) (v ∷ arguments) s = with_arguments scope names arguments (initialised s scope name v)

-- the scope of a call: the parameters and what the body's list declares, in one charge; then the functions
unfoldable pub call_scope : ℕ → ℕ → ℕ → List (List ℕ) → List Declaration → List Value → Store → Ends ℕ
call_scope script global parent parameters declared arguments s =
    and_then (scope_made (Some parent) (with_declared (with_parameters [] parameters) declared) s)
    (λ scope after. functions_made script global scope declared (with_arguments scope parameters arguments after))

-- a scope of one name that can't change, for a function expression's own name
unfoldable pub name_scope : ℕ → List ℕ → Store → Ends ℕ
name_scope parent name s = scope_made (Some parent) (with_new [] name true) s

-- a scope of one name that may change, which has this value: that of a `catch`
unfoldable pub catch_scope : ℕ → List ℕ → Value → Store → Ends ℕ
catch_scope parent name v s =
    and_then (scope_made (Some parent) (with_new [] name false) s) (λ scope after. (Ok scope, initialised after scope name v))
