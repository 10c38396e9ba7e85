-- When a declaration of a script clashes with what earlier scripts of its context declared.
-- ECMA-262, GlobalDeclarationInstantiation; docs/SCRIPTS.md, "Names and scopes". A context's record is a scope without parent.
use Rattle.std.specs.Prelude.{ℕ, List, Bool, true, false, ◌||◌, is_some}
use Rattle.charged_heap.specs.Store.{Store, item_at, is_noted}
use Rattle.charged_heap.specs.declared.item.Item.{Item}
use Rattle.charged_heap.specs.declared.values.Value.{Value}
use Rattle.charged_heap.specs.Ends.{Ends}
use Rattle.charged_heap.specs.Bindings.{place_of}
use Rattle.js_scopes.specs.Bindings.{bindings_of, functions_of}
use Rattle.js_ops.specs.Outcome.{name_error_thrown}
use Rattle.js_ops.specs.declared.error.ScriptError.TheVariants.{AlreadyDeclared}

-- the record has a binding of the name
abbrev pub is_bound : Item → List ℕ → Bool
is_bound context name = is_some (place_of (bindings_of context) name)

-- a function clashes with a binding; `let` and `const` clash with a function of the name too
abbrev pub clashes : Item → List ℕ → Bool → Bool
clashes context name true = is_bound context name
clashes context name false = is_bound context name || is_noted (functions_of context) name

-- whether a function, or else a `let` or `const`, with the name clashes with the record with the number n
unfoldable pub is_clash : Store → ℕ → List ℕ → Bool → Bool
is_clash s n name function = clashes (item_at s n) name function

-- what a clash gives
abbrev pub clash_outcome : List ℕ → Store → Ends Value
clash_outcome name s = name_error_thrown AlreadyDeclared name s
