-- How scopes are made, and how their names get their first values.
-- ECMA-262, NewDeclarativeEnvironment, CreatePerIterationEnvironment and InitializeBinding; docs/SCRIPTS.md, "Names and scopes". Cells: docs/PRICES.md, "Cells".
use Rattle.std.specs.Prelude.{ℕ, List, [], Option, Some, None}
use Rattle.charged_heap.specs.Store.{Store, item_at}
use Rattle.charged_heap.specs.Ends.{Ends, item_made}
use Rattle.charged_heap.specs.declared.item.Item.{Item}
use Rattle.charged_heap.specs.declared.item.Item.TheVariants.{Scope}
use Rattle.charged_heap.specs.declared.values.Binding.{Binding}
use Rattle.charged_heap.specs.declared.values.Value.{Value}
use Rattle.charged_heap.specs.Bindings.{place_of}
use Rattle.js_scopes.specs.Bindings.{bindings_of, parent_of}
use Rattle.js_scopes.specs.Names.{with_bound_at}

-- ---- making

-- a scope that notes no functions
abbrev pub scope_with : Option ℕ → List Binding → Item
scope_with parent bindings = Scope parent bindings []

-- one more scope, with all its bindings in one charge; where it doesn't fit, the refusal alone
unfoldable pub scope_made : Option ℕ → List Binding → Store → Ends ℕ
scope_made parent bindings s = item_made (scope_with parent bindings) s

-- one more scope with the parent and the bindings that the scope with the number n has by then
unfoldable pub scope_copied : ℕ → Store → Ends ℕ
scope_copied n s = scope_made (parent_of (item_at s n)) (bindings_of (item_at s n)) s

-- ---- first values

-- the binding at that place of the scope with the number n given the value, where there is one
abbrev pub initialised_at : Store → ℕ → Option ℕ → Value → Store
initialised_at s n (Some place) v = with_bound_at s (record { scope = n; place = place }) v
initialised_at s n None v = s

-- the binding of that very scope with the name given the value, be it constant or not; a scope without it stays
unfoldable pub initialised : Store → ℕ → List ℕ → Value → Store
initialised s n name v = initialised_at s n (place_of (bindings_of (item_at s n)) name) v
