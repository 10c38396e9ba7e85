-- Where a name stands, seen from a scope.
-- ECMA-262, ResolveBinding and GetIdentifierReference, and Object and Global Environment Records without prototypes; docs/SCRIPTS.md, "Names and scopes".
use Rattle.std.specs.Prelude.{◌≡◌, ℕ, zero, suc, ◌<◌, List, length, codes, Option, Some, None, if◌then◌else◌}
use Rattle.ivm_text.specs.Keys.{is_key, value_at}
use Rattle.charged_heap.specs.Store.{Store, IsAt, IsScope, item_at, properties}
use Rattle.charged_heap.specs.declared.values.Value.{Value}
use Rattle.charged_heap.specs.declared.values.Value.TheVariants as value
use Rattle.charged_heap.specs.Bindings.{place_of}
use Rattle.js_scopes.specs.Bindings.{bindings_of, parent_of}
use Rattle.js_scopes.specs.declared.lookup.BindingPlace.{BindingPlace}
use Rattle.js_scopes.specs.declared.lookup.Lookup.{Lookup}
use Rattle.js_scopes.specs.declared.lookup.Lookup.TheVariants.{Bound, Property, Builtin, Nowhere}

-- ---- bindings, from a scope outwards

-- the binding in the scope with the number n, where the name has one, and else what is found from its parent outwards
abbrev pub here_or_outwards : ℕ → Option ℕ → Option ℕ → (ℕ → Option BindingPlace) → Option BindingPlace
here_or_outwards n (Some place) parent outwards = Some (record { scope = n; place = place })
here_or_outwards n None (Some parent) outwards = outwards parent
here_or_outwards n None None outwards = None

-- the binding of the innermost scope that has the name, among so many scopes from the one with the number n outwards
abbrev pub binding_within : ℕ → Store → List ℕ → ℕ → Option BindingPlace
binding_within zero s name n = None
binding_within (suc count) s name n =
    here_or_outwards n (place_of (bindings_of (item_at s n)) name) (parent_of (item_at s n)) (binding_within count s name)

-- the same among all of them: a parent has a lower number, so there are at most n + 1
unfoldable pub binding_of : Store → List ℕ → ℕ → Option BindingPlace
binding_of s name n = binding_within (suc n) s name n

-- the count of scopes ends no walk: what is found from a scope is found there, or from its parent
pub record WalksOutwards (s : Store) (name : List ℕ) : Type 0 where
  pub from_each : (n : ℕ) → IsAt IsScope s n → binding_of s name n
      ≡ here_or_outwards n (place_of (bindings_of (item_at s n)) name) (parent_of (item_at s n)) (binding_of s name)

-- ---- names that no scope binds

-- the value of a built-in name, in a context with this global object
unfoldable pub builtin_of : ℕ → List ℕ → Option Value
builtin_of global name =
    if is_key name (codes "globalThis") then Some (value.Item global)
    else None

-- ---- all names

-- a binding comes before a property, and a property before a built-in name
abbrev pub first_of : Option BindingPlace → Option Value → Option Value → Lookup
first_of (Some at) property builtin = Bound at
first_of None (Some v) builtin = Property v
first_of None None (Some v) = Builtin v
first_of None None None = Nowhere

-- where the name stands: in a scope, among the own properties of the global object, or among the built-in names
unfoldable pub lookup : Store → ℕ → ℕ → List ℕ → Lookup
lookup s scope global name =
    first_of (binding_of s name scope) (value_at (properties (item_at s global)) name) (builtin_of global name)

-- ---- what holds of what was found

-- there is such a scope, and it has that binding
pub record IsBindingAt (s : Store) (at : BindingPlace) : Type 0 where
  pub scope : IsAt IsScope s at.scope
  pub within : at.place < length (bindings_of (item_at s at.scope))

-- the binding is there, or the global object has the property, or the name is a built-in one
abbrev pub IsFound : Store → ℕ → List ℕ → Lookup → Type 0
IsFound s global name (Bound at) = IsBindingAt s at
IsFound s global name (Property v) = value_at (properties (item_at s global)) name ≡ Some v
IsFound s global name (Builtin v) = builtin_of global name ≡ Some v
IsFound s global name Nowhere = Unit {0}
