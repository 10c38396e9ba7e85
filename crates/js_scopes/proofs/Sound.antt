-- What a name reads in a closed store is a value that a script can hold.
use Rattle.std.proofs.Common.{◌≡◌, ℕ, List, [], Bool, true, false, Option, Some, None, arith, subst}
use Rattle.std.specs.Prelude.{IfSome, IfOk, codes, if◌then◌else◌}
use Rattle.std.specs.List.{All}
use Rattle.std.proofs.lemmas.Map.Entries.{All-lookup}
use Rattle.ivm_text.specs.Keys.{is_key, value_at}
use Rattle.charged_heap.specs.Store.{Store, IsAt, IsPlain, item_at, kind_of, properties}
use Rattle.charged_heap.specs.Closed.{IsClosed, IsHeld, IsSound, IsSoundValue, IsSoundBinding}
use Rattle.charged_heap.specs.declared.item.Item.{Item}
use Rattle.charged_heap.specs.declared.item.Item.TheVariants as item
use Rattle.charged_heap.specs.declared.item.ItemKind.{ItemKind}
use Rattle.charged_heap.specs.declared.item.ItemKind.TheVariants as kind
use Rattle.charged_heap.specs.declared.values.Value.{Value}
use Rattle.charged_heap.specs.declared.values.Value.TheVariants as value
use Rattle.js_scopes.specs.Bindings.{bindings_of, binding_at, new_binding}
use Rattle.js_scopes.specs.Lookup.{builtin_of, IsFound}
use Rattle.js_scopes.specs.Names.{or_dead_zone, value_found}
use Rattle.js_scopes.specs.declared.lookup.Lookup.{Lookup}
use Rattle.js_scopes.specs.declared.lookup.Lookup.TheVariants.{Bound, Property, Builtin, Nowhere}

plain_is_held : (one : ItemKind) → IsPlain one → IsHeld one
plain_is_held kind.Plain is = tt
plain_is_held _ is = absurd is

-- ---- bindings

bindings_sound : (s : Store) (n : ℕ) (one : Item) → IsSound s n one → All (IsSoundBinding s) (bindings_of one)
bindings_sound s n (item.Scope parent bindings functions) sound = sound.1
bindings_sound s n _ sound = λ k d within. absurd (omega (arith, within))

dead_zone_sound : (s : Store) (v : Option Value) → IfSome v (IsSoundValue s) → IfOk (or_dead_zone v) (IsSoundValue s)
dead_zone_sound s (Some v) sound = sound
dead_zone_sound s None sound = tt

-- ---- properties and built-in names

properties_sound : (s : Store) (n : ℕ) (one : Item) (name : List ℕ) → IsSound s n one → IfSome (value_at (properties one) name) (IsSoundValue s)
properties_sound s n (item.Plain props) name sound = All-lookup (IsSoundValue s) (is_key name) props sound
properties_sound s n _ name sound = tt

builtin_sound : (s : Store) (global : ℕ) (name : List ℕ) (v : Value) → IsAt IsPlain s global → builtin_of global name ≡ Some v → IsSoundValue s v
unfolding builtin_of
builtin_sound s global name v at is = by (is_key name (codes "globalThis")) is
  where
    held : IsAt IsHeld s global
    held = record { there = at.there; fits = plain_is_held (kind_of (item_at s global)) at.fits }

    by : (same : Bool) → (if same then Some (value.Item global) else None) ≡ Some v → IsSoundValue s v
    by true is = let e : value.Item global ≡ v = cc in subst (IsSoundValue s) e held
    by false is = absurd (cc)

-- ---- all names

pub value_sound : (s : Store) (global : ℕ) (name : List ℕ) (found : Lookup)
    → IsClosed s → IsAt IsPlain s global → IsFound s global name found → IfOk (value_found s found) (IsSoundValue s)
value_sound s global name (Bound at) closed object there =
    dead_zone_sound s (binding_at (item_at s at.scope) at.place).value
    (bindings_sound s at.scope (item_at s at.scope) (closed.sound at.scope there.scope.there) at.place (new_binding [] false) there.within)
value_sound s global name (Property v) closed object there =
    subst (λ one. IfSome one (IsSoundValue s)) there (properties_sound s global (item_at s global) name (closed.sound global object.there))
value_sound s global name (Builtin v) closed object there = builtin_sound s global name v object there
value_sound s global name Nowhere closed object there = tt
