-- When every item number in a store names what its place asks for.
-- This project's own; docs/PRICES.md, "Cells". No statement about ECMA-262.
use Rattle.std.specs.Prelude.{ℕ, ◌+◌, ◌<◌, List, length, slice_index_or, IfSome}
use Rattle.std.specs.List.{All}
use Rattle.charged_heap.specs.Store.{Store, IsAt, IsText, IsPlain, IsScope, IsPromise, item_at, with_all}
use Rattle.charged_heap.specs.declared.item.Item.{Item}
use Rattle.charged_heap.specs.declared.item.Item.TheVariants.{Text, Plain, Array, Error, Scope, Closure, Promise, Settler, Reference, Deref, External, Into, Callback, Row, Script}
use Rattle.charged_heap.specs.declared.item.ItemKind.{ItemKind}
use Rattle.charged_heap.specs.declared.item.ItemKind.TheVariants as kind
use Rattle.charged_heap.specs.declared.values.Value.{Value}
use Rattle.charged_heap.specs.declared.values.Value.TheVariants as value
use Rattle.charged_heap.specs.declared.values.Binding.{Binding}
use Rattle.charged_heap.specs.declared.values.PromiseState.{PromiseState}
use Rattle.charged_heap.specs.declared.values.PromiseState.TheVariants as state
use Rattle.charged_heap.specs.declared.values.Reaction.{Reaction}

-- an item that a script can hold: neither a scope nor a row nor a script
abbrev pub IsHeld : ItemKind → Type 0
IsHeld kind.Scope = ⊥
IsHeld kind.Row = ⊥
IsHeld kind.Script = ⊥
IsHeld _ = Unit {0}

-- the value is an item that can be held, or no item
abbrev pub IsSoundValue : Store → Value → Type 0
IsSoundValue s (value.Item n) = IsAt IsHeld s n
IsSoundValue s _ = Unit {0}

-- so is a binding's value, where it has one
abbrev pub IsSoundBinding : Store → Binding → Type 0
IsSoundBinding s b = IfSome b.value (IsSoundValue s)

-- so are the value and the reason of a settled promise
abbrev pub IsSoundState : Store → PromiseState → Type 0
IsSoundState s (state.Fulfilled v) = IsSoundValue s v
IsSoundState s (state.Rejected v) = IsSoundValue s v
IsSoundState s _ = Unit {0}

-- so are a reaction's handlers, and its next promise is one
pub record IsSoundReaction (s : Store) (r : Reaction) : Type 0 where
  pub good : IsSoundValue s r.good
  pub bad : IsSoundValue s r.bad
  pub next : IfSome r.next (IsAt IsPromise s)

-- the scope with the number n has a scope of a lower number as its parent
pub record IsParentOf (s : Store) (n parent : ℕ) : Type 0 where
  pub below : parent < n
  pub scope : IsAt IsScope s parent

-- a function keeps a scope, a global object and a receiver
pub record IsSoundClosure (s : Store) (scope global : ℕ) (receiver : Value) : Type 0 where
  pub in_scope : IsAt IsScope s scope
  pub of_global : IsAt IsPlain s global
  pub with_receiver : IsSoundValue s receiver

-- all that an item with the number n names is what its place asks for
abbrev pub IsSound : Store → ℕ → Item → Type 0
IsSound s n (Text units) = Unit {0}
IsSound s n (Plain props) = All (λ p. IsSoundValue s p.1) props
IsSound s n (Array values) = All (IsSoundValue s) values
IsSound s n (Error sort message) = IsAt IsText s message
IsSound s n (Scope parent bindings functions) = IfSome parent (IsParentOf s n) × All (IsSoundBinding s) bindings
IsSound s n (Closure script node scope global receiver) = IsSoundClosure s scope global receiver
IsSound s n (Promise promised reactions) = IsSoundState s promised × All (IsSoundReaction s) reactions
IsSound s n (Settler promise good) = IsAt IsPromise s promise
IsSound s n (Reference to released) = Unit {0}
IsSound s n (Deref handle) = Unit {0}
IsSound s n (External copy) = Unit {0}
IsSound s n (Into copy) = Unit {0}
IsSound s n (Callback callback) = Unit {0}
IsSound s n (Row v) = IsSoundValue s v
IsSound s n (Script script) = Unit {0}

-- each item of the store is sound there
pub record IsClosed (s : Store) : Type 0 where
  pub sound : (n : ℕ) → n < length s.items → IsSound s n (item_at s n)

-- each of these items is sound once all of them stand behind those of the store
pub record AreSound (s : Store) (more : List Item) : Type 0 where
  pub sound : (k : ℕ) → k < length more → IsSound (with_all s more) (length s.items + k) (slice_index_or more k (Script 0))
