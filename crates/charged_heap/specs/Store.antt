-- What contracts see of a heap, and how it changes.
-- This project's own; docs/PRICES.md, "Cells". No statement about ECMA-262.
use Rattle.std.specs.Prelude.{ℕ, ◌<◌, zero, suc, List, [], ◌∷◌, ◌++◌, length, slice_index_or, slice_set, Bool, true, Some, if◌then◌else◌}
use Rattle.std.specs.List.{list_any}
use Rattle.ivm_text.specs.Keys.{is_key, with_value}
use Rattle.charged_heap.specs.declared.item.Item.{Item}
use Rattle.charged_heap.specs.declared.item.Item.TheVariants.{Text, Plain, Array, Error, Scope, Closure, Promise, Settler, Reference, Deref, External, Into, Callback, Row, Script}
use Rattle.charged_heap.specs.declared.item.ItemKind.{ItemKind}
use Rattle.charged_heap.specs.declared.item.ItemKind.TheVariants as kind
use Rattle.charged_heap.specs.declared.values.Value.{Value}
use Rattle.charged_heap.specs.declared.values.Binding.{Binding}
use Rattle.charged_heap.specs.declared.values.PromiseState.{PromiseState}
use Rattle.charged_heap.specs.declared.values.Reaction.{Reaction}

-- the items in the order in which they were made, and the most cells that they may cost together
pub record Store : Type 0 where
  pub items : List Item
  pub limit : ℕ

-- the item with the number n, or one that stands for none
abbrev pub item_at : Store → ℕ → Item
item_at s n = slice_index_or s.items n (Script 0)

-- ---- kinds

-- which kind of item it is
abbrev pub kind_of : Item → ItemKind
kind_of (Text units) = kind.Text
kind_of (Plain props) = kind.Plain
kind_of (Array values) = kind.Array
kind_of (Error sort message) = kind.Error
kind_of (Scope parent bindings functions) = kind.Scope
kind_of (Closure script node scope global receiver) = kind.Closure
kind_of (Promise state reactions) = kind.Promise
kind_of (Settler promise good) = kind.Settler
kind_of (Reference to released) = kind.Reference
kind_of (Deref handle) = kind.Deref
kind_of (External copy) = kind.External
kind_of (Into copy) = kind.Into
kind_of (Callback callback) = kind.Callback
kind_of (Row value) = kind.Row
kind_of (Script script) = kind.Script

-- there is an item with the number n, and it is of one of these kinds
pub record IsAt (wanted : ItemKind → Type 0) (s : Store) (n : ℕ) : Type 0 where
  pub there : n < length s.items
  pub fits : wanted (kind_of (item_at s n))

abbrev pub IsText : ItemKind → Type 0
IsText kind.Text = Unit {0}
IsText _ = ⊥

abbrev pub IsPlain : ItemKind → Type 0
IsPlain kind.Plain = Unit {0}
IsPlain _ = ⊥

abbrev pub IsArray : ItemKind → Type 0
IsArray kind.Array = Unit {0}
IsArray _ = ⊥

abbrev pub IsScope : ItemKind → Type 0
IsScope kind.Scope = Unit {0}
IsScope _ = ⊥

abbrev pub IsPromise : ItemKind → Type 0
IsPromise kind.Promise = Unit {0}
IsPromise _ = ⊥

abbrev pub IsReference : ItemKind → Type 0
IsReference kind.Reference = Unit {0}
IsReference _ = ⊥

-- ---- parts of an item, and nothing at an item of another kind

abbrev pub properties : Item → List (List ℕ × Value)
properties (Plain props) = props
properties _ = []

abbrev pub elements : Item → List Value
elements (Array values) = values
elements _ = []

-- how many places there are for `put`: elements of an array, bindings of a scope
abbrev pub place_count : Item → ℕ
place_count (Array values) = length values
place_count (Scope parent bindings functions) = length bindings
place_count _ = 0

-- ---- items with a part changed; an item of another kind stays

abbrev pub with_property : Item → List ℕ → Value → Item
with_property (Plain props) key v = Plain (with_value props key v)
with_property item key v = item

abbrev pub with_elements : Item → List Value → Item
with_elements (Array was) values = Array values
with_elements item values = item

-- a binding that has a value from now on
abbrev pub with_value_of : Binding → Value → Binding
with_value_of b v = record { name = b.name; constant = b.constant; value = Some v }

-- the bindings, that at the place with a value; a place past the end changes nothing
abbrev pub with_bound : List Binding → ℕ → Value → List Binding
with_bound [] place v = []
with_bound (b ∷ bs) zero v = with_value_of b v ∷ bs
with_bound (b ∷ bs) (suc place) v = b ∷ with_bound bs place v

-- the element or the binding's value at the place replaced
abbrev pub with_place : Item → ℕ → Value → Item
with_place (Array values) place v = Array (slice_set values place v)
with_place (Scope parent bindings functions) place v = Scope parent (with_bound bindings place v) functions
with_place item place v = item

abbrev pub with_binding : Item → Binding → Item
with_binding (Scope parent all functions) b = Scope parent (all ++ b ∷ []) functions
with_binding item b = item

-- whether the name is among those noted
abbrev pub is_noted : List (List ℕ) → List ℕ → Bool
is_noted names name = list_any (λ other. is_key other name) names

-- the names with one more, where it isn't there
abbrev pub with_name : List (List ℕ) → List ℕ → List (List ℕ)
with_name names name = if is_noted names name then names else names ++ name ∷ []

-- the name noted as a function's
abbrev pub with_function : Item → List ℕ → Item
with_function (Scope parent bindings functions) name =
    Scope parent bindings (with_name functions name)
with_function item name = item

abbrev pub with_reaction : Item → Reaction → Item
with_reaction (Promise state all) r = Promise state (all ++ r ∷ [])
with_reaction item r = item

abbrev pub with_state : Item → PromiseState → Item
with_state (Promise was reactions) state = Promise state reactions
with_state item state = item

abbrev pub released : Item → Item
released (Reference to was) = Reference to true
released item = item

-- ---- stores with one change

-- one more item, or several, behind all others
abbrev pub with_more : Store → Item → Store
with_more s item = record { items = s.items ++ item ∷ []; limit = s.limit }

abbrev pub with_all : Store → List Item → Store
with_all s more = record { items = s.items ++ more; limit = s.limit }

-- the item with the number n replaced, and no other
abbrev pub with_item : Store → ℕ → Item → Store
with_item s n item = record { items = slice_set s.items n item; limit = s.limit }
