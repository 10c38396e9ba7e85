-- Stores that grow: nothing happens, one thing after another, and each change of a heap.
use Rattle.std.proofs.Common.{◌≡◌, ◌⊎◌, ℕ, ◌<◌, ◌∙◌, List, [], ◌∷◌, length, refl, ap, sym, subst, arith, inl, inr, length-append}
use Rattle.std.specs.Prelude.{slice_index_or, slice_set}
use Rattle.std.proofs.lemmas.Bool.{cases_eq}
use Rattle.std.proofs.lemmas.List.{get_or_append_left, get_or-set_same, get_or-set_other, length-set}
use Rattle.charged_heap.specs.declared.item.Item.{Item}
use Rattle.charged_heap.specs.declared.item.Item.TheVariants.{Plain, Array, Scope, Promise, Reference, Script}
use Rattle.charged_heap.specs.declared.item.ItemKind.{ItemKind}
use Rattle.charged_heap.specs.declared.values.Value.{Value}
use Rattle.charged_heap.specs.declared.values.Binding.{Binding}
use Rattle.charged_heap.specs.declared.values.PromiseState.{PromiseState}
use Rattle.charged_heap.specs.declared.values.Reaction.{Reaction}
use Rattle.charged_heap.specs.Store.{Store, IsAt, item_at, kind_of, with_all, with_more, with_item, with_property, with_elements, with_place, with_binding, with_function, with_reaction, with_state, released}
use Rattle.charged_heap.specs.Growth.{Grows}

pub grows-refl : (s : Store) → Grows s s
grows-refl s = record { limit = refl; items_stay = omega arith; kinds_stay = λ n within. refl }

pub grows_same : (s t : Store) → t ≡ s → Grows s t
grows_same s t e = subst (λ u. Grows s u) (sym e) (grows-refl s)

pub grows_then : (s t u : Store) → Grows s t → Grows t u → Grows s u
grows_then s t u a b = record {
  limit = b.limit ∙ a.limit;
  items_stay = omega (arith, a.items_stay, b.items_stay);
  kinds_stay = λ n within. b.kinds_stay n (omega (arith, a.items_stay)) ∙ a.kinds_stay n within;
}

-- an item that is there stays there, and of its kind
pub at_grows : {wanted : ItemKind → Type 0} (s t : Store) (n : ℕ) → Grows s t → IsAt wanted s n → IsAt wanted t n
at_grows {wanted} s t n grows at = record {
  there = omega (arith, grows.items_stay, at.there);
  fits = subst wanted (sym (grows.kinds_stay n at.there)) at.fits;
}

pub grows_all : (s t : Store) (more : List Item) → t ≡ with_all s more → Grows s t
grows_all s t more e = subst (λ u. Grows s u) (sym e) (record {
  limit = refl;
  items_stay = omega (arith, length-append s.items more);
  kinds_stay = λ n within. ap kind_of (get_or_append_left s.items more (Script 0) n within);
})

pub grows_more : (s t : Store) (item : Item) → t ≡ with_more s item → Grows s t
grows_more s t item e = grows_all s t (item ∷ []) e

pub grows_item : (s t : Store) (n : ℕ) (item : Item) → t ≡ with_item s n item → kind_of item ≡ kind_of (item_at s n) → Grows s t
grows_item s t n item e same = subst (λ u. Grows s u) (sym e) (record {
  limit = refl;
  items_stay = omega (arith, length-set s.items n item);
  kinds_stay = λ k within. by k within (cases_eq k n);
})
  where
    by : (k : ℕ) → k < length s.items → (k ≡ n) ⊎ (k ≡ n → ⊥) → kind_of (item_at (with_item s n item) k) ≡ kind_of (item_at s k)
    by k within (inl here) =
        subst (λ j. kind_of (slice_index_or (slice_set s.items n item) j (Script 0)) ≡ kind_of (item_at s j)) (sym here)
        (ap kind_of (get_or-set_same s.items n item (Script 0) (subst (λ j. j < length s.items) here within)) ∙ same)
    by k within (inr there) = ap kind_of (get_or-set_other s.items n k item (Script 0) there)

-- ---- no change of a part changes the kind

pub kind-with_property : (item : Item) (key : List ℕ) (v : Value) → kind_of (with_property item key v) ≡ kind_of item
kind-with_property (Plain props) key v = refl
kind-with_property _ key v = refl

pub kind-with_elements : (item : Item) (values : List Value) → kind_of (with_elements item values) ≡ kind_of item
kind-with_elements (Array was) values = refl
kind-with_elements _ values = refl

pub kind-with_place : (item : Item) (place : ℕ) (v : Value) → kind_of (with_place item place v) ≡ kind_of item
kind-with_place (Array was) place v = refl
kind-with_place (Scope parent bindings functions) place v = refl
kind-with_place _ place v = refl

pub kind-with_binding : (item : Item) (b : Binding) → kind_of (with_binding item b) ≡ kind_of item
kind-with_binding (Scope parent bindings functions) b = refl
kind-with_binding _ b = refl

pub kind-with_function : (item : Item) (name : List ℕ) → kind_of (with_function item name) ≡ kind_of item
kind-with_function (Scope parent bindings functions) name = refl
kind-with_function _ name = refl

pub kind-with_reaction : (item : Item) (r : Reaction) → kind_of (with_reaction item r) ≡ kind_of item
kind-with_reaction (Promise state reactions) r = refl
kind-with_reaction _ r = refl

pub kind-with_state : (item : Item) (state : PromiseState) → kind_of (with_state item state) ≡ kind_of item
kind-with_state (Promise was reactions) state = refl
kind-with_state _ state = refl

pub kind-released : (item : Item) → kind_of (released item) ≡ kind_of item
kind-released (Reference to was) = refl
kind-released _ = refl

pub grows_property : (s t : Store) (n : ℕ) (key : List ℕ) (v : Value) → t ≡ with_item s n (with_property (item_at s n) key v) → Grows s t
grows_property s t n key v e = grows_item s t n (with_property (item_at s n) key v) e (kind-with_property (item_at s n) key v)

pub grows_place : (s t : Store) (n place : ℕ) (v : Value) → t ≡ with_item s n (with_place (item_at s n) place v) → Grows s t
grows_place s t n place v e = grows_item s t n (with_place (item_at s n) place v) e (kind-with_place (item_at s n) place v)
