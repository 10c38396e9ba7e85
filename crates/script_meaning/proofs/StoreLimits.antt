-- Each change of a store stays within the limit: what is added was asked for, and what is replaced costs no more.
use Rattle.std.proofs.Common.{◌≡◌, ◌∙◌, ℕ, zero, suc, ◌+◌, ◌-◌, ◌≤◌, List, [], ◌∷◌, ◌++◌, length, take, Bool, true, false, Option, Some, None, Result, Ok, Err, refl, ap, sym, subst, arith, is_some, length-append}
use Rattle.std.specs.Prelude.{nat_le, slice_index_or, slice_set, if◌then◌else◌}
use Rattle.std.proofs.lemmas.List.Sums.{sum_by-append, sum_by-cons}
use Rattle.ivm_text.specs.Keys.{value_at}
use Rattle.charged_heap.specs.Ends.{Ends, and_then, item_made}
use Rattle.charged_heap.specs.Price.{charge_of, price_of}
use Rattle.charged_heap.specs.Room.{overrun_of}
use Rattle.charged_heap.specs.Store.{Store, item_at, elements, with_more, with_item, with_property, with_elements, with_place, with_bound, with_binding, with_function}
use Rattle.charged_heap.specs.declared.fault.Fail.{Fail}
use Rattle.charged_heap.specs.declared.fault.Fail.TheVariants.{Over}
use Rattle.charged_heap.specs.declared.item.Item.{Item}
use Rattle.charged_heap.specs.declared.item.Item.TheVariants as item
use Rattle.charged_heap.specs.declared.price.TheConstants.{ELEMENT_CELLS, BINDING_CELLS}
use Rattle.charged_heap.specs.declared.values.Binding.{Binding}
use Rattle.charged_heap.specs.declared.values.Value.{Value}
use Rattle.charged_heap.proofs.Charges.{sum-with_value}
use Rattle.js_members.specs.Writes.{price_at}
use Rattle.script_meaning.specs.Limits.{StaysWithin, TellsResult, EndsWithin}

-- ---- one change after another

pub stays : (s : Store) → StaysWithin s s
stays s = record { limit = refl; charge = λ within. within }

pub stays-then : (a b c : Store) → StaysWithin a b → StaysWithin b c → StaysWithin a c
stays-then a b c one more = record { limit = more.limit ∙ one.limit; charge = λ within. more.charge (one.charge within) }

-- ---- what is added

pub added : (s : Store) (one : Item) → charge_of s.items + price_of one ≤ s.limit → StaysWithin s (with_more s one)
added s one fits = record { limit = refl; charge = λ within. omega (arith, fits, sum_by-append price_of s.items (one ∷ []), sum_by-cons price_of one []) }

-- ---- what is replaced

replaced_charge : (items : List Item) (n : ℕ) (one : Item) (more : ℕ) → price_of one ≤ price_of (slice_index_or items n (item.Script 0)) + more
    → charge_of (slice_set items n one) ≤ charge_of items + more
replaced_charge [] n one more most = omega arith
replaced_charge (first ∷ items) zero one more most = omega (arith, most, sum_by-cons price_of one items, sum_by-cons price_of first items)
replaced_charge (first ∷ items) (suc n) one more most =
    omega (arith, replaced_charge items n one more most, sum_by-cons price_of first (slice_set items n one), sum_by-cons price_of first items)

pub replaced : (s : Store) (n : ℕ) (one : Item) (more : ℕ) → price_of one ≤ price_of (item_at s n) + more → charge_of s.items + more ≤ s.limit → StaysWithin s (with_item s n one)
replaced s n one more most fits = record { limit = refl; charge = λ within. omega (arith, fits, replaced_charge s.items n one more most) }

-- by what costs no more
pub as_dear : (s : Store) (n : ℕ) (one : Item) → price_of one ≤ price_of (item_at s n) → StaysWithin s (with_item s n one)
as_dear s n one most =
    record { limit = refl; charge = λ within. omega (arith, within, replaced_charge s.items n one 0 (omega (arith, most))) }

-- ---- what an item costs with a part changed

pub property_price_at : (one : Item) (key : List ℕ) (v : Value) → price_of (with_property one key v) ≤ price_of one + price_at one key
property_price_at (item.Plain props) key v = omega (arith, sum-with_value props key v)
property_price_at _ key v = omega arith

pub element_price : (one : Item) (v : Value) → price_of (with_elements one (elements one ++ v ∷ [])) ≤ price_of one + ELEMENT_CELLS
element_price (item.Array values) v = omega (arith, length-append values (v ∷ []))
element_price _ v = omega arith

pub elements_price : (one : Item) (values : List Value) → length values ≤ length (elements one) → price_of (with_elements one values) ≤ price_of one
elements_price (item.Array was) values fewer = omega (arith, fewer)
elements_price _ values fewer = omega arith

pub binding_price : (one : Item) (b : Binding) → price_of (with_binding one b) ≤ price_of one + BINDING_CELLS
binding_price (item.Scope parent bindings functions) b = omega (arith, length-append bindings (b ∷ []))
binding_price _ b = omega arith

pub function_price : (one : Item) (name : List ℕ) → price_of (with_function one name) ≤ price_of one
function_price (item.Scope parent bindings functions) name = omega arith
function_price _ name = omega arith

values_set : (values : List Value) (place : ℕ) (v : Value) → length (slice_set values place v) ≡ length values
values_set [] place v = refl
values_set (first ∷ values) zero v = refl
values_set (first ∷ values) (suc place) v = ap suc (values_set values place v)

bindings_set : (bindings : List Binding) (place : ℕ) (v : Value) → length (with_bound bindings place v) ≡ length bindings
bindings_set [] place v = refl
bindings_set (first ∷ bindings) zero v = refl
bindings_set (first ∷ bindings) (suc place) v = ap suc (bindings_set bindings place v)

pub place_price : (one : Item) (place : ℕ) (v : Value) → price_of (with_place one place v) ≤ price_of one
place_price (item.Array values) place v = omega (arith, values_set values place v)
place_price (item.Scope parent bindings functions) place v = omega (arith, bindings_set bindings place v)
place_price _ place v = omega arith

-- ---- calls over a heap

-- nothing changes
pub same_store : {A : Type 0} (s : Store) (result : Result A Fail) → TellsResult s result → EndsWithin s (result, s)
same_store s result told = (stays s, told)

-- one change, and then a call
pub then_ends : {A : Type 0} (s t : Store) (ends : Ends A) → StaysWithin s t → EndsWithin t ends → EndsWithin s ends
then_ends s t (result, after) one more = (stays-then s t after one more.0, more.1)

pub ends_then : {A B : Type 0} (s : Store) (ends : Ends A) (next : A → Store → Ends B) → EndsWithin s ends → ((a : A) (t : Store) → EndsWithin t (next a t)) → EndsWithin s (and_then ends next)
ends_then s (Ok a, t) next one each = then_ends s t (next a t) one.0 (each a t)
ends_then s (Err failed, t) next one each = one

-- so many cells asked, and then a call
pub asked_first : {A : Type 0} (s : Store) (asked : ℕ) (rest : Ends A) → (charge_of s.items + asked ≤ s.limit → EndsWithin s rest)
    → EndsWithin s (if nat_le (charge_of s.items + asked) s.limit then rest else (Err (Over (overrun_of s asked)), s))
asked_first {A} s asked rest fits = by (nat_le (charge_of s.items + asked) s.limit) refl
  where
    by : (is : Bool) → is ≡ nat_le (charge_of s.items + asked) s.limit → EndsWithin s (if is then rest else (Err (Over (overrun_of s asked)), s))
    by true is = fits (grind (arith, sym is))
    by false is = (stays s, (asked, record { over = grind (arith, sym is); numbers = refl }))

pub item_ends : (one : Item) (s : Store) → EndsWithin s (item_made one s)
item_ends one s = asked_first s (price_of one) (Ok (length s.items), with_more s one) (λ fits. (added s one fits, tt))
