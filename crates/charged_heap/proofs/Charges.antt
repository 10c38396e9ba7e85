-- Sums of prices.
use Rattle.std.specs.Prelude.{slice_get}
use Rattle.std.proofs.Common.{◌≡◌, ℕ, ◌+◌, zero, suc, take, ◌≤◌, List, [], ◌∷◌, length, sum_by, arith, is_some, cond, if◌then◌else◌, Some, true, false, refl, ap, sym, add-one}
use Rattle.std.specs.Map.{keys_of}
use Rattle.ivm_text.specs.Keys.{is_key, value_at, with_value}
use Rattle.charged_heap.specs.declared.item.Item.{Item}
use Rattle.charged_heap.specs.declared.item.Item.TheVariants.{Text, Plain, Array, Error, Scope, Closure, Promise, Settler, Reference, Deref, External, Into, Callback, Row, Script}
use Rattle.std.proofs.lemmas.List.Sums.{sum_by-cons}
use Rattle.charged_heap.specs.Price.{price_of, charge_of, property_price}

-- nothing is free
pub price_of_pos : (item : Item) → 1 ≤ price_of item
price_of_pos (Text units) = omega arith
price_of_pos (Plain props) = omega arith
price_of_pos (Array values) = omega arith
price_of_pos (Error kind message) = omega arith
price_of_pos (Scope parent bindings functions) = omega arith
price_of_pos (Closure script node scope global receiver) = omega arith
price_of_pos (Promise state reactions) = omega arith
price_of_pos (Settler promise good) = omega arith
price_of_pos (Reference to released) = omega arith
price_of_pos (Deref handle) = omega arith
price_of_pos (External copy) = omega arith
price_of_pos (Into copy) = omega arith
price_of_pos (Callback callback) = omega arith
price_of_pos (Row value) = omega arith
price_of_pos (Script script) = omega arith

-- so there are no more items than cells
pub length_le_charge : (items : List Item) → length items ≤ charge_of items
length_le_charge [] = omega arith
length_le_charge (item ∷ items) = omega (arith, sum_by-cons price_of item items, price_of_pos item, length_le_charge items)

-- a new property costs its price, and a present one nothing
pub sum-with_value : {V : Type 0} (pairs : List (List ℕ × V)) (key : List ℕ) (v : V)
    → sum_by property_price (keys_of (with_value pairs key v))
    ≡ sum_by property_price (keys_of pairs) + (if is_some (value_at pairs key) then 0 else property_price key)
sum-with_value [] key v = refl
sum-with_value {V} (p ∷ pairs) key v =
    elim (is_key key p.0) as (λ b.
    sum_by property_price (keys_of (if b then (p.0, v) ∷ pairs else p ∷ with_value pairs key v))
    ≡ sum_by property_price (keys_of (p ∷ pairs)) + (if is_some (cond b (Some p.1) (value_at pairs key)) then 0 else property_price key)) [
      | true ↦ simp sum_by-cons (omega arith)
      | false ↦ simp sum_by-cons (omega (arith, sum-with_value pairs key v))
    ]

-- one more property of those counted so far
pub sum-keys_more : {V : Type 0} (pairs : List (List ℕ × V)) (i : ℕ) (p : List ℕ × V) → slice_get pairs i ≡ Some p
    → sum_by property_price (keys_of (take (i + 1) pairs)) ≡ sum_by property_price (keys_of (take i pairs)) + property_price p.0
sum-keys_more [] i p at = absurd cc
sum-keys_more (q ∷ pairs) zero p at =
    let same : q ≡ p = cc in rw (ap (λ r. property_price r.0) (sym same)) (simp sum_by-cons (omega arith))
sum-keys_more (q ∷ pairs) (suc i) p at =
    rw add-one (simp sum_by-cons (omega (arith, rw add-one at (sum-keys_more pairs i p at))))
