-- Where a write goes, there is an item of the kind that it needs.
use Rattle.std.proofs.Common.{◌≡◌, ℕ, ◌<◌, List, Bool, true, false, Option, Some, None, length, refl, arith, subst, sym}
use Rattle.std.specs.Prelude.{nat_eq, nat_lt, if◌then◌else◌}
use Rattle.ivm_text.specs.KeyOrder.{index_of}
use Rattle.charged_heap.specs.Store.{Store, IsAt, IsPlain, IsArray, item_at, elements, kind_of}
use Rattle.charged_heap.specs.Closed.{IsSoundValue}
use Rattle.charged_heap.specs.declared.item.Item.{Item}
use Rattle.charged_heap.specs.declared.item.Item.TheVariants as item
use Rattle.charged_heap.specs.declared.values.Value.{Value}
use Rattle.charged_heap.specs.declared.values.Value.TheVariants as value
use Rattle.js_ops.specs.declared.error.ScriptError.TheVariants.{PastEnd}
use Rattle.js_members.specs.declared.target.Target.TheVariants.{Element, End, Refused}
use Rattle.js_members.specs.Writes.{element_target, item_target, target_of, FitsTarget}

element_fits : (s : Store) (n : ℕ) (values : List Value) (index : Option ℕ) → item.Array values ≡ item_at s n → n < length s.items
    → FitsTarget s (element_target n values index)
element_fits s n values None is within = tt
element_fits s n values (Some k) is within = by (nat_lt k (length values)) (nat_eq k (length values)) refl
  where
    array : IsAt IsArray s n
    array = record { there = within; fits = subst (λ one. IsArray (kind_of one)) is tt }

    by : (below here : Bool) → below ≡ nat_lt k (length values)
        → FitsTarget s (if below then Element n k else if here then End n else Refused PastEnd)
    by true here is_below = record { array = array; within = subst (λ one. k < length (elements one)) is (grind (arith, sym is_below)) }
    by false true is_below = array
    by false false is_below = tt

item_fits : (s : Store) (n : ℕ) (one : Item) (key : List ℕ) → one ≡ item_at s n → n < length s.items → FitsTarget s (item_target n one key)
item_fits s n (item.Plain props) key is within = record { there = within; fits = subst (λ one. IsPlain (kind_of one)) is tt }
item_fits s n (item.Array values) key is within = element_fits s n values (index_of key) is within
item_fits s n _ key is within = tt

pub target_fits : (s : Store) (base : Value) (key : List ℕ) → IsSoundValue s base → FitsTarget s (target_of s base key)
unfolding target_of
target_fits s (value.Item n) key sound = item_fits s n (item_at s n) key refl sound.there
target_fits s _ key sound = tt
