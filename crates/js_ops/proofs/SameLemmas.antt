-- When two strings are the same value.
use Rattle.std.proofs.Common.{◌≡◌, ℕ, List, [], ◌∷◌, Bool, true, Some, IsTrue, refl, sym, ap, ◌∙◌, subst, inl, inr, arith}
use Rattle.ivm_text.specs.Keys.{is_key}
use Rattle.charged_heap.specs.Store.{Store, item_at}
use Rattle.charged_heap.specs.declared.item.Item.{Item as AnItem}
use Rattle.charged_heap.specs.declared.item.Item.TheVariants.{Text}
use Rattle.charged_heap.specs.declared.values.Value.{Value}
use Rattle.charged_heap.specs.declared.values.Value.TheVariants.{Item}
use Rattle.js_ops.specs.Values.{units_in, is_same_text, IsSame}

-- texts with the same units are one list
pub key_same : (a b : List ℕ) → is_key a b ≡ true → a ≡ b
key_same [] [] e = refl
key_same [] (y ∷ ys) e = absurd cc
key_same (x ∷ xs) [] e = absurd cc
key_same (x ∷ xs) (y ∷ ys) e = grind (arith, key_same xs ys)

pub key_self : (a : List ℕ) → is_key a a ≡ true
key_self [] = refl
key_self (x ∷ xs) = grind (arith, key_self xs)

-- two items are strings with the same units
texts_are : (i j : AnItem) → is_same_text i j ≡ true → (units : List ℕ) × ((units_in i ≡ Some units) × (units_in j ≡ Some units))
texts_are (Text a) (Text b) e = (a, (refl, ap Some (sym (key_same a b e))))
texts_are (Text a) _ e = absurd cc
texts_are _ _ e = absurd cc

are_texts : (i j : AnItem) (units : List ℕ) → units_in i ≡ Some units → units_in j ≡ Some units → is_same_text i j ≡ true
are_texts (Text a) (Text b) units left right = grind (arith, key_self a)
are_texts (Text a) _ units left right = absurd cc
are_texts _ _ units left right = absurd cc

-- two items with different numbers are the same exactly where they are strings with the same units
pub same_items : (s : Store) (m n : ℕ) (e : Bool) → (m ≡ n → ⊥) → e ≡ is_same_text (item_at s m) (item_at s n)
    → (IsTrue e → IsSame s (Item m) (Item n)) × (IsSame s (Item m) (Item n) → IsTrue e)
same_items s m n e differ is = (
  λ yes. inr (texts_are (item_at s m) (item_at s n) (sym is ∙ yes)),
  λ same. is ∙ by same,
)
  where
    by : IsSame s (Item m) (Item n) → is_same_text (item_at s m) (item_at s n) ≡ true
    by (inl one) = absurd (differ cc)
    by (inr texts) = are_texts (item_at s m) (item_at s n) texts.0 texts.1.0 texts.1.1

-- the same of two values that are such items
pub same_values : (s : Store) (left right : Value) (m n : ℕ) (e : Bool) → left ≡ Item m → right ≡ Item n → (m ≡ n → ⊥)
    → e ≡ is_same_text (item_at s m) (item_at s n) → (IsTrue e → IsSame s left right) × (IsSame s left right → IsTrue e)
same_values s left right m n e is_left is_right differ is =
    subst (λ v. (IsTrue e → IsSame s v right) × (IsSame s v right → IsTrue e)) (sym is_left)
    (subst (λ v. (IsTrue e → IsSame s (Item m) v) × (IsSame s (Item m) v → IsTrue e)) (sym is_right) (same_items s m n e differ is))
