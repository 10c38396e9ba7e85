-- Lists of pairs by their keys.
use Rattle.std.proofs.Common.{◌≡◌, ℕ, zero, suc, Some, Bool, true, false, List, [], ◌∷◌, ◌++◌, ◌||◌, if◌then◌else◌, refl, ap, true≢false, sym, ◌∙◌}
use Rattle.std.specs.List.{list_any}
use Rattle.std.specs.Map.{keys_of}
use Rattle.indexmap.specs.Layout.{set_value_at}
use Rattle.indexmap.proofs.MapLemmas.{insert_entry-first, Found-position}
use Rattle.std.specs.Prelude.{position}
use Rattle.ivm_text.specs.Keys.{is_key, with_value}

-- a new key goes last
pub with_value_new : {V : Type 0} (pairs : List (List ℕ × V)) (key : List ℕ) (v : V)
    → list_any (is_key key) (keys_of pairs) ≡ false → with_value pairs key v ≡ pairs ++ (key, v) ∷ []
with_value_new [] key v new = refl
with_value_new {V} (p ∷ pairs) key v new = by (is_key key p.0) refl (λ h. with_value_new pairs key v h)
  where
    by : (b : Bool) → is_key key p.0 ≡ b → (list_any (is_key key) (keys_of pairs) ≡ false → with_value pairs key v ≡ pairs ++ (key, v) ∷ [])
        → with_value (p ∷ pairs) key v ≡ (p ∷ pairs) ++ (key, v) ∷ []
    by true e more = absurd (true≢false (sym (ap (λ b. b || list_any (is_key key) (keys_of pairs)) e) ∙ new))
    by false e more =
        ap (λ b. if b then (p.0, v) ∷ pairs else p ∷ with_value pairs key v) e
        ∙ ap (λ rest. p ∷ rest) (more (sym (ap (λ b. b || list_any (is_key key) (keys_of pairs)) e) ∙ new))

-- a present key keeps its place
pub with_value_present : {V : Type 0} (pairs : List (List ℕ × V)) (key : List ℕ) (v : V) (i : ℕ)
    → position (is_key key) (keys_of pairs) ≡ Some i → set_value_at pairs i v ≡ with_value pairs key v
with_value_present pairs key v i at = sym (insert_entry-first is_key key v pairs i (Found-position (is_key key) pairs i at).first)

-- a value in another's place leaves the keys
pub keys-set_value_at : {V : Type 0} (pairs : List (List ℕ × V)) (i : ℕ) (v : V) → keys_of (set_value_at pairs i v) ≡ keys_of pairs
keys-set_value_at [] i v = refl
keys-set_value_at (p ∷ pairs) zero v = refl
keys-set_value_at (p ∷ pairs) (suc i) v = ap (λ keys. p.0 ∷ keys) (keys-set_value_at pairs i v)
