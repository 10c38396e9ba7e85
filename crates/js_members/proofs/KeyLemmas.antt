-- Keys compared unit by unit.
use Rattle.std.proofs.Common.{◌≡◌, ℕ, ◌+◌, ◌<◌, ◌&&◌, List, false, length, drop, get_or, refl, arith, add-one}
use Rattle.std.specs.Prelude.{nat_eq}
use Rattle.std.proofs.Math.Seq.{drop-cons}
use Rattle.ivm_text.specs.Keys.{is_key}

-- two keys from a place on are the same where their units there are, and the rest
key_from : (a b : List ℕ) (i : ℕ) → i < length a → i < length b
    → is_key (drop i a) (drop i b) ≡ (nat_eq (get_or a i 0) (get_or b i 0) && is_key (drop (i + 1) a) (drop (i + 1) b))
key_from a b i in_a in_b = rw (add-one, drop-cons a i 0 in_a, drop-cons b i 0 in_b) refl

-- the units there are the same
pub key_goes_on : (a b : List ℕ) (i : ℕ) → i < length a → i < length b → get_or a i 0 ≡ get_or b i 0
    → is_key (drop (i + 1) a) (drop (i + 1) b) ≡ is_key (drop i a) (drop i b)
key_goes_on a b i in_a in_b same = grind (arith, key_from a b i in_a in_b)

-- they aren't
pub key_ends : (a b : List ℕ) (i : ℕ) → i < length a → i < length b → (get_or a i 0 ≡ get_or b i 0 → ⊥)
    → is_key (drop i a) (drop i b) ≡ false
key_ends a b i in_a in_b differ = grind (arith, key_from a b i in_a in_b)
