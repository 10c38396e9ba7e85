-- A word compared with bytes, unit by unit.
use Rattle.std.proofs.Common.{◌≡◌, ℕ, ◌+◌, ◌<◌, ◌≤◌, true, false, not, eqb, Option, Some, List, length, take, get_or, sym, ap, subst, ◌∙◌, arith}
use Rattle.std.specs.List.{slice_get}
use Rattle.std.specs.Option.{option_eq}
use Rattle.std.specs.Str.{bytes_eq}
use Rattle.std.proofs.lemmas.Bool.{false_from_ne_true}
use Rattle.std.proofs.lemmas.List.{take_all, take_more_same}
use Rattle.std.proofs.lemmas.Option.{slice_get-get_or}
use Rattle.std.proofs.lemmas.Slice.Eq.{bytes_eq-Decides}
use Rattle.std.proofs.lemmas.Bool.Decides.{nat_tests}

-- the unit at a place isn't the byte there
pub differs_at : (bytes word : List ℕ) (i : ℕ) (o : Option ℕ) → i < length bytes → o ≡ slice_get word i
    → not (option_eq eqb o (Some (get_or bytes i 0))) ≡ true → false ≡ bytes_eq bytes word
differs_at bytes word i o within e apart = sym (false_from_ne_true (bytes_eq bytes word) (λ same.
    let equal : bytes ≡ word = (bytes_eq-Decides bytes word).0 same in
    let there : o ≡ Some (get_or bytes i 0) = e ∙ ap (λ w. slice_get w i) (sym equal) ∙ slice_get-get_or bytes i 0 within in
    apart_itself (get_or bytes i 0) (subst (λ u. not (option_eq eqb u (Some (get_or bytes i 0))) ≡ true) there apart)))
  where
    apart_itself : (n : ℕ) → not (option_eq eqb (Some n) (Some n)) ≡ true → ⊥
    apart_itself n h = grind (arith, nat_tests)

pub same_at : (bytes word : List ℕ) (i : ℕ) (o : Option ℕ) → i < length bytes → length word ≡ length bytes → o ≡ slice_get word i
    → not (option_eq eqb o (Some (get_or bytes i 0))) ≡ false → take i bytes ≡ take i word → take (i + 1) bytes ≡ take (i + 1) word
same_at bytes word i o within long e equal before =
    take_more_same bytes word i 0 within (omega arith) before
    (sym (equal_some (get_or word i 0) (get_or bytes i 0)
    (subst (λ u. not (option_eq eqb u (Some (get_or bytes i 0))) ≡ false) (e ∙ slice_get-get_or word i 0 (omega arith)) equal)))
  where
    equal_some : (m n : ℕ) → not (option_eq eqb (Some m) (Some n)) ≡ false → m ≡ n
    equal_some m n h = grind (arith, nat_tests)

pub same_whole : (bytes word : List ℕ) (i : ℕ) → length word ≡ length bytes → length bytes ≤ i → take i bytes ≡ take i word → true ≡ bytes_eq bytes word
same_whole bytes word i long past same =
    sym ((bytes_eq-Decides bytes word).1 (sym (take_all i bytes past) ∙ same ∙ take_all i word (omega arith)))
