-- The place of a fault is that of the first byte that no text could have there.
use Rattle.std.proofs.Common.{◌≡◌, ℕ, zero, suc, ◌+◌, ◌≤◌, ◌<◌, List, [], ◌∷◌, ◌++◌, length, take, drop, get_or, Bool, true, false, cond, ◌⊎◌, refl, sym, ap, subst, ◌∙◌, append_assoc, ⊎_elim, arith}
use Rattle.std.specs.Prelude.{nat_lt, ◌==◌, Option, None, Some}
use Rattle.std.specs.Option.{option_map_or}
use Rattle.std.specs.Int.{is_in_range}
use Rattle.std.specs.Str.{IsUtf8, is_utf8}
use Rattle.std.specs.Str.Lossy.{valid_len_up_to, utf8_valid_len, utf8_error_len, second_byte_min, second_byte_max, error_len_after_two, error_len_after_one, error_len_of_some}
use Rattle.std.proofs.lemmas.Str.{IsUtf8-from_is_utf8, is_utf8-from_IsUtf8, utf8_valid_len_le, IsUtf8-nil, IsUtf8-append, IsUtf8-encode, IsUtf8-drop, IsCharBoundary-from_take, encode_ascii}
use Rattle.std.proofs.lemmas.List.{take_at, drop_at, length-append, length-take, length-drop, get_or-drop}
use Rattle.std.proofs.lemmas.Bool.{ltb-true, eqb-true}
use Rattle.std.proofs.Math.Seq.{take-length, take-add}
use Rattle.std.proofs.Math.ListN.{take-append-drop}
use lib.Dec.{ltb}
use lib.Utf8.{low_scalar}
use Rattle.ivm_text.specs.Text.{fault_place}
use Rattle.lexer_laws.specs.FirstFault.{BeginsText, IsFirstFault}
use Rattle.lexer_laws.proofs.CharacterBytes.{cond_by, not_both, order, in_range, out_of_range, Follows, RangedAt, text_is_ranged, Second, min_cases, max_cases, second_of, two_are_text, three_are_text, four_are_text, begins_three, begins_two, begins_one}

-- ---- the longest text at the front

front_is_text : (bs : List ℕ) (m : ℕ) → IsUtf8 (take (valid_len_up_to bs m) bs)
front_is_text bs zero = IsUtf8-nil
front_is_text bs (suc m) =
    cond_by (λ n. IsUtf8 (take n bs)) (is_utf8 (take (suc m) bs)) (suc m) (valid_len_up_to bs m)
    (λ t. IsUtf8-from_is_utf8 (take (suc m) bs) t) (λ _. front_is_text bs m)

front_is_longest : (bs : List ℕ) (m k : ℕ) → valid_len_up_to bs m < k → k ≤ m → IsUtf8 (take k bs) → ⊥
front_is_longest bs zero k = λ above within u. omega arith
front_is_longest bs (suc m) k =
    cond_by (λ n. n < k → k ≤ suc m → IsUtf8 (take k bs) → ⊥) (is_utf8 (take (suc m) bs)) (suc m) (valid_len_up_to bs m)
    (λ t above within u. omega arith)
    (λ f above within u. ⊎_elim
    (λ below. front_is_longest bs m k above (omega arith) u)
    (λ whole. let same : k ≡ suc m = omega arith in
    not_both (is_utf8-from_IsUtf8 (take (suc m) bs) (subst (λ j. IsUtf8 (take j bs)) same u)) f)
    (order k (suc m)))

-- ---- the fault of bytes of which no front is a text

abbrev NoFront : List ℕ → Type 0
NoFront l = (m : ℕ) → 0 < m → m ≤ length l → IsUtf8 (take m l) → ⊥

-- the bytes end too early
ends_early : (l : List ℕ) → BeginsText l → IsFirstFault l (length l)
ends_early l b = record {
  within = omega arith;
  before = subst BeginsText (sym (take-length l)) b;
  at = λ h. absurd (omega arith);
}

first_bad : (x : ℕ) (t : List ℕ) → NoFront (x ∷ t) → (x < 194) ⊎ (244 < x) → IsFirstFault (x ∷ t) 0
first_bad x t none out = record {
  within = omega arith;
  before = ([], IsUtf8-nil);
  at = λ h begun.
      let r : RangedAt (x ∷ begun.0) = text_is_ranged (x ∷ begun.0) (omega arith) begun.1 in
      ⊎_elim
      (λ ascii. none 1 (omega arith) (omega arith) (subst IsUtf8 (encode_ascii x ascii) (IsUtf8-encode x (low_scalar x (omega arith)))))
      (λ high. ⊎_elim (λ below. let p = (r.second high).0 in omega arith) (λ above. let q = (r.fourth (omega arith)).2 in omega arith) out)
      (order x 128);
}

second_bad : (x y : ℕ) (t : List ℕ) → 194 ≤ x → x ≤ 244 → (y < second_byte_min x) ⊎ (second_byte_max x < y) → IsFirstFault (x ∷ y ∷ t) 1
second_bad x y t low high out = record {
  within = omega arith;
  before = begins_one x low high;
  at = λ h begun.
      let r : RangedAt (x ∷ y ∷ begun.0) = text_is_ranged (x ∷ y ∷ begun.0) (omega arith) begun.1 in
      let f = (r.second (omega arith)).2 in
      ⊎_elim
      (λ below. min_cases x (λ m. y < m → ⊥)
      (λ e k. let p = (r.in_three (omega arith) (omega arith)).0 in omega arith)
      (λ e k. let p = (r.fourth (omega arith)).2 in omega arith)
      (λ a b k. omega arith) below)
      (λ above. max_cases x (λ m. m < y → ⊥)
      (λ e k. ⊎_elim (λ p. omega arith) (λ p. omega arith) (r.in_three (omega arith) (omega arith)).1)
      (λ e k. let p = (r.fourth (omega arith)).2 in omega arith)
      (λ a b k. omega arith) above)
      out;
}

third_bad : (x y z : ℕ) (t : List ℕ) → 224 ≤ x → x ≤ 244 → Second x y → (z < 128) ⊎ (191 < z) → IsFirstFault (x ∷ y ∷ z ∷ t) 2
third_bad x y z t low high s out = record {
  within = omega arith;
  before = begins_two x y (omega arith) high s;
  at = λ h begun.
      let r : RangedAt (x ∷ y ∷ z ∷ begun.0) = text_is_ranged (x ∷ y ∷ z ∷ begun.0) (omega arith) begun.1 in
      let g = (r.third low).1 in
      ⊎_elim (λ p. omega arith) (λ p. omega arith) out;
}

fourth_bad : (x y z w : ℕ) (t : List ℕ) → NoFront (x ∷ y ∷ z ∷ w ∷ t) → 240 ≤ x → x ≤ 244 → Second x y → Follows z
    → IsFirstFault (x ∷ y ∷ z ∷ w ∷ t) 3
fourth_bad x y z w t none low high s g = record {
  within = omega arith;
  before = begins_three x y z (omega arith) high s g;
  at = λ h begun.
      let r : RangedAt (x ∷ y ∷ z ∷ w ∷ begun.0) = text_is_ranged (x ∷ y ∷ z ∷ w ∷ begun.0) (omega arith) begun.1 in
      none 4 (omega arith) (omega arith) (four_are_text x y z w low high s g (r.fourth low).1);
}

-- the place that an error length stands for
abbrev Faulty : List ℕ → Option ℕ → Type 0
Faulty l len = IsFirstFault l (option_map_or (λ k. k) len (length l))

after_three : (x y z : ℕ) (t : List ℕ) → NoFront (x ∷ y ∷ z ∷ t) → 224 ≤ x → x ≤ 244 → Second x y → Follows z
    → Faulty (x ∷ y ∷ z ∷ t) (cond (nat_lt (length (x ∷ y ∷ z ∷ t)) 4) None (Some 3))
after_three x y z [] none low high s g = ends_early (x ∷ y ∷ z ∷ []) (begins_three x y z low high s g)
after_three x y z (w ∷ t) none low high s g = let l = x ∷ y ∷ z ∷ w ∷ t in
    cond_by (Faulty l) (nat_lt (length l) 4) None (Some 3)
    (λ e. absurd (omega (arith, ltb-true (length l) 4 e)))
    (λ _. fourth_bad x y z w t none
    (⊎_elim (λ h. absurd (none 3 (omega arith) (omega arith) (three_are_text x y z low h s g))) (λ h. h) (order x 240)) high s g)

after_two : (x y : ℕ) (t : List ℕ) → NoFront (x ∷ y ∷ t) → 194 ≤ x → x ≤ 244 → Second x y
    → Faulty (x ∷ y ∷ t) (error_len_after_two (x ∷ y ∷ t))
after_two x y [] none low high s = ends_early (x ∷ y ∷ []) (begins_two x y low high s)
after_two x y (z ∷ t) none low high s = let l = x ∷ y ∷ z ∷ t in
    let long : 224 ≤ x = ⊎_elim (λ h. absurd (none 2 (omega arith) (omega arith) (two_are_text x y low h s.follows))) (λ h. h) (order x 224) in
    let further : Option ℕ = cond (nat_lt (length l) 4) None (Some 3) in
    cond_by (Faulty l) (nat_lt (length l) 3) None (cond (is_in_range 128 191 z) further (Some 2))
    (λ e. absurd (omega (arith, ltb-true (length l) 3 e)))
    (λ _. cond_by (Faulty l) (is_in_range 128 191 z) further (Some 2)
    (λ e. let g = in_range 128 191 z e in after_three x y z t none long high s (g.0, omega (arith, g.1)))
    (λ e. third_bad x y z t long high s (out_of_range 128 191 z e)))

after_one : (x : ℕ) (t : List ℕ) → NoFront (x ∷ t) → 194 ≤ x → x ≤ 244 → Faulty (x ∷ t) (error_len_after_one (x ∷ t))
after_one x [] none low high = ends_early (x ∷ []) (begins_one x low high)
after_one x (y ∷ t) none low high = let l = x ∷ y ∷ t in
    let test = is_in_range (second_byte_min x) (second_byte_max x) y in
    cond_by (Faulty l) (nat_lt (length l) 2) None (cond test (error_len_after_two l) (Some 1))
    (λ e. absurd (omega (arith, ltb-true (length l) 2 e)))
    (λ _. cond_by (Faulty l) test (error_len_after_two l) (Some 1)
    (λ e. let g = in_range (second_byte_min x) (second_byte_max x) y e in after_two x y t none low high (second_of x y g.0 g.1))
    (λ e. second_bad x y t low high (out_of_range (second_byte_min x) (second_byte_max x) y e)))

abbrev local_place : List ℕ → ℕ
local_place l = option_map_or (λ k. cond (is_in_range 194 244 (get_or l 0 0)) k 0) (utf8_error_len l) (length l)

at_front : (l : List ℕ) → NoFront l → IsFirstFault l (local_place l)
unfolding utf8_error_len
at_front [] none = ends_early [] ([], IsUtf8-nil)
at_front (x ∷ t) none = let l = x ∷ t in
    let test = is_in_range 194 244 x in
    let P : Option ℕ → Type 0 = λ len. IsFirstFault l (option_map_or (λ k. cond test k 0) len (length l)) in
    cond_by P (length l == 0) None (error_len_of_some l)
    (λ e. absurd (omega (arith, eqb-true (length l) 0 e)))
    (λ _. cond_by P test (error_len_after_one l) (Some 1)
    (λ e. let g = in_range 194 244 x e in
    subst (λ b. IsFirstFault l (option_map_or (λ k. cond b k 0) (error_len_after_one l) (length l))) (sym e) (after_one x t none g.0 g.1))
    (λ e. subst (λ b. IsFirstFault l (cond b 1 0)) (sym e) (first_bad x t none (out_of_range 194 244 x e))))

-- ---- behind a text

after_text : (a t : List ℕ) → IsUtf8 a → IsUtf8 (a ++ t) → IsUtf8 t
after_text a t front u =
    subst IsUtf8 (drop_at a t (length a) refl)
    (IsUtf8-drop (a ++ t) (length a) u
    (IsCharBoundary-from_take (a ++ t) (length a) u (omega (arith, length-append a t)) (subst IsUtf8 (sym (take_at a t (length a) refl)) front)))

take_past : (a l : List ℕ) (k : ℕ) → take (length a + k) (a ++ l) ≡ a ++ take k l
take_past a l k = take-add (length a) k (a ++ l) ∙ (λ i. take_at a l (length a) refl i ++ take k (drop_at a l (length a) refl i))

behind_text : (a l : List ℕ) (k : ℕ) → IsUtf8 a → IsFirstFault l k → IsFirstFault (a ++ l) (length a + k)
behind_text a l k front f = record {
  within = let w = f.within in omega (arith, length-append a l);
  before = (
    f.before.0,
    subst IsUtf8
        (sym (append_assoc a (take k l) f.before.0) ∙ ap (λ t. t ++ f.before.0) (sym (take_past a l k)))
        (IsUtf8-append a (take k l ++ f.before.0) front f.before.1),
  );
  at = λ h begun.
      let same : length a + k + 1 ≡ length a + (k + 1) = omega arith in
      let cut = ap (λ n. take n (a ++ l)) same ∙ take_past a l (k + 1) in
      f.at (omega (arith, length-append a l)) (
        begun.0,
        after_text a (take (k + 1) l ++ begun.0) front
            (subst IsUtf8 (ap (λ t. t ++ begun.0) cut ∙ append_assoc a (take (k + 1) l) begun.0) begun.1),
      );
}

-- the place counted from the front
moved : (b : Bool) (n d : ℕ) (len : Option ℕ)
    → n + option_map_or (λ k. cond b k 0) len d ≡ option_map_or (λ k. cond b (n + k) n) len (n + d)
moved b n d None = refl
moved true n d (Some k) = refl
moved false n d (Some k) = omega arith

place_from_front : (bytes : List ℕ) → utf8_valid_len bytes + local_place (drop (utf8_valid_len bytes) bytes) ≡ fault_place bytes
place_from_front bytes =
    let n = utf8_valid_len bytes in
    let l = drop n bytes in
    let within = utf8_valid_len_le bytes in
    let none_more : n + 0 ≡ n = omega arith in
    let lead : get_or l 0 0 ≡ get_or bytes n 0 = get_or-drop n bytes 0 0 ∙ ap (λ i. get_or bytes i 0) none_more in
    let all : n + length l ≡ length bytes = omega (arith, length-drop n bytes) in
    moved (is_in_range 194 244 (get_or l 0 0)) n (length l) (utf8_error_len l)
    ∙ (λ i. option_map_or (λ k. cond (is_in_range 194 244 (lead i)) (n + k) n) (utf8_error_len l) (all i))

pub fault_is_first : (bytes : List ℕ) → IsFirstFault bytes (fault_place bytes)
unfolding utf8_valid_len
fault_is_first bytes =
    let n = utf8_valid_len bytes in
    let a = take n bytes in
    let l = drop n bytes in
    let within = utf8_valid_len_le bytes in
    let long : length a ≡ n = omega (arith, length-take n bytes) in
    let front : IsUtf8 a = front_is_text bytes (length bytes) in
    let none : NoFront l = λ m some short u.
    front_is_longest bytes (length bytes) (n + m) (omega arith) (omega (arith, length-drop n bytes))
    (subst IsUtf8 (sym (take-add n m bytes)) (IsUtf8-append a (take m l) front u)) in
    let place : length a + local_place l ≡ fault_place bytes = ap (λ k. k + local_place l) long ∙ place_from_front bytes in
    subst (IsFirstFault bytes) place
    (subst (λ b. IsFirstFault b (length a + local_place l)) (take-append-drop n bytes) (behind_text a l (local_place l) front (at_front l none)))
