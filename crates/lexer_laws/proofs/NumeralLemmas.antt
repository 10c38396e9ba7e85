-- A number is the value of the literal that stands at the front.
use Rattle.std.proofs.Common.{◌≡◌, ◌≢◌, ℕ, ◌+◌, ◌*◌, ◌-◌, ◌≤◌, ◌<◌, [], ◌∷◌, ◌++◌, drop, get_or, cond, Bool, true, false, ◌||◌, ◌&&◌, ◌⊎◌, inl, inr, ⊎_elim, refl, sym, ap, subst, ◌∙◌, arith}
use Rattle.std.specs.Prelude.{Option, None, Some, nat_eq, nat_lt, nat_le}
use Rattle.std.specs.List.{All}
use Rattle.std.specs.Int.{is_in_range}
use Rattle.std.specs.Char.{digit_value, is_ascii_alphabetic}
use Rattle.std.proofs.lemmas.List.Elements.{All-nil, All-cons, All-head, All-tail}
use Rattle.std.proofs.lemmas.Bool.{eqb-true, eqb-false, ltb-true, ltb-false, leb-true, le-leb, lt-ltb, le-ltb}
use Rattle.unicode_ident.specs.Ident.{is_xid_start}
use Rattle.unicode_ident.proofs.IdentLemmas.{is_xid_start-ascii}
use Rattle.ivm_text.specs.Text.{max_number}
use Rattle.js_lexer.specs.Letters.{Text, is_digit, starts_word}
use Rattle.js_lexer.specs.Escapes.{is_hex}
use Rattle.js_lexer.specs.Numbers.{clings, ended, digits, hexadecimal, is_x, after_zero, number}
use Rattle.lexer_laws.specs.Numerals.{IsDigitTo, value_behind, Writes, zero_alone, decimal_digits, hexadecimal_digits, NumberStands, IsNumberThere}

pub cond_by : {A : Type 0} (P : A → Type 0) (b : Bool) (x y : A) → (b ≡ true → P x) → (b ≡ false → P y) → P (cond b x y)
cond_by P true x y p q = p refl
cond_by P false x y p q = q refl

pub not_both : {b : Bool} → b ≡ true → b ≡ false → ⊥
not_both p q = cc

pub both : (a b : Bool) → (a && b) ≡ true → (a ≡ true) × (b ≡ true)
both true b h = (refl, h)
both false b h = absurd (not_both h refl)

-- ---- what may not stand at once behind a number

or_left : (x y : Bool) → x ≡ true → (x || y) ≡ true
or_left x y e = rw e refl

or_right : (x y : Bool) → y ≡ true → (x || y) ≡ true
or_right true y e = refl
or_right false y e = e

letter_clings : (c : ℕ) (t : Text) → c < 128 → is_ascii_alphabetic c ≡ true → clings (c ∷ t) ≡ true
letter_clings c t small letter =
    let starts : is_xid_start c ≡ true = is_xid_start-ascii c small ∙ letter in
    let word : starts_word c ≡ true = or_left (is_xid_start c || nat_eq c 36) (nat_eq c 95) (or_left (is_xid_start c) (nat_eq c 36) starts) in
    or_left (is_digit c || starts_word c) (nat_eq c 46) (or_right (is_digit c) (starts_word c) word)

-- hexadecimal digits are digits and letters
hex_ranges : (c : ℕ) → digit_value c < 16 → ((48 ≤ c) × (c ≤ 57)) ⊎ (((65 ≤ c) × (c ≤ 70)) ⊎ ((97 ≤ c) × (c ≤ 102)))
hex_ranges c =
    let P : ℕ → Type 0 = λ v. v < 16 → ((48 ≤ c) × (c ≤ 57)) ⊎ (((65 ≤ c) × (c ≤ 70)) ⊎ ((97 ≤ c) × (c ≤ 102))) in
    let last : ℕ = cond (nat_lt c 123) (c - 87) 36 in
    let small : ℕ = cond (nat_lt c 97) 36 last in
    let great : ℕ = cond (nat_lt c 91) (c - 55) small in
    let between : ℕ = cond (nat_lt c 65) 36 great in
    let digit : ℕ = cond (nat_lt c 58) (c - 48) between in
    cond_by P (nat_lt c 48) 36 digit (λ e h. absurd (omega arith)) (λ e0.
    cond_by P (nat_lt c 58) (c - 48) between (λ e h. inl (ltb-false c 48 e0, omega (arith, ltb-true c 58 e))) (λ e1.
    cond_by P (nat_lt c 65) 36 great (λ e h. absurd (omega arith)) (λ e2.
    cond_by P (nat_lt c 91) (c - 55) small (λ e h. inr (inl (ltb-false c 65 e2, omega arith))) (λ e3.
    cond_by P (nat_lt c 97) 36 last (λ e h. absurd (omega arith)) (λ e4.
    cond_by P (nat_lt c 123) (c - 87) 36 (λ e h. inr (inr (ltb-false c 97 e4, omega arith))) (λ e h. absurd (omega arith)))))))

capital : (c : ℕ) → 65 ≤ c → c ≤ 90 → is_ascii_alphabetic c ≡ true
capital c low high = rw (le-leb 65 c low, le-leb c 90 high) refl

small : (c : ℕ) → 97 ≤ c → c ≤ 122 → is_ascii_alphabetic c ≡ true
small c low high = or_right (is_in_range 65 90 c) (is_in_range 97 122 c) (rw (le-leb 97 c low, le-leb c 122 high) refl)

digit_clings : (c : ℕ) (t : Text) → 48 ≤ c → c ≤ 57 → clings (c ∷ t) ≡ true
digit_clings c t low high =
    let digit : is_digit c ≡ true = rw (le-leb 48 c low, le-leb c 57 high) refl in
    or_left (is_digit c || starts_word c) (nat_eq c 46) (or_left (is_digit c) (starts_word c) digit)

hex_clings : (c : ℕ) (t : Text) → digit_value c < 16 → clings (c ∷ t) ≡ true
hex_clings c t h = ⊎_elim (λ r. digit_clings c t r.0 r.1)
    (λ s. ⊎_elim
    (λ r. letter_clings c t (omega arith) (capital c r.0 (omega arith)))
    (λ r. letter_clings c t (omega arith) (small c r.0 (omega arith))) s)
    (hex_ranges c h)

x_clings : (c : ℕ) (t : Text) → is_x c ≡ true → clings (c ∷ t) ≡ true
x_clings c t e = by_test (nat_eq c 120) refl
  where
    by_test : (b : Bool) → nat_eq c 120 ≡ b → clings (c ∷ t) ≡ true
    by_test true f = let same = eqb-true c 120 f in
        letter_clings c t (omega arith) (small c (omega arith) (omega arith))
    by_test false f = let same = eqb-true c 88 (subst (λ b. (b || nat_eq c 88) ≡ true) f e) in
        letter_clings c t (omega arith) (capital c (omega arith) (omega arith))

-- ---- digits

-- what the digits at the front of t were read as, behind others of the value n
abbrev Sound : ℕ → ℕ → Text → Option (ℕ × Text) → Type 0
Sound base n t None = Unit {0}
Sound base n t (Some (m, u)) = (ds : Text) × (t ≡ ds ++ u) × All (IsDigitTo base) ds × (m ≡ value_behind base n ds)
    × (n ≤ max_number → m ≤ max_number) × (clings u ≡ false)

ended_sound : (base n : ℕ) (t : Text) → Sound base n t (ended n t)
ended_sound base n t = cond_by (Sound base n t) (clings t) None (Some (n, t)) (λ e. tt) (λ e. ([], refl, All-nil (IsDigitTo base), refl, (λ h. h), e))

digits_sound : (base n : ℕ) (t : Text) → Sound base n t (digits base n t)
digits_sound base n [] = ended_sound base n []
digits_sound base n (c ∷ t) =
    let m = base * n + digit_value c in
    let further = digits_sound base m t in
    let inside : Option (ℕ × Text) = cond (nat_le m max_number) (digits base m t) None in
    cond_by (Sound base n (c ∷ t)) (nat_lt (digit_value c) base) inside (ended n (c ∷ t))
    (λ e. cond_by (Sound base n (c ∷ t)) (nat_le m max_number) (digits base m t) None
    (λ f. one_more c (ltb-true (digit_value c) base e) (leb-true m max_number f) (digits base m t) further)
    (λ f. tt))
    (λ e. ended_sound base n (c ∷ t))
  where
    one_more : (c : ℕ) → IsDigitTo base c → base * n + digit_value c ≤ max_number → (o : Option (ℕ × Text))
        → Sound base (base * n + digit_value c) t o → Sound base n (c ∷ t) o
    one_more c digit small None s = tt
    one_more c digit small (Some (k, u)) s = (c ∷ s.0, ap (λ l. c ∷ l) s.1, All-cons (IsDigitTo base) c s.0 digit s.2, s.3, (λ h. s.4 small), s.5)

pub through : (a b c : ℕ) → a ≤ b → b ≤ c → a ≤ c
through a b c p q = omega arith

-- further digits make no number smaller
pub grown : (base : ℕ) → ((n d : ℕ) → n ≤ base * n + d) → (n : ℕ) (ds : Text) → n ≤ value_behind base n ds
grown base grows n [] = omega arith
grown base grows n (c ∷ cs) =
    through n (base * n + digit_value c) (value_behind base n (c ∷ cs)) (grows n (digit_value c)) (grown base grows (base * n + digit_value c) cs)

digits_end : (base : ℕ) → ((c : ℕ) (t : Text) → digit_value c < base → clings (c ∷ t) ≡ true)
    → (n : ℕ) (u : Text) → clings u ≡ false → digits base n u ≡ Some (n, u)
digits_end base sticks n [] apart = refl
digits_end base sticks n (c ∷ t) apart = by_test (nat_lt (digit_value c) base) refl
  where
    by_test : (b : Bool) → nat_lt (digit_value c) base ≡ b → digits base n (c ∷ t) ≡ Some (n, c ∷ t)
    by_test true f = absurd (not_both (sticks c t (ltb-true (digit_value c) base f)) apart)
    by_test false f = rw (f, apart) refl

digits_complete : (base : ℕ) → ((n d : ℕ) → n ≤ base * n + d) → ((c : ℕ) (t : Text) → digit_value c < base → clings (c ∷ t) ≡ true)
    → (n : ℕ) (ds u : Text) → All (IsDigitTo base) ds → clings u ≡ false → value_behind base n ds ≤ max_number
    → digits base n (ds ++ u) ≡ Some (value_behind base n ds, u)
digits_complete base grows sticks n [] u all apart small = digits_end base sticks n u apart
digits_complete base grows sticks n (c ∷ cs) u all apart small =
    let m = base * n + digit_value c in
    let fits : m ≤ max_number = through m (value_behind base m cs) max_number (grown base grows m cs) small in
    rw (lt-ltb (digit_value c) base (All-head (IsDigitTo base) c cs all), le-leb m max_number fits)
    (digits_complete base grows sticks m cs u (All-tail (IsDigitTo base) c cs all) apart small)

-- ---- what was read is a number that stands there

abbrev Stands : ℕ → Text → Option (ℕ × Text) → Type 0
Stands c t None = Unit {0}
Stands c t (Some (n, rest)) = NumberStands (c ∷ t) n rest

hexadecimal_stands : (x d : ℕ) (t : Text) → is_x x ≡ true → IsDigitTo 16 d → (o : Option (ℕ × Text))
    → Sound 16 (digit_value d) t o → Stands 48 (x ∷ d ∷ t) o
hexadecimal_stands x d t e h None s = tt
hexadecimal_stands x d t e h (Some (m, u)) s = record {
  literal = 48 ∷ x ∷ d ∷ s.0;
  whole = ap (λ l. 48 ∷ x ∷ d ∷ l) s.1;
  writes = subst (Writes (48 ∷ x ∷ d ∷ s.0)) (sym s.3) (hexadecimal_digits e h s.2);
  in_range = s.4 (omega arith);
  apart = s.5;
}

hexadecimal_sound : (x : ℕ) (t : Text) → is_x x ≡ true → Stands 48 (x ∷ t) (hexadecimal t)
hexadecimal_sound x [] e = tt
hexadecimal_sound x (d ∷ t) e = cond_by (Stands 48 (x ∷ d ∷ t)) (is_hex d) (digits 16 (digit_value d) t) None
    (λ h. hexadecimal_stands x d t e (ltb-true (digit_value d) 16 h) (digits 16 (digit_value d) t) (digits_sound 16 (digit_value d) t))
    (λ h. tt)

zero_sound : (t : Text) → Stands 48 t (after_zero t)
zero_sound [] = record { literal = 48 ∷ []; whole = refl; writes = zero_alone; in_range = omega arith; apart = refl }
zero_sound (c ∷ t) = cond_by (Stands 48 (c ∷ t)) (is_x c) (hexadecimal t) (ended 0 (c ∷ t))
    (λ e. hexadecimal_sound c t e)
    (λ e. cond_by (Stands 48 (c ∷ t)) (clings (c ∷ t)) None (Some (0, c ∷ t))
    (λ f. tt)
    (λ f. record { literal = 48 ∷ []; whole = refl; writes = zero_alone; in_range = omega arith; apart = f }))

decimal_stands : (c : ℕ) (t : Text) → IsDigitTo 10 c → c ≢ 48 → (o : Option (ℕ × Text)) → Sound 10 (digit_value c) t o → Stands c t o
decimal_stands c t h other None s = tt
decimal_stands c t h other (Some (m, u)) s = record {
  literal = c ∷ s.0;
  whole = ap (λ l. c ∷ l) s.1;
  writes = subst (Writes (c ∷ s.0)) (sym s.3) (decimal_digits h other s.2);
  in_range = s.4 (omega arith);
  apart = s.5;
}

digit_is_small : (c : ℕ) → is_digit c ≡ true → IsDigitTo 10 c
digit_is_small c e =
    let parts = both (nat_le 48 c) (nat_le c 57) e in
    let low = leb-true 48 c parts.0 in
    let high = leb-true c 57 parts.1 in
    let value : digit_value c ≡ c - 48 = rw (le-ltb c 48 low, lt-ltb c 58 (omega arith)) refl in
    omega (arith, value)

number_sound : (c : ℕ) (t : Text) → is_digit c ≡ true → Stands c t (number c t)
number_sound c t digit = cond_by (Stands c t) (nat_eq c 48) (after_zero t) (digits 10 (digit_value c) t)
    (λ e. subst (λ z. Stands z t (after_zero t)) (sym (eqb-true c 48 e)) (zero_sound t))
    (λ e. decimal_stands c t (digit_is_small c digit) (eqb-false c 48 e) (digits 10 (digit_value c) t) (digits_sound 10 (digit_value c) t))

-- ---- a number that stands there is read

zero_complete : (rest : Text) → clings rest ≡ false → number 48 rest ≡ Some (0, rest)
zero_complete [] apart = refl
zero_complete (c ∷ t) apart = by_test (is_x c) refl
  where
    by_test : (b : Bool) → is_x c ≡ b → number 48 (c ∷ t) ≡ Some (0, c ∷ t)
    by_test true f = absurd (not_both (x_clings c t f) apart)
    by_test false f = rw (f, apart) refl

decimal_complete : (c : ℕ) (cs rest : Text) → c ≢ 48 → All (IsDigitTo 10) cs → clings rest ≡ false
    → value_behind 10 (digit_value c) cs ≤ max_number → number c (cs ++ rest) ≡ Some (value_behind 10 (digit_value c) cs, rest)
decimal_complete c cs rest other all apart small = by_test (nat_eq c 48) refl
  where
    by_test : (b : Bool) → nat_eq c 48 ≡ b → number c (cs ++ rest) ≡ Some (value_behind 10 (digit_value c) cs, rest)
    by_test true f = absurd (other (eqb-true c 48 f))
    by_test false f = rw f (digits_complete 10 (λ n d. omega arith) (λ d t h. hex_clings d t (omega arith)) (digit_value c) cs rest all apart small)

number_complete : (c : ℕ) (t literal : Text) (n : ℕ) (rest : Text) → Writes literal n → (c ∷ t) ≡ (literal ++ rest)
    → n ≤ max_number → clings rest ≡ false → number c t ≡ Some (n, rest)
number_complete c t literal n rest zero_alone e small apart =
    let head : c ≡ 48 = ap (λ l. get_or l 0 0) e in
    let tail : t ≡ rest = ap (drop 1) e in
    (λ i. number (head i) (tail i)) ∙ zero_complete rest apart
number_complete c t literal n rest (decimal_digits {c = d} {cs = ds} h other all) e small apart =
    let head : c ≡ d = ap (λ l. get_or l 0 0) e in
    let tail : t ≡ ds ++ rest = ap (drop 1) e in
    (λ i. number (head i) (tail i)) ∙ decimal_complete d ds rest other all apart small
number_complete c t literal n rest (hexadecimal_digits {x = x} {c = d} {cs = ds} ex h all) e small apart =
    let head : c ≡ 48 = ap (λ l. get_or l 0 0) e in
    let tail : t ≡ x ∷ d ∷ (ds ++ rest) = ap (drop 1) e in
    let read : number 48 (x ∷ d ∷ (ds ++ rest)) ≡ Some (value_behind 16 (digit_value d) ds, rest) =
    rw (ex, lt-ltb (digit_value d) 16 h)
    (digits_complete 16 (λ m k. omega arith) hex_clings (digit_value d) ds rest all apart small) in
    (λ i. number (head i) (tail i)) ∙ read

pub number_there : (c : ℕ) (text : Text) → IsNumberThere c text
number_there c text digit n rest = (
  λ e. subst (Stands c text) e (number_sound c text digit),
  λ s. number_complete c text s.literal n rest s.writes s.whole s.in_range s.apart,
)
