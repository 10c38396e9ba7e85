-- Decimal texts and what they read as.
use Rattle.std.proofs.Common.{◌≡◌, ℕ, suc, ◌+◌, ◌-◌, ◌*◌, ◌<◌, ◌≤◌, true, List, [], ◌∷◌, length, get_or, drop, sym, ap, ◌∙◌, refl, subst, inl, inr, arith, rules, add-one, drop-cons, true≢false, ℤ, pos, negsuc}
use Rattle.std.proofs.lemmas.Bool.{cases_lt}
use Rattle.std.proofs.lemmas.Fmt.{digits_decimal, digits_value-decimal, decimal-digits_value, decimal_nonempty, first_decimal, decimal_digit}
use Rattle.std.proofs.lemmas.Str.Parse.{IsNumeralModel, numerals_by_fold}
use Rattle.std.specs.Fmt.{decimal, signed_decimal}
use Rattle.std.specs.Str.{all_ascii_digits}
use Rattle.ivm_text.specs.Text.{max_number, IsNumber}
use Rattle.ivm_text.specs.Whole.{read_on}

own : IsNumeralModel (λ ds. all_ascii_digits ds ≡ true) (read_on 0)
own = numerals_by_fold _ (search rules) read_on (search rules)

-- more digits make no smaller number
pub read_on_ge : (n : ℕ) (cs : List ℕ) → n ≤ read_on n cs
read_on_ge n [] = omega arith
read_on_ge n (c ∷ cs) = omega (arith, read_on_ge (10 * n + (c - 48)) cs)

module _ (n : ℕ) (ds : List ℕ) (small : n ≤ max_number) (e : decimal n ≡ ds) where
  pub all_digits : all_ascii_digits ds ≡ true
  all_digits = subst (λ t. all_ascii_digits t ≡ true) e (digits_decimal own n (omega arith))

  pub reads_back : read_on 0 ds ≡ n
  reads_back = ap (read_on 0) (sym e) ∙ digits_value-decimal own n (omega arith)

  pub nonempty : 0 < length ds
  nonempty = subst (λ t. 0 < length t) e (decimal_nonempty n (omega arith))

  pub no_zero : get_or ds 0 0 ≡ 48 → length ds ≡ 1
  no_zero zero = elim (cases_lt 0 n) as (λ _. length ds ≡ 1) [
    | inl h ↦ absurd (omega (arith, first_decimal n h (omega arith), ap (λ t. get_or t 0 0) e))
    | inr h ↦
        let none : n ≡ 0 = omega arith in
        ap length (sym e) ∙ ap (λ m. length (decimal m)) none ∙ ap length (decimal_digit 0 (omega arith))
  ]

-- digits without a superfluous zero are the decimal text of what they read as
pub decimal_reads : (ds : List ℕ) → all_ascii_digits ds ≡ true → 0 < length ds → (get_or ds 0 0 ≡ 48 → length ds ≡ 1) → read_on 0 ds ≤ max_number
    → decimal (read_on 0 ds) ≡ ds
decimal_reads ds all some zero small = decimal-digits_value own ds all some zero (omega arith)

pub read_step : (n : ℕ) (ds : List ℕ) (i d : ℕ) → i < length ds → read_on n (drop i ds) ≡ read_on (10 * n + (get_or ds i d - 48)) (drop (i + 1) ds)
read_step n ds i d lt = rw (add-one, drop-cons ds i d) refl

-- no sign stands before decimal digits
pub no_sign : (n : ℕ) (ds : List ℕ) → n ≤ max_number → decimal n ≡ 45 ∷ ds → ⊥
no_sign n ds small e = true≢false (sym (all_digits n (45 ∷ ds) small e))

pub same_number : (m n : ℕ) (ds : List ℕ) → m ≤ max_number → n ≤ max_number → decimal m ≡ ds → decimal n ≡ ds → m ≡ n
same_number m n ds sm sn em en = sym (reads_back m ds sm em) ∙ reads_back n ds sn en

-- a text with a minus is that of a negative number alone
pub signed_none : (ds units : List ℕ) → units ≡ 45 ∷ ds → ((k : ℕ) → 0 < k → k ≤ max_number → decimal k ≡ ds → ⊥)
    → (n : ℤ) → IsNumber n → signed_decimal n ≡ units → ⊥
signed_none ds units e none (pos n) small t = no_sign n ds small (t ∙ e)
signed_none ds units e none (negsuc n) small t =
    let same : decimal (suc n) ≡ ds = let both : 45 ∷ decimal (suc n) ≡ 45 ∷ ds = t ∙ e in cc in
    none (suc n) (omega arith) (omega arith) same
