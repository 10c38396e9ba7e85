-- Keys that are array indices.
use Rattle.std.proofs.Common.{◌≡◌, ◌≢◌, ℕ, ◌+◌, ◌-◌, ◌*◌, ◌<◌, ◌≤◌, true, false, List, [], ◌∷◌, length, get_or, drop, sym, ap, ◌∙◌, refl, subst, inl, inr, arith, rules, add-one, drop-cons, Bool, true≢false, ◌&&◌, Option, Some, None, if◌then◌else◌}
use Rattle.std.specs.Prelude.{IfSome, IfNone, nat_lt}
use Rattle.std.proofs.lemmas.Bool.{cases_lt}
use Rattle.std.proofs.lemmas.Bool.Decides.{eqb_tells, nat_tests}
use Rattle.std.proofs.lemmas.Fmt.{digits_decimal, digits_value-decimal, decimal-digits_value, decimal_nonempty, first_decimal, decimal_digit}
use Rattle.std.proofs.lemmas.Str.Parse.{IsNumeralModel, numerals_by_fold}
use Rattle.std.specs.Fmt.{decimal}
use Rattle.std.specs.Str.{all_ascii_digits}
use Rattle.ivm_text.specs.Keys.{is_key}
use Rattle.ivm_text.specs.KeyOrder.{read_on, index_of}
use Rattle.ivm_text.specs.declared.key_order.TheConstants.{INDEX_END}

own : IsNumeralModel (λ ds. all_ascii_digits ds ≡ true) (read_on 0)
own = numerals_by_fold _ (search rules) read_on (search rules)

-- more digits make no smaller number
pub read_on_ge : (n : ℕ) (cs : List ℕ) → n ≤ read_on n cs
read_on_ge n [] = omega arith
read_on_ge n (c ∷ cs) = omega (arith, read_on_ge (10 * n + (c - 48)) cs)

module _ (n : ℕ) (key : List ℕ) (small : n < INDEX_END) (e : decimal n ≡ key) where
  pub all_digits : all_ascii_digits key ≡ true
  all_digits = subst (λ t. all_ascii_digits t ≡ true) e (digits_decimal own n (omega arith))

  pub reads_back : read_on 0 key ≡ n
  reads_back = ap (read_on 0) (sym e) ∙ digits_value-decimal own n (omega arith)

  pub nonempty : 0 < length key
  nonempty = subst (λ t. 0 < length t) e (decimal_nonempty n (omega arith))

  pub no_zero : get_or key 0 0 ≡ 48 → length key ≡ 1
  no_zero zero = elim (cases_lt 0 n) as (λ _. length key ≡ 1) [
    | inl h ↦ absurd (omega (arith, first_decimal n h (omega arith), ap (λ t. get_or t 0 0) e))
    | inr h ↦
        let none : n ≡ 0 = omega arith in
        ap length (sym e) ∙ ap (λ m. length (decimal m)) none ∙ ap length (decimal_digit 0 (omega arith))
  ]

-- digits without a superfluous zero are the decimal text of what they read as
pub decimal_reads : (key : List ℕ) → all_ascii_digits key ≡ true → 0 < length key → (get_or key 0 0 ≡ 48 → length key ≡ 1) → read_on 0 key < INDEX_END
    → decimal (read_on 0 key) ≡ key
decimal_reads key all some zero small = decimal-digits_value own key all some zero (omega arith)

pub read_step : (n : ℕ) (key : List ℕ) (i d : ℕ) → i < length key → read_on n (drop i key) ≡ read_on (10 * n + (get_or key i d - 48)) (drop (i + 1) key)
read_step n key i d lt = rw (add-one, drop-cons key i d) refl

-- a key has its own units
is_key-self : (key : List ℕ) → is_key key key ≡ true
is_key-self [] = refl
is_key-self (c ∷ cs) = elim (eqb_tells c c) [
  | inl t ↦ ap (λ b. b && is_key cs cs) t.0 ∙ is_key-self cs
  | inr t ↦ absurd (t.1 refl)
]

is_key-equal : (a b : List ℕ) → is_key a b ≡ true → a ≡ b
is_key-equal [] [] same = refl
is_key-equal [] (d ∷ ds) same = absurd (true≢false (sym same))
is_key-equal (c ∷ cs) [] same = absurd (true≢false (sym same))
is_key-equal (c ∷ cs) (d ∷ ds) same = elim (eqb_tells c d) [
  | inl t ↦
      let more : is_key cs ds ≡ true = sym (ap (λ b. b && is_key cs ds) t.0) ∙ same in
      ap (λ x. x ∷ cs) t.1 ∙ ap (λ xs. d ∷ xs) (is_key-equal cs ds more)
  | inr t ↦ absurd (true≢false (sym same ∙ ap (λ b. b && is_key cs ds) t.0))
]

-- what the code finds is the index that the definition names
pub index_of-found : (key : List ℕ) (found : Option ℕ) → IfSome found (λ n. (decimal n ≡ key) × (n < INDEX_END))
    → IfNone found ((n : ℕ) → n < INDEX_END → decimal n ≢ key) → found ≡ index_of key
unfolding index_of
index_of-found key (Some n) some none =
    let reads : read_on 0 key ≡ n = reads_back n key some.1 some.0 in
    let same : is_key key (decimal n) ≡ true = subst (λ t. is_key key t ≡ true) (sym some.0) (is_key-self key) in
    let below : nat_lt n INDEX_END ≡ true = grind (arith, nat_tests) in
    sym (ap (λ m. if is_key key (decimal m) && nat_lt m INDEX_END then Some m else None) reads
    ∙ ap (λ b. if b && nat_lt n INDEX_END then Some n else None) same ∙ ap (λ b. if b then Some n else None) below)
index_of-found key None some none = by (is_key key (decimal (read_on 0 key))) (nat_lt (read_on 0 key) INDEX_END) refl refl
  where
    by : (a b : Bool) → is_key key (decimal (read_on 0 key)) ≡ a → nat_lt (read_on 0 key) INDEX_END ≡ b
        → None ≡ (if is_key key (decimal (read_on 0 key)) && nat_lt (read_on 0 key) INDEX_END then Some (read_on 0 key) else None)
    by false b e f = sym (ap (λ t. if t && nat_lt (read_on 0 key) INDEX_END then Some (read_on 0 key) else None) e)
    by true false e f =
        sym (ap (λ t. if t && nat_lt (read_on 0 key) INDEX_END then Some (read_on 0 key) else None) e
        ∙ ap (λ t. if t then Some (read_on 0 key) else None) f)
    by true true e f =
        let below : read_on 0 key < INDEX_END = grind (arith, nat_tests) in
        absurd (none (read_on 0 key) below (sym (is_key-equal key (decimal (read_on 0 key)) e)))
