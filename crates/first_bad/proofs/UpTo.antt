-- Reading in which only the levels of the first tokens count, beside reading in which all do.
use Rattle.std.proofs.Common.{◌≡◌, ℕ, zero, suc, ◌+◌, ◌<◌, ◌≤◌, Bool, true, false, if◌then◌else◌, nat_le, List, [], length, inl, inr, refl, sym, arith}
use Rattle.std.proofs.lemmas.Bool.{cases_Bool, leb-true, leb-false, le-leb}
use Rattle.js_lexer.specs.declared.token.Token.{Token}
use Rattle.parser_rules.specs.declared.form.Form.{Form}
use Rattle.parser_rules.specs.declared.form.Why.TheVariants.{Unexpected, TooDeep}
use Rattle.parser_rules.specs.Classes.{class_of, is_one_of}
use Rattle.parser_rules.specs.Work.{Work, State, going, stuck}
use Rattle.parser_rules.specs.Rules.{Rule, left}
use Rattle.parser_rules.specs.Grammar.{within, beyond, rule_of, begins, reading, at_start}
use Rattle.parser_rules.proofs.Laws.{Inside, Eats, keeps_from_eats, Still, run_still, run_eats, run_keeps}
use Rattle.parser_rules.proofs.Takes.{rules_take, within_takes, within_still}
use Rattle.first_bad.specs.Viable.{beyond_up_to, up_to, reading_up_to}
use Rattle.first_bad.proofs.Begins.{within_shuts}
use Rattle.first_bad.proofs.Front.{rest_of, Ends, Front, run_front, within_front}
use Rattle.first_bad.proofs.Far.{ends_shorter}
use Rattle.first_bad.proofs.Lags.{Lag, Lags, run_lags}

-- so many levels, and so many more
abbrev pub together : ℕ → ℕ → ℕ
together zero more = more
together (suc n) more = suc (together n more)

pub together_sum : (n more : ℕ) → together n more ≡ n + more
together_sum zero more = omega arith
together_sum (suc n) more = omega (arith, together_sum n more)

module _ (more last : ℕ) where
  -- ---- where no level is left

  beyond_still : (form : Form) → Still (beyond_up_to more last form)
  beyond_still form = record { stays = λ why ts. refl }

  beyond_front : (form : Form) → Front (beyond_up_to more last form)
  beyond_front form = record { ends = of }
    where
      either_way : (b : Bool) (w : Work) → Ends (rest_of (if b then within more form (going w) else beyond form (going w))) w.rest
      either_way true w = (within_front more form).ends (going w)
      either_way false w = ([], refl)

      of : (s : State) → Ends (rest_of (beyond_up_to more last form s)) (rest_of s)
      of (going w) = either_way (nat_le (length w.rest) last) w
      of (stuck why ts) = ([], refl)

  beyond_eats : (form : Form) → Eats (beyond_up_to more last form)
  beyond_eats form = record { less = of }
    where
      either_way : (b : Bool) (w : Work) → left (if b then within more form (going w) else beyond form (going w)) < left (going w)
      either_way true w = ((within_takes more).eats form).less (going w) (omega arith)
      either_way false w = omega arith

      of : (s : State) → 0 < left s → left (beyond_up_to more last form s) < left s
      of (going w) h = either_way (nat_le (length w.rest) last) w
      of (stuck why ts) h = absurd (omega arith)

  -- ---- levels

  pub up_to_still : (n : ℕ) (form : Form) → Still (up_to n more last form)
  unfolding up_to
  up_to_still zero form = beyond_still form
  up_to_still (suc n) form = run_still (up_to n more last) (up_to_still n) (rule_of form)

  pub up_to_front : (n : ℕ) (form : Form) → Front (up_to n more last form)
  unfolding up_to
  up_to_front zero form = beyond_front form
  up_to_front (suc n) form = run_front (up_to n more last) (up_to_front n) (rule_of form)

  pub up_to_takes : (n : ℕ) → Inside (up_to n more last)
  unfolding up_to
  up_to_takes zero = record { eats = λ form. beyond_eats form; keeps = λ form. keeps_from_eats (beyond_up_to more last form) (beyond_eats form) (λ why ts. refl) }
  up_to_takes (suc n) = record { eats = λ form. run_eats (up_to n more last) (up_to_takes n) (rule_of form) (rules_take form); keeps = λ form. run_keeps (up_to n more last) (up_to_takes n) (rule_of form) }

  -- ---- beside all the levels together

  -- it stands at one of the first tokens
  abbrev pub Early : List Token → List Token → Type 0
  Early us left = last < length us

  beyond_lags : (form : Form) → Lags Early (beyond_up_to more last form) (within more form)
  beyond_lags form = record { lags = of }
    where
      refused_there : (c : Bool) (w : Work) → is_one_of (class_of w.rest) (begins form) ≡ c → nat_le (length w.rest) last ≡ false → Lag Early (stuck (if c then TooDeep else Unexpected) w.rest) (within more form (going w))
      refused_there true w h k = inr (w.rest, refl, leb-false (length w.rest) last k)
      refused_there false w h k = inl (sym ((within_shuts more form).refuses w h))

      of : (s : State) → Lag Early (beyond_up_to more last form s) (within more form s)
      of (stuck why ts) = inl (sym ((within_still more form).stays why ts))
      of (going w) = elim (cases_Bool (nat_le (length w.rest) last)) [
        | inl k ↦ rw k (inl refl)
        | inr k ↦ rw k (refused_there (is_one_of (class_of w.rest) (begins form)) w refl k)
      ]

  up_to_early : (n : ℕ) (form : Form) → Lags Early (up_to n more last form) (within (together n more) form)
  unfolding up_to within
  up_to_early zero form = beyond_lags form
  up_to_early (suc n) form = run_lags Early (λ us x y e p. p) (up_to n more last) (within (together n more)) (up_to_still n) (within_front (together n more)) (up_to_early n) (rule_of form)

  pub reading_early : (n : ℕ) (whole : Rule) (ts : List Token) → Lag Early (reading_up_to n more last whole ts) (reading (together n more) whole ts)
  reading_early n whole ts = (run_lags Early (λ us x y e p. p) (up_to n more last) (within (together n more)) (up_to_still n) (within_front (together n more)) (up_to_early n) whole).lags (at_start ts)

  -- ---- beside the levels alone

  -- it stands at one of the last tokens, and the other has come to them, too
  abbrev pub Late : List Token → List Token → Type 0
  Late us left = (length us ≤ last) × (length left ≤ last)

  late_on : (us x y : List Token) → Ends x y → Late us y → Late us x
  late_on us x y e (p, q) = (p, omega (arith, ends_shorter x y e, q))

  beyond_late : (form : Form) → Lags Late (beyond form) (beyond_up_to more last form)
  beyond_late form = record { lags = of }
    where
      read_on : (c : Bool) (w : Work) → is_one_of (class_of w.rest) (begins form) ≡ c → nat_le (length w.rest) last ≡ true → Lag Late (stuck (if c then TooDeep else Unexpected) w.rest) (within more form (going w))
      read_on true w h k = inr (w.rest, refl, (leb-true (length w.rest) last k, omega (arith, leb-true (length w.rest) last k, ends_shorter _ _ ((within_front more form).ends (going w)))))
      read_on false w h k = inl (sym ((within_shuts more form).refuses w h))

      of : (s : State) → Lag Late (beyond form s) (beyond_up_to more last form s)
      of (stuck why ts) = inl refl
      of (going w) = elim (cases_Bool (nat_le (length w.rest) last)) [
        | inl k ↦ rw k (read_on (is_one_of (class_of w.rest) (begins form)) w refl k)
        | inr k ↦ rw k (inl refl)
      ]

  within_late : (n : ℕ) (form : Form) → Lags Late (within n form) (up_to n more last form)
  unfolding up_to within
  within_late zero form = beyond_late form
  within_late (suc n) form = run_lags Late late_on (within n) (up_to n more last) (within_still n) (up_to_front n) (within_late n) (rule_of form)

  pub reading_late : (n : ℕ) (whole : Rule) (ts : List Token) → Lag Late (reading n whole ts) (reading_up_to n more last whole ts)
  reading_late n whole ts = (run_lags Late late_on (within n) (up_to n more last) (within_still n) (up_to_front n) (within_late n) whole).lags (at_start ts)

-- ---- where the levels of fewer tokens count

abbrev pub Anyhow : List Token → List Token → Type 0
Anyhow us left = Unit {0}

module _ (more last later : ℕ) (l : last ≤ later) where
  beyond_fewer : (form : Form) → Lags Anyhow (beyond_up_to more last form) (beyond_up_to more later form)
  beyond_fewer form = record { lags = of }
    where
      refused_there : (b c : Bool) (w : Work) → is_one_of (class_of w.rest) (begins form) ≡ c → Lag Anyhow (stuck (if c then TooDeep else Unexpected) w.rest) (if b then within more form (going w) else stuck (if c then TooDeep else Unexpected) w.rest)
      refused_there b true w h = inr (w.rest, refl, tt)
      refused_there true false w h = inl (sym ((within_shuts more form).refuses w h))
      refused_there false false w h = inl refl

      of : (s : State) → Lag Anyhow (beyond_up_to more last form s) (beyond_up_to more later form s)
      of (stuck why ts) = inl refl
      of (going w) = elim (cases_Bool (nat_le (length w.rest) last)) [
        | inl k ↦
            let k' : nat_le (length w.rest) later ≡ true = le-leb (length w.rest) later (omega (arith, l, leb-true (length w.rest) last k)) in
            rw (k, k') (inl refl)
        | inr k ↦ rw k (refused_there (nat_le (length w.rest) later) (is_one_of (class_of w.rest) (begins form)) w refl)
      ]

  fewer : (n : ℕ) (form : Form) → Lags Anyhow (up_to n more last form) (up_to n more later form)
  unfolding up_to
  fewer zero form = beyond_fewer form
  fewer (suc n) form = run_lags Anyhow (λ us x y e p. p) (up_to n more last) (up_to n more later) (up_to_still more last n) (up_to_front more later n) (fewer n) (rule_of form)

  pub reading_fewer : (n : ℕ) (whole : Rule) (ts : List Token) → Lag Anyhow (reading_up_to n more last whole ts) (reading_up_to n more later whole ts)
  reading_fewer n whole ts = (run_lags Anyhow (λ us x y e p. p) (up_to n more last) (up_to n more later) (up_to_still more last n) (up_to_front more later n) (fewer n) whole).lags (at_start ts)
