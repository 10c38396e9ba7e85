-- With which tokens a text begins within so many levels, and with which none does.
use Rattle.std.proofs.Common.{◌≡◌, ℕ, ◌<◌, ◌≤◌, true, List, [], ◌∷◌, ◌++◌, length, inl, inr, sym, ap, ◌∙◌, append_assoc, arith, length-append}
use Rattle.js_lexer.specs.declared.token.Token.{Token}
use Rattle.parser_rules.specs.declared.class.Class.TheVariants as classes
use Rattle.parser_rules.specs.declared.form.Why.{Why}
use Rattle.parser_rules.specs.declared.form.Why.TheVariants.{TooDeep}
use Rattle.parser_rules.specs.Classes.{class_of}
use Rattle.parser_rules.specs.Work.{Work, State, going, stuck}
use Rattle.parser_rules.specs.Rules.{Rule}
use Rattle.parser_rules.specs.Grammar.{reading, at_start}
use Rattle.first_bad.specs.Viable.{Viable, up_to, reading_up_to, BeginsWithin}
use Rattle.first_bad.proofs.Front.{rest_of, run_front, same_tail}
use Rattle.first_bad.proofs.Deeper.{settled}
use Rattle.first_bad.proofs.FirmRules.{firm}
use Rattle.first_bad.proofs.Sunk.{going_stuck}
use Rattle.first_bad.proofs.Refusals.{more_levels, stands, fine_at}
use Rattle.first_bad.proofs.Completed.{Whole, before_viable}
use Rattle.first_bad.proofs.Lags.{Lag}
use Rattle.first_bad.proofs.UpTo.{together, together_sum, up_to_front, Early, reading_early, Late, reading_late, Anyhow, reading_fewer}

-- a front before the same tokens that leaves fewer begins with the whole of the other, and the next token
pub longer_front : (a b v us : List Token) (t : Token) → a ++ t ∷ v ≡ b ++ us → length us < length (t ∷ v) → (x : List Token) × (b ≡ a ++ t ∷ x)
longer_front a [] v us t e l = absurd (omega (arith, ap (λ (ts : List Token). length ts) e, l, length-append a (t ∷ v)))
longer_front [] (q ∷ b) v us t e l = (b, same_heads t q v (b ++ us) b e)
  where
    same_heads : (t q : Token) (x y b : List Token) → t ∷ x ≡ q ∷ y → q ∷ b ≡ t ∷ b
    same_heads t q x y b e = cc
longer_front (q ∷ a) (r ∷ b) v us t e l =
    let (x, same) = longer_front a b v us t (same_tail q r (a ++ t ∷ v) (b ++ us) e) l in
    (x, joined q r (a ++ t ∷ v) (b ++ us) b (a ++ t ∷ x) e same)
  where
    joined : (q r : Token) (x y b z : List Token) → q ∷ x ≡ r ∷ y → b ≡ z → r ∷ b ≡ q ∷ z
    joined q r x y b z e f = cc

-- ---- what begins so

lag_goes : (Gone : List Token → List Token → Type 0) (s t : State) (w : Work) → Lag Gone s t → s ≡ going w → t ≡ going w
lag_goes Gone s t w (inl e) k = sym e ∙ k
lag_goes Gone s t w (inr (us, e, p)) k = going_stuck w TooDeep us (sym k ∙ e)

-- a text that begins so begins so with each front
pub within_front : (whole : Rule) (levels : ℕ) (before : List Token) (t : Token) (x : List Token) → BeginsWithin whole levels (before ++ t ∷ x) → BeginsWithin whole levels (before ++ t ∷ [])
within_front whole levels before t x (more, behind, w, e) =
    let shorter : length behind ≤ length (x ++ behind) = omega (arith, length-append x behind) in
    let same : (before ++ t ∷ x) ++ behind ≡ (before ++ t ∷ []) ++ (x ++ behind) = append_assoc before (t ∷ x) behind ∙ sym (append_assoc before (t ∷ []) (x ++ behind)) in
    let longer = lag_goes Anyhow _ _ w (reading_fewer more (length behind) (length (x ++ behind)) shorter levels whole ((before ++ t ∷ x) ++ behind)) e in
    (more, x ++ behind, w, ap (λ (ts : List Token). reading_up_to levels more (length (x ++ behind)) whole ts) (sym same) ∙ longer)

-- some text begins so
pub within_viable : (whole : Rule) (levels : ℕ) (before : List Token) → BeginsWithin whole levels before → Viable whole before
within_viable whole levels before (more, behind, w, e) =
    (behind, (together levels more, w, lag_goes (Early more (length behind)) _ _ w (reading_early more (length behind) levels whole (before ++ behind)) e))

-- what is read begins so
pub read_within : (whole : Rule) (levels : ℕ) (before behind : List Token) (w : Work) → reading levels whole (before ++ behind) ≡ going w → BeginsWithin whole levels before
read_within whole levels before behind w e = (levels, behind, w, lag_goes (Late levels (length behind)) _ _ w (reading_late levels (length behind) levels whole (before ++ behind)) e)

module _ (whole : Rule) (steady : firm whole ≡ true) where
  fine_new : (levels : ℕ) (ts : List Token) (t : Token) (v : List Token) → reading levels whole ts ≡ stuck TooDeep (t ∷ v) → class_of (t ∷ v) ≡ classes.Foreign → ⊥
  fine_new levels ts t v e = let (no_foreign, _) = fine_at whole steady levels ts (t ∷ v) e in no_foreign

  -- ---- the tokens at which reading stands for want of levels begin nothing so

  pub never_within : (levels : ℕ) (before : List Token) (t : Token) (v : List Token) → reading levels whole (before ++ t ∷ v) ≡ stuck TooDeep (t ∷ v) → ¬ (BeginsWithin whole levels (before ++ t ∷ []))
  never_within levels before t v e (more, behind, w, g) =
      let (why, here, _) = stands whole steady levels before t v TooDeep e (λ c n. fine_new levels (before ++ t ∷ v) t v e c) behind in
      by why here (reading_late more (length behind) levels whole (before ++ t ∷ behind))
    where
      goes : reading_up_to levels more (length behind) whole (before ++ t ∷ behind) ≡ going w
      goes = ap (λ (ts : List Token). reading_up_to levels more (length behind) whole ts) (sym (append_assoc before (t ∷ []) behind)) ∙ g

      by : (why : Why) → reading levels whole (before ++ t ∷ behind) ≡ stuck why (t ∷ behind) → Lag (Late more (length behind)) (reading levels whole (before ++ t ∷ behind)) (reading_up_to levels more (length behind) whole (before ++ t ∷ behind)) → ⊥
      by why here (inl k) = going_stuck w why (t ∷ behind) (sym goes ∙ sym k ∙ here)
      by why here (inr (us, k, (short, _))) = omega (arith, short, ap (λ (s : State). length (rest_of s)) (sym k ∙ here))

  -- ---- those before begin a text so

  module _ (ends : Whole whole) (levels : ℕ) (before us : List Token) (why : Why) (e : reading levels whole (before ++ us) ≡ stuck why us) where
    -- reading would have stood at a token before
    not_before : (front : List Token) (t : Token) (v more : List Token) → before ++ more ≡ front ++ t ∷ v → length more < length (t ∷ v) → reading levels whole (before ++ more) ≡ stuck TooDeep (t ∷ v) → ⊥
    not_before front t v more split l s =
        let (x, longer) = longer_front front before v more t (sym split) l in
        let here : reading levels whole (front ++ t ∷ v) ≡ stuck TooDeep (t ∷ v) = ap (λ (ts : List Token). reading levels whole ts) (sym split) ∙ s in
        let (other, there, _) = stands whole steady levels front t v TooDeep here (λ c n. fine_new levels (front ++ t ∷ v) t v here c) (x ++ us) in
        let same : before ++ us ≡ front ++ t ∷ (x ++ us) = ap (λ (ts : List Token). ts ++ us) longer ∙ append_assoc front (t ∷ x) us in
        let both : stuck why us ≡ stuck other (t ∷ (x ++ us)) = sym e ∙ ap (λ (ts : List Token). reading levels whole ts) same ∙ there in
        omega (arith, ap (λ (s : State). length (rest_of s)) both, length-append x us)

    not_early : (more : ℕ) (behind ts : List Token) → reading_up_to levels more (length behind) whole (before ++ behind) ≡ stuck TooDeep ts → length behind < length ts → ⊥
    not_early more behind [] s l = omega (arith, l)
    not_early more behind (t ∷ v) s l =
        let (front, split') = (run_front (up_to levels more (length behind)) (up_to_front more (length behind) levels) whole).ends (at_start (before ++ behind)) in
        let split : before ++ behind ≡ front ++ t ∷ v = split' ∙ ap (λ (m : State). front ++ rest_of m) s in
        by front split (reading_late more (length behind) levels whole (before ++ behind))
      where
        by : (front : List Token) → before ++ behind ≡ front ++ t ∷ v → Lag (Late more (length behind)) (reading levels whole (before ++ behind)) (reading_up_to levels more (length behind) whole (before ++ behind)) → ⊥
        by front split (inl k) = not_before front t v behind split l (k ∙ s)
        by front split (inr (us, k, (_, short))) = omega (arith, l, short, ap (λ (m : State). length (rest_of m)) s)

    completed_within : Viable whole before → BeginsWithin whole levels before
    completed_within (behind, (more, w, g)) = by (reading_early more (length behind) levels whole (before ++ behind))
      where
        together_goes : reading (together levels more) whole (before ++ behind) ≡ going w
        together_goes =
            ap (λ (k : ℕ). reading k whole (before ++ behind)) (together_sum levels more)
            ∙ more_levels whole steady levels more (before ++ behind) (ap (λ (s : State). settled s) g)
            ∙ g

        by : Lag (Early more (length behind)) (reading_up_to levels more (length behind) whole (before ++ behind)) (reading (together levels more) whole (before ++ behind)) → BeginsWithin whole levels before
        by (inl k) = (more, behind, w, k ∙ together_goes)
        by (inr (us, k, l)) = absurd (not_early more behind us k l)

    pub before_within : BeginsWithin whole levels before
    before_within = completed_within (before_viable whole ends levels before us why e)
