-- Where reading stands, it stands at the first bad token.
use Rattle.std.proofs.Common.{◌≡◌, ℕ, suc, ◌<◌, Bool, true, List, [], ◌∷◌, ◌++◌, length, refl, sym, ap, ◌∙◌, subst, append_assoc, arith, length-append}
use Rattle.js_lexer.specs.declared.token.Token.{Token}
use Rattle.parser_rules.specs.declared.form.Why.{Why}
use Rattle.parser_rules.specs.declared.form.Why.TheVariants.{Unexpected, TooDeep}
use Rattle.parser_rules.specs.Work.{State, going, stuck}
use Rattle.parser_rules.specs.Rules.{Rule}
use Rattle.parser_rules.specs.Grammar.{within, reading, at_start}
use Rattle.parser_rules.specs.Statements.{script}
use Rattle.parser_rules.specs.Literals.{literal_text, arguments_text}
use Rattle.first_bad.specs.Viable.{Viable}
use Rattle.first_bad.specs.FirstBad.{IsOtherNew, GoesOnWithNew, IsRefused, OpensTooMany, StandsAtFirstBad}
use Rattle.first_bad.proofs.Front.{rest_of, run_front, within_front}
use Rattle.first_bad.proofs.Turns.{within_below}
use Rattle.first_bad.proofs.FirmRules.{firm, firm_looped}
use Rattle.first_bad.proofs.FirmTable.{script_firm, literal_firm, arguments_firm}
use Rattle.first_bad.proofs.Past.{run_past, within_past, three_levels}
use Rattle.first_bad.proofs.Marks.{edge, has}
use Rattle.first_bad.proofs.Facts.{Start}
use Rattle.first_bad.proofs.Completed.{Whole, before_viable}
use Rattle.first_bad.proofs.FormFacts as facts
use Rattle.first_bad.proofs.Refusals.{never_both, unexpected_at, same_class_at, not_at_end, fine_at}
use Rattle.first_bad.proofs.News.{past_new}
use Rattle.first_bad.proofs.Within.{longer_front, never_within, before_within}

-- a text begins with each front of what it begins with
viable_front : (whole : Rule) (before : List Token) (t : Token) (x : List Token) → Viable whole (before ++ t ∷ x) → Viable whole (before ++ t ∷ [])
viable_front whole before t x (more, (j, w, e)) = (
  x ++ more,
  (j, w, ap (λ (ts : List Token). reading j whole ts) (append_assoc before (t ∷ []) (x ++ more) ∙ sym (append_assoc before (t ∷ x) more)) ∙ e),
)

module _ (whole : Rule) (steady : firm whole ≡ true) (ends : Whole whole) where
  -- ---- a token that opens too many levels

  deep_viable : (levels : ℕ) (before : List Token) (t : Token) (v : List Token) → reading levels whole (before ++ t ∷ v) ≡ stuck TooDeep (t ∷ v) → Viable whole (before ++ t ∷ [])
  deep_viable levels before t v e = by (reading three whole (before ++ t ∷ v)) refl
    where
      three : ℕ
      three = suc (suc (suc levels))

      less : length (rest_of (reading (suc (suc (suc levels))) whole (before ++ t ∷ v))) < length (t ∷ v)
      less = (run_past (within levels) (within (suc (suc (suc levels)))) (within_below levels) (within_below (suc (suc (suc levels)))) (three_levels levels) (within_past levels) whole (firm_looped whole steady)).goes_by _ (t ∷ v) e

      by : (s : State) → reading (suc (suc (suc levels))) whole (before ++ t ∷ v) ≡ s → Viable whole (before ++ t ∷ [])
      by (going w) k = (v, (suc (suc (suc levels)), w, ap (λ (ts : List Token). reading (suc (suc (suc levels))) whole ts) (append_assoc before (t ∷ []) v) ∙ k))
      by (stuck why us) k =
          let (front, split') = (run_front (within (suc (suc (suc levels)))) (within_front (suc (suc (suc levels)))) whole).ends (at_start (before ++ t ∷ v)) in
          let split : before ++ t ∷ v ≡ front ++ us = split' ∙ ap (λ (s : State). front ++ rest_of s) k in
          let (x, longer) = longer_front before front v us t split (omega (arith, less, ap (λ (s : State). length (rest_of s)) k)) in
          let begins : Viable whole front = before_viable whole ends (suc (suc (suc levels))) front us why (ap (λ (ts : List Token). reading (suc (suc (suc levels))) whole ts) (sym split) ∙ k) in
          viable_front whole before t x (subst (λ (ts : List Token). Viable whole ts) longer begins)

  not_new : (levels : ℕ) (before : List Token) (t : Token) (v : List Token) → reading levels whole (before ++ t ∷ v) ≡ stuck TooDeep (t ∷ v) → ¬ (IsOtherNew t v)
  not_new levels before t v e o = let (no_foreign, _) = fine_at whole steady levels (before ++ t ∷ v) (t ∷ v) e in no_foreign o.2

  opens_too_many : (levels : ℕ) (before us : List Token) → reading levels whole (before ++ us) ≡ stuck TooDeep us → OpensTooMany whole levels before us
  opens_too_many levels before [] e = absurd (not_at_end whole steady levels (before ++ []) e)
  opens_too_many levels before (t ∷ v) e = record {
    token = t;
    behind = v;
    is = refl;
    no_new = not_new levels before t v e;
    may_go_on = deep_viable levels before t v e;
    too_deep = never_within whole steady levels before t v e;
  }

  is_refused : (levels : ℕ) (why : Why) (before us : List Token) → reading levels whole (before ++ us) ≡ stuck why us → IsRefused why whole levels before us
  is_refused levels TooDeep before us e = opens_too_many levels before us e
  is_refused levels Unexpected before us e = record {
    no_text = λ (m, w, g). never_both whole steady levels m (before ++ us) us w e g;
    no_start = λ t v k. unexpected_at whole steady levels before t v (here t v k);
    no_other = λ t v more k c. same_class_at whole steady levels before t v (here t v k) more (sym c);
  }
    where
      here : (t : Token) (v : List Token) → us ≡ t ∷ v → reading levels whole (before ++ t ∷ v) ≡ stuck Unexpected (t ∷ v)
      here t v k = subst (λ (x : List Token). reading levels whole (before ++ x) ≡ stuck Unexpected x) k e

  -- ---- a `new` that reading went past

  went_past : (levels : ℕ) (before us : List Token) (why : Why) → reading levels whole (before ++ us) ≡ stuck why us → (a b : List Token) (t : Token) → before ≡ a ++ t ∷ b → IsOtherNew t (b ++ us) → GoesOnWithNew whole a t
  went_past levels before us why e a b t same o =
      let all : before ++ us ≡ a ++ t ∷ (b ++ us) = ap (λ (ts : List Token). ts ++ us) same ∙ append_assoc a (t ∷ b) us in
      past_new whole steady ends levels a t (b ++ us) us why o (ap (λ (ts : List Token). reading levels whole ts) (sym all) ∙ e) (omega (arith, length-append b us))

  pub first_bad : StandsAtFirstBad whole
  first_bad levels ts why us e =
      let (before, split') = (run_front (within levels) (within_front levels) whole).ends (at_start ts) in
      let split : ts ≡ before ++ us = split' ∙ ap (λ (s : State). before ++ rest_of s) e in
      let at : reading levels whole (before ++ us) ≡ stuck why us = ap (λ (x : List Token). reading levels whole x) (sym split) ∙ e in
      record {
        before = before;
        split = split;
        may_go_on = before_within whole steady ends levels before us why at;
        goes_on = went_past levels before us why at;
        refused = is_refused levels why before us at;
      }

-- ---- the texts

whole_script : Whole script
whole_script = record { starts = ap (λ (s : Start). has s.before edge) facts.script_starts; finishes = ap (λ (ms : List Bool). has ms edge) facts.script_finishes }

whole_literal : Whole literal_text
whole_literal = record { starts = ap (λ (s : Start). has s.before edge) facts.literal_text_starts; finishes = ap (λ (ms : List Bool). has ms edge) facts.literal_text_finishes }

whole_arguments : Whole arguments_text
whole_arguments = record { starts = ap (λ (s : Start). has s.before edge) facts.arguments_text_starts; finishes = ap (λ (ms : List Bool). has ms edge) facts.arguments_text_finishes }

pub of_scripts : StandsAtFirstBad script
of_scripts = first_bad script script_firm whole_script

pub of_literals : StandsAtFirstBad literal_text
of_literals = first_bad literal_text literal_firm whole_literal

pub of_arguments : StandsAtFirstBad arguments_text
of_arguments = first_bad arguments_text arguments_firm whole_arguments
