-- A text that isn't read has one refusal, and one that is read has none.
use Rattle.std.proofs.Common.{◌≡◌, ℕ, ◌<◌, List, [], ◌∷◌, ◌++◌, length, inl, inr, refl, sym, ap, ◌∙◌, subst, append_assoc, arith, length-append}
use Rattle.std.specs.Prelude.{◌⊎◌, nat_le}
use Rattle.std.proofs.lemmas.Bool.{cases_Bool, leb-true, leb-false}
use Rattle.js_lexer.specs.declared.token.Token.{Token}
use Rattle.parser_rules.specs.declared.form.Why.{Why}
use Rattle.parser_rules.specs.declared.form.Why.TheVariants.{Unexpected, TooDeep}
use Rattle.parser_rules.specs.Work.{Work, State, going, stuck}
use Rattle.parser_rules.specs.Rules.{Rule}
use Rattle.parser_rules.specs.Grammar.{reading}
use Rattle.parser_rules.specs.Statements.{script}
use Rattle.parser_rules.specs.Literals.{literal_text, arguments_text}
use Rattle.first_bad.specs.Viable.{BeginsWithin}
use Rattle.first_bad.specs.FirstBad.{IsOtherNew, GoesOnWithNew, IsUnexpected, OpensTooMany, IsRefused, IsFirstBad, StandsAtFirstBad, HasOneRefusal}
use Rattle.first_bad.proofs.Front.{same_tail}
use Rattle.first_bad.proofs.News.{is_other_new}
use Rattle.first_bad.proofs.Within.{longer_front, within_front, within_viable, read_within}
use Rattle.first_bad.proofs.FirstBad.{of_scripts, of_literals, of_arguments}

-- ---- two ends of one list

same_rest : (p x y : List Token) → p ++ x ≡ p ++ y → x ≡ y
same_rest [] x y e = e
same_rest (q ∷ p) x y e = same_rest p x y (same_tail q q (p ++ x) (p ++ y) e)

-- two ends of one length are one, and so are the fronts
same_split : (a b x y : List Token) → a ++ x ≡ b ++ y → length x ≡ length y → (a ≡ b) × (x ≡ y)
same_split [] [] x y e l = (refl, e)
same_split [] (r ∷ b) x y e l = absurd (omega (arith, l, ap (λ (ts : List Token). length ts) e, length-append b y))
same_split (q ∷ a) [] x y e l = absurd (omega (arith, l, ap (λ (ts : List Token). length ts) e, length-append a x))
same_split (q ∷ a) (r ∷ b) x y e l =
    let (same, ends) = same_split a b x y (same_tail q r (a ++ x) (b ++ y) e) l in
    (joined q r (a ++ x) (b ++ y) a b e same, ends)
  where
    joined : (q r : Token) (x y a b : List Token) → q ∷ x ≡ r ∷ y → a ≡ b → q ∷ a ≡ r ∷ b
    joined q r x y a b e f = cc

-- ---- one rule

module _ (whole : Rule) (levels : ℕ) where
  -- behind a bad token no text goes on
  no_text_on : (a b us vs : List Token) (t : Token) (why : Why) → BeginsWithin whole levels (a ++ t ∷ b) → (IsOtherNew t (b ++ vs) → GoesOnWithNew whole a t) → us ≡ t ∷ (b ++ vs) → IsRefused why whole levels a us → ⊥
  no_text_on a b us vs t Unexpected begins goes_on is r = elim (is_other_new t (b ++ vs)) [
    | inr n ↦ r.no_start t (b ++ vs) is n (within_viable whole levels (a ++ t ∷ []) (within_front whole levels a t b begins))
    | inl o ↦ goes o (goes_on o)
  ]
    where
      goes : IsOtherNew t (b ++ vs) → GoesOnWithNew whole a t → ⊥
      goes o (more, m, reads) = r.no_other t (b ++ vs) more is (o.2 ∙ sym m.2) reads
  no_text_on a b us vs t TooDeep begins goes_on is r =
      let same : r.token ≡ t = first r.token t r.behind (b ++ vs) (sym r.is ∙ is) in
      r.too_deep (subst (λ (q : Token). BeginsWithin whole levels (a ++ q ∷ [])) (sym same) (within_front whole levels a t b begins))
    where
      first : (q t : Token) (x y : List Token) → q ∷ x ≡ t ∷ y → q ≡ t
      first q t x y e = cc

  module _ (ts : List Token) where
    -- no text has a second bad token further on
    never_further : (why other : Why) (us vs : List Token) → IsFirstBad whole levels ts why us → IsFirstBad whole levels ts other vs → length vs < length us → ⊥
    never_further why other [] vs f g l = omega (arith, l)
    never_further why other (t ∷ u) vs f g l =
        let split : f.before ++ t ∷ u ≡ g.before ++ vs = sym f.split ∙ g.split in
        let (x, longer) = longer_front f.before g.before u vs t split l in
        let rest : t ∷ u ≡ t ∷ (x ++ vs) = same_rest f.before (t ∷ u) (t ∷ (x ++ vs)) (split ∙ ap (λ (p : List Token). p ++ vs) longer ∙ append_assoc f.before (t ∷ x) vs) in
        no_text_on f.before x (t ∷ u) vs t why (subst (λ (p : List Token). BeginsWithin whole levels p) longer g.may_go_on) (λ o. g.goes_on f.before x t longer o) rest f.refused

    never_both : (before us : List Token) → IsUnexpected whole before us → OpensTooMany whole levels before us → ⊥
    never_both before us r s = r.no_start s.token s.behind s.is s.no_new s.may_go_on

    same_why : (before us : List Token) (why other : Why) → IsRefused why whole levels before us → IsRefused other whole levels before us → why ≡ other
    same_why before us Unexpected Unexpected r s = refl
    same_why before us TooDeep TooDeep r s = refl
    same_why before us Unexpected TooDeep r s = absurd (never_both before us r s)
    same_why before us TooDeep Unexpected r s = absurd (never_both before us s r)

    pub one : (why other : Why) (us vs : List Token) → IsFirstBad whole levels ts why us → IsFirstBad whole levels ts other vs → (why ≡ other) × (us ≡ vs)
    one why other us vs f g = elim (cases_Bool (nat_le (length us) (length vs))) [
      | inr k ↦ absurd (never_further why other us vs f g (leb-false (length us) (length vs) k))
      | inl k ↦ elim (cases_Bool (nat_le (length vs) (length us))) [
        | inr h ↦ absurd (never_further other why vs us g f (leb-false (length vs) (length us) h))
        | inl h ↦
            let same : length us ≡ length vs = omega (arith, leb-true (length us) (length vs) k, leb-true (length vs) (length us) h) in
            let (fronts, ends) = same_split f.before g.before us vs (sym f.split ∙ g.split) same in
            let there = subst (λ (p : List Token). IsRefused other whole levels p us) (sym fronts) (subst (λ (x : List Token). IsRefused other whole levels g.before x) (sym ends) g.refused) in
            (same_why f.before us why other f.refused there, ends)
      ]
    ]

    -- a text that is read has none
    none_at : (w : Work) (before us : List Token) (why : Why) → reading levels whole (before ++ us) ≡ going w → IsRefused why whole levels before us → ⊥
    none_at w before us Unexpected e r = r.no_text (levels, w, e)
    none_at w before us TooDeep e r =
        let all : (before ++ r.token ∷ []) ++ r.behind ≡ before ++ us = append_assoc before (r.token ∷ []) r.behind ∙ ap (λ (x : List Token). before ++ x) (sym r.is) in
        r.too_deep (read_within whole levels (before ++ r.token ∷ []) r.behind w (ap (λ (x : List Token). reading levels whole x) all ∙ e))

    pub none : (w : Work) (why : Why) (us : List Token) → reading levels whole ts ≡ going w → ¬ (IsFirstBad whole levels ts why us)
    none w why us e f = none_at w f.before us why (ap (λ (x : List Token). reading levels whole x) (sym f.split) ∙ e) f.refused

  pub some : StandsAtFirstBad whole → (ts : List Token) → ((w : Work) × (reading levels whole ts ≡ going w)) ⊎ ((why : Why) × (us : List Token) × IsFirstBad whole levels ts why us)
  some stands ts = by (reading levels whole ts) refl
    where
      by : (s : State) → reading levels whole ts ≡ s → ((w : Work) × (reading levels whole ts ≡ going w)) ⊎ ((why : Why) × (us : List Token) × IsFirstBad whole levels ts why us)
      by (going w) e = inl (w, e)
      by (stuck why us) e = inr (why, us, stands levels ts why us e)

pub one_refusal : (whole : Rule) → StandsAtFirstBad whole → HasOneRefusal whole
one_refusal whole stands = record { some = λ levels ts. some whole levels stands ts; none = λ levels ts. none whole levels ts; one = λ levels ts. one whole levels ts }

-- ---- the texts

pub one_of_scripts : HasOneRefusal script
one_of_scripts = one_refusal script of_scripts

pub one_of_literals : HasOneRefusal literal_text
one_of_literals = one_refusal literal_text of_literals

pub one_of_arguments : HasOneRefusal arguments_text
one_of_arguments = one_refusal arguments_text of_arguments
