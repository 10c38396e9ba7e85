-- Where reading stands, no text goes on.
use Rattle.std.proofs.Common.{◌≡◌, ℕ, zero, suc, ◌+◌, true, List, [], ◌∷◌, ◌++◌, codes, bytes_eq, inl, inr, refl, sym, ap, ◌∙◌, subst, append_assoc, add_comm, suc-add, zero-add}
use Rattle.std.proofs.lemmas.Bool.{cases_Bool}
use Rattle.js_syntax.specs.declared.kind.Kind.TheVariants as kinds
use Rattle.js_lexer.specs.declared.token.Token.{Token}
use Rattle.js_lexer.specs.declared.token.TokenKind.{TokenKind}
use Rattle.js_lexer.specs.declared.token.TokenKind.TheVariants as tokens
use Rattle.parser_rules.specs.declared.class.Class.TheVariants as classes
use Rattle.parser_rules.specs.declared.form.Why.{Why}
use Rattle.parser_rules.specs.declared.form.Why.TheVariants.{Unexpected, TooDeep}
use Rattle.parser_rules.specs.Classes.{class_of, is_word_token}
use Rattle.parser_rules.specs.Work.{Work, State, going, stuck, fresh}
use Rattle.parser_rules.specs.Rules.{Rule, run}
use Rattle.parser_rules.specs.Grammar.{within, reading, at_start}
use Rattle.first_bad.specs.Viable.{Reads, Viable}
use Rattle.first_bad.specs.FirstBad.{IsOtherNew}
use Rattle.first_bad.proofs.Begins.{both}
use Rattle.first_bad.proofs.Front.{rest_of, swap}
use Rattle.first_bad.proofs.Turns.{within_below}
use Rattle.first_bad.proofs.Words.{is_new, class_fixed, alike, lost, won, two_classes, same_text}
use Rattle.first_bad.proofs.Deeper.{settled, Deeper, run_deeper, within_deeper}
use Rattle.first_bad.proofs.FirmRules.{firm, firm_looped, run_firm}
use Rattle.first_bad.proofs.FirmTable.{within_firmly}
use Rattle.first_bad.proofs.Sunk.{Turned, run_sunk, within_sunk, going_stuck}
use Rattle.first_bad.proofs.Sinks.{Fine, run_sinks, within_sinks}

abbrev pub blank : Work
blank = record { rest = []; made = 0; top = fresh kinds.Script 0; below = fresh kinds.Absent 0 ∷ [] }

pub end_class : class_of [] ≡ classes.End
unfolding class_of
end_class = refl

word_only : (kind : TokenKind) → is_word_token kind ≡ true → kind ≡ tokens.Word
word_only tokens.Word h = refl
word_only tokens.Punct h = absurd (let no : ⊥ = cc in no)
word_only tokens.Num h = absurd (let no : ⊥ = cc in no)
word_only tokens.Text h = absurd (let no : ⊥ = cc in no)

pub is_other : (t : Token) (v : List Token) → class_of (t ∷ v) ≡ classes.Foreign → is_new t ≡ true → IsOtherNew t v
is_other t v c n = let (k, x) = both (is_word_token t.kind) (bytes_eq (codes "new") t.text) n in (word_only t.kind k, sym (same_text (codes "new") t.text x), c)

module _ (whole : Rule) (steady : firm whole ≡ true) where
  -- ---- levels

  one_more : (n : ℕ) → Deeper (run (within n) whole) (run (within (suc n)) whole)
  one_more n = run_deeper (within n) (within (suc n)) (within_below n) (within_below (suc n)) (within_deeper n) whole (firm_looped whole steady)

  pub more_levels : (k n : ℕ) (ts : List Token) → settled (reading n whole ts) ≡ true → reading (k + n) whole ts ≡ reading n whole ts
  more_levels zero n ts h = rw zero-add refl
  more_levels (suc k) n ts h =
      let ih : reading (k + n) whole ts ≡ reading n whole ts = more_levels k n ts h in
      rw suc-add ((one_more (k + n)).same (at_start ts) (ap (λ (s : State). settled s) ih ∙ h) ∙ ih)

  -- what one number of levels refuses as unexpected none reads
  pub never_both : (n m : ℕ) (ts us : List Token) (w : Work) → reading n whole ts ≡ stuck Unexpected us → reading m whole ts ≡ going w → ⊥
  never_both n m ts us w e g =
      let a : reading (m + n) whole ts ≡ stuck Unexpected us = more_levels m n ts (ap (λ (s : State). settled s) e) ∙ e in
      let b : reading (n + m) whole ts ≡ going w = more_levels n m ts (ap (λ (s : State). settled s) g) ∙ g in
      going_stuck w Unexpected us (sym b ∙ ap (λ (k : ℕ). reading k whole ts) (add_comm n m) ∙ a)

  -- ---- other tokens behind the refused one

  module _ (levels : ℕ) (before : List Token) (t : Token) (v : List Token) (why : Why) (e : reading levels whole (before ++ t ∷ v) ≡ stuck why (t ∷ v)) where
    pub same_stop : (v' : List Token) → class_of (t ∷ v) ≡ class_of (t ∷ v') → reading levels whole (before ++ t ∷ v') ≡ stuck why (t ∷ v')
    same_stop v' c =
        (run_firm (within levels) (within_firmly levels) whole steady).alike (at_start (before ++ t ∷ v)) before t v v' refl (ap (λ (s : State). rest_of s) e) (inr c)
        ∙ ap (λ (s : State). swap (t ∷ v') s) e

    turned_stop : (v' : List Token) → Turned t v v' → reading levels whole (before ++ t ∷ v') ≡ stuck Unexpected (t ∷ v')
    turned_stop v' x = (run_sunk (within levels) (within_firmly levels) (within_sunk levels) whole steady).also blank before t v v' why x e

    -- reading stands whatever stands behind the token
    pub stands : (class_of (t ∷ v) ≡ classes.Foreign → is_new t ≡ true → ⊥) → (v' : List Token) → (other : Why) × (reading levels whole (before ++ t ∷ v') ≡ stuck other (t ∷ v')) × (why ≡ Unexpected → other ≡ Unexpected)
    stands known v' = elim (cases_Bool (is_new t)) [
      | inr n ↦ (why, same_stop v' (class_fixed t v v' n), λ u. u)
      | inl n ↦ elim (two_classes t v v' n) [
        | alike c ↦ (why, same_stop v' c, λ u. u)
        | lost c d ↦ (Unexpected, turned_stop v' (record { word = n; was = c; becomes = d }), λ u. refl)
        | won c d ↦ absurd (known c n)
      ]
    ]

  -- an unexpected token
  pub unexpected_at : (levels : ℕ) (before : List Token) (t : Token) (v : List Token) → reading levels whole (before ++ t ∷ v) ≡ stuck Unexpected (t ∷ v) → ¬ (IsOtherNew t v) → ¬ (Viable whole (before ++ t ∷ []))
  unexpected_at levels before t v e other (more, (j, w, h)) =
      let (why, here, u) = stands levels before t v Unexpected e (λ c n. other (is_other t v c n)) more in
      never_both levels j (before ++ t ∷ more) (t ∷ more) w (here ∙ ap (λ (x : Why). stuck x (t ∷ more)) (u refl)) (ap (λ (ts : List Token). reading j whole ts) (sym (append_assoc before (t ∷ []) more)) ∙ h)

  -- also before tokens that leave it what it is
  pub same_class_at : (levels : ℕ) (before : List Token) (t : Token) (v : List Token) → reading levels whole (before ++ t ∷ v) ≡ stuck Unexpected (t ∷ v) → (more : List Token) → class_of (t ∷ more) ≡ class_of (t ∷ v) → ¬ (Reads whole (before ++ t ∷ more))
  same_class_at levels before t v e more c (j, w, h) =
      never_both levels j (before ++ t ∷ more) (t ∷ more) w (same_stop levels before t v Unexpected e more (sym c)) h

  pub fine_at : (levels : ℕ) (ts us : List Token) → reading levels whole ts ≡ stuck TooDeep us → Fine (stuck TooDeep us)
  fine_at levels ts us e = subst (λ (s : State). Fine s) e ((run_sinks (within levels) (within_sinks levels) whole).fine (at_start ts) tt)

  pub not_at_end : (levels : ℕ) (ts : List Token) → reading levels whole ts ≡ stuck TooDeep [] → ⊥
  not_at_end levels ts e = let (_, no_end) = fine_at levels ts [] e in no_end end_class
