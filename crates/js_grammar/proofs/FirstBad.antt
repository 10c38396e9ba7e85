-- Where reading stands, the token in view is the first bad one, and a text has one.
use Rattle.std.proofs.Common.{◌≡◌, ℕ, List, [], ◌∷◌, ◌++◌, inl, inr, refl, sym, ap, ◌∙◌, subst, append_assoc, append-nil}
use Rattle.std.specs.Prelude.{◌⊎◌}
use Rattle.js_syntax.specs.Tree.{Trees}
use Rattle.js_lexer.specs.declared.token.Token.{Token}
use Rattle.parser_rules.specs.declared.form.Why.{Why}
use Rattle.parser_rules.specs.declared.form.Why.TheVariants.{Unexpected, TooDeep}
use Rattle.parser_rules.specs.Classes.{class_of}
use Rattle.parser_rules.specs.Work.{Work, State, going, stuck}
use Rattle.parser_rules.specs.Rules.{Rule}
use Rattle.parser_rules.specs.Grammar.{reading, answer_of, accepted, refusal_at, tree_of_parts}
use Rattle.parser_rules.specs.Statements.{script}
use Rattle.parser_rules.specs.Literals.{literal_text, arguments_text}
use Rattle.first_bad.specs.Viable.{Reads, Viable}
use Rattle.first_bad.specs.FirstBad as bare
use Rattle.first_bad.specs.FirstBad.{IsOtherNew, StandsAtFirstBad}
use Rattle.first_bad.proofs.FirstBad as stands
use Rattle.first_bad.proofs.News.{is_other_new}
use Rattle.first_bad.proofs.OneRefusal as single
use Rattle.js_grammar.specs.Derives.{Text, DerivesBy, ScriptBy, LiteralBy, ArgumentsBy}
use Rattle.js_grammar.specs.Exactly.{Begins, IsSameGrammar}
use Rattle.js_grammar.specs.FirstBad.{NoTree, IsBad, ends_too_early, begins_nothing, left_out, too_deep, GoesOnWithNew, IsFirstBad, HasFirstBad, HasOneRefusal}
use Rattle.js_grammar.proofs.Grammar.{scripts_same, literals_same, arguments_same}
use Rattle.js_grammar.proofs.UpTo.{SameWithin, scripts_within, literals_within, arguments_within}

module _ (whole : Rule) (TextBy : Text) (same : IsSameGrammar whole (DerivesBy TextBy)) (within : SameWithin whole TextBy) where
  -- ---- trees and what is read

  -- what has a tree is read
  pub record Went (levels : ℕ) (ts : List Token) : Type 0 where
    pub work : Work
    pub is : reading levels whole ts ≡ going work

  went_from : (levels : ℕ) (ts : List Token) (t : Trees) (s : State) → reading levels whole ts ≡ s → answer_of 0 s ≡ accepted t → Went levels ts
  went_from levels ts t (going w) e a = record { work = w; is = e }
  went_from levels ts t (stuck why us) e a = absurd (let none : ⊥ = cc in none)

  went : (levels : ℕ) (ts : List Token) (t : Trees) → DerivesBy TextBy levels ts t → Went levels ts
  went levels ts t d = went_from levels ts t (reading levels whole ts) refl ((same.accepts levels 0 ts t).1 d)

  reads : (levels : ℕ) (ts : List Token) (t : Trees) → DerivesBy TextBy levels ts t → Reads whole ts
  reads levels ts t d = let g = went levels ts t d in (levels, g.work, g.is)

  -- what is read has a tree
  tree : (levels : ℕ) (ts : List Token) (w : Work) → reading levels whole ts ≡ going w → DerivesBy TextBy levels ts (tree_of_parts w.top.parts)
  tree levels ts w e = (same.accepts levels 0 ts (tree_of_parts w.top.parts)).0 (ap (λ (s : State). answer_of 0 s) e)

  viable : (before : List Token) → Begins (DerivesBy TextBy) before → Viable whole before
  viable before b = (same.begins before).1 b

  begins : (before : List Token) → Viable whole before → Begins (DerivesBy TextBy) before
  begins before v = (same.begins before).0 v

  begins_with : (before : List Token) (t : Token) (more : List Token) → Reads whole (before ++ t ∷ more) → Begins (DerivesBy TextBy) (before ++ t ∷ [])
  begins_with before t more r = begins (before ++ t ∷ []) (more, subst (λ (ts : List Token). Reads whole ts) (sym (append_assoc before (t ∷ []) more)) r)

  no_tree : (ts : List Token) → ¬ (Reads whole ts) → NoTree TextBy ts
  no_tree ts none = λ levels t d. none (reads levels ts t d)

  none_reads : (ts : List Token) → NoTree TextBy ts → ¬ (Reads whole ts)
  none_reads ts none (levels, w, e) = none levels (tree_of_parts w.top.parts) (tree levels ts w e)

  -- ---- the first bad token of a rule is that of the texts

  none_here : (levels : ℕ) (ts us : List Token) (why : Why) → reading levels whole ts ≡ stuck why us → (t : Trees) → ¬ (DerivesBy TextBy levels ts t)
  none_here levels ts us why e t d = (same.refuses levels 0 ts).0 (refusal_at 0 why us, ap (λ (s : State). answer_of 0 s) e) t d

  unexpected_there : (levels : ℕ) (before us : List Token) → bare.IsUnexpected whole before us → IsBad TextBy levels before Unexpected us
  unexpected_there levels before [] r = ends_too_early (no_tree before (subst (λ (ts : List Token). ¬ (Reads whole ts)) (append-nil before) r.no_text))
  unexpected_there levels before (t ∷ v) r = elim (is_other_new t v) [
    | inl o ↦ left_out o (λ more m. no_tree (before ++ t ∷ more) (r.no_other t v more refl (o.2 ∙ sym m.2)))
    | inr n ↦ begins_nothing (λ b. r.no_start t v refl n (viable (before ++ t ∷ []) b))
  ]

  bad_there : (levels : ℕ) (before us : List Token) (why : Why) → bare.IsRefused why whole levels before us → IsBad TextBy levels before why us
  bad_there levels before us Unexpected r = unexpected_there levels before us r
  bad_there levels before us TooDeep r =
      subst (λ (x : List Token). IsBad TextBy levels before TooDeep x) (sym r.is)
      (too_deep r.no_new (begins (before ++ r.token ∷ []) r.may_go_on) (λ b. r.too_deep ((within levels (before ++ r.token ∷ [])).1 b)))

  new_there : (a : List Token) (t : Token) → bare.GoesOnWithNew whole a t → GoesOnWithNew TextBy a t
  new_there a t (more, m, (levels, w, e)) = (more, m, levels, tree_of_parts w.top.parts, tree levels (a ++ t ∷ more) w e)

  first_there : StandsAtFirstBad whole → HasFirstBad whole TextBy
  first_there bad levels ts why us e =
      let r = bad levels ts why us e in
      record {
        before = r.before;
        split = r.split;
        none = none_here levels ts us why e;
        begins = (within levels r.before).0 r.may_go_on;
        goes_on = λ a b t k o. new_there a t (r.goes_on a b t k o);
        bad = bad_there levels r.before us why r.refused;
      }

  -- ---- and the other way round

  new_here : (a : List Token) (t : Token) → GoesOnWithNew TextBy a t → bare.GoesOnWithNew whole a t
  new_here a t (more, m, levels, u, d) = (more, m, reads levels (a ++ t ∷ more) u d)

  nothing_more : (t : Token) (v : List Token) → [] ≡ t ∷ v → ⊥
  nothing_more t v e = cc

  same_head : (t q : Token) (x y : List Token) → t ∷ x ≡ q ∷ y → t ≡ q
  same_head t q x y e = cc

  refused_here : (levels : ℕ) (before us : List Token) (why : Why) → IsBad TextBy levels before why us → bare.IsRefused why whole levels before us
  refused_here levels before _ _ (ends_too_early none) = record {
    no_text = λ r. none_reads before none (subst (λ (ts : List Token). Reads whole ts) (append-nil before) r);
    no_start = λ t v k. absurd (nothing_more t v k);
    no_other = λ t v more k. absurd (nothing_more t v k);
  }
  refused_here levels before _ _ (begins_nothing {t = t} {ts = ts} none) = record {
    no_text = λ r. none (begins_with before t ts r);
    no_start = λ q v k n b. none (subst (λ (x : Token). Begins (DerivesBy TextBy) (before ++ x ∷ [])) (sym (same_head t q ts v k)) (begins (before ++ q ∷ []) b));
    no_other = λ q v more k c r. none (subst (λ (x : Token). Begins (DerivesBy TextBy) (before ++ x ∷ [])) (sym (same_head t q ts v k)) (begins_with before q more r));
  }
  refused_here levels before _ _ (left_out {t = t} {ts = ts} o none) = record {
    no_text = λ r. none_reads (before ++ t ∷ ts) (none ts o) r;
    no_start = λ q v k n b. n (of q v k o);
    no_other = λ q v more k c r. never q v more k c r;
  }
    where
      of : (q : Token) (v : List Token) → t ∷ ts ≡ q ∷ v → IsOtherNew t ts → IsOtherNew q v
      of q v k o = let (a, b, c) = o in let head = same_head t q ts v k in (sym (ap (λ (x : Token). x.kind) head) ∙ a, sym (ap (λ (x : Token). x.text) head) ∙ b, sym (ap (λ (x : List Token). class_of x) k) ∙ c)

      never : (q : Token) (v more : List Token) → t ∷ ts ≡ q ∷ v → class_of (q ∷ v) ≡ class_of (q ∷ more) → Reads whole (before ++ q ∷ more) → ⊥
      never q v more k c r =
          let (a, b, d) = of q v k o in
          let other : IsOtherNew q more = (a, b, sym c ∙ d) in
          let head : q ≡ t = sym (same_head t q ts v k) in
          none_reads (before ++ t ∷ more) (none more (subst (λ (x : Token). IsOtherNew x more) head other)) (subst (λ (x : Token). Reads whole (before ++ x ∷ more)) head r)
  refused_here levels before _ _ (too_deep {t = t} {ts = ts} n b deep) = record {
    token = t;
    behind = ts;
    is = refl;
    no_new = n;
    may_go_on = viable (before ++ t ∷ []) b;
    too_deep = λ w. deep ((within levels (before ++ t ∷ [])).0 w);
  }

  first_here : (levels : ℕ) (ts : List Token) (why : Why) (us : List Token) → IsFirstBad TextBy levels ts why us → bare.IsFirstBad whole levels ts why us
  first_here levels ts why us f = record {
    before = f.before;
    split = f.split;
    may_go_on = (within levels f.before).1 f.begins;
    goes_on = λ a b t k o. new_here a t (f.goes_on a b t k o);
    refused = refused_here levels f.before us why f.bad;
  }

  -- ---- one refusal

  one_there : StandsAtFirstBad whole → bare.HasOneRefusal whole → HasOneRefusal TextBy
  one_there bad only = record {
    some = λ levels ts. by levels ts (reading levels whole ts) refl;
    none = λ levels ts t why us d f. let g = went levels ts t d in only.none levels ts g.work why us g.is (first_here levels ts why us f);
    one = λ levels ts why other us vs f g. only.one levels ts why other us vs (first_here levels ts why us f) (first_here levels ts other vs g);
  }
    where
      by : (levels : ℕ) (ts : List Token) (s : State) → reading levels whole ts ≡ s → ((t : Trees) × DerivesBy TextBy levels ts t) ⊎ ((why : Why) × (left : List Token) × IsFirstBad TextBy levels ts why left)
      by levels ts (going w) e = inl (tree_of_parts w.top.parts, tree levels ts w e)
      by levels ts (stuck why us) e = inr (why, us, first_there bad levels ts why us e)

-- ---- the texts

pub scripts_first : HasFirstBad script ScriptBy
scripts_first = first_there script ScriptBy scripts_same scripts_within stands.of_scripts

pub literals_first : HasFirstBad literal_text LiteralBy
literals_first = first_there literal_text LiteralBy literals_same literals_within stands.of_literals

pub arguments_first : HasFirstBad arguments_text ArgumentsBy
arguments_first = first_there arguments_text ArgumentsBy arguments_same arguments_within stands.of_arguments

pub scripts_once : HasOneRefusal ScriptBy
scripts_once = one_there script ScriptBy scripts_same scripts_within stands.of_scripts single.one_of_scripts

pub literals_once : HasOneRefusal LiteralBy
literals_once = one_there literal_text LiteralBy literals_same literals_within stands.of_literals single.one_of_literals

pub arguments_once : HasOneRefusal ArgumentsBy
arguments_once = one_there arguments_text ArgumentsBy arguments_same arguments_within stands.of_arguments single.one_of_arguments
