-- Where each rule was refused behind some tokens, these tokens can be gone on with.
use Rattle.std.proofs.Common.{◌≡◌, ℕ, zero, suc, ◌≤◌, Bool, true, false, ◌&&◌, ◌||◌, if◌then◌else◌, List, [], ◌∷◌, ◌++◌, length, Option, None, Some, inl, inr, refl, sym, ap, ◌∙◌, subst, append_assoc, arith}
use Rattle.std.proofs.lemmas.Bool.{cases_Bool}
use Rattle.js_lexer.specs.declared.token.Token.{Token}
use Rattle.parser_rules.specs.declared.form.Form.{Form}
use Rattle.parser_rules.specs.declared.form.Cover.{Cover}
use Rattle.parser_rules.specs.declared.form.Cover.TheVariants as covers
use Rattle.parser_rules.specs.declared.form.Why.{Why}
use Rattle.parser_rules.specs.declared.form.Why.TheVariants.{Unexpected}
use Rattle.parser_rules.specs.Work.{Work, State, going, stuck}
use Rattle.parser_rules.specs.Rules.{Test, Rule, nothing_more, take, act, inside, ◌▸◌, either, many, refuse, passes, after, work_after, refused, left, run}
use Rattle.parser_rules.proofs.Laws.{takes, run_still}
use Rattle.first_bad.proofs.Begins.{both, idle}
use Rattle.first_bad.proofs.Views.{put}
use Rattle.first_bad.proofs.Turns.{loop, loop_ends, loop_front, loop_goes, turn_front, turn_less}
use Rattle.first_bad.proofs.Words.{new_or_not, Opening, new_opens}
use Rattle.first_bad.proofs.Walk.{further}
use Rattle.first_bad.proofs.Far.{unit, unit_heads}
use Rattle.first_bad.proofs.Firm.{blind}
use Rattle.first_bad.proofs.FirmRules.{Firmly, unit_shuts, firm, run_firm, apart}
use Rattle.first_bad.proofs.Marks.{Mark, Shows, tokens_of, seen, Marks, marks, has, has_marks, every, meet, has_meet}
use Rattle.first_bad.proofs.Facts.{only_if, is_no, ended, again, follows, Start, start, three, finish_then, finish}
use Rattle.first_bad.proofs.Starts.{GoesTo, Starts, nothing_there, put_rest}
use Rattle.first_bad.proofs.Sunk.{going_stuck}
use Rattle.first_bad.proofs.Again.{firm_parts, parts_from}
use Rattle.first_bad.proofs.AgainRules.{AgainOn, run_again, way_same, loop_at_mark, same_test}
use Rattle.first_bad.proofs.Deeper.{Deeper}
use Rattle.first_bad.proofs.Finish.{Completes, FinishOn, rest_stuck, at_once, take_finishes, deeper_goes, then_finishes}

module _ (at at' : Form → State → State) (fy : Firmly at) (fy' : Firmly at') (d : (form : Form) → Deeper (at form) (at' form)) (inner : Form → Start) (si : (k : Option Cover) (form : Form) → Starts (at' form) k (inner form)) (ai : (form : Form) → AgainOn (at' form) (follows form)) where
  -- ---- two ways

  module _ (test : Test) (first second : Rule) (p1 : firm first ≡ true) (p2 : firm second ≡ true) (guard : (blind test || apart test first second) ≡ true) (lf : FinishOn (run at first) (run at' first) (finish inner first)) (ls : FinishOn (run at second) (run at' second) (finish inner second)) where
    way_of : Bool → Work → State
    way_of b w = if b then run at first (going w) else run at second (going w)

    either_finishes : FinishOn (run at (either test first second)) (run at' (either test first second)) (meet (finish inner first) (finish inner second))
    unfolding way_of
    either_finishes = record {
      ends = λ m h w q p us why e.
          let (i, j) = has_meet (finish inner first) (finish inner second) m h in
          let same = λ (x : List Token). way_same at fy test first second (run_firm at fy first p1) (run_firm at fy second p2) guard w q p us x (rest_stuck _ why us e) in
          elim (cases_Bool (passes test (going (put (q ∷ (p ++ us)) w)))) [
            | inl k ↦
                let c = lf.ends m i w q p us why (subst (λ (b : Bool). way_of b (put (q ∷ (p ++ us)) w) ≡ stuck why us) k e) in
                record { text = c.text; reads = λ x shows. let g = c.reads x shows in record { work = g.work; goes = rw (same (tokens_of c.text x) ∙ k) g.goes; rest = g.rest } }
            | inr k ↦
                let c = ls.ends m j w q p us why (subst (λ (b : Bool). way_of b (put (q ∷ (p ++ us)) w) ≡ stuck why us) k e) in
                record { text = c.text; reads = λ x shows. let g = c.reads x shows in record { work = g.work; goes = rw (same (tokens_of c.text x) ∙ k) g.goes; rest = g.rest } }
          ];
    }

  -- ---- loops

  module _ (test : Test) (rule : Rule) (t : takes rule ≡ true) (b : blind test ≡ true) (h : firm rule ≡ true) (l : FinishOn (run at rule) (run at' rule) (finish inner rule)) where
    abbrev turns : State → State
    turns s = loop at fy.below test rule t s

    abbrev turns' : State → State
    turns' s = loop at' fy'.below test rule t s

    -- the loop ends where a turn has ended in front of the mark
    one_turn : (m : Mark) → is_no (seen None test m) ≡ true → (w : Work) (q : Token) (p us x : List Token) → Shows m x → passes test (going (put (q ∷ (p ++ us)) w)) ≡ true → (ts : List Token) → GoesTo (run at' rule) (put ((q ∷ p) ++ ts) w) x → GoesTo turns' (put ((q ∷ p) ++ ts) w) x
    one_turn m n w q p us x shows k ts g = record {
      work = g.work;
      goes = loop_goes at' fy'.below test rule t (going (put ((q ∷ p) ++ ts) w)) (same_test at' fy' test rule t b (run_firm at' fy' rule h) (run_again at' fy' ai rule) w q p us ts ∙ k)
          ∙ ap (λ (s : State). turns' s) g.goes
          ∙ loop_at_mark at' fy' test rule t b (run_firm at' fy' rule h) (run_again at' fy' ai rule) m n g.work x shows g.rest;
      rest = g.rest;
    }

    Further : Mark → List Token → Why → Type 0
    Further m us why = (a : Work) (x : Token) (back : List Token) → a.rest ≡ x ∷ (back ++ us) → turns (going a) ≡ stuck why us → Completes turns' m a (x ∷ back)

    loop_parts : (m : Mark) → has (again rule) m ≡ true → is_no (seen None test m) ≡ true → (w : Work) (q : Token) (p us : List Token) (why : Why) → passes test (going (put (q ∷ (p ++ us)) w)) ≡ true → (front back : List Token) (a : Work) → (q ∷ p) ≡ front ++ back → run at rule (going (put (q ∷ (p ++ us)) w)) ≡ going a → a.rest ≡ back ++ us → turns (going a) ≡ stuck why us → ((x : Token) (back : List Token) → a.rest ≡ x ∷ (back ++ us) → Completes turns' m a (x ∷ back)) → Completes turns' m w (q ∷ p)
    loop_parts m g n w q p us why k front [] a is e r last further =
        record { text = []; reads = λ x shows. one_turn m n w q p us x shows k x ((run_again at' fy' ai rule).holds m g w (q ∷ p) us x shows (record { work = a; goes = deeper_goes at at' fy fy' d inner si ai rule h (put (q ∷ (p ++ us)) w) a e; rest = r })) }
    loop_parts m g n w q p us why k front (x ∷ back) a is e r last further =
        let c = further x back r in
        let there : (y : List Token) → (q ∷ p) ++ y ≡ front ++ (x ∷ (back ++ y)) = λ y. ap (λ (z : List Token). z ++ y) is ∙ append_assoc front (x ∷ back) y in
        let now : run at' rule (going (put (q ∷ (p ++ us)) w)) ≡ going a = deeper_goes at at' fy fy' d inner si ai rule h (put (q ∷ (p ++ us)) w) a e in
        let before : run at' rule (going (put (front ++ (x ∷ (back ++ us))) w)) ≡ going a = ap (λ (z : List Token). run at' rule (going (put z w))) (sym (there us)) ∙ now in
        record {
          text = c.text;
          reads = λ y shows.
              let ts = tokens_of c.text y in
              let moved : run at' rule (going (put ((q ∷ p) ++ ts) w)) ≡ going (put (x ∷ (back ++ ts)) a) = ap (λ (z : List Token). run at' rule (going (put z w))) (there ts) ∙ firm_parts (run at' rule) (run_firm at' fy' rule h) w front x back us ts a before r in
              let on = c.reads y shows in
              record {
                work = on.work;
                goes = loop_goes at' fy'.below test rule t (going (put ((q ∷ p) ++ ts) w)) (same_test at' fy' test rule t b (run_firm at' fy' rule h) (run_again at' fy' ai rule) w q p us ts ∙ k) ∙ ap (λ (s : State). turns' s) moved ∙ on.goes;
                rest = on.rest;
              };
        }

    loop_turn : (m : Mark) → has (finish inner rule) m ≡ true → has (again rule) m ≡ true → is_no (seen None test m) ≡ true → (w : Work) (q : Token) (p us : List Token) (why : Why) → passes test (going (put (q ∷ (p ++ us)) w)) ≡ true → turns (going (put (q ∷ (p ++ us)) w)) ≡ stuck why us → ((a : Work) → run at rule (going (put (q ∷ (p ++ us)) w)) ≡ going a → turns (going a) ≡ stuck why us → (x : Token) (back : List Token) → a.rest ≡ x ∷ (back ++ us) → Completes turns' m a (x ∷ back)) → Completes turns' m w (q ∷ p)
    loop_turn m f g n w q p us why k e further = by (run at rule (going (put (q ∷ (p ++ us)) w))) refl
      where
        step : turns (run at rule (going (put (q ∷ (p ++ us)) w))) ≡ stuck why us
        step = sym (loop_goes at fy.below test rule t (going (put (q ∷ (p ++ us)) w)) k) ∙ e

        by : (s : State) → run at rule (going (put (q ∷ (p ++ us)) w)) ≡ s → Completes turns' m w (q ∷ p)
        by (stuck why' ts) r =
            let here : stuck why' ts ≡ stuck why us = sym ((run_still at fy.below.still (many test rule)).stays why' ts) ∙ ap (λ (s : State). turns s) (sym r) ∙ step in
            let c = l.ends m f w q p us why (r ∙ here) in
            record { text = c.text; reads = λ x shows. one_turn m n w q p us x shows k (tokens_of c.text x) (c.reads x shows) }
        by (going a) r =
            let last : turns (going a) ≡ stuck why us = ap (λ (s : State). turns s) (sym r) ∙ step in
            let c = parts_from (run at rule) turns (turn_front at fy.below test rule t) (loop_front at fy.below test rule t) w (q ∷ p) us (stuck why us) a r step refl in
            loop_parts m g n w q p us why k c.front c.back c.work c.is c.goes c.rest c.ends (further c.work c.goes c.ends)

    loop_finishes : (n : ℕ) (m : Mark) → has (finish inner rule) m ≡ true → has (again rule) m ≡ true → is_no (seen None test m) ≡ true → (w : Work) (q : Token) (p us : List Token) (why : Why) → left (going (put (q ∷ (p ++ us)) w)) ≤ n → turns (going (put (q ∷ (p ++ us)) w)) ≡ stuck why us → Completes turns' m w (q ∷ p)
    loop_finishes zero m f g no_test w q p us why most e = absurd (omega arith)
    loop_finishes (suc n) m f g no_test w q p us why most e = elim (cases_Bool (passes test (going (put (q ∷ (p ++ us)) w)))) [
      | inr k ↦ going_stuck (put (q ∷ (p ++ us)) w) why us (sym (loop_ends at fy.below test rule t (going (put (q ∷ (p ++ us)) w)) k) ∙ e)
      | inl k ↦ loop_turn m f g no_test w q p us why k e (λ a r last x back rest.
          loop_finishes n m f g no_test a x back us why
          (omega (arith, turn_less at fy.below test rule t (going (put (q ∷ (p ++ us)) w)) k, most, ap (λ (z : State). left z) r, ap (λ (z : List Token). length z) rest))
          (ap (λ (z : Work). turns (going z)) (sym (put_rest a (x ∷ (back ++ us)) rest)) ∙ last))
    ]

    many_finishes : FinishOn turns turns' (meet (meet (finish inner rule) (again rule)) (marks (λ m. is_no (seen None test m))))
    many_finishes = record {
      ends = λ m i w q p us why e.
          let (j, k) = has_meet (meet (finish inner rule) (again rule)) (marks (λ x. is_no (seen None test x))) m i in
          let (f, g) = has_meet (finish inner rule) (again rule) m j in
          loop_finishes (left (going (put (q ∷ (p ++ us)) w))) m f g (sym (has_marks (λ x. is_no (seen None test x)) m) ∙ k) w q p us why (omega arith) e;
    }

  -- ---- rules

  finish_if : (f g : State → State) (b : Bool) (ms : Marks) → (b ≡ true → FinishOn f g ms) → FinishOn f g (only_if b ms)
  finish_if f g true ms l = l refl
  finish_if f g false ms l = record { ends = λ m h w q p us why e. absurd (nothing_there m h) }

  unit_finishes : (r : Rule) → unit r ≡ true → FinishOn (run at r) (run at' r) every
  unit_finishes r u = record {
    ends = λ m h w q p us why e. elim (new_or_not (q ∷ (p ++ us))) [
      | inl n ↦ headed m w q p us why (new_opens (q ∷ (p ++ us)) n) e
      | inr n ↦ at_once _ q p us why (rest_stuck _ Unexpected (q ∷ (p ++ us)) ((unit_shuts at fy r u).refuses (put (q ∷ (p ++ us)) w) n)) e
    ];
  }
    where
      headed : (m : Mark) (w : Work) (q : Token) (p us : List Token) (why : Why) → Opening (q ∷ (p ++ us)) → run at r (going (put (q ∷ (p ++ us)) w)) ≡ stuck why us → Completes (run at' r) m w (q ∷ p)
      headed m w q p us why o e =
          let k = unit_heads at r u (put (q ∷ (p ++ us)) w) o in
          going_stuck (put o.rest k.work) why us (sym (ap (λ (x : List Token). run at r (going (put x w))) o.is ∙ k.always o.rest) ∙ e)

  finish_then_else : (f g : State → State) (b c : Bool) (x y : Marks) → (b ≡ true → FinishOn f g x) → (c ≡ true → FinishOn f g y) → FinishOn f g (if b then x else only_if c y)
  finish_then_else f g true c x y i j = i refl
  finish_then_else f g false c x y i j = finish_if f g c y j

  refuse_finishes : FinishOn refused refused every
  unfolding refused
  refuse_finishes = record { ends = λ m h w q p us why e. at_once (stuck Unexpected (q ∷ (p ++ us))) q p us why refl e }

  pub run_finishes : ((form : Form) → FinishOn (at form) (at' form) (follows form)) → (r : Rule) → FinishOn (run at r) (run at' r) (finish inner r)
  unfolding after
  run_finishes fi nothing_more = record { ends = λ m h w q p us why e. going_stuck (put (q ∷ (p ++ us)) w) why us e }
  run_finishes fi (take test) = take_finishes test
  run_finishes fi (act action) = record { ends = λ m h w q p us why e. going_stuck (work_after action (put (q ∷ (p ++ us)) w)) why us e }
  run_finishes fi (inside form) = fi form
  run_finishes fi (first ▸ second) =
      finish_then_else (run at (first ▸ second)) (run at' (first ▸ second)) (firm first && firm second) (unit (first ▸ second))
      (meet (finish inner second) (if idle first then every else finish_then (ended first) (finish inner first) (again first) (start inner None second) (three (start inner (Some covers.Names) second) (start inner (Some covers.Expressions) second) (start inner (Some covers.Parameters) second))))
      every
      (λ k. let (p, q) = both (firm first) (firm second) k in then_finishes at at' fy fy' d inner si ai first second p q (run_finishes fi first) (run_finishes fi second))
      (λ u. unit_finishes (first ▸ second) u)
  run_finishes fi (either test first second) =
      finish_if (run at (either test first second)) (run at' (either test first second)) ((blind test || apart test first second) && (firm first && firm second)) (meet (finish inner first) (finish inner second)) (λ k.
      let (h, l) = both (blind test || apart test first second) (firm first && firm second) k in
      let (p, q) = both (firm first) (firm second) l in
      either_finishes test first second p q h (run_finishes fi first) (run_finishes fi second))
  run_finishes fi (many test rule) =
      finish_if (run at (many test rule)) (run at' (many test rule)) (blind test && (takes rule && firm rule)) (meet (meet (finish inner rule) (again rule)) (marks (λ m. is_no (seen None test m)))) (λ k.
      let (b, l) = both (blind test) (takes rule && firm rule) k in
      let (e, f) = both (takes rule) (firm rule) l in
      many_finishes test rule e b f (run_finishes fi rule))
  run_finishes fi refuse = refuse_finishes
