-- Where each rule went on in front of some tokens, it goes on in front of a mark too.
use Rattle.std.proofs.Common.{◌≡◌, ℕ, zero, suc, ◌≤◌, Bool, true, false, ◌&&◌, ◌||◌, not, if◌then◌else◌, List, [], ◌∷◌, ◌++◌, length, None, inl, inr, refl, sym, ap, ◌∙◌, subst, append_assoc, arith, length-append}
use Rattle.std.specs.Prelude.{◌⊎◌}
use Rattle.std.proofs.lemmas.Bool.{cases_Bool}
use Rattle.js_lexer.specs.declared.token.Token.{Token}
use Rattle.parser_rules.specs.declared.class.Class.TheVariants as classes
use Rattle.parser_rules.specs.declared.form.Form.{Form}
use Rattle.parser_rules.specs.declared.form.Why.TheVariants.{Unexpected}
use Rattle.parser_rules.specs.Classes.{class_of}
use Rattle.parser_rules.specs.Work.{Work, State, going}
use Rattle.parser_rules.specs.Rules.{Test, Action, Rule, nothing_more, take, act, inside, ◌▸◌, either, many, refuse, sees, sees_other, sees_on_line, sees_word, sees_key, sees_nonzero, sees_passing, after_line, may_end, may_be_parameters, must_be_parameters, passes, passes_on, after, work_after, take_one, refused, left, run}
use Rattle.parser_rules.proofs.Laws.{takes, run_still, run_eats, same_rest}
use Rattle.first_bad.proofs.Begins.{both, either_of, shuts}
use Rattle.first_bad.proofs.Front.{rest_of, run_front, no_front}
use Rattle.first_bad.proofs.Views.{put, test_same}
use Rattle.first_bad.proofs.Turns.{loop, loop_ends, loop_front, loop_goes, turn_front, turn_less}
use Rattle.first_bad.proofs.Words.{is_new, class_fixed, class_of_new, new_or_foreign, not_true}
use Rattle.first_bad.proofs.Walk.{sees_class}
use Rattle.first_bad.proofs.Far.{far, FarFrom, by_class}
use Rattle.first_bad.proofs.Firm.{goes, Firm, blind, blind_same, longer}
use Rattle.first_bad.proofs.FirmRules.{Firmly, firm, run_firm, apart, plain, new_far, foreign_shut}
use Rattle.first_bad.proofs.Marks.{Mark, Shows, seen, Marks, marks, has, has_marks, every, meet, has_meet}
use Rattle.first_bad.proofs.Facts.{only_if, is_no, stops_either, stops, ended, asks_cover, again_then, again_either, again, follows}
use Rattle.first_bad.proofs.Starts.{GoesTo, no_some, test_seen, nothing_there, then_goes, put_rest}
use Rattle.first_bad.proofs.Sunk.{going_stuck}
use Rattle.first_bad.proofs.Again.{run_stops, Parts, split, firm_parts, run_ends, stood}

pub record AgainOn (f : State → State) (ms : Marks) : Type 0 where
  pub holds : (m : Mark) → has ms m ≡ true → (w : Work) (p us us' : List Token) → Shows m us' → GoesTo f (put (p ++ us) w) us → GoesTo f (put (p ++ us') w) us'

-- ---- steps

nothing_again : AgainOn (λ s. s) every
nothing_again = record {
  holds = λ m h w p us us' s g.
      let nil : p ≡ [] = no_front p us (sym (ap (λ (x : State). rest_of x) g.goes ∙ g.rest)) in
      record { work = put (p ++ us') w; goes = refl; rest = ap (λ (x : List Token). x ++ us') nil };
}

act_again : (action : Action) → AgainOn (after action) every
unfolding after
act_again action = record {
  holds = λ m h w p us us' s g.
      let nil : p ≡ [] = no_front p us (sym (sym (same_rest action (put (p ++ us) w)) ∙ ap (λ (x : State). rest_of x) g.goes ∙ g.rest)) in
      record { work = work_after action (put (p ++ us') w); goes = refl; rest = same_rest action (put (p ++ us') w) ∙ ap (λ (x : List Token). x ++ us') nil };
}

take_again : (at : Form → State → State) (fy : Firmly at) (test : Test) → blind test ≡ true → AgainOn (take_one test) every
take_again at fy test b = record {
  holds = λ m h w p us us' s g.
      record { work = put us' g.work; goes = (run_ends at fy (take test) b).free w p us us' g.work g.goes g.rest; rest = refl };
}

refuse_again : AgainOn refused every
unfolding refused
refuse_again = record { holds = λ m h w p us us' s g. going_stuck g.work Unexpected (p ++ us) (sym g.goes) }

-- ---- rules

module _ (at : Form → State → State) (fy : Firmly at) where
  module _ (first second : Rule) (hf : firm first ≡ true) (ag : AgainOn (run at first) (again first)) (bg : AgainOn (run at second) (again second)) where
    abbrev both_rules : State → State
    both_rules s = run at second (run at first s)

    -- the second took a token
    some_taken : (m : Mark) → has (again second) m ≡ true → (w : Work) (us us' : List Token) → Shows m us' → (last : Work) → last.rest ≡ us → (p front : List Token) (q : Token) (back : List Token) (mid : Work) → p ≡ front ++ q ∷ back → run at first (going (put (p ++ us) w)) ≡ going mid → mid.rest ≡ q ∷ (back ++ us) → run at second (going mid) ≡ going last → GoesTo both_rules (put (p ++ us') w) us'
    some_taken m h w us us' s last r p front q back mid is goes rest ends =
        let there : (x : List Token) → p ++ x ≡ front ++ (q ∷ (back ++ x)) = λ x. ap (λ (y : List Token). y ++ x) is ∙ append_assoc front (q ∷ back) x in
        let before : run at first (going (put (front ++ (q ∷ (back ++ us))) w)) ≡ going mid = ap (λ (x : List Token). run at first (going (put x w))) (sym (there us)) ∙ goes in
        let after_first : run at first (going (put (p ++ us') w)) ≡ going (put (q ∷ (back ++ us')) mid) = ap (λ (x : List Token). run at first (going (put x w))) (there us') ∙ firm_parts (run at first) (run_firm at fy first hf) w front q back us us' mid before rest in
        let same = put_rest mid (q ∷ (back ++ us)) rest in
        let old : GoesTo (run at second) (put (q ∷ (back ++ us)) mid) us = record { work = last; goes = ap (λ (x : Work). run at second (going x)) (sym same) ∙ ends; rest = r } in
        then_goes (run at first) (run at second) (put (p ++ us') w) us' (put (q ∷ (back ++ us')) mid) after_first (bg.holds m h mid (q ∷ back) us us' s old)

    -- the second took nothing
    none_taken : (m : Mark) → has (again second) m ≡ true → (sure : Bool) → (takes second || ended first) ≡ sure → has (if sure then every else meet (stops second) (again first)) m ≡ true → (w : Work) (us us' : List Token) → Shows m us' → (last : Work) → last.rest ≡ us → (p : List Token) (mid : Work) → run at first (going (put (p ++ us) w)) ≡ going mid → mid.rest ≡ us → run at second (going mid) ≡ going last → GoesTo both_rules (put (p ++ us') w) us'
    none_taken m h true e k w us us' s last r p mid goes rest ends = elim (either_of (takes second) (ended first) e) [
      | inl t ↦ absurd (stood (run at second) (run_eats at fy.below.inside second t) mid us last (ap (λ (x : Work). run at second (going x)) (sym (put_rest mid us rest)) ∙ ends) r)
      | inr d ↦
          let free : run at first (going (put (p ++ us') w)) ≡ going (put us' mid) = (run_ends at fy first d).free w p us us' mid goes rest in
          let old : GoesTo (run at second) (put us mid) us = record { work = last; goes = ap (λ (x : Work). run at second (going x)) (sym (put_rest mid us rest)) ∙ ends; rest = r } in
          then_goes (run at first) (run at second) (put (p ++ us') w) us' (put us' mid) free (bg.holds m h mid [] us us' s old)
    ]
    none_taken m h false e k w us us' s last r p mid goes rest ends =
        let (i, j) = has_meet (stops second) (again first) m k in
        let a = ag.holds m j w p us us' s (record { work = mid; goes = goes; rest = rest }) in
        then_goes (run at first) (run at second) (put (p ++ us') w) us' a.work a.goes (subst (λ (x : Work). GoesTo (run at second) x us') (sym (put_rest a.work us' a.rest)) ((run_stops at second).stands m i a.work us' s))

    then_again : AgainOn both_rules (again_then (takes second || ended first) (again first) (stops second) (again second))
    then_again = record {
      holds = λ m h w p us us' s g.
          let (i, j) = has_meet (again second) (if takes second || ended first then every else meet (stops second) (again first)) m h in
          let c = split (run at first) (run at second) (run_still at fy.below.still second) (run_front at fy.below.front first) (run_front at fy.below.front second) w p us g.work g.goes g.rest in
          by m i j w us us' s g.work g.rest p c.front c.back c.work c.is c.goes c.rest c.ends;
    }
      where
        by : (m : Mark) → has (again second) m ≡ true → has (if takes second || ended first then every else meet (stops second) (again first)) m ≡ true → (w : Work) (us us' : List Token) → Shows m us' → (last : Work) → last.rest ≡ us → (p front back : List Token) (mid : Work) → p ≡ front ++ back → run at first (going (put (p ++ us) w)) ≡ going mid → mid.rest ≡ back ++ us → run at second (going mid) ≡ going last → GoesTo both_rules (put (p ++ us') w) us'
        by m i j w us us' s last r p front [] mid is goes rest ends = none_taken m i (takes second || ended first) refl j w us us' s last r p mid goes rest ends
        by m i j w us us' s last r p front (q ∷ back) mid is goes rest ends = some_taken m i w us us' s last r p front q back mid is goes rest ends

  -- ---- two ways

  module _ (test : Test) (first second : Rule) (hf : Firm (run at first)) (hs : Firm (run at second)) (guard : (blind test || apart test first second) ≡ true) where
    abbrev way : State → State
    way s = if passes test s then run at first s else run at second s

    way_of : Bool → State → State
    way_of b s = if b then run at first s else run at second s

    -- a token in view, and no more than one behind it: what an exception would have taken
    near_apart : {A : Type 0} → apart test first second ≡ true → (w : Work) (q : Token) (p us : List Token) → length p ≤ 1 → rest_of (way (going (put (q ∷ (p ++ us)) w))) ≡ us → (class_of (q ∷ (p ++ us)) ≡ classes.New) ⊎ (class_of (q ∷ (p ++ us)) ≡ classes.Foreign) → A
    near_apart k w q p us short r c =
        let (x, y) = both (by_class test && (sees_class test classes.New && not (sees_class test classes.Foreign))) ((takes first && takes second) && (far first && shuts plain second)) k in
        let (h1, x') = both (by_class test) (sees_class test classes.New && not (sees_class test classes.Foreign)) x in
        let (h2, h3) = both (sees_class test classes.New) (not (sees_class test classes.Foreign)) x' in
        let (y', y'') = both (takes first && takes second) (far first && shuts plain second) y in
        let (t1, t2) = both (takes first) (takes second) y' in
        let (f1, f2) = both (far first) (shuts plain second) y'' in
        let h3' = not_true (sees_class test classes.Foreign) h3 in
        elim c [
          | inl cn ↦ too_near (new_far at fy test first second hf hs h1 h2 h3' t1 t2 f1 f2 w (q ∷ (p ++ us)) cn)
          | inr cf ↦ absurd (longer q p us (sym (ap (λ (s : State). rest_of s) (foreign_shut at fy test first second hf hs h1 h2 h3' t1 t2 f1 f2 w (q ∷ (p ++ us)) cf)) ∙ r))
        ]
      where
        too_near : {A : Type 0} → FarFrom (way (going (put (q ∷ (p ++ us)) w))) (q ∷ (p ++ us)) → A
        too_near (inl (why, s)) = absurd (longer q p us (sym (ap (λ (m : State). rest_of m) s) ∙ r))
        too_near (inr l) = absurd (omega (arith, l, short, ap (λ (ts : List Token). length ts) r, length-append p us))

    -- the test says the same in front of other tokens
    pub way_same : (w : Work) (q : Token) (p us us' : List Token) → rest_of (way (going (put (q ∷ (p ++ us)) w))) ≡ us → passes test (going (put (q ∷ (p ++ us')) w)) ≡ passes test (going (put (q ∷ (p ++ us)) w))
    unfolding passes
    way_same w q p us us' r = elim (either_of (blind test) (apart test first second) guard) [
      | inl b ↦ blind_same test q (p ++ us') (p ++ us) w.top.cover b
      | inr k ↦ elim (cases_Bool (is_new q)) [
        | inr n ↦ sym (test_same test q (p ++ us) (p ++ us') w.top.cover (class_fixed q (p ++ us) (p ++ us') n))
        | inl n ↦ by_length p n k r
      ]
    ]
      where
        by_length : (p : List Token) → is_new q ≡ true → apart test first second ≡ true → rest_of (way (going (put (q ∷ (p ++ us)) w))) ≡ us → passes_on test (q ∷ (p ++ us')) w.top.cover ≡ passes_on test (q ∷ (p ++ us)) w.top.cover
        by_length [] n k r = near_apart k w q [] us (omega arith) r (new_or_foreign q us n)
        by_length (a ∷ []) n k r = near_apart k w q (a ∷ []) us (omega arith) r (new_or_foreign q (a ∷ us) n)
        by_length (a ∷ b ∷ p) n k r = sym (test_same test q (a ∷ b ∷ (p ++ us)) (a ∷ b ∷ (p ++ us')) w.top.cover (class_of_new q (a ∷ b ∷ (p ++ us)) n ∙ sym (class_of_new q (a ∷ b ∷ (p ++ us')) n)))

    module _ (ag : AgainOn (run at first) (again first)) (bg : AgainOn (run at second) (again second)) where
      -- the test says the same, and so the way is one
      one_way : (m : Mark) → has (again first) m ≡ true → has (again second) m ≡ true → (w : Work) (p us us' : List Token) → Shows m us' → passes test (going (put (p ++ us') w)) ≡ passes test (going (put (p ++ us) w)) → (last : Work) → way (going (put (p ++ us) w)) ≡ going last → last.rest ≡ us → GoesTo way (put (p ++ us') w) us'
      unfolding way_of
      one_way m i j w p us us' s same last e r = elim (cases_Bool (passes test (going (put (p ++ us) w)))) [
        | inl k ↦
            let g = ag.holds m i w p us us' s (record { work = last; goes = subst (λ (b : Bool). way_of b (going (put (p ++ us) w)) ≡ going last) k e; rest = r }) in
            record { work = g.work; goes = rw (same ∙ k) g.goes; rest = g.rest }
        | inr k ↦
            let g = bg.holds m j w p us us' s (record { work = last; goes = subst (λ (b : Bool). way_of b (going (put (p ++ us) w)) ≡ going last) k e; rest = r }) in
            record { work = g.work; goes = rw (same ∙ k) g.goes; rest = g.rest }
      ]

      cover_same : asks_cover test ≡ true → (w : Work) (x y : List Token) → passes test (going (put x w)) ≡ passes test (going (put y w))
      unfolding passes
      cover_same h w x y = of test h
        where
          of : (test : Test) → asks_cover test ≡ true → passes_on test x w.top.cover ≡ passes_on test y w.top.cover
          of may_be_parameters h = refl
          of must_be_parameters h = refl
          of (sees cs) h = absurd (let no : ⊥ = cc in no)
          of (sees_other cs) h = absurd (let no : ⊥ = cc in no)
          of (sees_on_line cs) h = absurd (let no : ⊥ = cc in no)
          of sees_word h = absurd (let no : ⊥ = cc in no)
          of sees_key h = absurd (let no : ⊥ = cc in no)
          of sees_nonzero h = absurd (let no : ⊥ = cc in no)
          of sees_passing h = absurd (let no : ⊥ = cc in no)
          of after_line h = absurd (let no : ⊥ = cc in no)
          of may_end h = absurd (let no : ⊥ = cc in no)

      both_take : takes first ≡ true → takes second ≡ true → (w : Work) (us : List Token) (last : Work) → way (going (put us w)) ≡ going last → last.rest ≡ us → ⊥
      unfolding way_of
      both_take t u w us last e r = by (passes test (going (put us w))) e
        where
          by : (b : Bool) → way_of b (going (put us w)) ≡ going last → ⊥
          by true e = stood (run at first) (run_eats at fy.below.inside first t) w us last e r
          by false e = stood (run at second) (run_eats at fy.below.inside second u) w us last e r

      nothing_before : (m : Mark) → has (again first) m ≡ true → has (again second) m ≡ true → (sure : Bool) → (asks_cover test || (takes first && takes second)) ≡ sure → has (if sure then every else stops (either test first second)) m ≡ true → (w : Work) (us us' : List Token) → Shows m us' → (last : Work) → way (going (put us w)) ≡ going last → last.rest ≡ us → GoesTo way (put us' w) us'
      nothing_before m i j true e k w us us' s last g r = elim (either_of (asks_cover test) (takes first && takes second) e) [
        | inl c ↦ one_way m i j w [] us us' s (cover_same c w us' us) last g r
        | inr t ↦ let (x, y) = both (takes first) (takes second) t in absurd (both_take x y w us last g r)
      ]
      nothing_before m i j false e k w us us' s last g r = (run_stops at (either test first second)).stands m k w us' s

      pub either_again : AgainOn way (again_either (asks_cover test || (takes first && takes second)) (again first) (again second) (stops_either test (stops first) (stops second)))
      either_again = record {
        holds = λ m h w p us us' s g.
            let (i, j) = has_meet (meet (again first) (again second)) (if asks_cover test || (takes first && takes second) then every else stops (either test first second)) m h in
            let (a, b) = has_meet (again first) (again second) m i in
            by m a b j w us us' s g.work g.rest p g.goes;
      }
        where
          by : (m : Mark) → has (again first) m ≡ true → has (again second) m ≡ true → has (if asks_cover test || (takes first && takes second) then every else stops (either test first second)) m ≡ true → (w : Work) (us us' : List Token) → Shows m us' → (last : Work) → last.rest ≡ us → (p : List Token) → way (going (put (p ++ us) w)) ≡ going last → GoesTo way (put (p ++ us') w) us'
          by m a b j w us us' s last r [] g = nothing_before m a b (asks_cover test || (takes first && takes second)) refl j w us us' s last g r
          by m a b j w us us' s last r (q ∷ p) g = one_way m a b w (q ∷ p) us us' s (way_same w q p us us' (ap (λ (x : State). rest_of x) g ∙ r)) last g r

  -- ---- loops

  module _ (test : Test) (rule : Rule) (e : takes rule ≡ true) (b : blind test ≡ true) (l : Firm (run at rule)) (ag : AgainOn (run at rule) (again rule)) where
    abbrev turns : State → State
    turns s = loop at fy.below test rule e s

    -- the loop ends in front of the mark
    pub loop_at_mark : (m : Mark) → is_no (seen None test m) ≡ true → (w : Work) (us : List Token) → Shows m us → w.rest ≡ us → turns (going w) ≡ going w
    loop_at_mark m shut w us s r =
        loop_ends at fy.below test rule e (going w) (subst (λ (x : Work). passes test (going x) ≡ false) (sym (put_rest w us r)) (test_seen None test m w us false s tt (no_some (seen None test m) shut)))

    pub same_test : (w : Work) (q : Token) (p us us' : List Token) → passes test (going (put (q ∷ (p ++ us')) w)) ≡ passes test (going (put (q ∷ (p ++ us)) w))
    unfolding passes
    same_test w q p us us' = blind_same test q (p ++ us') (p ++ us) w.top.cover b

    stands_again : (m : Mark) → is_no (seen None test m) ≡ true → (w : Work) (p us us' : List Token) → Shows m us' → (last : Work) → passes test (going (put (p ++ us) w)) ≡ false → turns (going (put (p ++ us) w)) ≡ going last → last.rest ≡ us → GoesTo turns (put (p ++ us') w) us'
    stands_again m shut w p us us' s last k g r =
        let nil : p ≡ [] = no_front p us (sym (ap (λ (x : State). rest_of x) (sym (loop_ends at fy.below test rule e (going (put (p ++ us) w)) k) ∙ g) ∙ r)) in
        subst (λ (x : List Token). GoesTo turns (put (x ++ us') w) us') (sym nil) (record { work = put us' w; goes = loop_at_mark m shut (put us' w) us' s refl; rest = refl })

    -- one turn, and then what the loop does further on
    turn_again : (m : Mark) → has (again rule) m ≡ true → is_no (seen None test m) ≡ true → (w : Work) (q : Token) (p us us' : List Token) → Shows m us' → (last : Work) → last.rest ≡ us → passes test (going (put (q ∷ (p ++ us)) w)) ≡ true → (c : Parts (run at rule) turns w (q ∷ p) us (going last)) → ((x : Token) (back : List Token) → c.work.rest ≡ x ∷ (back ++ us) → GoesTo turns (put (x ∷ (back ++ us')) c.work) us') → GoesTo turns (put (q ∷ (p ++ us')) w) us'
    turn_again m h shut w q p us us' s last r k c further =
        let g = by c.back c.is c.rest in
        record { work = g.work; goes = loop_goes at fy.below test rule e (going (put (q ∷ (p ++ us')) w)) (same_test w q p us us' ∙ k) ∙ g.goes; rest = g.rest }
      where
        by : (back : List Token) → (q ∷ p) ≡ c.front ++ back → c.work.rest ≡ back ++ us → GoesTo (λ x. turns (run at rule x)) (put (q ∷ (p ++ us')) w) us'
        by [] is rest =
            let a = ag.holds m h w (q ∷ p) us us' s (record { work = c.work; goes = c.goes; rest = rest }) in
            record { work = a.work; goes = ap (λ (x : State). turns x) a.goes ∙ loop_at_mark m shut a.work us' s a.rest; rest = a.rest }
        by (x ∷ back) is rest =
            let there : (y : List Token) → (q ∷ p) ++ y ≡ c.front ++ (x ∷ (back ++ y)) = λ y. ap (λ (z : List Token). z ++ y) is ∙ append_assoc c.front (x ∷ back) y in
            let before : run at rule (going (put (c.front ++ (x ∷ (back ++ us))) w)) ≡ going c.work = ap (λ (z : List Token). run at rule (going (put z w))) (sym (there us)) ∙ c.goes in
            let now : run at rule (going (put (q ∷ (p ++ us')) w)) ≡ going (put (x ∷ (back ++ us')) c.work) = ap (λ (z : List Token). run at rule (going (put z w))) (there us') ∙ firm_parts (run at rule) l w c.front x back us us' c.work before rest in
            then_goes (run at rule) turns (put (q ∷ (p ++ us')) w) us' (put (x ∷ (back ++ us')) c.work) now (further x back rest)

    loop_parts : (w : Work) (p us : List Token) (last : Work) → passes test (going (put (p ++ us) w)) ≡ true → turns (going (put (p ++ us) w)) ≡ going last → last.rest ≡ us → Parts (run at rule) turns w p us (going last)
    loop_parts w p us last k g r = split (run at rule) turns (run_still at fy.below.still (many test rule)) (turn_front at fy.below test rule e) (loop_front at fy.below test rule e) w p us last (sym (loop_goes at fy.below test rule e (going (put (p ++ us) w)) k) ∙ g) r

    no_turn : (w : Work) (us : List Token) (last : Work) → passes test (going (put us w)) ≡ true → turns (going (put us w)) ≡ going last → last.rest ≡ us → ⊥
    no_turn w us last k g r = by c.front c.back c.is c.rest
      where
        c : Parts (run at rule) turns w [] us (going last)
        c = loop_parts w [] us last k g r

        by : (front back : List Token) → [] ≡ front ++ back → c.work.rest ≡ back ++ us → ⊥
        by [] [] is rest = stood (run at rule) (run_eats at fy.below.inside rule e) w us c.work c.goes rest
        by [] (x ∷ back) is rest = omega (arith, ap (λ (z : List Token). length z) is)
        by (x ∷ front) back is rest = omega (arith, ap (λ (z : List Token). length z) is)

    loop_again : (n : ℕ) (m : Mark) → has (again rule) m ≡ true → is_no (seen None test m) ≡ true → (w : Work) (p us us' : List Token) → left (going (put (p ++ us) w)) ≤ n → Shows m us' → (last : Work) → turns (going (put (p ++ us) w)) ≡ going last → last.rest ≡ us → GoesTo turns (put (p ++ us') w) us'
    loop_again zero m h shut w p us us' bound s last g r = absurd (omega arith)
    loop_again (suc n) m h shut w [] us us' bound s last g r = elim (cases_Bool (passes test (going (put us w)))) [
      | inr k ↦ stands_again m shut w [] us us' s last k g r
      | inl k ↦ absurd (no_turn w us last k g r)
    ]
    loop_again (suc n) m h shut w (q ∷ p) us us' bound s last g r = elim (cases_Bool (passes test (going (put (q ∷ (p ++ us)) w)))) [
      | inr k ↦ stands_again m shut w (q ∷ p) us us' s last k g r
      | inl k ↦
          let c = loop_parts w (q ∷ p) us last k g r in
          turn_again m h shut w q p us us' s last r k c (λ x back rest.
          loop_again n m h shut c.work (x ∷ back) us us'
          (omega (arith, turn_less at fy.below test rule e (going (put (q ∷ (p ++ us)) w)) k, bound, ap (λ (z : State). left z) c.goes, ap (λ (z : List Token). length z) rest))
          s last (ap (λ (z : Work). turns (going z)) (sym (put_rest c.work (x ∷ (back ++ us)) rest)) ∙ c.ends) r)
    ]

    pub many_again : AgainOn turns (meet (again rule) (marks (λ m. is_no (seen None test m))))
    many_again = record {
      holds = λ m h w p us us' s g.
          let (i, j) = has_meet (again rule) (marks (λ x. is_no (seen None test x))) m h in
          loop_again (left (going (put (p ++ us) w))) m i (sym (has_marks (λ x. is_no (seen None test x)) m) ∙ j) w p us us' (omega arith) s g.work g.goes g.rest;
    }

  -- ---- rules

  again_if : (f : State → State) (b : Bool) (ms : Marks) → (b ≡ true → AgainOn f ms) → AgainOn f (only_if b ms)
  again_if f true ms l = l refl
  again_if f false ms l = record { holds = λ m h w p us us' s g. absurd (nothing_there m h) }

  pub run_again : ((form : Form) → AgainOn (at form) (follows form)) → (r : Rule) → AgainOn (run at r) (again r)
  run_again inner nothing_more = nothing_again
  run_again inner (take test) = again_if (take_one test) (blind test) every (λ b. take_again at fy test b)
  run_again inner (act action) = act_again action
  run_again inner (inside form) = inner form
  run_again inner (first ▸ second) =
      again_if (run at (first ▸ second)) (firm first && firm second) (again_then (takes second || ended first) (again first) (stops second) (again second)) (λ k.
      let (p, _) = both (firm first) (firm second) k in
      then_again first second p (run_again inner first) (run_again inner second))
  run_again inner (either test first second) =
      again_if (run at (either test first second)) ((blind test || apart test first second) && (firm first && firm second)) (again_either (asks_cover test || (takes first && takes second)) (again first) (again second) (stops_either test (stops first) (stops second))) (λ k.
      let (h, l) = both (blind test || apart test first second) (firm first && firm second) k in
      let (p, q) = both (firm first) (firm second) l in
      either_again test first second (run_firm at fy first p) (run_firm at fy second q) h (run_again inner first) (run_again inner second))
  run_again inner (many test rule) =
      again_if (run at (many test rule)) (blind test && (takes rule && firm rule)) (meet (again rule) (marks (λ m. is_no (seen None test m)))) (λ k.
      let (b, l) = both (blind test) (takes rule && firm rule) k in
      let (e, f) = both (takes rule) (firm rule) l in
      many_again test rule e b (run_firm at fy rule f) (run_again inner rule))
  run_again inner refuse = refuse_again
