-- Where a rule went on in front of some tokens, it goes on in front of a mark too.
use Rattle.std.proofs.Common.{◌≡◌, Bool, true, false, ◌&&◌, ◌||◌, not, if◌then◌else◌, List, [], ◌∷◌, ◌++◌, Option, None, Some, inl, inr, refl, sym, ap, ◌∙◌, subst, append_assoc}
use Rattle.std.proofs.lemmas.Bool.{cases_Bool}
use Rattle.js_lexer.specs.declared.token.Token.{Token}
use Rattle.parser_rules.specs.declared.form.Form.{Form}
use Rattle.parser_rules.specs.declared.form.Why.TheVariants.{Unexpected}
use Rattle.parser_rules.specs.Work.{Work, State, going, stuck}
use Rattle.parser_rules.specs.Rules.{Test, Rule, nothing_more, take, act, inside, ◌▸◌, either, many, refuse, passes, passes_on, after, work_after, take_one, taken, run}
use Rattle.parser_rules.proofs.Laws.{takes, Eats, Still, run_still, run_eats, take_eats, same_rest, repeated_end}
use Rattle.first_bad.proofs.Begins.{both, either_of}
use Rattle.first_bad.proofs.Front.{rest_of, swap, Front, run_front, no_front, same_front}
use Rattle.first_bad.proofs.Views.{put}
use Rattle.first_bad.proofs.Words.{new_or_not, Opening, new_opens}
use Rattle.first_bad.proofs.Far.{unit, unit_heads}
use Rattle.first_bad.proofs.Firm.{goes, Firm, blind, blind_same}
use Rattle.first_bad.proofs.FirmRules.{Firmly, unit_shuts, firm, run_firm, eats_no_stand}
use Rattle.first_bad.proofs.Marks.{Mark, Shows, seen, Marks, has, has_marks, has_meet}
use Rattle.first_bad.proofs.Facts.{is_no, pick, stops, ended}
use Rattle.first_bad.proofs.Starts.{GoesTo, no_some, test_seen, nothing_there, then_goes, put_rest}
use Rattle.first_bad.proofs.Sunk.{going_stuck}

-- ---- a rule that surely goes on

pub record StopsOn (f : State → State) (ms : Marks) : Type 0 where
  pub stands : (m : Mark) → has ms m ≡ true → (w : Work) (us : List Token) → Shows m us → GoesTo f (put us w) us

by_option : (f g : State → State) (test : Test) (o : Option Bool) (m : Mark) (a b : Bool) (w : Work) (us : List Token) → Shows m us → seen None test m ≡ o → pick o a b ≡ true → (a ≡ true → GoesTo f (put us w) us) → (b ≡ true → GoesTo g (put us w) us) → GoesTo (λ s. if passes test s then f s else g s) (put us w) us
by_option f g test None m a b w us s e h i j =
    let (x, y) = both a b h in by_test (passes test (going (put us w))) refl (i x) (j y)
  where
    by_test : (c : Bool) → passes test (going (put us w)) ≡ c → GoesTo f (put us w) us → GoesTo g (put us w) us → GoesTo (λ s. if passes test s then f s else g s) (put us w) us
    by_test true k p q = record { work = p.work; goes = rw k p.goes; rest = p.rest }
    by_test false k p q = record { work = q.work; goes = rw k q.goes; rest = q.rest }
by_option f g test (Some true) m a b w us s e h i j = let p = i h in record { work = p.work; goes = rw (test_seen None test m w us true s tt e) p.goes; rest = p.rest }
by_option f g test (Some false) m a b w us s e h i j = let q = j h in record { work = q.work; goes = rw (test_seen None test m w us false s tt e) q.goes; rest = q.rest }

pub run_stops : (at : Form → State → State) (r : Rule) → StopsOn (run at r) (stops r)
unfolding after
run_stops at nothing_more = record { stands = λ m h w us s. record { work = put us w; goes = refl; rest = refl } }
run_stops at (take test) = record { stands = λ m h w us s. absurd (nothing_there m h) }
run_stops at (act action) = record { stands = λ m h w us s. record { work = work_after action (put us w); goes = refl; rest = same_rest action (put us w) } }
run_stops at (inside form) = record { stands = λ m h w us s. absurd (nothing_there m h) }
run_stops at (first ▸ second) = record {
  stands = λ m h w us s.
      let (p, q) = has_meet (stops first) (stops second) m h in
      let a = (run_stops at first).stands m p w us s in
      then_goes (run at first) (run at second) (put us w) us a.work a.goes (subst (λ (x : Work). GoesTo (run at second) x us) (sym (put_rest a.work us a.rest)) ((run_stops at second).stands m q a.work us s));
}
run_stops at (either test first second) = record {
  stands = λ m h w us s.
      by_option (run at first) (run at second) test (seen None test m) m (has (stops first) m) (has (stops second) m) w us s refl
      (sym (has_marks (λ x. pick (seen None test x) (has (stops first) x) (has (stops second) x)) m) ∙ h)
      (λ p. (run_stops at first).stands m p w us s)
      (λ q. (run_stops at second).stands m q w us s);
}
run_stops at (many test rule) = record {
  stands = λ m h w us s.
      let no : is_no (seen None test m) ≡ true = sym (has_marks (λ x. is_no (seen None test x)) m) ∙ h in
      record { work = put us w; goes = repeated_end (passes test) (run at rule) (going (put us w)) (test_seen None test m w us false s tt (no_some (seen None test m) no)); rest = refl };
}
run_stops at refuse = record { stands = λ m h w us s. absurd (nothing_there m h) }

-- ---- one after the other

-- where the first stood, and what each took
pub record Parts (f g : State → State) (w : Work) (p us : List Token) (end : State) : Type 0 where
  pub work : Work
  pub front : List Token
  pub back : List Token
  pub is : p ≡ front ++ back
  pub goes : f (going (put (p ++ us) w)) ≡ going work
  pub rest : work.rest ≡ back ++ us
  pub ends : g (going work) ≡ end

-- where the first goes on
pub parts_from : (f g : State → State) → Front f → Front g → (w : Work) (p us : List Token) (end : State) (m : Work) → f (going (put (p ++ us) w)) ≡ going m → g (f (going (put (p ++ us) w))) ≡ end → rest_of end ≡ us → Parts f g w p us end
parts_from f g ff gf w p us end m k e r =
    let last : g (going m) ≡ end = ap (λ (s : State). g s) (sym k) ∙ e in
    let (p2, e2) = gf.ends (going m) in
    let mid : m.rest ≡ p2 ++ us = e2 ∙ ap (λ (x : List Token). p2 ++ x) (ap (λ (s : State). rest_of s) last ∙ r) in
    let (p1, e1) = ff.ends (going (put (p ++ us) w)) in
    let all : p ++ us ≡ (p1 ++ p2) ++ us = e1 ∙ ap (λ (x : List Token). p1 ++ x) (ap (λ (s : State). rest_of s) k ∙ mid) ∙ sym (append_assoc p1 p2 us) in
    record { work = m; front = p1; back = p2; is = same_front p (p1 ++ p2) us all; goes = k; rest = mid; ends = last }

pub split : (f g : State → State) → Still g → Front f → Front g → (w : Work) (p us : List Token) (last : Work) → g (f (going (put (p ++ us) w))) ≡ going last → last.rest ≡ us → Parts f g w p us (going last)
split f g still ff gf w p us last e r = by (f (going (put (p ++ us) w))) refl
  where
    by : (m : State) → f (going (put (p ++ us) w)) ≡ m → Parts f g w p us (going last)
    by (stuck why ts) k = going_stuck last why ts (sym e ∙ ap (λ (s : State). g s) k ∙ still.stays why ts)
    by (going m) k = parts_from f g ff gf w p us (going last) m k e r

-- a firm rule does the same in front of other tokens, where it stopped within p
pub firm_parts : (f : State → State) → Firm f → (w : Work) (p1 : List Token) (q : Token) (p2 us us' : List Token) (m : Work) → f (going (put (p1 ++ (q ∷ (p2 ++ us))) w)) ≡ going m → m.rest ≡ q ∷ (p2 ++ us) → f (going (put (p1 ++ (q ∷ (p2 ++ us'))) w)) ≡ going (put (q ∷ (p2 ++ us')) m)
firm_parts f l w p1 q p2 us us' m k r =
    l.alike (going (put (p1 ++ (q ∷ (p2 ++ us))) w)) p1 q (p2 ++ us) (p2 ++ us') refl (ap (λ (s : State). rest_of s) k ∙ r) (inl (ap (λ (s : State). goes s) k))
    ∙ ap (λ (s : State). swap (q ∷ (p2 ++ us')) s) k

-- ---- a rule that ends with a token

pub record EndsTaken (f : State → State) : Type 0 where
  pub free : (w : Work) (p us us' : List Token) (a : Work) → f (going (put (p ++ us) w)) ≡ going a → a.rest ≡ us → f (going (put (p ++ us') w)) ≡ going (put us' a)

take_way : Test → Bool → List Token → Work → State
take_way test b ts w = if b then taken ts (put ts w) else stuck Unexpected ts

take_taken : (test : Test) → blind test ≡ true → (w : Work) (q : Token) (p us us' : List Token) (a : Work) → take_one test (going (put (q ∷ (p ++ us)) w)) ≡ going a → a.rest ≡ us → take_one test (going (put (q ∷ (p ++ us')) w)) ≡ going (put us' a)
unfolding take_one take_way
take_taken test h w q p us us' a e r = elim (cases_Bool (passes_on test (q ∷ (p ++ us)) w.top.cover)) [
  | inl k ↦
      let e' : going (put (p ++ us) w) ≡ going a = subst (λ (b : Bool). take_way test b (q ∷ (p ++ us)) w ≡ going a) k e in
      let nil : p ≡ [] = no_front p us (sym (ap (λ (s : State). rest_of s) e' ∙ r)) in
      rw (blind_same test q (p ++ us') (p ++ us) w.top.cover h ∙ k) (ap (λ (x : List Token). going (put (x ++ us') w)) nil ∙ ap (λ (s : State). swap us' s) e')
  | inr k ↦ going_stuck a Unexpected (q ∷ (p ++ us)) (sym (subst (λ (b : Bool). take_way test b (q ∷ (p ++ us)) w ≡ going a) k e))
]

-- reading went on, and took nothing
pub stood : (g : State → State) → Eats g → (w : Work) (us : List Token) (a : Work) → g (going (put us w)) ≡ going a → a.rest ≡ us → ⊥
stood g e w us a k r = eats_no_stand g e (put us w) (ap (λ (s : State). goes s) k) (ap (λ (s : State). rest_of s) k ∙ r)

take_ends : (test : Test) → blind test ≡ true → EndsTaken (take_one test)
take_ends test h = record { free = of }
  where
    of : (w : Work) (p us us' : List Token) (a : Work) → take_one test (going (put (p ++ us) w)) ≡ going a → a.rest ≡ us → take_one test (going (put (p ++ us') w)) ≡ going (put us' a)
    of w [] us us' a e r = absurd (stood (take_one test) (take_eats test) w us a e r)
    of w (q ∷ p) us us' a e r = take_taken test h w q p us us' a e r

ended_takes : (r : Rule) → ended r ≡ true → takes r ≡ true
ended_takes nothing_more h = absurd (let no : ⊥ = cc in no)
ended_takes (take test) h = refl
ended_takes (act action) h = absurd (let no : ⊥ = cc in no)
ended_takes (inside form) h = absurd (let no : ⊥ = cc in no)
ended_takes (first ▸ second) h = elim (either_of (ended second && firm first) (not (firm first) && (unit (first ▸ second) && takes (first ▸ second))) h) [
  | inl k ↦ let (p, _) = both (ended second) (firm first) k in or_right (takes first) (ended_takes second p)
  | inr k ↦ let (_, l) = both (not (firm first)) (unit (first ▸ second) && takes (first ▸ second)) k in let (_, t) = both (unit (first ▸ second)) (takes (first ▸ second)) l in t
]
  where
    or_right : (a : Bool) {b : Bool} → b ≡ true → (a || b) ≡ true
    or_right true k = refl
    or_right false k = k
ended_takes (either test first second) h = absurd (let no : ⊥ = cc in no)
ended_takes (many test rule) h = absurd (let no : ⊥ = cc in no)
ended_takes refuse h = absurd (let no : ⊥ = cc in no)

module _ (at : Form → State → State) (fy : Firmly at) where
  unit_ends : (x : Rule) → unit x ≡ true → EndsTaken (run at x)
  unit_ends x u = record {
    free = λ w p us us' a e r. elim (new_or_not (p ++ us)) [
      | inl n ↦ headed w p us us' a e r (new_opens (p ++ us) n)
      | inr n ↦ going_stuck a Unexpected (p ++ us) (sym e ∙ (unit_shuts at fy x u).refuses (put (p ++ us) w) n)
    ];
  }
    where
      headed : (w : Work) (p us us' : List Token) (a : Work) → run at x (going (put (p ++ us) w)) ≡ going a → a.rest ≡ us → Opening (p ++ us) → run at x (going (put (p ++ us') w)) ≡ going (put us' a)
      headed w p us us' a e s o =
          let k = unit_heads at x u (put (p ++ us) w) o in
          let here : going (put o.rest k.work) ≡ going a = sym (ap (λ (ts : List Token). run at x (going (put ts w))) o.is ∙ k.always o.rest) ∙ e in
          let rest : o.rest ≡ us = ap (λ (x : State). rest_of x) here ∙ s in
          let front : p ≡ o.word ∷ o.name ∷ o.paren ∷ [] = same_front p (o.word ∷ o.name ∷ o.paren ∷ []) us (o.is ∙ ap (λ (x : List Token). o.word ∷ o.name ∷ o.paren ∷ x) rest) in
          ap (λ (y : List Token). run at x (going (put (y ++ us') w))) front
          ∙ k.always us'
          ∙ ap (λ (y : State). swap us' y) here

  pub run_ends : (r : Rule) → ended r ≡ true → EndsTaken (run at r)
  run_ends nothing_more h = absurd (let no : ⊥ = cc in no)
  run_ends (take test) h = take_ends test h
  run_ends (act action) h = absurd (let no : ⊥ = cc in no)
  run_ends (inside form) h = absurd (let no : ⊥ = cc in no)
  run_ends (first ▸ second) h = elim (either_of (ended second && firm first) (not (firm first) && (unit (first ▸ second) && takes (first ▸ second))) h) [
    | inr k ↦ let (_, l) = both (not (firm first)) (unit (first ▸ second) && takes (first ▸ second)) k in let (u, _) = both (unit (first ▸ second)) (takes (first ▸ second)) l in unit_ends (first ▸ second) u
    | inl k ↦
        let (i, j) = both (ended second) (firm first) k in
        record { free = λ w p us us' a e r. joined w p us us' a r i j (run_ends second i) (split (run at first) (run at second) (run_still at fy.below.still second) (run_front at fy.below.front first) (run_front at fy.below.front second) w p us a e r) }
  ]
    where
      joined : (w : Work) (p us us' : List Token) (a : Work) → a.rest ≡ us → ended second ≡ true → firm first ≡ true → EndsTaken (run at second) → Parts (run at first) (run at second) w p us (going a) → run at second (run at first (going (put (p ++ us') w))) ≡ going (put us' a)
      joined w p us us' a r i j l s = by s.back s.is s.rest
        where
          by : (back : List Token) → p ≡ s.front ++ back → s.work.rest ≡ back ++ us → run at second (run at first (going (put (p ++ us') w))) ≡ going (put us' a)
          by [] is rest = absurd (stood (run at second) (run_eats at fy.below.inside second (ended_takes second i)) s.work us a (ap (λ (x : Work). run at second (going x)) (sym (put_rest s.work us rest)) ∙ s.ends) r)
          by (q ∷ back) is rest =
              let there : (x : List Token) → p ++ x ≡ s.front ++ (q ∷ (back ++ x)) = λ x. ap (λ (y : List Token). y ++ x) is ∙ append_assoc s.front (q ∷ back) x in
              let before : run at first (going (put (s.front ++ (q ∷ (back ++ us))) w)) ≡ going s.work = ap (λ (x : List Token). run at first (going (put x w))) (sym (there us)) ∙ s.goes in
              ap (λ (x : List Token). run at second (run at first (going (put x w)))) (there us')
              ∙ ap (λ (x : State). run at second x) (firm_parts (run at first) (run_firm at fy first j) w s.front q back us us' s.work before rest)
              ∙ l.free s.work (q ∷ back) us us' a (ap (λ (x : Work). run at second (going x)) (sym (put_rest s.work (q ∷ (back ++ us)) rest)) ∙ s.ends) r
  run_ends (either test first second) h = absurd (let no : ⊥ = cc in no)
  run_ends (many test rule) h = absurd (let no : ⊥ = cc in no)
  run_ends refuse h = absurd (let no : ⊥ = cc in no)
