-- Where a rule was refused behind some tokens, these tokens can be gone on with.
use Rattle.std.proofs.Common.{◌≡◌, Bool, true, false, if◌then◌else◌, List, [], ◌∷◌, ◌++◌, Option, None, Some, refl, sym, ap, ◌∙◌, subst, append_assoc}
use Rattle.js_lexer.specs.declared.token.Token.{Token}
use Rattle.parser_rules.specs.declared.form.Form.{Form}
use Rattle.parser_rules.specs.declared.form.Cover.{Cover}
use Rattle.parser_rules.specs.declared.form.Cover.TheVariants as covers
use Rattle.parser_rules.specs.declared.form.Why.{Why}
use Rattle.parser_rules.specs.declared.form.Why.TheVariants.{Unexpected}
use Rattle.parser_rules.specs.Work.{Work, State, going, stuck}
use Rattle.parser_rules.specs.Rules.{Test, Rule, ◌▸◌, passes_on, take_one, taken, run}
use Rattle.parser_rules.proofs.Laws.{run_still}
use Rattle.first_bad.proofs.Begins.{idle, run_idle}
use Rattle.first_bad.proofs.Front.{rest_of, run_front}
use Rattle.first_bad.proofs.Views.{put}
use Rattle.first_bad.proofs.Firm.{longer}
use Rattle.first_bad.proofs.FirmRules.{firm_looped, Firmly, firm, run_firm}
use Rattle.first_bad.proofs.Marks.{Mark, ahead, Shows, token_of, tokens_of, Marks, has, every, meet, has_meet}
use Rattle.first_bad.proofs.Facts.{ended, again, follows, Start, leading, view_of, start, three, finish_then, finish}
use Rattle.first_bad.proofs.Starts.{GoesTo, Starts, run_starts, leads, then_goes, put_rest}
use Rattle.first_bad.proofs.Sunk.{going_stuck}
use Rattle.first_bad.proofs.Again.{firm_parts, run_ends, parts_from}
use Rattle.first_bad.proofs.AgainRules.{AgainOn, run_again}
use Rattle.first_bad.proofs.Deeper.{settled, Deeper, run_deeper}

-- tokens behind p that the rule reads with it, before the mark
pub record Completes (g : State → State) (m : Mark) (w : Work) (p : List Token) : Type 0 where
  pub text : List Mark
  pub reads : (us : List Token) → Shows m us → GoesTo g (put (p ++ tokens_of text us) w) us

pub record FinishOn (f g : State → State) (ms : Marks) : Type 0 where
  pub ends : (m : Mark) → has ms m ≡ true → (w : Work) (q : Token) (p us : List Token) (why : Why) → f (going (put (q ∷ (p ++ us)) w)) ≡ stuck why us → Completes g m w (q ∷ p)

pub rest_stuck : (s : State) (why : Why) (us : List Token) → s ≡ stuck why us → rest_of s ≡ us
rest_stuck s why us e = ap (λ (x : State). rest_of x) e

-- what is refused at once has taken nothing
pub at_once : {A : Type 0} (s : State) (q : Token) (p us : List Token) (why : Why) → rest_of s ≡ q ∷ (p ++ us) → s ≡ stuck why us → A
at_once s q p us why r e = absurd (longer q p us (sym r ∙ rest_stuck s why us e))

-- ---- steps

pub take_finishes : (test : Test) → FinishOn (take_one test) (take_one test) every
unfolding take_one
take_finishes test = record { ends = λ m h w q p us why e. by (passes_on test (q ∷ (p ++ us)) w.top.cover) m w q p us why e }
  where
    by : (b : Bool) (m : Mark) (w : Work) (q : Token) (p us : List Token) (why : Why) → (if b then taken (q ∷ (p ++ us)) (put (q ∷ (p ++ us)) w) else stuck Unexpected (q ∷ (p ++ us))) ≡ stuck why us → Completes (take_one test) m w (q ∷ p)
    by true m w q p us why e = going_stuck (put (p ++ us) w) why us e
    by false m w q p us why e = at_once (stuck Unexpected (q ∷ (p ++ us))) q p us why refl e

tokens_split : (text : List Mark) (us : List Token) → tokens_of text us ≡ tokens_of text [] ++ us
tokens_split [] us = refl
tokens_split (m ∷ text) us = ap (λ (ts : List Token). token_of m ∷ ts) (tokens_split text us)

tokens_join : (a b : List Mark) (us : List Token) → tokens_of (a ++ b) us ≡ tokens_of a (tokens_of b us)
tokens_join [] b us = refl
tokens_join (m ∷ a) b us = ap (λ (ts : List Token). token_of m ∷ ts) (tokens_join a b us)

-- ---- one after the other

module _ (at at' : Form → State → State) (fy : Firmly at) (fy' : Firmly at') (d : (form : Form) → Deeper (at form) (at' form)) (inner : Form → Start) (si : (k : Option Cover) (form : Form) → Starts (at' form) k (inner form)) (ai : (form : Form) → AgainOn (at' form) (follows form)) where
  -- what goes on goes on one level deeper, too
  pub deeper_goes : (r : Rule) → firm r ≡ true → (x a : Work) → run at r (going x) ≡ going a → run at' r (going x) ≡ going a
  deeper_goes r h x a e = (run_deeper at at' fy.below fy'.below d r (firm_looped r h)).same (going x) (ap (λ (s : State). settled s) e) ∙ e

  pub again_of : (r : Rule) → AgainOn (run at' r) (again r)
  again_of r = run_again at' fy' ai r

  starts_of : (k : Option Cover) (r : Rule) → Starts (run at' r) k (start inner k r)
  starts_of k r = run_starts at' inner si k r

  module _ (first second : Rule) (hf : firm first ≡ true) (hs : firm second ≡ true) where
    abbrev joined : State → State
    joined s = run at' second (run at' first s)

    abbrev covering : Marks
    covering = three (start inner (Some covers.Names) second) (start inner (Some covers.Expressions) second) (start inner (Some covers.Parameters) second)

    -- the second begins anew, where the first goes on in front of its start
    begun : (m : Mark) (w : Work) (p : List Token) (text : List Mark) (s : Start) → Starts (run at' second) None s → has s.before m ≡ true → ((us : List Token) → Shows m us → GoesTo (run at' first) (put (p ++ tokens_of text (tokens_of s.text us)) w) (tokens_of s.text us)) → Completes joined m w p
    begun m w p text s l h g = record {
      text = text ++ s.text;
      reads = λ us shows.
          let a = g us shows in
          let b = subst (λ (x : Work). GoesTo (run at' second) x us) (sym (put_rest a.work (tokens_of s.text us) a.rest)) (l.reads m h a.work us shows tt) in
          subst (λ (ts : List Token). GoesTo joined (put (p ++ ts) w) us) (sym (tokens_join text s.text us)) (then_goes (run at' first) (run at' second) _ us a.work a.goes b);
    }

    -- the second begins anew, where what the first comes to is free of what stands behind
    begun_free : (m : Mark) (w : Work) (p : List Token) (text : List Mark) (a : Work) → has (three (start inner (Some covers.Names) second) (start inner (Some covers.Expressions) second) (start inner (Some covers.Parameters) second)) m ≡ true → ((us : List Token) → run at' first (going (put (p ++ tokens_of text us) w)) ≡ going (put us a)) → Completes joined m w p
    begun_free m w p text a h g = by a.top.cover refl
      where
        each : (has ((start inner (Some covers.Names) second).before) m ≡ true) × (has (meet ((start inner (Some covers.Expressions) second).before) ((start inner (Some covers.Parameters) second).before)) m ≡ true)
        each = has_meet ((start inner (Some covers.Names) second).before) (meet ((start inner (Some covers.Expressions) second).before) ((start inner (Some covers.Parameters) second).before)) m h

        of : (k : Cover) → a.top.cover ≡ k → has ((start inner (Some k) second).before) m ≡ true → Completes joined m w p
        of k e i = record {
          text = text ++ (start inner (Some k) second).text;
          reads = λ us shows.
              let b = (starts_of (Some k) second).reads m i a us shows e in
              subst (λ (ts : List Token). GoesTo joined (put (p ++ ts) w) us) (sym (tokens_join text ((start inner (Some k) second).text) us)) (then_goes (run at' first) (run at' second) _ us (put (tokens_of ((start inner (Some k) second).text) us) a) (g (tokens_of ((start inner (Some k) second).text) us)) b);
        }

        by : (k : Cover) → a.top.cover ≡ k → Completes joined m w p
        by covers.Names e = let (i, _) = each in of covers.Names e i
        by covers.Expressions e = let (_, i) = each in let (j, _) = has_meet ((start inner (Some covers.Expressions) second).before) ((start inner (Some covers.Parameters) second).before) m i in of covers.Expressions e j
        by covers.Parameters e = let (_, i) = each in let (_, j) = has_meet ((start inner (Some covers.Expressions) second).before) ((start inner (Some covers.Parameters) second).before) m i in of covers.Parameters e j

    -- the first is refused
    first_refused : FinishOn (run at first) (run at' first) (finish inner first) → (m : Mark) → has (finish_then (ended first) (finish inner first) (again first) (start inner None second) covering) m ≡ true → (w : Work) (q : Token) (p us : List Token) (why : Why) → run at first (going (put (q ∷ (p ++ us)) w)) ≡ stuck why us → Completes joined m w (q ∷ p)
    first_refused l m h w q p us why e = by (ended first) refl h
      where
        free_of : (c : Completes (run at' first) m w (q ∷ p)) → ended first ≡ true → (a : GoesTo (run at' first) (put ((q ∷ p) ++ tokens_of c.text (ahead m [])) w) (ahead m [])) → (x : List Token) → run at' first (going (put ((q ∷ p) ++ tokens_of c.text x) w)) ≡ going (put x a.work)
        free_of c d a x =
            let there : (y : List Token) → (q ∷ p) ++ tokens_of c.text y ≡ ((q ∷ p) ++ tokens_of c.text []) ++ y = λ y. ap (λ (ts : List Token). (q ∷ p) ++ ts) (tokens_split c.text y) ∙ sym (append_assoc (q ∷ p) (tokens_of c.text []) y) in
            let old : run at' first (going (put (((q ∷ p) ++ tokens_of c.text []) ++ ahead m []) w)) ≡ going a.work = ap (λ (ts : List Token). run at' first (going (put ts w))) (sym (there (ahead m []))) ∙ a.goes in
            ap (λ (ts : List Token). run at' first (going (put ts w))) (there x)
            ∙ (run_ends at' fy' first d).free w ((q ∷ p) ++ tokens_of c.text []) (ahead m []) x a.work old a.rest

        by : (b : Bool) → ended first ≡ b → has (finish_then b (finish inner first) (again first) (start inner None second) covering) m ≡ true → Completes joined m w (q ∷ p)
        by true d h =
            let (i, j) = has_meet (finish inner first) covering m h in
            let c = l.ends m i w q p us why e in
            let a = c.reads (ahead m []) ([], refl) in
            begun_free m w (q ∷ p) c.text a.work j (free_of c d a)
        by false d h =
            let s = start inner None second in
            let (i, j) = has_meet (leading s.text (meet (finish inner first) (again first))) s.before m h in
            let (k, _) = leads s.text (meet (finish inner first) (again first)) m (ahead m []) i ([], refl) in
            let (f, _) = has_meet (finish inner first) (again first) (view_of s.text m) k in
            let c = l.ends (view_of s.text m) f w q p us why e in
            begun m w (q ∷ p) c.text s (starts_of None second) j (λ x shows. let (_, v) = leads s.text (meet (finish inner first) (again first)) m x i shows in c.reads (tokens_of s.text x) v)

    -- the second is refused at once
    second_at_once : (m : Mark) → has (finish_then (ended first) (finish inner first) (again first) (start inner None second) covering) m ≡ true → (w : Work) (q : Token) (p us : List Token) (a : Work) → run at first (going (put (q ∷ (p ++ us)) w)) ≡ going a → a.rest ≡ us → Completes joined m w (q ∷ p)
    second_at_once m h w q p us a e r = by (ended first) refl h
      where
        now : run at' first (going (put (q ∷ (p ++ us)) w)) ≡ going a
        now = deeper_goes first hf (put (q ∷ (p ++ us)) w) a e

        by : (b : Bool) → ended first ≡ b → has (finish_then b (finish inner first) (again first) (start inner None second) covering) m ≡ true → Completes joined m w (q ∷ p)
        by true d h =
            let (_, j) = has_meet (finish inner first) covering m h in
            begun_free m w (q ∷ p) [] a j (λ x. (run_ends at' fy' first d).free w (q ∷ p) us x a now r)
        by false d h =
            let s = start inner None second in
            let (i, j) = has_meet (leading s.text (meet (finish inner first) (again first))) s.before m h in
            let (k, _) = leads s.text (meet (finish inner first) (again first)) m (ahead m []) i ([], refl) in
            let (_, g) = has_meet (finish inner first) (again first) (view_of s.text m) k in
            begun m w (q ∷ p) [] s (starts_of None second) j (λ x shows.
            let (_, v) = leads s.text (meet (finish inner first) (again first)) m x i shows in
            (again_of first).holds (view_of s.text m) g w (q ∷ p) us (tokens_of s.text x) v (record { work = a; goes = now; rest = r }))

    -- the second is refused further on
    second_refused : FinishOn (run at second) (run at' second) (finish inner second) → (m : Mark) → has (finish inner second) m ≡ true → (w : Work) (p front : List Token) (x : Token) (back us : List Token) (why : Why) (a : Work) → p ≡ front ++ x ∷ back → run at first (going (put (p ++ us) w)) ≡ going a → a.rest ≡ x ∷ (back ++ us) → run at second (going a) ≡ stuck why us → Completes joined m w p
    second_refused l m h w p front x back us why a is e r last =
        let there : (y : List Token) → p ++ y ≡ front ++ (x ∷ (back ++ y)) = λ y. ap (λ (z : List Token). z ++ y) is ∙ append_assoc front (x ∷ back) y in
        let c = l.ends m h a x back us why (ap (λ (z : Work). run at second (going z)) (sym (put_rest a (x ∷ (back ++ us)) r)) ∙ last) in
        let now : run at' first (going (put (p ++ us) w)) ≡ going a = deeper_goes first hf (put (p ++ us) w) a e in
        let before : run at' first (going (put (front ++ (x ∷ (back ++ us))) w)) ≡ going a = ap (λ (z : List Token). run at' first (going (put z w))) (sym (there us)) ∙ now in
        record {
          text = c.text;
          reads = λ y shows.
              let moved : run at' first (going (put (p ++ tokens_of c.text y) w)) ≡ going (put (x ∷ (back ++ tokens_of c.text y)) a) =
              ap (λ (z : List Token). run at' first (going (put z w))) (there (tokens_of c.text y)) ∙ firm_parts (run at' first) (run_firm at' fy' first hf) w front x back us (tokens_of c.text y) a before r in
              then_goes (run at' first) (run at' second) _ y (put (x ∷ (back ++ tokens_of c.text y)) a) moved (c.reads y shows);
        }

    idle_never : {A : Type 0} → idle first ≡ true → (w : Work) (q : Token) (p us : List Token) → rest_of (run at first (going (put (q ∷ (p ++ us)) w))) ≡ us → A
    idle_never h w q p us r =
        let (v, e, same) = (run_idle at first h).goes (put (q ∷ (p ++ us)) w) in
        absurd (longer q p us (sym (ap (λ (s : State). rest_of s) e ∙ same) ∙ r))

    pub then_finishes : FinishOn (run at first) (run at' first) (finish inner first) → FinishOn (run at second) (run at' second) (finish inner second) → FinishOn (run at (first ▸ second)) joined (meet (finish inner second) (if idle first then every else finish_then (ended first) (finish inner first) (again first) (start inner None second) covering))
    then_finishes lf ls = record {
      ends = λ m h w q p us why e.
          let (i, j) = has_meet (finish inner second) (if idle first then every else finish_then (ended first) (finish inner first) (again first) (start inner None second) covering) m h in
          by m i (idle first) refl j w q p us why e (run at first (going (put (q ∷ (p ++ us)) w))) refl;
    }
      where
        stood_there : (m : Mark) → (b : Bool) → idle first ≡ b → has (if b then every else finish_then (ended first) (finish inner first) (again first) (start inner None second) covering) m ≡ true → (w : Work) (q : Token) (p us : List Token) (why : Why) → run at first (going (put (q ∷ (p ++ us)) w)) ≡ stuck why us → Completes joined m w (q ∷ p)
        stood_there m true d j w q p us why e = idle_never d w q p us (rest_stuck _ why us e)
        stood_there m false d j w q p us why e = first_refused lf m j w q p us why e

        went_on : (m : Mark) → has (finish inner second) m ≡ true → (b : Bool) → idle first ≡ b → has (if b then every else finish_then (ended first) (finish inner first) (again first) (start inner None second) covering) m ≡ true → (w : Work) (q : Token) (p us : List Token) (why : Why) (a : Work) → run at first (going (put (q ∷ (p ++ us)) w)) ≡ going a → (front back : List Token) → (q ∷ p) ≡ front ++ back → a.rest ≡ back ++ us → run at second (going a) ≡ stuck why us → Completes joined m w (q ∷ p)
        went_on m i b d j w q p us why a e front (x ∷ back) is r last = second_refused ls m i w (q ∷ p) front x back us why a is e r last
        went_on m i true d j w q p us why a e front [] is r last = idle_never d w q p us (ap (λ (s : State). rest_of s) e ∙ r)
        went_on m i false d j w q p us why a e front [] is r last = second_at_once m j w q p us a e r

        by : (m : Mark) → has (finish inner second) m ≡ true → (b : Bool) → idle first ≡ b → has (if b then every else finish_then (ended first) (finish inner first) (again first) (start inner None second) covering) m ≡ true → (w : Work) (q : Token) (p us : List Token) (why : Why) → run at second (run at first (going (put (q ∷ (p ++ us)) w))) ≡ stuck why us → (s : State) → run at first (going (put (q ∷ (p ++ us)) w)) ≡ s → Completes joined m w (q ∷ p)
        by m i b d j w q p us why e (stuck why' ts) k =
            let here : stuck why' ts ≡ stuck why us = sym ((run_still at fy.below.still second).stays why' ts) ∙ ap (λ (s : State). run at second s) (sym k) ∙ e in
            stood_there m b d j w q p us why (k ∙ here)
        by m i b d j w q p us why e (going a) k =
            let c = parts_from (run at first) (run at second) (run_front at fy.below.front first) (run_front at fy.below.front second) w (q ∷ p) us (stuck why us) a k e refl in
            went_on m i b d j w q p us why c.work c.goes c.front c.back c.is c.rest c.ends
