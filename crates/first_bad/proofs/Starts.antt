-- The start of a rule is read by it.
use Rattle.std.proofs.Common.{◌≡◌, Bool, true, false, ◌&&◌, not, if◌then◌else◌, List, [], ◌∷◌, ◌++◌, Option, None, Some, inl, inr, refl, sym, ap, ◌∙◌, subst}
use Rattle.std.proofs.lemmas.Bool.{cases_Bool}
use Rattle.js_lexer.specs.declared.token.Token.{Token}
use Rattle.parser_rules.specs.declared.form.Form.{Form}
use Rattle.parser_rules.specs.declared.form.Cover.{Cover}
use Rattle.parser_rules.specs.Work.{Work, State, going}
use Rattle.parser_rules.specs.Rules.{Test, Action, Rule, nothing_more, take, act, inside, ◌▸◌, either, many, refuse, passes, passes_on, after, work_after, take_one, refused, run}
use Rattle.parser_rules.proofs.Laws.{same_rest, repeated_end}
use Rattle.first_bad.proofs.Begins.{both}
use Rattle.first_bad.proofs.Views.{put}
use Rattle.first_bad.proofs.Marks.{Mark, is_edge, token_of, ahead, tokens_of, Shows, Knows, seen, seen_right, Marks, marks, has, has_marks, every, none, has_meet}
use Rattle.first_bad.proofs.Facts.{only_if, is_yes, is_no, Start, no_start, starting, view_of, leading, is_some_mark, branch, first_that, texts, start_then, start_either, start}

-- the rule goes on in front of us
pub record GoesTo (f : State → State) (x : Work) (us : List Token) : Type 0 where
  pub work : Work
  pub goes : f (going x) ≡ going work
  pub rest : work.rest ≡ us

-- the text is read before each of the marks
abbrev pub StartsAt : (State → State) → Option Cover → Start → Type 0
StartsAt f k s = (m : Mark) → has s.before m ≡ true → (w : Work) (us : List Token) → Shows m us → Knows k w.top.cover → GoesTo f (put (tokens_of s.text us) w) us

pub record Starts (f : State → State) (k : Option Cover) (s : Start) : Type 0 where
  pub reads : StartsAt f k s

-- ---- marks and texts

pub nothing_there : (m : Mark) → has none m ≡ true → ⊥
nothing_there m h = cc

pub has_if : (b : Bool) (ms : Marks) (m : Mark) → has (only_if b ms) m ≡ true → (b ≡ true) × (has ms m ≡ true)
has_if true ms m h = (refl, h)
has_if false ms m h = absurd (nothing_there m h)

pub yes_some : (o : Option Bool) → is_yes o ≡ true → o ≡ Some true
yes_some None h = absurd (let no : ⊥ = cc in no)
yes_some (Some true) h = refl
yes_some (Some false) h = absurd (let no : ⊥ = cc in no)

pub no_some : (o : Option Bool) → is_no o ≡ true → o ≡ Some false
no_some None h = absurd (let no : ⊥ = cc in no)
no_some (Some true) h = absurd (let no : ⊥ = cc in no)
no_some (Some false) h = refl

is_ahead : (m : Mark) (us : List Token) → is_edge m ≡ false → token_of m ∷ us ≡ ahead m us
is_ahead m us h = rw h refl

not_edge : (b : Bool) → not b ≡ true → b ≡ false
not_edge true h = absurd (let no : ⊥ = cc in no)
not_edge false h = refl

pub leads : (text : List Mark) (ms : Marks) (m : Mark) (us : List Token) → has (leading text ms) m ≡ true → Shows m us → (has ms (view_of text m) ≡ true) × Shows (view_of text m) (tokens_of text us)
leads [] ms m us h s = (h, s)
leads (x ∷ text) ms m us h s =
    let (p, _) = has_if (has ms x && not (is_edge x)) every m h in
    let (a, b) = both (has ms x) (not (is_edge x)) p in
    (a, (tokens_of text us, is_ahead x (tokens_of text us) (not_edge (is_edge x) b)))

tokens_append : (a b : List Mark) (us : List Token) → tokens_of (a ++ b) us ≡ tokens_of a (tokens_of b us)
tokens_append [] b us = refl
tokens_append (m ∷ a) b us = ap (λ (ts : List Token). token_of m ∷ ts) (tokens_append a b us)

-- what a test says of a mark in view
pub test_seen : (k : Option Cover) (test : Test) (m : Mark) (w : Work) (us : List Token) (b : Bool) → Shows m us → Knows k w.top.cover → seen k test m ≡ Some b → passes test (going (put us w)) ≡ b
unfolding passes
test_seen k test m w us b (v, e) h s = ap (λ (ts : List Token). passes_on test ts w.top.cover) e ∙ seen_right k test m v w.top.cover b h s

-- ---- steps

first_starts : (f : Mark → Bool) (ms : List Mark) (m : Mark) → has ((first_that f ms).before) m ≡ true → (x : Mark) × (f x ≡ true) × (first_that f ms ≡ starting (x ∷ []) every)
first_starts f [] m h = absurd (nothing_there m h)
first_starts f (x ∷ ms) m h = elim (cases_Bool (f x)) [
  | inl k ↦ (x, k, rw k refl)
  | inr k ↦
      let rest : first_that f (x ∷ ms) ≡ first_that f ms = rw k refl in
      let (y, g, e) = first_starts f ms m (sym (ap (λ (s : Start). has s.before m) rest) ∙ h) in
      (y, g, rest ∙ e)
]

abbrev chooses : Option Cover → Test → Mark → Bool
chooses k test m = is_yes (seen k test m) && not (is_edge m)

take_starts : (k : Option Cover) (test : Test) → Starts (take_one test) k (first_that (chooses k test) texts)
unfolding take_one passes
take_starts k test = record {
  reads = λ m h w us s c.
      let (x, g, e) = first_starts (chooses k test) texts m h in
      let (y, n) = both (is_yes (seen k test x)) (not (is_edge x)) g in
      let shows : Shows x (token_of x ∷ us) = (us, is_ahead x us (not_edge (is_edge x) n)) in
      let passed : passes_on test (token_of x ∷ us) w.top.cover ≡ true = test_seen k test x w (token_of x ∷ us) true shows c (yes_some (seen k test x) y) in
      subst (λ (q : Start). GoesTo (take_one test) (put (tokens_of q.text us) w) us) (sym e) (record { work = put us w; goes = rw passed refl; rest = refl });
}

nothing_starts : (k : Option Cover) → Starts (λ s. s) k (starting [] every)
nothing_starts k = record { reads = λ m h w us s c. record { work = put us w; goes = refl; rest = refl } }

act_starts : (k : Option Cover) (action : Action) → Starts (after action) k (starting [] every)
unfolding after
act_starts k action = record { reads = λ m h w us s c. record { work = work_after action (put us w); goes = refl; rest = same_rest action (put us w) } }

-- ---- rules

-- one after the other, where the first goes on in front of what the second reads
pub then_goes : (f g : State → State) (x : Work) (us : List Token) (a : Work) → f (going x) ≡ going a → GoesTo g a us → GoesTo (λ s. g (f s)) x us
then_goes f g x us a e l = record { work = l.work; goes = ap (λ (s : State). g s) e ∙ l.goes; rest = l.rest }

pub put_rest : (w : Work) (us : List Token) → w.rest ≡ us → w ≡ put us w
put_rest w us e = ap (λ (ts : List Token). put ts w) e

then_starts : (f g : State → State) (k : Option Cover) (a b : Start) → Starts f k a → Starts g None b → Starts (λ s. g (f s)) k (start_then a b)
then_starts f g k a b l m = record {
  reads = λ c h w us s known.
      let (p, q) = has_meet (leading b.text a.before) b.before c h in
      let (i, j) = leads b.text a.before c us p s in
      let first = l.reads (view_of b.text c) i w (tokens_of b.text us) j known in
      let same = put_rest first.work (tokens_of b.text us) first.rest in
      let second = subst (λ (x : Work). GoesTo g x us) (sym same) (m.reads c q first.work us s tt) in
      subst (λ (ts : List Token). GoesTo (λ s. g (f s)) (put ts w) us) (sym (tokens_append a.text b.text us)) (then_goes f g _ us first.work first.goes second);
}

module _ (f g : State → State) (k : Option Cover) (test : Test) where
  abbrev chosen : State → State
  chosen s = if passes test s then f s else g s

  goes_first : (x : Work) (us : List Token) → passes test (going x) ≡ true → GoesTo f x us → GoesTo chosen x us
  goes_first x us h l = record { work = l.work; goes = rw h l.goes; rest = l.rest }

  goes_second : (x : Work) (us : List Token) → passes test (going x) ≡ false → GoesTo g x us → GoesTo chosen x us
  goes_second x us h l = record { work = l.work; goes = rw h l.goes; rest = l.rest }

  second_starts : (b : Start) → Starts g k b → Starts chosen k (branch (λ m. is_no (seen k test m)) b)
  second_starts b l = record {
    reads = λ m h w us s c.
        let (p, q) = has_meet (leading b.text (marks (λ x. is_no (seen k test x)))) b.before m h in
        let (i, j) = leads b.text (marks (λ x. is_no (seen k test x))) m us p s in
        let no : is_no (seen k test (view_of b.text m)) ≡ true = sym (has_marks (λ x. is_no (seen k test x)) (view_of b.text m)) ∙ i in
        goes_second (put (tokens_of b.text us) w) us (test_seen k test (view_of b.text m) w (tokens_of b.text us) false j c (no_some (seen k test (view_of b.text m)) no)) (l.reads m q w us s c);
  }

  first_branch : (a : Start) → Starts f k a → Starts chosen k (branch (λ m. is_yes (seen k test m)) a)
  first_branch a l = record {
    reads = λ m h w us s c.
        let (p, q) = has_meet (leading a.text (marks (λ x. is_yes (seen k test x)))) a.before m h in
        let (i, j) = leads a.text (marks (λ x. is_yes (seen k test x))) m us p s in
        let yes : is_yes (seen k test (view_of a.text m)) ≡ true = sym (has_marks (λ x. is_yes (seen k test x)) (view_of a.text m)) ∙ i in
        goes_first (put (tokens_of a.text us) w) us (test_seen k test (view_of a.text m) w (tokens_of a.text us) true j c (yes_some (seen k test (view_of a.text m)) yes)) (l.reads m q w us s c);
  }

  either_starts : (a b : Start) → Starts f k a → Starts g k b → Starts chosen k (start_either k test a b)
  either_starts a b i j = by (is_some_mark (branch (λ m. is_no (seen k test m)) b).before)
    where
      by : (c : Bool) → Starts chosen k (if c then branch (λ m. is_no (seen k test m)) b else branch (λ m. is_yes (seen k test m)) a)
      by true = second_starts b j
      by false = first_branch a i

many_starts : (at : Form → State → State) (k : Option Cover) (test : Test) (rule : Rule) → Starts (run at (many test rule)) k (starting [] (marks (λ m. is_no (seen k test m))))
many_starts at k test rule = record {
  reads = λ m h w us s c.
      let no : is_no (seen k test m) ≡ true = sym (has_marks (λ x. is_no (seen k test x)) m) ∙ h in
      record { work = put us w; goes = repeated_end (passes test) (run at rule) (going (put us w)) (test_seen k test m w us false s c (no_some (seen k test m) no)); rest = refl };
}

pub nothing_begins : (f : State → State) (k : Option Cover) → Starts f k no_start
nothing_begins f k = record { reads = λ m h w us s c. absurd (nothing_there m h) }

pub run_starts : (at : Form → State → State) (inner : Form → Start) → ((k : Option Cover) (form : Form) → Starts (at form) k (inner form)) → (k : Option Cover) (r : Rule) → Starts (run at r) k (start inner k r)
run_starts at inner l k nothing_more = nothing_starts k
run_starts at inner l k (take test) = take_starts k test
run_starts at inner l k (act action) = act_starts k action
run_starts at inner l k (inside form) = l k form
run_starts at inner l k (first ▸ second) = then_starts (run at first) (run at second) k (start inner k first) (start inner None second) (run_starts at inner l k first) (run_starts at inner l None second)
run_starts at inner l k (either test first second) = either_starts (run at first) (run at second) k test (start inner k first) (start inner k second) (run_starts at inner l k first) (run_starts at inner l k second)
run_starts at inner l k (many test rule) = many_starts at k test rule
run_starts at inner l k refuse = nothing_begins refused k
