-- What rules of single tokens do with a construction: `new`, a name and `(`.
use Rattle.std.proofs.Common.{◌≡◌, Bool, true, false, if◌then◌else◌, List, [], ◌∷◌, Option, None, Some, refl, sym, ap, ◌∙◌, subst}
use Rattle.js_lexer.specs.declared.token.Token.{Token}
use Rattle.parser_rules.specs.declared.class.Class.{Class}
use Rattle.parser_rules.specs.declared.class.Class.TheVariants as classes
use Rattle.parser_rules.specs.declared.form.Form.{Form}
use Rattle.parser_rules.specs.declared.form.Cover.{Cover}
use Rattle.parser_rules.specs.Classes.{class_of, is_one_of}
use Rattle.parser_rules.specs.Work.{Work, State, going}
use Rattle.parser_rules.specs.Rules.{Test, Action, Rule, nothing_more, take, act, inside, ◌▸◌, either, many, refuse, sees, sees_other, sees_on_line, sees_word, sees_key, sees_nonzero, sees_passing, after_line, may_end, may_be_parameters, must_be_parameters, passes_on, after, work_after, take_one, run}
use Rattle.first_bad.proofs.Views.{act_same, put}
use Rattle.first_bad.proofs.Words.{Opens, class_fixed}

-- where in a construction reading stands
pub data Spot : Type 0 where
  at_word : Spot
  at_name : Spot
  at_paren : Spot
  behind : Spot

abbrev pub tokens_from : Spot → Token → Token → Token → List Token → List Token
tokens_from at_word q c o ts = q ∷ c ∷ o ∷ ts
tokens_from at_name q c o ts = c ∷ o ∷ ts
tokens_from at_paren q c o ts = o ∷ ts
tokens_from behind q c o ts = ts

abbrev pub sees_class : Test → Class → Bool
sees_class (sees cs) c = is_one_of c cs
sees_class _ c = false

abbrev pub is_any_word : Test → Bool
is_any_word sees_word = true
is_any_word _ = false

abbrev pub step : Test → Spot → Option Spot
step test at_word = if sees_class test classes.New then Some at_name else None
step test at_name = if is_any_word test then Some at_paren else None
step test at_paren = if sees_class test classes.ParenOpen then Some behind else None
step test behind = None

abbrev pub stand_at : Spot → Option Spot
stand_at at_word = Some at_word
stand_at at_name = Some at_name
stand_at at_paren = Some at_paren
stand_at behind = None

abbrev pub further : Option Spot → (Spot → Option Spot) → Option Spot
further None f = None
further (Some i) f = f i

-- where a rule of actions and single tokens has come, if it surely goes on
abbrev pub walk : Rule → Spot → Option Spot
walk nothing_more i = None
walk (take test) i = step test i
walk (act action) i = stand_at i
walk (inside form) i = None
walk (first ▸ second) i = further (walk first i) (λ j. walk second j)
walk (either test first second) i = None
walk (many test rule) i = None
walk refuse i = None

-- ---- it does go on

pub record Walks (f : State → State) (q c o : Token) (i j : Spot) : Type 0 where
  pub goes : (w : Work) → (u : Work) × ((ts : List Token) → f (going (put (tokens_from i q c o ts) w)) ≡ going (put (tokens_from j q c o ts) u))

seen : (test : Test) (c : Class) (ts : List Token) (cover : Cover) → sees_class test c ≡ true → class_of ts ≡ c → passes_on test ts cover ≡ true
seen (sees cs) c ts cover h e = rw e h
seen (sees_other cs) c ts cover h e = absurd (let none : ⊥ = cc in none)
seen (sees_on_line cs) c ts cover h e = absurd (let none : ⊥ = cc in none)
seen sees_word c ts cover h e = absurd (let none : ⊥ = cc in none)
seen sees_key c ts cover h e = absurd (let none : ⊥ = cc in none)
seen sees_nonzero c ts cover h e = absurd (let none : ⊥ = cc in none)
seen sees_passing c ts cover h e = absurd (let none : ⊥ = cc in none)
seen after_line c ts cover h e = absurd (let none : ⊥ = cc in none)
seen may_end c ts cover h e = absurd (let none : ⊥ = cc in none)
seen may_be_parameters c ts cover h e = absurd (let none : ⊥ = cc in none)
seen must_be_parameters c ts cover h e = absurd (let none : ⊥ = cc in none)

any_word : (test : Test) (ts : List Token) (cover : Cover) → is_any_word test ≡ true → passes_on sees_word ts cover ≡ true → passes_on test ts cover ≡ true
any_word (sees cs) ts cover h k = absurd (let none : ⊥ = cc in none)
any_word (sees_other cs) ts cover h k = absurd (let none : ⊥ = cc in none)
any_word (sees_on_line cs) ts cover h k = absurd (let none : ⊥ = cc in none)
any_word sees_word ts cover h k = k
any_word sees_key ts cover h k = absurd (let none : ⊥ = cc in none)
any_word sees_nonzero ts cover h k = absurd (let none : ⊥ = cc in none)
any_word sees_passing ts cover h k = absurd (let none : ⊥ = cc in none)
any_word after_line ts cover h k = absurd (let none : ⊥ = cc in none)
any_word may_end ts cover h k = absurd (let none : ⊥ = cc in none)
any_word may_be_parameters ts cover h k = absurd (let none : ⊥ = cc in none)
any_word must_be_parameters ts cover h k = absurd (let none : ⊥ = cc in none)

-- the spot that an option is
spot_or : Option Spot → Spot → Spot
spot_or None d = d
spot_or (Some i) d = i

pub none_some : (i : Spot) → None ≡ Some i → ⊥
none_some i e = cc

same_spot : (i j : Spot) → Some i ≡ Some j → i ≡ j
unfolding spot_or
same_spot i j e = ap (λ (o : Option Spot). spot_or o i) e

walks_to : (f : State → State) (q c o : Token) (i j k : Spot) → j ≡ k → Walks f q c o i j → Walks f q c o i k
walks_to f q c o i j k e l = subst (λ (x : Spot). Walks f q c o i x) e l

pub data Bind (first : Option Spot) (f : Spot → Option Spot) (k : Spot) : Type 0 where
  by_way : (j : Spot) → first ≡ Some j → f j ≡ Some k → Bind first f k

pub bind_of : (first : Option Spot) (f : Spot → Option Spot) (k : Spot) → further first f ≡ Some k → Bind first f k
bind_of None f k e = absurd (none_some k e)
bind_of (Some j) f k e = by_way j refl e

by_test : (b : Bool) (i j : Spot) → (if b then Some i else None) ≡ Some j → (b ≡ true) × (i ≡ j)
by_test true i j e = (refl, same_spot i j e)
by_test false i j e = absurd (none_some j e)

module _ (q c o : Token) (n : Opens q c o) where
  take_walks : (test : Test) (i j : Spot) → step test i ≡ Some j → Walks (take_one test) q c o i j
  unfolding take_one
  take_walks test at_word j e =
      let (h, same) = by_test (sees_class test classes.New) at_name j e in
      walks_to (take_one test) q c o at_word at_name j same (record { goes = λ w. (w, λ ts. rw (seen test classes.New (q ∷ c ∷ o ∷ ts) w.top.cover h (n.new_class ts)) refl) })
  take_walks test at_name j e =
      let (h, same) = by_test (is_any_word test) at_paren j e in
      walks_to (take_one test) q c o at_name at_paren j same (record { goes = λ w. (w, λ ts. rw (any_word test (c ∷ o ∷ ts) w.top.cover h n.name_word) refl) })
  take_walks test at_paren j e =
      let (h, same) = by_test (sees_class test classes.ParenOpen) behind j e in
      walks_to (take_one test) q c o at_paren behind j same (record { goes = λ w. (w, λ ts. rw (seen test classes.ParenOpen (o ∷ ts) w.top.cover h (n.paren_class ts)) refl) })
  take_walks test behind j e = absurd (none_some j e)

  act_walks : (action : Action) (i j : Spot) → stand_at i ≡ Some j → Walks (after action) q c o i j
  unfolding after
  act_walks action at_word j e =
      walks_to (after action) q c o at_word at_word j (same_spot at_word j e) (record { goes = λ w. (work_after action (put (q ∷ c ∷ o ∷ []) w), λ ts. ap (λ (x : Work). going x) (act_same action q (c ∷ o ∷ []) (c ∷ o ∷ ts) w (n.new_class [] ∙ sym (n.new_class ts)))) })
  act_walks action at_name j e =
      walks_to (after action) q c o at_name at_name j (same_spot at_name j e) (record { goes = λ w. (work_after action (put (c ∷ o ∷ []) w), λ ts. ap (λ (x : Work). going x) (act_same action c (o ∷ []) (o ∷ ts) w (class_fixed c (o ∷ []) (o ∷ ts) n.name_fixed))) })
  act_walks action at_paren j e =
      walks_to (after action) q c o at_paren at_paren j (same_spot at_paren j e) (record { goes = λ w. (work_after action (put (o ∷ []) w), λ ts. ap (λ (x : Work). going x) (act_same action o [] ts w (n.paren_class [] ∙ sym (n.paren_class ts)))) })
  act_walks action behind j e = absurd (none_some j e)

  pub run_walks : (at : Form → State → State) (r : Rule) (i j : Spot) → walk r i ≡ Some j → Walks (run at r) q c o i j
  run_walks at nothing_more i j e = absurd (none_some j e)
  run_walks at (take test) i j e = take_walks test i j e
  run_walks at (act action) i j e = act_walks action i j e
  run_walks at (inside form) i j e = absurd (none_some j e)
  run_walks at (first ▸ second) i k e = elim (bind_of (walk first i) (λ j. walk second j) k e) [
    | by_way j p s ↦ record {
      goes = λ w.
          let (u, to) = (run_walks at first i j p).goes w in
          let (v, on) = (run_walks at second j k s).goes u in
          (v, λ ts. ap (λ (x : State). run at second x) (to ts) ∙ on ts);
    }
  ]
  run_walks at (either test first second) i j e = absurd (none_some j e)
  run_walks at (many test rule) i j e = absurd (none_some j e)
  run_walks at refuse i j e = absurd (none_some j e)
