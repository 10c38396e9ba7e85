-- How what a rule does with forms under construction is compared with what is read by cases.
use Rattle.std.proofs.Common.{◌≡◌, Bool, true, false, List, [], ◌∷◌, inl, inr, Option, None, Some, refl, sym, ap, ◌∙◌, subst, if◌then◌else◌}
use Rattle.std.proofs.lemmas.Bool.{cases_Bool}
use Rattle.js_lexer.specs.declared.token.Token.{Token}
use Rattle.parser_rules.specs.declared.form.Form.{Form}
use Rattle.parser_rules.specs.declared.form.Cover.{Cover}
use Rattle.parser_rules.specs.declared.form.Why.{Why}
use Rattle.parser_rules.specs.declared.form.Why.TheVariants.{Unexpected}
use Rattle.parser_rules.specs.Work.{Part, Frame, Work, State, going, stuck, with_part, onto}
use Rattle.parser_rules.specs.Work as work
use Rattle.parser_rules.specs.Rules.{Rule, Test, nothing_more, take, ◌▸◌, either, refuse, passes, passes_on, take_one, taken, refused, run}
use Rattle.parser_rules.proofs.Laws.{Still, run_still}
use Rattle.js_grammar.specs.Spots.{Spot, spot, Reading, Tail, Named, Takes, Many, no_more, then_more, Chain, chain_end, chain_step, trees_of}
use Rattle.js_grammar.specs.Spots as spots

-- ---- forms under construction

abbrev pub spot_of : Work → Spot
spot_of w = spot w.rest w.made

-- reading has gone on to a spot
abbrev pub moved : Work → Spot → Work
moved w q = record w { rest = q.rest; made = q.made }

-- what reading does to the innermost form
abbrev pub Effect : Type 0 → Type 0
Effect A = Frame → A → Frame

-- reading has gone on to a spot, and the innermost form has what was read
abbrev pub gives : {A : Type 0} → Effect A → Work → A → Spot → Work
gives effect w x q = record w { rest = q.rest; made = q.made; top = effect w.top x }

-- one more part; nothing; one more name; a name of its own, if any; one more name with its part
abbrev pub a_part : Effect Part
a_part f x = with_part x f

abbrev pub no_effect : Effect (Unit {0})
no_effect f x = f

abbrev pub a_name : Effect Named
a_name f n = work.with_name n.0 n.1 f

abbrev pub own_name : Effect Named
own_name f n = record f { name = Some n.0; name_place = n.1 }

abbrev pub own_name_if_any : Effect (Option Named)
own_name_if_any f None = f
own_name_if_any f (Some n) = own_name f n

abbrev pub an_entry : Effect (Named × Part)
an_entry f e = with_part e.1 (a_name f e.0)

-- several, one after another
abbrev pub each : {A : Type 0} → Effect A → Effect (List A)
each effect f [] = f
each effect f (x ∷ xs) = each effect (effect f x) xs

-- ---- what a state is

-- reading went on, and something was read; or reading stands
pub data Read {A : Type 0} (done : A → Spot → Work) (R : A → Spot → Type 0) : State → Type 0 where
  read : {x : A} {q : Spot} → R x q → Read done R (going (done x q))
  stands : {why : Why} {ts : List Token} → Read done R (stuck why ts)

-- what is done to a state is what is read by cases: whatever is read by cases is done, and nothing else
pub record Same {A : Type 0} (effect : Effect A) (f : State → State) (R : Reading A) : Type 0 where
  pub complete : (w : Work) (x : A) (q : Spot) → R (spot_of w) x q → f (going w) ≡ going (gives effect w x q)
  pub sound : (w : Work) → Read (gives effect w) (R (spot_of w)) (f (going w))

-- the same behind a part that was read
pub record SameTail (f : State → State) (T : Tail) : Type 0 where
  pub complete : (w : Work) (x y : Part) (p q : Spot) → T x p y q → f (going (gives a_part w x p)) ≡ going (gives a_part w y q)
  pub sound : (w : Work) (x : Part) (p : Spot) → Read (gives a_part w) (T x p) (f (going (gives a_part w x p)))

-- the test of a rule is a test of the tokens alone
pub record Asks (test : Test) (of : List Token → Bool) : Type 0 where
  pub asks : (ts : List Token) (cover : Cover) → passes_on test ts cover ≡ of ts

-- ---- one rule after another

module _ (at : Form → State → State) (still : (form : Form) → Still (at form)) where
  -- the first was read, and then the second
  pub then_goes : (first second : Rule) (s : State) (w w' : Work) → run at first s ≡ going w → run at second (going w) ≡ going w' → run at (first ▸ second) s ≡ going w'
  then_goes first second s w w' e g = ap (λ (t : State). run at second t) e ∙ g

  -- where the first stands, so does the second
  pub then_read : {A B : Type 0} {done : A → Spot → Work} {R : A → Spot → Type 0} {end : B → Spot → Work} {S : B → Spot → Type 0} (first second : Rule) (s : State) →
      Read done R (run at first s) → ((x : A) (q : Spot) → R x q → Read end S (run at second (going (done x q)))) → Read end S (run at (first ▸ second) s)
  then_read {A} {B} {done} {R} {end} {S} first second s h k = of (run at first s) h
    where
      of : (t : State) → Read done R t → Read end S (run at second t)
      of t (read {x = x} {q = q} r) = k x q r
      of t (stands {why = why} {ts = ts}) = subst (λ (u : State). Read end S u) (sym ((run_still at still second).stays why ts)) stands

  -- what was read is part of something larger
  pub as_read : {A B : Type 0} {done : A → Spot → Work} {R : A → Spot → Type 0} {end : B → Spot → Work} {S : B → Spot → Type 0} (s : State) →
      Read done R s → ((x : A) (q : Spot) → R x q → Read end S (going (done x q))) → Read end S s
  as_read s h k = then_read nothing_more nothing_more s h k

  pub either_first : (test : Test) (first second : Rule) (w : Work) → passes_on test w.rest w.top.cover ≡ true → run at (either test first second) (going w) ≡ run at first (going w)
  unfolding passes
  either_first test first second w h = rw h refl

  pub either_second : (test : Test) (first second : Rule) (w : Work) → passes_on test w.rest w.top.cover ≡ false → run at (either test first second) (going w) ≡ run at second (going w)
  unfolding passes
  either_second test first second w h = rw h refl

  pub either_read : {B : Type 0} {end : B → Spot → Work} {S : B → Spot → Type 0} (test : Test) (first second : Rule) (w : Work) →
      (passes_on test w.rest w.top.cover ≡ true → Read end S (run at first (going w))) → (passes_on test w.rest w.top.cover ≡ false → Read end S (run at second (going w))) →
      Read end S (run at (either test first second) (going w))
  either_read {B} {end} {S} test first second w f g = elim (cases_Bool (passes_on test w.rest w.top.cover)) [
    | inl h ↦ subst (λ (u : State). Read end S u) (sym (either_first test first second w h)) (f h)
    | inr h ↦ subst (λ (u : State). Read end S u) (sym (either_second test first second w h)) (g h)
  ]

  -- reading stands at a token that is refused
  pub refuse_read : {B : Type 0} {end : B → Spot → Work} {S : B → Spot → Type 0} (w : Work) → Read end S (run at refuse (going w))
  unfolding refused
  refuse_read w = stands

  -- ---- tokens

  takes_there : {of : List Token → Bool} {p q : Spot} → Takes of p q → (t : Token) × (ts : List Token) × (p.rest ≡ t ∷ ts) × (of p.rest ≡ true) × (q ≡ spot ts p.made)
  takes_there (spots.takes {t = t} {ts = ts} h) = (t, ts, refl, h, refl)

  taken_there : (w : Work) (t : Token) (ts : List Token) → w.rest ≡ t ∷ ts → taken w.rest w ≡ going (record w { rest = ts })
  taken_there w t ts e = rw e refl

  pub take_goes : (test : Test) (of : List Token → Bool) → Asks test of → (w : Work) (q : Spot) → Takes of (spot_of w) q → run at (take test) (going w) ≡ going (moved w q)
  unfolding take_one
  take_goes test of a w q h =
      let (t, ts, e, o, d) = takes_there h in
      rw (a.asks w.rest w.top.cover ∙ o) (taken_there w t ts e) ∙ ap (λ (r : Spot). going (moved w r)) (sym d)

  pub take_read : (test : Test) (of : List Token → Bool) → Asks test of → (w : Work) → Read (λ (u : Unit {0}) q. moved w q) (λ u q. Takes of (spot_of w) q) (run at (take test) (going w))
  unfolding take_one
  take_read test of a w = decide (passes_on test w.rest w.top.cover) w.rest refl (sym (a.asks w.rest w.top.cover))
    where
      there : (ts : List Token) → w.rest ≡ ts → of w.rest ≡ true → Read (λ (u : Unit {0}) q. moved w q) (λ u q. Takes of (spot_of w) q) (taken ts w)
      there [] e h = stands
      there (t ∷ ts) e h = read {x = tt} {q = spot ts w.made} (subst (λ (us : List Token). Takes of (spot us w.made) (spot ts w.made)) (sym e) (spots.takes (subst (λ (us : List Token). of us ≡ true) e h)))

      decide : (b : Bool) (ts : List Token) → w.rest ≡ ts → of w.rest ≡ b → Read (λ (u : Unit {0}) q. moved w q) (λ u q. Takes of (spot_of w) q) (if b then taken w.rest w else stuck Unexpected w.rest)
      decide true ts e h = there w.rest refl h
      decide false ts e h = stands
