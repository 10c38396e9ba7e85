-- Each rule of the table is firm.
use Rattle.std.proofs.Common.{◌≡◌, ℕ, zero, suc, ◌≤◌, Bool, true, false, ◌&&◌, ◌||◌, not, if◌then◌else◌, List, [], ◌∷◌, ◌++◌, length, Some, inl, inr, refl, sym, ap, ◌∙◌, subst, arith}
use Rattle.std.specs.Prelude.{◌⊎◌}
use Rattle.std.proofs.lemmas.Bool.{cases_Bool}
use Rattle.js_lexer.specs.declared.token.Token.{Token}
use Rattle.parser_rules.specs.declared.class.Class.{Class}
use Rattle.parser_rules.specs.declared.class.Class.TheVariants as classes
use Rattle.parser_rules.specs.declared.form.Form.{Form}
use Rattle.parser_rules.specs.declared.form.Form.TheVariants.{Expression}
use Rattle.parser_rules.specs.declared.form.Why.{Why}
use Rattle.parser_rules.specs.declared.form.Why.TheVariants.{Unexpected}
use Rattle.parser_rules.specs.Classes.{class_of, is_one_of}
use Rattle.parser_rules.specs.Work.{Work, State, going, stuck}
use Rattle.parser_rules.specs.Rules.{Test, Rule, nothing_more, take, act, inside, ◌▸◌, either, many, refuse, sees, sees_other, sees_on_line, sees_word, sees_key, sees_nonzero, sees_passing, after_line, may_end, may_be_parameters, must_be_parameters, passes, left, run}
use Rattle.parser_rules.specs.Grammar.{beyond, refused_at_limit, begins}
use Rattle.parser_rules.proofs.Laws.{takes, Eats, run_still, run_eats}
use Rattle.first_bad.proofs.Begins.{both, either_of, shuts, Shuts, run_shuts}
use Rattle.first_bad.proofs.Front.{rest_of, swap, run_front, no_front, same_front}
use Rattle.first_bad.proofs.Views.{put, test_same}
use Rattle.first_bad.proofs.Turns.{looped, Below, loop, loop_ends, loop_front, loop_goes, turn_front, turn_less}
use Rattle.first_bad.proofs.Words.{is_new, class_fixed, class_of_new, new_or_not, not_true, alike, lost, won, two_classes, Opening, new_opens}
use Rattle.first_bad.proofs.Far.{is_behind_some, unit, far, Far, FarFrom, run_far, by_class, unit_heads, is_behind}
use Rattle.first_bad.proofs.Walk.{Spot, sees_class, walk, at_word, by_way, bind_of, none_some}
use Rattle.first_bad.proofs.Firm.{goes, Stops, FirmAt, Firm, PutFirm, firm_from, blind, blind_passes, longer, take_firm, act_firm, refuse_firm, nothing_firm, then_firm}

-- what the laws of this file ask of what stands further inside
pub record Firmly (at : Form → State → State) : Type 0 where
  pub below : Below at
  pub shut : (form : Form) → Shuts (begins form) (at form)
  pub far : Far (at Expression)
  pub firm : (form : Form) → Firm (at form)

-- the words that stand for a value by themselves
abbrev pub plain : List Class
plain = classes.This ∷ classes.Undefined ∷ classes.Null ∷ classes.True ∷ classes.False ∷ []

-- the test tells `new` from foreign words, and both ways take the whole head of a construction, or nothing of it
abbrev pub apart : Test → Rule → Rule → Bool
apart test first second = (by_class test && (sees_class test classes.New && not (sees_class test classes.Foreign))) && ((takes first && takes second) && (far first && shuts plain second))

abbrev pub firm : Rule → Bool
firm nothing_more = true
firm (take test) = blind test
firm (act action) = true
firm (inside form) = true
firm (first ▸ second) = (firm first && firm second) || unit (first ▸ second)
firm (either test first second) = (blind test || apart test first second) && (firm first && firm second)
firm (many test rule) = blind test && (takes rule && firm rule)
firm refuse = true

-- ---- the head of a construction

module _ (at : Form → State → State) (f : Firmly at) where
  pub unit_shuts : (r : Rule) → unit r ≡ true → Shuts (classes.New ∷ []) (run at r)
  unit_shuts r h = let (_, q) = both (is_behind (walk r at_word)) (shuts (classes.New ∷ []) r) h in run_shuts (classes.New ∷ []) at f.below.still f.shut r q

  unit_firm : (r : Rule) → unit r ≡ true → Firm (run at r)
  unit_firm r h = firm_from (run at r) (run_still at f.below.still r) of
    where
      refused_at : (w : Work) (ts : List Token) → is_one_of (class_of ts) (classes.New ∷ []) ≡ false → run at r (going (put ts w)) ≡ stuck Unexpected ts
      refused_at w ts n = (unit_shuts r h).refuses (put ts w) n

      headed : (w : Work) (t : Token) (v v' p : List Token) (o : Opening (p ++ t ∷ v)) → rest_of (run at r (going (put (p ++ t ∷ v) w))) ≡ t ∷ v → run at r (going (put (p ++ t ∷ v') w)) ≡ swap (t ∷ v') (run at r (going (put (p ++ t ∷ v) w)))
      headed w t v v' p o stop =
          let k = unit_heads at r h (put (p ++ t ∷ v) w) o in
          let here : run at r (going (put (p ++ t ∷ v) w)) ≡ going (put o.rest k.work) = ap (λ (ts : List Token). run at r (going (put ts w))) o.is ∙ k.always o.rest in
          let rest : o.rest ≡ t ∷ v = sym (ap (λ (s : State). rest_of s) here) ∙ stop in
          let front : p ≡ o.word ∷ o.name ∷ o.paren ∷ [] = same_front p (o.word ∷ o.name ∷ o.paren ∷ []) (t ∷ v) (o.is ∙ ap (λ (u : List Token). o.word ∷ o.name ∷ o.paren ∷ u) rest) in
          ap (λ (u : List Token). run at r (going (put (u ++ t ∷ v') w))) front
          ∙ k.always (t ∷ v')
          ∙ ap (λ (s : State). swap (t ∷ v') s) (sym here)

      at_once : (w : Work) (t : Token) (v v' : List Token) → Stops (run at r (going (put (t ∷ v) w))) t v v' → run at r (going (put (t ∷ v) w)) ≡ stuck Unexpected (t ∷ v) → is_one_of (class_of (t ∷ v)) (classes.New ∷ []) ≡ false → run at r (going (put (t ∷ v') w)) ≡ swap (t ∷ v') (run at r (going (put (t ∷ v) w)))
      at_once w t v v' (inl g) e n = absurd (let never : false ≡ true = sym (ap (λ (s : State). goes s) e) ∙ g in cc)
      at_once w t v v' (inr c) e n = refused_at w (t ∷ v') (sym (ap (λ (d : Class). is_one_of d (classes.New ∷ [])) c) ∙ n) ∙ ap (λ (s : State). swap (t ∷ v') s) (sym e)

      of : PutFirm (run at r)
      of w [] t v v' stop c = elim (new_or_not (t ∷ v)) [
        | inl n ↦ headed w t v v' [] (new_opens (t ∷ v) n) stop
        | inr n ↦ at_once w t v v' c (refused_at w (t ∷ v) n) n
      ]
      of w (q ∷ p) t v v' stop c = elim (new_or_not (q ∷ (p ++ t ∷ v))) [
        | inl n ↦ headed w t v v' (q ∷ p) (new_opens (q ∷ (p ++ t ∷ v)) n) stop
        | inr n ↦ absurd (longer q p (t ∷ v) (sym (ap (λ (s : State). rest_of s) (refused_at w (q ∷ (p ++ t ∷ v)) n)) ∙ stop))
      ]

-- ---- two ways

left_goes : (s : State) → goes s ≡ true → left s ≡ suc (length (rest_of s))
left_goes (going w) h = refl
left_goes (stuck why ts) h = absurd (let none : ⊥ = cc in none)

pub eats_no_stand : (g : State → State) → Eats g → (w : Work) → goes (g (going w)) ≡ true → rest_of (g (going w)) ≡ w.rest → ⊥
eats_no_stand g e w h k = omega (arith, e.less (going w) (omega arith), left_goes (g (going w)) h, ap (λ (ts : List Token). length ts) k)

class_test : (test : Test) (ts : List Token) (w : Work) (c : Class) → by_class test ≡ true → class_of ts ≡ c → passes test (going (put ts w)) ≡ sees_class test c
unfolding passes
class_test (sees cs) ts w c h e = rw e refl
class_test (sees_other cs) ts w c h e = absurd (let none : ⊥ = cc in none)
class_test (sees_on_line cs) ts w c h e = absurd (let none : ⊥ = cc in none)
class_test sees_word ts w c h e = absurd (let none : ⊥ = cc in none)
class_test sees_key ts w c h e = absurd (let none : ⊥ = cc in none)
class_test sees_nonzero ts w c h e = absurd (let none : ⊥ = cc in none)
class_test sees_passing ts w c h e = absurd (let none : ⊥ = cc in none)
class_test after_line ts w c h e = absurd (let none : ⊥ = cc in none)
class_test may_end ts w c h e = absurd (let none : ⊥ = cc in none)
class_test may_be_parameters ts w c h e = absurd (let none : ⊥ = cc in none)
class_test must_be_parameters ts w c h e = absurd (let none : ⊥ = cc in none)

-- the class of a token is one where another stands two places behind it
pub class_near : (q b : Token) (p : List Token) (t : Token) (v v' : List Token) → is_new q ≡ true → class_of (q ∷ ((b ∷ p) ++ t ∷ v)) ≡ class_of (q ∷ ((b ∷ p) ++ t ∷ v'))
class_near q b [] t v v' n = class_of_new q (b ∷ t ∷ v) n ∙ sym (class_of_new q (b ∷ t ∷ v') n)
class_near q b (d ∷ p) t v v' n = class_of_new q (b ∷ d ∷ (p ++ t ∷ v)) n ∙ sym (class_of_new q (b ∷ d ∷ (p ++ t ∷ v')) n)

-- not one token alone was taken
no_single : (s : State) (q t : Token) (v : List Token) → FarFrom s (q ∷ t ∷ v) → rest_of s ≡ t ∷ v → ⊥
no_single s q t v (inl (why, e)) k = longer q [] (t ∷ v) (sym (ap (λ (m : State). rest_of m) e) ∙ k)
no_single s q t v (inr h) k = omega (arith, h, ap (λ (ts : List Token). length ts) k)

module _ (at : Form → State → State) (f : Firmly at) (test : Test) (first second : Rule) (l : Firm (run at first)) (m : Firm (run at second)) where
  abbrev chosen : State → State
  chosen s = if passes test s then run at first s else run at second s

  way : Bool → List Token → Work → State
  way b ts w = if b then run at first (going (put ts w)) else run at second (going (put ts w))

  -- where the test says the same
  by_same : (w : Work) (p : List Token) (t : Token) (v v' : List Token) → passes test (going (put (p ++ t ∷ v') w)) ≡ passes test (going (put (p ++ t ∷ v) w)) → rest_of (chosen (going (put (p ++ t ∷ v) w))) ≡ t ∷ v → Stops (chosen (going (put (p ++ t ∷ v) w))) t v v' → chosen (going (put (p ++ t ∷ v') w)) ≡ swap (t ∷ v') (chosen (going (put (p ++ t ∷ v) w)))
  unfolding way
  by_same w p t v v' e stop c = elim (cases_Bool (passes test (going (put (p ++ t ∷ v) w)))) [
    | inl h ↦ rw (h, e ∙ h) (l.alike (going (put (p ++ t ∷ v) w)) p t v v' refl (subst (λ (b : Bool). rest_of (way b (p ++ t ∷ v) w) ≡ t ∷ v) h stop) (subst (λ (b : Bool). Stops (way b (p ++ t ∷ v) w) t v v') h c))
    | inr h ↦ rw (h, e ∙ h) (m.alike (going (put (p ++ t ∷ v) w)) p t v v' refl (subst (λ (b : Bool). rest_of (way b (p ++ t ∷ v) w) ≡ t ∷ v) h stop) (subst (λ (b : Bool). Stops (way b (p ++ t ∷ v) w) t v v') h c))
  ]

  same_class : (w : Work) (p : List Token) (t : Token) (v v' : List Token) → class_of (p ++ t ∷ v) ≡ class_of (p ++ t ∷ v') → passes test (going (put (p ++ t ∷ v') w)) ≡ passes test (going (put (p ++ t ∷ v) w))
  unfolding passes
  same_class w [] t v v' e = sym (test_same test t v v' w.top.cover e)
  same_class w (q ∷ p) t v v' e = sym (test_same test q (p ++ t ∷ v) (p ++ t ∷ v') w.top.cover e)

  blind_firm : blind test ≡ true → PutFirm chosen
  blind_firm h w p t v v' stop c = by_same w p t v v' (blind_passes test (going (put (p ++ t ∷ v) w)) p t v v' h refl) stop c

  module _ (h : by_class test ≡ true) (hn : sees_class test classes.New ≡ true) (hf : sees_class test classes.Foreign ≡ false) (tf : takes first ≡ true) (ts : takes second ≡ true) (ff : far first ≡ true) (sp : shuts plain second ≡ true) where
    -- reading does not go on in front of the token
    no_stand : (w : Work) → goes (chosen (going w)) ≡ true → rest_of (chosen (going w)) ≡ w.rest → ⊥
    no_stand w g k = by_way (passes test (going w)) g k
      where
        by_way : (b : Bool) → goes (if b then run at first (going w) else run at second (going w)) ≡ true → rest_of (if b then run at first (going w) else run at second (going w)) ≡ w.rest → ⊥
        by_way true g k = eats_no_stand (run at first) (run_eats at f.below.inside first tf) w g k
        by_way false g k = eats_no_stand (run at second) (run_eats at f.below.inside second ts) w g k

    pub new_far : (w : Work) (ts : List Token) → class_of ts ≡ classes.New → FarFrom (chosen (going (put ts w))) ts
    new_far w ts c = rw (class_test test ts w classes.New h c ∙ hn) ((run_far at f.below.still f.below.front f.far first ff).goes (put ts w) c)

    pub foreign_shut : (w : Work) (ts : List Token) → class_of ts ≡ classes.Foreign → chosen (going (put ts w)) ≡ stuck Unexpected ts
    foreign_shut w ts c = rw (class_test test ts w classes.Foreign h c ∙ hf) ((run_shuts plain at f.below.still f.shut second sp).refuses (put ts w) (ap (λ (d : Class). is_one_of d plain) c))

    apart_firm : PutFirm chosen
    apart_firm w [] t v v' stop (inl g) = absurd (no_stand (put (t ∷ v) w) g stop)
    apart_firm w [] t v v' stop (inr c) = by_same w [] t v v' (same_class w [] t v v' c) stop (inr c)
    apart_firm w (q ∷ []) t v v' stop c = elim (cases_Bool (is_new q)) [
      | inr n ↦ by_same w (q ∷ []) t v v' (same_class w (q ∷ []) t v v' (class_fixed q (t ∷ v) (t ∷ v') n)) stop c
      | inl n ↦ elim (two_classes q (t ∷ v) (t ∷ v') n) [
        | alike e ↦ by_same w (q ∷ []) t v v' (same_class w (q ∷ []) t v v' e) stop c
        | lost e e' ↦ absurd (no_single (chosen (going (put (q ∷ t ∷ v) w))) q t v (new_far w (q ∷ t ∷ v) e) stop)
        | won e e' ↦ absurd (longer q [] (t ∷ v) (sym (ap (λ (x : State). rest_of x) (foreign_shut w (q ∷ t ∷ v) e)) ∙ stop))
      ]
    ]
    apart_firm w (q ∷ b ∷ p) t v v' stop c = by_same w (q ∷ b ∷ p) t v v' (same_class w (q ∷ b ∷ p) t v v' (settled_class (cases_Bool (is_new q)))) stop c
      where
        settled_class : (is_new q ≡ true) ⊎ (is_new q ≡ false) → class_of (q ∷ ((b ∷ p) ++ t ∷ v)) ≡ class_of (q ∷ ((b ∷ p) ++ t ∷ v'))
        settled_class (inl n) = class_near q b p t v v' n
        settled_class (inr n) = class_fixed q ((b ∷ p) ++ t ∷ v) ((b ∷ p) ++ t ∷ v') n

either_firm : (at : Form → State → State) (f : Firmly at) (test : Test) (first second : Rule) → Firm (run at first) → Firm (run at second) → (blind test || apart test first second) ≡ true → Firm (run at (either test first second))
unfolding passes
either_firm at f test first second l m h = firm_from (run at (either test first second)) (run_still at f.below.still (either test first second)) (λ w p t v v' stop c. by_kind h w p t v v' stop c)
  where
    by_kind : (blind test || apart test first second) ≡ true → PutFirm (run at (either test first second))
    by_kind h = elim (either_of (blind test) (apart test first second) h) [
      | inl b ↦ blind_firm at f test first second l m b
      | inr b ↦
          let (x, y) = both (by_class test && (sees_class test classes.New && not (sees_class test classes.Foreign))) ((takes first && takes second) && (far first && shuts plain second)) b in
          let (h1, x') = both (by_class test) (sees_class test classes.New && not (sees_class test classes.Foreign)) x in
          let (h2, h3) = both (sees_class test classes.New) (not (sees_class test classes.Foreign)) x' in
          let (y', y'') = both (takes first && takes second) (far first && shuts plain second) y in
          let (t1, t2) = both (takes first) (takes second) y' in
          let (f1, f2) = both (far first) (shuts plain second) y'' in
          apart_firm at f test first second l m h1 h2 (not_true (sees_class test classes.Foreign) h3) t1 t2 f1 f2
    ]

-- ---- loops

module _ (at : Form → State → State) (f : Firmly at) (test : Test) (rule : Rule) (e : takes rule ≡ true) (h : blind test ≡ true) (l : Firm (run at rule)) where
  turn_firm : (s : State) → passes test s ≡ true → FirmAt (loop at f.below test rule e) (run at rule s) → FirmAt (loop at f.below test rule e) s
  turn_firm s k ll p t v v' eq stop c =
      let go : loop at f.below test rule e s ≡ loop at f.below test rule e (run at rule s) = loop_goes at f.below test rule e s k in
      loop_goes at f.below test rule e (swap (p ++ t ∷ v') s) (blind_passes test s p t v v' h eq ∙ k)
      ∙ then_firm (run at rule) (loop at f.below test rule e) (run_still at f.below.still (many test rule)) (turn_front at f.below test rule e) (loop_front at f.below test rule e) s (l.alike s) ll p t v v' eq (sym (ap (λ (m : State). rest_of m) go) ∙ stop) (subst (λ (m : State). Stops m t v v') go c)
      ∙ ap (λ (m : State). swap (t ∷ v') m) (sym go)

  stand_firm : (s : State) → passes test s ≡ false → FirmAt (loop at f.below test rule e) s
  stand_firm s k p t v v' eq stop c =
      let ends : loop at f.below test rule e s ≡ s = loop_ends at f.below test rule e s k in
      let here : rest_of s ≡ t ∷ v = sym (ap (λ (m : State). rest_of m) ends) ∙ stop in
      let none : p ≡ [] = no_front p (t ∷ v) (sym here ∙ eq) in
      loop_ends at f.below test rule e (swap (p ++ t ∷ v') s) (blind_passes test s p t v v' h eq ∙ k)
      ∙ ap (λ (u : List Token). swap (u ++ t ∷ v') s) none
      ∙ ap (λ (m : State). swap (t ∷ v') m) (sym ends)

  loop_firm : (n : ℕ) (s : State) → left s ≤ n → FirmAt (loop at f.below test rule e) s
  loop_firm zero s bound = elim (cases_Bool (passes test s)) [
    | inr k ↦ stand_firm s k
    | inl k ↦ absurd (omega (arith, turn_less at f.below test rule e s k))
  ]
  loop_firm (suc n) s bound = elim (cases_Bool (passes test s)) [
    | inr k ↦ stand_firm s k
    | inl k ↦ turn_firm s k (loop_firm n (run at rule s) (omega (arith, turn_less at f.below test rule e s k)))
  ]

-- ---- rules

pub run_firm : (at : Form → State → State) (f : Firmly at) (r : Rule) → firm r ≡ true → Firm (run at r)
run_firm at f nothing_more e = nothing_firm
run_firm at f (take test) e = take_firm test e
run_firm at f (act action) e = act_firm action
run_firm at f (inside form) e = f.firm form
run_firm at f (first ▸ second) e = elim (either_of (firm first && firm second) (unit (first ▸ second)) e) [
  | inr u ↦ unit_firm at f (first ▸ second) u
  | inl k ↦
      let (p, q) = both (firm first) (firm second) k in
      record { alike = λ s. then_firm (run at first) (run at second) (run_still at f.below.still second) (run_front at f.below.front first) (run_front at f.below.front second) s ((run_firm at f first p).alike s) ((run_firm at f second q).alike (run at first s)) }
]
run_firm at f (either test first second) e =
    let (h, k) = both (blind test || apart test first second) (firm first && firm second) e in
    let (p, q) = both (firm first) (firm second) k in
    either_firm at f test first second (run_firm at f first p) (run_firm at f second q) h
run_firm at f (many test rule) e =
    let (h, k) = both (blind test) (takes rule && firm rule) e in
    let (p, q) = both (takes rule) (firm rule) k in
    record { alike = λ s. loop_firm at f test rule p h (run_firm at f rule q) (left s) s (omega arith) }
run_firm at f refuse e = refuse_firm

pub beyond_firm : (form : Form) → Firm (beyond form)
beyond_firm form = firm_from (beyond form) (record { stays = λ why ts. refl }) of
  where
    of : PutFirm (beyond form)
    of w p t v v' stop (inl g) = absurd (let none : ⊥ = cc in none)
    of w p t v v' stop (inr c) =
        let none : p ≡ [] = no_front p (t ∷ v) (sym stop) in
        ap (λ (u : List Token). stuck (refused_at_limit form (u ++ t ∷ v')) (u ++ t ∷ v')) none
        ∙ ap (λ (u : Why). stuck u (t ∷ v')) (same_why c)
        ∙ ap (λ (u : List Token). stuck (refused_at_limit form (u ++ t ∷ v)) (t ∷ v')) (sym none)
      where
        same_why : class_of (t ∷ v) ≡ class_of (t ∷ v') → refused_at_limit form (t ∷ v') ≡ refused_at_limit form (t ∷ v)
        same_why c = rw c refl

-- ---- rules that walk have no loops

walk_looped : (r : Rule) (i j : Spot) → walk r i ≡ Some j → looped r ≡ true
walk_looped nothing_more i j e = refl
walk_looped (take test) i j e = refl
walk_looped (act action) i j e = refl
walk_looped (inside form) i j e = refl
walk_looped (first ▸ second) i j e = elim (bind_of (walk first i) (λ k. walk second k) j e) [
  | by_way k p s ↦ rw (walk_looped first i k p) (walk_looped second k j s)
]
walk_looped (either test first second) i j e = absurd (none_some j e)
walk_looped (many test rule) i j e = absurd (none_some j e)
walk_looped refuse i j e = refl

pub firm_looped : (r : Rule) → firm r ≡ true → looped r ≡ true
firm_looped nothing_more h = refl
firm_looped (take test) h = refl
firm_looped (act action) h = refl
firm_looped (inside form) h = refl
firm_looped (first ▸ second) h = elim (either_of (firm first && firm second) (unit (first ▸ second)) h) [
  | inl k ↦ let (p, q) = both (firm first) (firm second) k in rw (firm_looped first p) (firm_looped second q)
  | inr u ↦ let (b, _) = both (is_behind (walk (first ▸ second) at_word)) (shuts (classes.New ∷ []) (first ▸ second)) u in walk_looped (first ▸ second) at_word _ (is_behind_some _ b)
]
firm_looped (either test first second) h =
    let (_, k) = both (blind test || apart test first second) (firm first && firm second) h in
    let (p, q) = both (firm first) (firm second) k in
    rw (firm_looped first p) (firm_looped second q)
firm_looped (many test rule) h =
    let (_, k) = both (blind test) (takes rule && firm rule) h in
    let (p, q) = both (takes rule) (firm rule) k in
    rw p (firm_looped rule q)
firm_looped refuse h = refl
