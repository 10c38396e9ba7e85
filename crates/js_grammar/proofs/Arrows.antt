-- The rules of what stands behind a `(`, and of arrow functions, read what their cases read.
use Rattle.std.proofs.Common.{◌≡◌, ℕ, Bool, true, false, ◌&&◌, List, [], ◌∷◌, ◌++◌, Option, None, Some, inl, inr, refl, sym, ap, ◌∙◌, subst}
use Rattle.std.proofs.lemmas.Bool.{cases_Bool}
use Rattle.js_syntax.specs.declared.kind.Kind.TheVariants as kinds
use Rattle.parser_rules.specs.declared.class.Class.TheVariants as classes
use Rattle.parser_rules.specs.declared.form.Form.{Form}
use Rattle.parser_rules.specs.declared.form.Form.TheVariants as forms
use Rattle.parser_rules.specs.declared.form.Cover.TheVariants as covers
use Rattle.parser_rules.specs.Work.{Part, Work, State, going, opened, closed, paired, offered_as, bare_name}
use Rattle.parser_rules.specs.Rules.{Rule, run, take, act, inside, ◌▸◌, either, many, sees_on_line, may_be_parameters, is_names, after, close, pair, offer, parameters_only}
use Rattle.parser_rules.specs.Expressions.{token}
use Rattle.parser_rules.specs.Expressions as rules
use Rattle.parser_rules.proofs.Laws.{Inside, Still}
use Rattle.js_grammar.specs.Spots.{Spot, Reading, Named, Takes, is, on_line, node, node_from, one_more, with_names}
use Rattle.js_grammar.specs.Expressions.{Body, body, ConciseBody, braces, concise}
use Rattle.js_grammar.proofs.Same.{spot_of, moved, Effect, gives, a_part, Read, read, Same, then_read, as_read, either_first, either_second, either_read, take_goes, take_read}
use Rattle.js_grammar.proofs.Cycles.{Cycle, SameTurn, cycle_same}
use Rattle.js_grammar.proofs.Nodes.{names_of, places_of}
use Rattle.js_grammar.proofs.Tests.{asks_sees, asks_on_line}
use Rattle.js_grammar.proofs.Steps.{token_goes, token_read, saw}
use Rattle.js_grammar.proofs.Lists.{body_same}
use Rattle.js_grammar.proofs.Covers.{Held, offer_of, joined, first_held, parameters_alone, names_held, Further, item_behind, closing_comma, Inner, no_items, some_items}

-- what the form has that was opened at the `(`
abbrev pub held : Effect Held
held f h = record f { cover = h.cover; names = names_of h.names; places = places_of h.names; parts = h.part ∷ [] }

abbrev pub held_if_any : Effect (Option Held)
held_if_any f None = record f { cover = covers.Parameters }
held_if_any f (Some h) = held f h

names_behind : (ns : List Named) (n : Named) → names_of (ns ++ n ∷ []) ≡ names_of ns ++ n.0 ∷ []
names_behind [] n = refl
names_behind (m ∷ ns) n = ap (λ (ms : List (List ℕ)). m.0 ∷ ms) (names_behind ns n)

places_behind : (ns : List Named) (n : Named) → places_of (ns ++ n ∷ []) ≡ places_of ns ++ n.1 ∷ []
places_behind [] n = refl
places_behind (m ∷ ns) n = ap (λ (ms : List ℕ). m.1 ∷ ms) (places_behind ns n)

-- a further part is offered, and joined with what was there
joined_there : (w : Work) (h : Held) (y : Part) (q : Spot) (o : Option Named) →
    paired kinds.Comma (offered_as o (gives a_part (gives held w h q) y q)) ≡ gives held w (offer_of o h (node_from kinds.Comma h.part (h.part ∷ y ∷ []) q)) (one_more q)
joined_there w h y q None = refl
joined_there w h y q (Some n) = rw (names_behind h.names n, places_behind h.names n) refl

-- the first part is offered
first_there : (w : Work) (x : Part) (q : Spot) (o : Option Named) →
    offered_as o (gives a_part (opened kinds.Arrow w) x q) ≡ gives held (opened kinds.Arrow w) (offer_of o (record { cover = covers.Names; names = []; part = x }) x) q
first_there w x q None = refl
first_there w x q (Some n) = refl

both : (b c : Bool) → b ≡ true → b && c ≡ false → c ≡ false
both true c e h = h
both false c e h = absurd (let none : ⊥ = cc in none)

module _ (at : Form → State → State) (eats : Inside at) (still : (form : Form) → Still (at form)) (R : Form → Reading Part) (within : (form : Form) → Same a_part (at form) (R form)) where
  -- ---- further parts

  offered_goes : (w : Work) (h : Held) (p : Spot) (y : Part) (q : Spot) → R forms.Expression p y q → run at rules.offered_item (going (gives held w h p)) ≡ going (gives held w (joined h y q) (one_more q))
  unfolding rules.offered_item after
  offered_goes w h p y q r = rw ((within forms.Expression).complete (gives held w h p) y q r) (ap going (joined_there w h y q (bare_name y)))

  module _ (w : Work) where
    further_goes : (h k : Held) (p q : Spot) → Further R h p k q → run at rules.further_item (going (gives held w h p)) ≡ going (gives held w k q)
    unfolding rules.further_item rules.further_name after
    further_goes h _ p _ (item_behind {y = y} {a = a} {b = b} t g r) =
        ap (λ (s : State). run at (either may_be_parameters rules.further_name rules.offered_item) s) (token_goes at still classes.Comma (gives held w h p) a t)
        ∙ elim (cases_Bool (is_names h.cover)) [
          | inl e ↦
              either_first at still may_be_parameters rules.further_name rules.offered_item (gives held w h a) e
              ∙ either_second at still (rules.at classes.ParenClose) (act parameters_only) rules.offered_item (gives held w h a) (both (is_names h.cover) (is classes.ParenClose a.rest) e g)
              ∙ offered_goes w h a y b r
          | inr e ↦ either_second at still may_be_parameters rules.further_name rules.offered_item (gives held w h a) e ∙ offered_goes w h a y b r
        ]
    further_goes h _ p q (closing_comma t n u) =
        ap (λ (s : State). run at (either may_be_parameters rules.further_name rules.offered_item) s) (token_goes at still classes.Comma (gives held w h p) q t)
        ∙ either_first at still may_be_parameters rules.further_name rules.offered_item (gives held w h q) n
        ∙ either_first at still (rules.at classes.ParenClose) (act parameters_only) rules.offered_item (gives held w h q) u

    offered_is : (h : Held) (p a : Spot) → Takes (is classes.Comma) p a → is_names h.cover && is classes.ParenClose a.rest ≡ false →
        Read (gives held w) (Further R h p) (run at rules.offered_item (going (gives held w h a)))
    unfolding rules.offered_item after
    offered_is h p a t g = then_read at still (inside forms.Expression) (act offer ▸ act (pair kinds.Comma)) (going (gives held w h a)) ((within forms.Expression).sound (gives held w h a)) (λ y b r.
        subst (λ (v : Work). Read (gives held w) (Further R h p) (going v)) (sym (joined_there w h y b (bare_name y))) (read {x = joined h y b} {q = one_more b} (item_behind t g r)))

    further_is : (h : Held) (p : Spot) → Read (gives held w) (Further R h p) (run at rules.further_item (going (gives held w h p)))
    unfolding rules.further_item rules.further_name after
    further_is h p =
        then_read at still (token classes.Comma) (either may_be_parameters rules.further_name rules.offered_item) (going (gives held w h p)) (token_read at still classes.Comma (gives held w h p)) (λ _ a t.
        either_read at still may_be_parameters rules.further_name rules.offered_item (gives held w h a)
        (λ n. either_read at still (rules.at classes.ParenClose) (act parameters_only) rules.offered_item (gives held w h a)
        (λ u. read {x = parameters_alone h} {q = a} (closing_comma t n u))
        (λ u. offered_is h p a t (rw n u)))
        (λ n. offered_is h p a t (rw n refl)))

    all_same : SameTurn held w (run at (many (rules.at classes.Comma) rules.further_item)) (Cycle (is classes.Comma) (Further R))
    unfolding rules.further_item rules.further_name rules.offered_item
    all_same = cycle_same at eats still (rules.at classes.Comma) (is classes.Comma) (asks_sees (classes.Comma ∷ [])) rules.further_item refl held w (Further R) (record { complete = further_goes; sound = further_is })

  -- ---- all that stands behind the `(`

  pub inner_goes : (w : Work) (o : Option Held) (p q : Spot) → Inner R p o q → run at rules.items (going (moved (opened kinds.Arrow w) p)) ≡ going (gives held_if_any (opened kinds.Arrow w) o q)
  unfolding rules.items rules.some_items after
  inner_goes w _ p _ (no_items s) = either_first at still (rules.at classes.ParenClose) (act parameters_only) rules.some_items (moved (opened kinds.Arrow w) p) s
  inner_goes w _ p q (some_items {x = x} {h = h} {a = a} s r m) =
      let v = opened kinds.Arrow w in
      either_second at still (rules.at classes.ParenClose) (act parameters_only) rules.some_items (moved v p) s
      ∙ rw ((within forms.Expression).complete (moved v p) x a r) (ap (λ (u : Work). run at (many (rules.at classes.Comma) rules.further_item) (going u)) (first_there w x a (bare_name x)))
      ∙ (all_same v).complete (first_held x) h a q m

  pub inner_is : (w : Work) (p : Spot) → Read (gives held_if_any (opened kinds.Arrow w)) (Inner R p) (run at rules.items (going (moved (opened kinds.Arrow w) p)))
  unfolding rules.items rules.some_items after
  inner_is w p =
      let v = opened kinds.Arrow w in
      either_read at still (rules.at classes.ParenClose) (act parameters_only) rules.some_items (moved v p)
      (λ s. read {x = None} {q = p} (no_items s))
      (λ s. then_read at still (inside forms.Expression) (act offer ▸ many (rules.at classes.Comma) rules.further_item) (going (moved v p)) ((within forms.Expression).sound (moved v p)) (λ x a r.
      subst (λ (u : Work). Read (gives held_if_any v) (Inner R p) (run at (many (rules.at classes.Comma) rules.further_item) (going u))) (sym (first_there w x a (bare_name x)))
      (as_read at still _ ((all_same v).sound (first_held x) a) (λ h q m. read {x = Some h} {q = q} (some_items s r m)))))

  -- ---- arrow functions

  concise_goes : (w : Work) (x : Part) (q : Spot) → ConciseBody R (spot_of w) x q → run at rules.concise_body (going w) ≡ going (gives a_part w x q)
  unfolding rules.concise_body
  concise_goes w x q (braces b) = either_first at still (rules.at classes.BraceOpen) rules.body (inside forms.Expression) w (begins b) ∙ (body_same at eats still R within).complete w x q b
    where
      begins : {p q : Spot} {x : Part} → Body R p x q → is classes.BraceOpen p.rest ≡ true
      begins (body t m u) = saw t
  concise_goes w x q (concise h r) = either_second at still (rules.at classes.BraceOpen) rules.body (inside forms.Expression) w h ∙ (within forms.Expression).complete w x q r

  concise_is : (w : Work) → Read (gives a_part w) (ConciseBody R (spot_of w)) (run at rules.concise_body (going w))
  unfolding rules.concise_body
  concise_is w = either_read at still (rules.at classes.BraceOpen) rules.body (inside forms.Expression) w
      (λ _. as_read at still _ ((body_same at eats still R within).sound w) (λ x q b. read {x = x} {q = q} (braces b)))
      (λ h. as_read at still _ ((within forms.Expression).sound w) (λ x q r. read {x = x} {q = q} (concise h r)))

  abbrev to_arrow : Rule
  to_arrow = take (sees_on_line (classes.Arrow ∷ []))

  abbrev pub arrow_node : Work → Option Held → Part → Spot → Part
  arrow_node w o x q = with_names (names_held o) (node kinds.Arrow (spot_of w) (x ∷ []) q)

  -- the names that were read are the parameters, and no parts
  abbrev cleared_form : Work → Option Held → Spot → Work
  cleared_form w o p = record (opened kinds.Arrow w) { rest = p.rest; made = p.made; top = record (held_if_any (opened kinds.Arrow w).top o) { parts = [] } }

  closes_arrow : (w : Work) (o : Option Held) (p : Spot) (x : Part) (q : Spot) → going (closed (gives a_part (cleared_form w o p) x q)) ≡ going (gives a_part w (arrow_node w o x q) (one_more q))
  closes_arrow w None p x q = refl
  closes_arrow w (Some h) p x q = refl

  pub arrow_goes : (w : Work) (o : Option Held) (p a : Spot) (x : Part) (q : Spot) → Takes (on_line (classes.Arrow ∷ [])) p a → ConciseBody R a x q →
      run at rules.arrow (going (gives held_if_any (opened kinds.Arrow w) o p)) ≡ going (gives a_part w (arrow_node w o x q) (one_more q))
  unfolding rules.arrow after
  arrow_goes w o p a x q t c =
      let v = cleared_form w o p in
      rw (take_goes at still (sees_on_line (classes.Arrow ∷ [])) (on_line (classes.Arrow ∷ [])) (asks_on_line (classes.Arrow ∷ [])) v a t, concise_goes (moved v a) x q c) (closes_arrow w o p x q)

  -- whatever an arrow function behind this is part of
  pub arrow_is : {S : Part → Spot → Type 0} (w : Work) (o : Option Held) (p : Spot) →
      ((a : Spot) (x : Part) (q : Spot) → Takes (on_line (classes.Arrow ∷ [])) p a → ConciseBody R a x q → S (arrow_node w o x q) (one_more q)) →
      Read (gives a_part w) S (run at rules.arrow (going (gives held_if_any (opened kinds.Arrow w) o p)))
  unfolding rules.arrow after
  arrow_is {S} w o p f =
      let v = cleared_form w o p in
      then_read at still to_arrow (rules.concise_body ▸ act close) (going v) (take_read at still (sees_on_line (classes.Arrow ∷ [])) (on_line (classes.Arrow ∷ [])) (asks_on_line (classes.Arrow ∷ [])) v) (λ _ a t.
      then_read at still rules.concise_body (act close) (going (moved v a)) (concise_is (moved v a)) (λ x q c.
      subst (λ (s : State). Read (gives a_part w) S s) (sym (closes_arrow w o p x q)) (read {x = arrow_node w o x q} {q = one_more q} (f a x q t c))))
