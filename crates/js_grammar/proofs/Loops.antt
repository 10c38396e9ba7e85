-- Loops of rules read what `Many` and `Chain` read.
use Rattle.std.proofs.Common.{◌≡◌, ℕ, zero, suc, ◌<◌, ◌≤◌, Bool, true, false, List, [], ◌∷◌, inl, inr, refl, sym, ap, ◌∙◌, subst, arith}
use Rattle.std.proofs.lemmas.Bool.{cases_Bool}
use Rattle.js_lexer.specs.declared.token.Token.{Token}
use Rattle.parser_rules.specs.declared.form.Form.{Form}
use Rattle.parser_rules.specs.declared.form.Why.{Why}
use Rattle.parser_rules.specs.Work.{Part, Work, State, going, stuck}
use Rattle.parser_rules.specs.Rules.{Rule, Test, many, passes, left, turns, repeated, run}
use Rattle.parser_rules.proofs.Laws.{Inside, Still, takes, turning, repeated_go, repeated_end}
use Rattle.js_grammar.specs.Spots.{Spot, Reading, Tail, Many, no_more, then_more, Chain, chain_end, chain_step}
use Rattle.js_grammar.proofs.Same.{spot_of, moved, Effect, gives, a_part, each, Read, read, stands, Same, SameTail, Asks}

module _ (at : Form → State → State) (eats : Inside at) (still : (form : Form) → Still (at form)) (test : Test) (goes_on : List Token → Bool) (asks : Asks test goes_on) (rule : Rule) (t : takes rule ≡ true) where
  abbrev loop : State → State
  loop s = repeated (passes test) (run at rule) s

  passes_as : (w : Work) → passes test (going w) ≡ goes_on w.rest
  unfolding passes
  passes_as w = asks.asks w.rest w.top.cover

  go : (w : Work) → goes_on w.rest ≡ true → loop (going w) ≡ loop (run at rule (going w))
  go w h = repeated_go (passes test) (run at rule) (turning at eats test rule t) (going w) (passes_as w ∙ h)

  stop : (w : Work) → goes_on w.rest ≡ false → loop (going w) ≡ going w
  stop w h = repeated_end (passes test) (run at rule) (going w) (passes_as w ∙ h)

  less : (w : Work) → goes_on w.rest ≡ true → left (run at rule (going w)) < left (going w)
  less w h = (turning at eats test rule t).less (going w) (passes_as w ∙ h)

  loop_stands : (why : Why) (ts : List Token) → loop (stuck why ts) ≡ stuck why ts
  unfolding repeated passes turns
  loop_stands why ts = refl

  -- ---- one after another

  module _ {A : Type 0} (effect : Effect A) (One : Reading A) (same : Same effect (run at rule) One) where
    many_goes : (w : Work) (xs : List A) (p q : Spot) → spot_of w ≡ p → Many goes_on One p xs q → loop (going w) ≡ going (gives (each effect) w xs q)
    many_goes w [] p q e (no_more h) = stop w (subst (λ (s : Spot). goes_on s.rest ≡ false) (sym e) h) ∙ ap (λ (s : Spot). going (moved w s)) e
    many_goes w (x ∷ xs) p q e (then_more {a = a} h r m) =
        go w (subst (λ (s : Spot). goes_on s.rest ≡ true) (sym e) h)
        ∙ ap loop (same.complete w x a (subst (λ (s : Spot). One s x a) (sym e) r))
        ∙ many_goes (gives effect w x a) xs a q refl m

    many_is : (n : ℕ) (w : Work) → left (going w) ≤ n → Read (gives (each effect) w) (Many goes_on One (spot_of w)) (loop (going w))
    many_is zero w h = absurd (omega (arith, h))
    many_is (suc n) w h = elim (cases_Bool (goes_on w.rest)) [
      | inr e ↦ subst (λ (s : State). Read (gives (each effect) w) (Many goes_on One (spot_of w)) s) (sym (stop w e)) (read {x = []} {q = spot_of w} (no_more e))
      | inl e ↦ subst (λ (s : State). Read (gives (each effect) w) (Many goes_on One (spot_of w)) s) (sym (go w e)) (further w e (λ v l. many_is n v (omega (arith, l, h))) (run at rule (going w)) (less w e) (same.sound w))
    ]
      where
        and_more : (w : Work) (x : A) (a : Spot) (s : State) → goes_on w.rest ≡ true → One (spot_of w) x a →
            Read (gives (each effect) (gives effect w x a)) (Many goes_on One a) s → Read (gives (each effect) w) (Many goes_on One (spot_of w)) s
        and_more w x a s e r (read {x = xs} {q = q} m) = read {x = x ∷ xs} {q = q} (then_more e r m)
        and_more w x a s e r stands = stands

        further : (w : Work) → goes_on w.rest ≡ true → ((v : Work) → left (going v) < left (going w) → Read (gives (each effect) v) (Many goes_on One (spot_of v)) (loop (going v))) → (s : State) → left s < left (going w) → Read (gives effect w) (One (spot_of w)) s → Read (gives (each effect) w) (Many goes_on One (spot_of w)) (loop s)
        further w e ih s l (read {x = x} {q = a} r) = and_more w x a (loop (going (gives effect w x a))) e r (ih (gives effect w x a) l)
        further w e ih s l (stands {why = why} {ts = ts}) = subst (λ (s : State). Read (gives (each effect) w) (Many goes_on One (spot_of w)) s) (sym (loop_stands why ts)) stands

    pub many_same : Same (each effect) (run at (many test rule)) (Many goes_on One)
    many_same = record {
      complete = λ w xs q m. many_goes w xs (spot_of w) q refl m;
      sound = λ w. many_is (left (going w)) w (omega arith);
    }

  -- ---- operators that lean to the left

  module _ (Step : Tail) (same : SameTail (run at rule) Step) where
    chain_goes : (w : Work) (x y : Part) (p q : Spot) → Chain goes_on Step x p y q → loop (going (gives a_part w x p)) ≡ going (gives a_part w y q)
    chain_goes w x y p q (chain_end h) = stop (gives a_part w x p) h
    chain_goes w x y p q (chain_step {y = z} {a = a} h r c) = go (gives a_part w x p) h ∙ ap loop (same.complete w x z p a r) ∙ chain_goes w z y a q c

    chain_is : (n : ℕ) (w : Work) (x : Part) (p : Spot) → left (going (gives a_part w x p)) ≤ n → Read (gives a_part w) (Chain goes_on Step x p) (loop (going (gives a_part w x p)))
    chain_is zero w x p h = absurd (omega (arith, h))
    chain_is (suc n) w x p h = elim (cases_Bool (goes_on p.rest)) [
      | inr e ↦ subst (λ (s : State). Read (gives a_part w) (Chain goes_on Step x p) s) (sym (stop (gives a_part w x p) e)) (read {x = x} {q = p} (chain_end e))
      | inl e ↦ subst (λ (s : State). Read (gives a_part w) (Chain goes_on Step x p) s) (sym (go (gives a_part w x p) e)) (further e (λ y a l. chain_is n w y a (omega (arith, l, h))) (run at rule (going (gives a_part w x p))) (less (gives a_part w x p) e) (same.sound w x p))
    ]
      where
        and_more : (y : Part) (a : Spot) (s : State) → goes_on p.rest ≡ true → Step x p y a → Read (gives a_part w) (Chain goes_on Step y a) s → Read (gives a_part w) (Chain goes_on Step x p) s
        and_more y a s e r (read {x = z} {q = q} c) = read {x = z} {q = q} (chain_step e r c)
        and_more y a s e r stands = stands

        further : goes_on p.rest ≡ true → ((y : Part) (a : Spot) → left (going (gives a_part w y a)) < left (going (gives a_part w x p)) → Read (gives a_part w) (Chain goes_on Step y a) (loop (going (gives a_part w y a)))) → (s : State) → left s < left (going (gives a_part w x p)) → Read (gives a_part w) (Step x p) s → Read (gives a_part w) (Chain goes_on Step x p) (loop s)
        further e ih s l (read {x = y} {q = a} r) = and_more y a (loop (going (gives a_part w y a))) e r (ih y a l)
        further e ih s l (stands {why = why} {ts = ts}) = subst (λ (s : State). Read (gives a_part w) (Chain goes_on Step x p) s) (sym (loop_stands why ts)) stands

    pub chain_same : SameTail (run at (many test rule)) (Chain goes_on Step)
    chain_same = record {
      complete = λ w x y p q c. chain_goes w x y p q c;
      sound = λ w x p. chain_is (left (going (gives a_part w x p))) w x p (omega arith);
    }
