-- Loops of rules whose turns depend on what the innermost form has so far.
use Rattle.std.proofs.Common.{◌≡◌, ℕ, zero, suc, ◌<◌, ◌≤◌, Bool, true, false, List, inl, inr, refl, sym, ap, ◌∙◌, subst, arith}
use Rattle.std.proofs.lemmas.Bool.{cases_Bool}
use Rattle.js_lexer.specs.declared.token.Token.{Token}
use Rattle.parser_rules.specs.declared.form.Form.{Form}
use Rattle.parser_rules.specs.declared.form.Why.{Why}
use Rattle.parser_rules.specs.Work.{Work, State, going, stuck}
use Rattle.parser_rules.specs.Rules.{Rule, Test, many, passes, left, turns, repeated, run}
use Rattle.parser_rules.proofs.Laws.{Inside, Still, takes, turning, repeated_go, repeated_end}
use Rattle.js_grammar.specs.Spots.{Spot, Sees, SeesNot}
use Rattle.js_grammar.proofs.Same.{Effect, gives, Read, read, stands, Asks}

-- as long as the token in view passes a test, a turn leads from what was read so far to more
pub data Cycle {A : Type 0} (goes_on : List Token → Bool) (Turn : A → Spot → A → Spot → Type 0) : A → Spot → A → Spot → Type 0 where
  cycle_end : {x : A} {p : Spot} → SeesNot goes_on p → Cycle goes_on Turn x p x p
  cycle_turn : {x y z : A} {p a q : Spot} → Sees goes_on p → Turn x p y a → Cycle goes_on Turn y a z q → Cycle goes_on Turn x p z q

-- what is done to a state in which this was read so far is what leads on from it
pub record SameTurn {A : Type 0} (effect : Effect A) (w : Work) (f : State → State) (Turn : A → Spot → A → Spot → Type 0) : Type 0 where
  pub complete : (x y : A) (p q : Spot) → Turn x p y q → f (going (gives effect w x p)) ≡ going (gives effect w y q)
  pub sound : (x : A) (p : Spot) → Read (gives effect w) (Turn x p) (f (going (gives effect w x p)))

module _ (at : Form → State → State) (eats : Inside at) (still : (form : Form) → Still (at form)) (test : Test) (goes_on : List Token → Bool) (asks : Asks test goes_on) (rule : Rule) (t : takes rule ≡ true)
    {A : Type 0} (effect : Effect A) (w : Work) (Turn : A → Spot → A → Spot → Type 0) (same : SameTurn effect w (run at rule) Turn) where
  abbrev loop : State → State
  loop s = repeated (passes test) (run at rule) s

  passes_as : (v : Work) → passes test (going v) ≡ goes_on v.rest
  unfolding passes
  passes_as v = asks.asks v.rest v.top.cover

  go : (v : Work) → goes_on v.rest ≡ true → loop (going v) ≡ loop (run at rule (going v))
  go v h = repeated_go (passes test) (run at rule) (turning at eats test rule t) (going v) (passes_as v ∙ h)

  stop : (v : Work) → goes_on v.rest ≡ false → loop (going v) ≡ going v
  stop v h = repeated_end (passes test) (run at rule) (going v) (passes_as v ∙ h)

  less : (v : Work) → goes_on v.rest ≡ true → left (run at rule (going v)) < left (going v)
  less v h = (turning at eats test rule t).less (going v) (passes_as v ∙ h)

  loop_stands : (why : Why) (ts : List Token) → loop (stuck why ts) ≡ stuck why ts
  unfolding repeated passes turns
  loop_stands why ts = refl

  cycle_goes : (x y : A) (p q : Spot) → Cycle goes_on Turn x p y q → loop (going (gives effect w x p)) ≡ going (gives effect w y q)
  cycle_goes x y p q (cycle_end h) = stop (gives effect w x p) h
  cycle_goes x y p q (cycle_turn {y = z} {a = a} h r c) = go (gives effect w x p) h ∙ ap loop (same.complete x z p a r) ∙ cycle_goes z y a q c

  cycle_is : (n : ℕ) (x : A) (p : Spot) → left (going (gives effect w x p)) ≤ n → Read (gives effect w) (Cycle goes_on Turn x p) (loop (going (gives effect w x p)))
  cycle_is zero x p h = absurd (omega (arith, h))
  cycle_is (suc n) x p h = elim (cases_Bool (goes_on p.rest)) [
    | inr e ↦ subst (λ (s : State). Read (gives effect w) (Cycle goes_on Turn x p) s) (sym (stop (gives effect w x p) e)) (read {x = x} {q = p} (cycle_end e))
    | inl e ↦ subst (λ (s : State). Read (gives effect w) (Cycle goes_on Turn x p) s) (sym (go (gives effect w x p) e)) (further e (λ y a l. cycle_is n y a (omega (arith, l, h))) (run at rule (going (gives effect w x p))) (less (gives effect w x p) e) (same.sound x p))
  ]
    where
      and_more : (y : A) (a : Spot) (s : State) → goes_on p.rest ≡ true → Turn x p y a → Read (gives effect w) (Cycle goes_on Turn y a) s → Read (gives effect w) (Cycle goes_on Turn x p) s
      and_more y a s e r (read {x = z} {q = q} c) = read {x = z} {q = q} (cycle_turn e r c)
      and_more y a s e r stands = stands

      further : goes_on p.rest ≡ true → ((y : A) (a : Spot) → left (going (gives effect w y a)) < left (going (gives effect w x p)) → Read (gives effect w) (Cycle goes_on Turn y a) (loop (going (gives effect w y a)))) → (s : State) → left s < left (going (gives effect w x p)) → Read (gives effect w) (Turn x p) s → Read (gives effect w) (Cycle goes_on Turn x p) (loop s)
      further e ih s l (read {x = y} {q = a} r) = and_more y a (loop (going (gives effect w y a))) e r (ih y a l)
      further e ih s l (stands {why = why} {ts = ts}) = subst (λ (s : State). Read (gives effect w) (Cycle goes_on Turn x p) s) (sym (loop_stands why ts)) stands

  pub cycle_same : SameTurn effect w (run at (many test rule)) (Cycle goes_on Turn)
  cycle_same = record {
    complete = λ x y p q c. cycle_goes x y p q c;
    sound = λ x p. cycle_is (left (going (gives effect w x p))) x p (omega arith);
  }
