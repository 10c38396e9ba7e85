-- Rules of one step.
use Rattle.std.proofs.Common.{◌≡◌, Bool, true, List, [], ◌∷◌, refl}
use Rattle.js_lexer.specs.declared.token.Token.{Token}
use Rattle.parser_rules.specs.declared.class.Class.{Class}
use Rattle.parser_rules.specs.declared.form.Form.{Form}
use Rattle.parser_rules.specs.Work.{Work, State, going}
use Rattle.parser_rules.specs.Rules.{Action, run, act, after, work_after, sees}
use Rattle.parser_rules.specs.Expressions.{token}
use Rattle.parser_rules.proofs.Laws.{Still}
use Rattle.js_grammar.specs.Spots.{Spot, Takes, takes, is}
use Rattle.js_grammar.proofs.Same.{spot_of, moved, Read, read, take_goes, take_read}
use Rattle.js_grammar.proofs.Tests.{asks_sees}

module _ (at' : Form → State → State) (still : (form : Form) → Still (at' form)) where
  pub token_goes : (c : Class) (w : Work) (q : Spot) → Takes (is c) (spot_of w) q → run at' (token c) (going w) ≡ going (moved w q)
  token_goes c w q t = take_goes at' still (sees (c ∷ [])) (is c) (asks_sees (c ∷ [])) w q t

  pub token_read : (c : Class) (w : Work) → Read (λ (u : Unit {0}) q. moved w q) (λ u q. Takes (is c) (spot_of w) q) (run at' (token c) (going w))
  token_read c w = take_read at' still (sees (c ∷ [])) (is c) (asks_sees (c ∷ [])) w

  pub act_goes : (action : Action) (w : Work) → run at' (act action) (going w) ≡ going (work_after action w)
  unfolding after
  act_goes action w = refl

  -- what is done to forms that are open is no reading
  pub act_read : (action : Action) (w : Work) → Read (λ (u : Unit {0}) q. work_after action w) (λ u q. spot_of w ≡ q) (run at' (act action) (going w))
  unfolding after
  act_read action w = read {x = tt} {q = spot_of w} refl

-- a token that was taken was in view
pub saw : {test : List Token → Bool} {p q : Spot} → Takes test p q → test p.rest ≡ true
saw (takes h) = h
