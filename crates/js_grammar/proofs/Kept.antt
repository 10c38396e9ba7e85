-- What the token in view says is kept in the open form, and the token is taken.
use Rattle.std.proofs.Common.{◌≡◌, Bool, List, [], ◌∷◌, refl, sym, ap, ◌∙◌, subst}
use Rattle.js_syntax.specs.declared.kind.Kind.{Kind}
use Rattle.js_syntax.specs.declared.kind.Kind.TheVariants as kinds
use Rattle.js_lexer.specs.declared.token.Token.{Token}
use Rattle.parser_rules.specs.declared.class.Class.{Class}
use Rattle.parser_rules.specs.declared.class.Class.TheVariants as classes
use Rattle.parser_rules.specs.declared.form.Form.{Form}
use Rattle.parser_rules.specs.Work.{Part, Frame, Work, State, going, opened}
use Rattle.parser_rules.specs.Rules.{Test, Action, run, take, act, ◌▸◌, after, work_after, name_it, declare, key, value, close}
use Rattle.parser_rules.specs.Expressions.{token, leaf, number_leaf, text_leaf}
use Rattle.parser_rules.proofs.Laws.{Still, same_rest}
use Rattle.js_grammar.specs.Spots.{Spot, Takes, takes, is, named_at, keyed_at, number_of, one_more, node, with_name, with_value}
use Rattle.js_grammar.proofs.Same.{spot_of, gives, a_part, a_name, own_name, Read, read, Asks, then_read, as_read, take_goes, take_read}
use Rattle.js_grammar.proofs.Steps.{token_goes, token_read}
use Rattle.js_grammar.proofs.Tests.{asks_sees}

-- a token that was taken was there
token_there : {of : List Token → Bool} {p q : Spot} → Takes of p q → (t : Token) × (ts : List Token) × (p.rest ≡ t ∷ ts)
token_there (takes {t = t} {ts = ts} h) = (t, ts, refl)

no_token : {of : List Token → Bool} {p q : Spot} → Takes of p q → p.rest ≡ [] → ⊥
no_token (takes h) e = cc

-- an action that keeps in the open form what the token in view says
pub record KeepsToken (action : Action) (keep : Spot → Frame → Frame) : Type 0 where
  pub keeps : (w : Work) (t : Token) (ts : List Token) → w.rest ≡ t ∷ ts → work_after action w ≡ record w { top = keep (spot_of w) w.top }

abbrev pub keep_name : Spot → Frame → Frame
keep_name p f = own_name f (named_at p)

abbrev pub keep_declared : Spot → Frame → Frame
keep_declared p f = a_name f (named_at p)

abbrev pub keep_key : Spot → Frame → Frame
keep_key p f = a_name f (keyed_at p)

abbrev pub keep_value : Spot → Frame → Frame
keep_value p f = record f { value = number_of p.rest }

pub keeps_name : KeepsToken name_it keep_name
keeps_name = record { keeps = λ w t ts e. rw e refl }

pub keeps_declared : KeepsToken declare keep_declared
keeps_declared = record { keeps = λ w t ts e. rw e refl }

pub keeps_key : KeepsToken key keep_key
keeps_key = record { keeps = λ w t ts e. rw e refl }

pub keeps_value : KeepsToken value keep_value
keeps_value = record { keeps = λ w t ts e. rw e refl }

-- reading has gone on to a spot, and the open form keeps what the token in view said
abbrev pub kept : (Spot → Frame → Frame) → Work → Spot → Work
kept keep w q = record w { rest = q.rest; made = q.made; top = keep (spot_of w) w.top }

module _ (at' : Form → State → State) (still : (form : Form) → Still (at' form)) where
  module _ {action : Action} {keep : Spot → Frame → Frame} (keeps : KeepsToken action keep) {test : Test} {of : List Token → Bool} (asks : Asks test of) where
    pub kept_goes : (w : Work) (q : Spot) → Takes of (spot_of w) q → run at' (act action ▸ take test) (going w) ≡ going (kept keep w q)
    unfolding after
    kept_goes w q h =
        let (t, ts, e) = token_there h in
        ap (λ (v : Work). run at' (take test) (going v)) (keeps.keeps w t ts e) ∙ take_goes at' still test of asks (record w { top = keep (spot_of w) w.top }) q h

    pub kept_read : (w : Work) → Read (λ (u : Unit {0}) q. kept keep w q) (λ u q. Takes of (spot_of w) q) (run at' (act action ▸ take test) (going w))
    unfolding after
    kept_read w = by_tokens w.rest refl
      where
        by_tokens : (ts : List Token) → w.rest ≡ ts → Read (λ (u : Unit {0}) q. kept keep w q) (λ u q. Takes of (spot_of w) q) (run at' (take test) (going (work_after action w)))
        by_tokens [] e = as_read at' still _ (take_read at' still test of asks (work_after action w)) (λ u q h. absurd (no_token h (same_rest action w ∙ e)))
        by_tokens (t ∷ ts) e =
            subst (λ (v : Work). Read (λ (u : Unit {0}) q. kept keep w q) (λ u q. Takes of (spot_of w) q) (run at' (take test) (going v))) (sym (keeps.keeps w t ts e))
            (take_read at' still test of asks (record w { top = keep (spot_of w) w.top }))

  -- ---- nodes of one token

  pub leaf_goes : (kind : Kind) (c : Class) (w : Work) (q : Spot) → Takes (is c) (spot_of w) q → run at' (leaf kind c) (going w) ≡ going (gives a_part w (node kind (spot_of w) [] q) (one_more q))
  unfolding leaf after
  leaf_goes kind c w q t = ap (λ (s : State). run at' (act close) s) (token_goes at' still c (opened kind w) q t)

  pub leaf_read : {S : Part → Spot → Type 0} (kind : Kind) (c : Class) (w : Work) →
      ((q : Spot) → Takes (is c) (spot_of w) q → S (node kind (spot_of w) [] q) (one_more q)) → Read (gives a_part w) S (run at' (leaf kind c) (going w))
  unfolding leaf after
  leaf_read {S} kind c w k =
      then_read at' still (token c) (act close) (going (opened kind w)) (token_read at' still c (opened kind w)) (λ _ q t.
      read {x = node kind (spot_of w) [] q} {q = one_more q} (k q t))

  pub number_goes : (w : Work) (q : Spot) → Takes (is classes.Num) (spot_of w) q →
      run at' number_leaf (going w) ≡ going (gives a_part w (with_value (number_of w.rest) (node kinds.Num (spot_of w) [] q)) (one_more q))
  unfolding number_leaf after
  number_goes w q t = ap (λ (s : State). run at' (act close) s) (kept_goes keeps_value (asks_sees (classes.Num ∷ [])) (opened kinds.Num w) q t)

  pub number_read : {S : Part → Spot → Type 0} (w : Work) →
      ((q : Spot) → Takes (is classes.Num) (spot_of w) q → S (with_value (number_of w.rest) (node kinds.Num (spot_of w) [] q)) (one_more q)) → Read (gives a_part w) S (run at' number_leaf (going w))
  unfolding number_leaf after
  number_read {S} w k =
      then_read at' still (act value ▸ token classes.Num) (act close) (going (opened kinds.Num w)) (kept_read keeps_value (asks_sees (classes.Num ∷ [])) (opened kinds.Num w)) (λ _ q t.
      read {x = with_value (number_of w.rest) (node kinds.Num (spot_of w) [] q)} {q = one_more q} (k q t))

  pub text_goes : (w : Work) (q : Spot) → Takes (is classes.Text) (spot_of w) q →
      run at' text_leaf (going w) ≡ going (gives a_part w (with_name (named_at (spot_of w)) (node kinds.Text (spot_of w) [] q)) (one_more q))
  unfolding text_leaf after
  text_goes w q t = ap (λ (s : State). run at' (act close) s) (kept_goes keeps_name (asks_sees (classes.Text ∷ [])) (opened kinds.Text w) q t)

  pub text_read : {S : Part → Spot → Type 0} (w : Work) →
      ((q : Spot) → Takes (is classes.Text) (spot_of w) q → S (with_name (named_at (spot_of w)) (node kinds.Text (spot_of w) [] q)) (one_more q)) → Read (gives a_part w) S (run at' text_leaf (going w))
  unfolding text_leaf after
  text_read {S} w k =
      then_read at' still (act name_it ▸ token classes.Text) (act close) (going (opened kinds.Text w)) (kept_read keeps_name (asks_sees (classes.Text ∷ [])) (opened kinds.Text w)) (λ _ q t.
      read {x = with_name (named_at (spot_of w)) (node kinds.Text (spot_of w) [] q)} {q = one_more q} (k q t))
