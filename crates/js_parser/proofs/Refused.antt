-- What the rules answer is what the grammar by cases says.
use Rattle.std.proofs.Common.{◌≡◌, ℕ, List, length, inl, inr, refl, Result, Ok, Err}
use Rattle.std.specs.Prelude.{IfOk, IfErr}
use Rattle.ivm_text.specs.declared.refusal.Refusal.{Refusal}
use Rattle.js_lexer.specs.declared.token.Token.{Token}
use Rattle.js_lexer.specs.declared.token.SyntaxFault.{SyntaxFault}
use Rattle.js_lexer.specs.declared.token.SyntaxFault.TheVariants as faults
use Rattle.js_syntax.specs.declared.node.Node.{Node}
use Rattle.js_syntax.specs.Tree.{IsTreeOf}
use Rattle.parser_rules.specs.declared.form.Why.{Why}
use Rattle.parser_rules.specs.Work.{State, going, stuck}
use Rattle.parser_rules.specs.Rules.{Rule}
use Rattle.parser_rules.specs.Grammar.{answer_of, reading, limit, rejected, refusal_at}
use Rattle.js_grammar.specs.Derives.{Text, DerivesBy}
use Rattle.js_grammar.specs.Exactly.{IsSameGrammar}
use Rattle.js_grammar.specs.FirstBad.{HasFirstBad}
use Rattle.js_parser.specs.Accepted.{IsAccepted, IsFaultBy}
use Rattle.js_parser.specs.View.{tree_of}
use Rattle.js_parser.proofs.Works.{ok_map}
use Rattle.js_parser.specs.Parsed.{HasTree, IsTextOf, IsFaultOf}

ok_both : {A E : Type 0} {P Q R : A → Type 0} (r : Result A E) → ((a : A) → P a → Q a → R a) → IfOk r P → IfOk r Q → IfOk r R
ok_both (Ok a) f p q = f a p q
ok_both (Err e) f p q = tt

err_map : {A E : Type 0} {P Q : E → Type 0} (r : Result A E) → ((e : E) → P e → Q e) → IfErr r P → IfErr r Q
err_map (Ok a) f h = tt
err_map (Err e) f h = f e h

-- where a refusal is answered, reading stands
pub record StandsFor (s : State) (end : ℕ) (r : Refusal) : Type 0 where
  pub why : Why
  pub left : List Token
  pub stands : s ≡ stuck why left
  pub is : r ≡ refusal_at end why left

stands_for : (end : ℕ) (s : State) (r : Refusal) → answer_of end s ≡ rejected r → StandsFor s end r
stands_for end (going w) r e = absurd (let none : ⊥ = cc in none)
stands_for end (stuck why left) r e = record { why = why; left = left; stands = refl; is = same e }
  where
    same : rejected (refusal_at end why left) ≡ rejected r → r ≡ refusal_at end why left
    same e = cc

module _ (whole : Rule) (TextBy : Text) (same : IsSameGrammar whole (DerivesBy TextBy)) (first : HasFirstBad whole TextBy) where
  tree_is : (bytes : List ℕ) (nodes : List Node) → IsAccepted whole bytes (tree_of nodes) → HasTree (DerivesBy TextBy) bytes (tree_of nodes)
  tree_is bytes nodes h = record { tokens = h.tokens; are_its_tokens = h.are_its_tokens; derives = (same.accepts limit (length bytes) h.tokens (tree_of nodes)).0 h.is_their_tree }

  text_is : (bytes : List ℕ) (nodes : List Node) → IsTreeOf nodes (tree_of nodes) → IsAccepted whole bytes (tree_of nodes) → IsTextOf (DerivesBy TextBy) bytes nodes
  text_is bytes nodes its h = record { tree = tree_of nodes; is_its_tree = its; has = tree_is bytes nodes h }

  fault_is : (bytes : List ℕ) (f : SyntaxFault) → IsFaultBy whole bytes f → IsFaultOf TextBy bytes f
  fault_is bytes faults.NoMemory h = tt
  fault_is bytes (faults.Refused r) (inl h) = inl h
  fault_is bytes (faults.Refused r) (inr h) =
      let s = stands_for (length bytes) (reading limit whole h.tokens) r h.is_their_refusal in
      inr (record {
        tokens = h.tokens;
        are_its_tokens = h.are_its_tokens;
        why = s.why;
        left = s.left;
        is_first_bad = first limit h.tokens s.why s.left s.stands;
        is_its_refusal = s.is;
      })

  pub ok_is : (bytes : List ℕ) (r : Result (List Node) SyntaxFault) → IfOk r (λ nodes. IsTreeOf nodes (tree_of nodes)) → IfOk r (λ nodes. IsAccepted whole bytes (tree_of nodes)) → IfOk r (IsTextOf (DerivesBy TextBy) bytes)
  ok_is bytes r t h = ok_both r (λ nodes p q. text_is bytes nodes p q) t h

  pub nodes_are : (bytes : List ℕ) (r : Result (List Node) SyntaxFault) → IfOk r (λ nodes. IsAccepted whole bytes (tree_of nodes)) → IfOk r (λ nodes. HasTree (DerivesBy TextBy) bytes (tree_of nodes))
  nodes_are bytes r h = ok_map r (λ nodes p. tree_is bytes nodes p) h

  pub err_is : (bytes : List ℕ) (r : Result (List Node) SyntaxFault) → IfErr r (IsFaultBy whole bytes) → IfErr r (IsFaultOf TextBy bytes)
  err_is bytes r h = err_map r (λ f p. fault_is bytes f p) h
