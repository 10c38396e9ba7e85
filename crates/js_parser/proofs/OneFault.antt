-- A text has one refusal, and none where its tokens have a tree.
use Rattle.std.proofs.Common.{◌≡◌, List, ℕ, length, inl, inr, sym, ap, ◌∙◌, subst}
use Rattle.ivm_text.specs.declared.refusal.Refusal.{Refusal}
use Rattle.js_syntax.specs.Tree.{Trees}
use Rattle.js_lexer.specs.declared.token.Token.{Token}
use Rattle.js_lexer.specs.declared.token.SyntaxFault.TheVariants as faults
use Rattle.js_lexer.specs.Tokens.{HasOneReading}
use Rattle.parser_rules.specs.declared.form.Why.{Why}
use Rattle.parser_rules.specs.Grammar.{limit, refusal_at}
use Rattle.js_lexer.proofs.OneReading.{has_one_reading}
use Rattle.js_grammar.specs.Derives.{Text, DerivesBy, ScriptBy, LiteralBy, ArgumentsBy}
use Rattle.js_grammar.specs.FirstBad.{IsFirstBad, HasOneRefusal}
use Rattle.js_grammar.proofs.FirstBad.{scripts_once, literals_once, arguments_once as argument_texts_once}
use Rattle.js_parser.specs.Parsed.{HasTree, IsRefusedText, IsFaultOf, IsRefusedOnce}

module _ (TextBy : Text) (refusals : HasOneRefusal TextBy) (bytes : List ℕ) (lexed : HasOneReading bytes) where
  refused_once : (r s : Refusal) → IsRefusedText TextBy bytes r → IsRefusedText TextBy bytes s → r ≡ s
  refused_once r s a b =
      let same : a.tokens ≡ b.tokens = lexed.tokens a.tokens b.tokens a.are_its_tokens b.are_its_tokens in
      let here = subst (λ (ts : List Token). IsFirstBad TextBy limit ts a.why a.left) same a.is_first_bad in
      let (why, left) = refusals.one limit b.tokens a.why b.why a.left b.left here b.is_first_bad in
      a.is_its_refusal
      ∙ ap (λ (w : Why). refusal_at (length bytes) w a.left) why
      ∙ ap (λ (ts : List Token). refusal_at (length bytes) b.why ts) left
      ∙ sym b.is_its_refusal

  one : (r s : Refusal) → IsFaultOf TextBy bytes (faults.Refused r) → IsFaultOf TextBy bytes (faults.Refused s) → r ≡ s
  one r s (inl a) (inl b) = lexed.refusals r s a b
  one r s (inl a) (inr b) = absurd (lexed.either b.tokens r b.are_its_tokens a)
  one r s (inr a) (inl b) = absurd (lexed.either a.tokens s a.are_its_tokens b)
  one r s (inr a) (inr b) = refused_once r s a b

  none : (t : Trees) (r : Refusal) → HasTree (DerivesBy TextBy) bytes t → ¬ (IsFaultOf TextBy bytes (faults.Refused r))
  none t r has (inl a) = lexed.either has.tokens r has.are_its_tokens a
  none t r has (inr a) =
      let same : has.tokens ≡ a.tokens = lexed.tokens has.tokens a.tokens has.are_its_tokens a.are_its_tokens in
      a.is_first_bad.none t (subst (λ (ts : List Token). DerivesBy TextBy limit ts t) same has.derives)

  one_fault : IsRefusedOnce TextBy bytes
  one_fault = record { one = one; none = none }

-- ---- scripts, literals, arguments

pub script_once : (bytes : List ℕ) → IsRefusedOnce ScriptBy bytes
script_once bytes = one_fault ScriptBy scripts_once bytes (has_one_reading bytes)

pub literal_once : (bytes : List ℕ) → IsRefusedOnce LiteralBy bytes
literal_once bytes = one_fault LiteralBy literals_once bytes (has_one_reading bytes)

pub arguments_once : (bytes : List ℕ) → IsRefusedOnce ArgumentsBy bytes
arguments_once bytes = one_fault ArgumentsBy argument_texts_once bytes (has_one_reading bytes)
