use Rattle.std.proofs.Common.{subst, ap, ◌∙◌, ◌∷◌, ◌++◌, [], ℕ, pos}
use Rattle.js_lexer.specs.Front.{Front}
use Rattle.js_lexer.specs.Tokens.{token_of}
use Rattle.js_lexer.specs.Element.{seen_of}
use Rattle.js_lexer.specs.declared.token.Token.{Token}
use Rattle.js_lexer.specs.declared.front.Element.{Element}
use Rattle.js_lexer.proofs.ReadingLemmas.{over_gap, over_token, ends_here, fails_here}
use Rattle.js_lexer.proofs.lexer.read_tokens.Goals as goal

pub returns-in-End : goal.returns-in-End
returns-in-End c =
    ends_here c.args.text.now c.elements.rest.now c.elements.after_line c.elements.tokens c.elements.invariant
    (subst (λ (e : Element). Front c.elements.rest.now (seen_of e)) c.in-End.is c.in_ok-element.ensures.front)

pub elements-preserved-in-Gap : goal.elements-preserved-in-Gap
elements-preserved-in-Gap c =
    over_gap c.args.text.now c.elements.rest.now c.in-Gap.behind.now c.elements.after_line c.in-Gap.line c.elements.tokens c.elements.invariant
    (subst (λ (e : Element). Front c.elements.rest.now (seen_of e)) c.in-Gap.is c.in_ok-element.ensures.front)

pub elements-preserved : goal.elements-preserved
elements-preserved c =
    over_token c.args.text.now c.elements.rest.now c.in-Token.behind.now c.elements.after_line c.in-Token.kind c.in-Token.units (pos c.in-Token.number)
    c.elements.tokens _ c.elements.invariant
    (subst (λ (e : Element). Front c.elements.rest.now (seen_of e)) c.in-Token.is c.in_ok-element.ensures.front)
    (c.in_ok-push-in-Token.ensures.ok ∙ ap (λ (t : Token). c.elements.tokens ++ t ∷ []) c.token.ensures
    ∙ ap (λ (n : ℕ). c.elements.tokens ++ token_of c.in-Token.kind c.in-Token.units (pos c.in-Token.number) n c.elements.after_line ∷ []) c.place_in-place.ensures)

pub returns-in-Fault : goal.returns-in-Fault
returns-in-Fault c = (
  c.in-Fault.at.now,
  fails_here c.args.text.now c.elements.rest.now c.in-Fault.at.now c.elements.after_line c.in-Fault.kind c.elements.tokens c.elements.invariant
      (subst (λ (e : Element). Front c.elements.rest.now (seen_of e)) c.in-Fault.is c.in_ok-element.ensures.front),
  c.place_in.ensures,
)
