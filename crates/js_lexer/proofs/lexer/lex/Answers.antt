use Rattle.std.proofs.Common.{subst, sym}
use Rattle.std.specs.Str.{chars}
use Rattle.js_lexer.specs.Tokens.{IsFaultOf}
use Rattle.js_lexer.specs.Element.{IsReading}
use Rattle.js_lexer.specs.declared.token.SyntaxFault.{SyntaxFault}
use Rattle.js_lexer.specs.declared.lexer.Reading.{Reading}
use Rattle.js_lexer.proofs.ReadingLemmas.{fault_of_bytes, bytes_are_no_text}
use Rattle.js_lexer.proofs.lexer.lex.Goals as goal

pub returns-in-Err-clause-err : goal.returns-in-Err-clause-err
returns-in-Err-clause-err c =
    subst (λ (f : SyntaxFault). IsFaultOf c.args.text.now f) (sym c.refused.ensures)
    (bytes_are_no_text c.args.text.now c.in-Err.place c.in-Err.ensures.utf8 c.in-Err.ensures.cases.0)

pub returns-in-Ok-Fault-clause-err : goal.returns-in-Ok-Fault-clause-err
returns-in-Ok-Fault-clause-err c =
    subst (λ (f : SyntaxFault). IsFaultOf c.args.text.now f) (sym c.refused-in-Ok-Fault.ensures)
    (fault_of_bytes c.args.text.now c.in-Ok.text.now c.in-Ok-Fault.kind c.in-Ok-Fault.place c.in-Ok.ensures.cases c.in-Ok.ensures.utf8
    (subst (λ (r : Reading). IsReading (chars c.in-Ok.text.now) r) c.in-Ok-Fault.field-0-is c.in-Ok-Fault.ensures))
