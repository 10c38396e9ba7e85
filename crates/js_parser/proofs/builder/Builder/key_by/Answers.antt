use Rattle.std.proofs.Common.{List, sym, ap, ◌∙◌}
use Rattle.js_lexer.specs.declared.token.Token.{Token}
use Rattle.parser_rules.specs.Work.{keyed_by}
use Rattle.js_parser.specs.Changes.{work_in}
use Rattle.js_parser.proofs.Works as works
use Rattle.js_parser.proofs.builder.Builder.key_by.Goals as goal

pub returns-then-is_number : goal.returns-then-is_number
returns-then-is_number c = works.ok_map c.declare_number.result
    (λ _ e rest. e rest ∙ sym (works.number_key c.in-Some.token.now (work_in rest c.args.self.now) (sym c.is_number.ensures ∙ c.if-is_number.true))
    ∙ sym (ap (λ (ts : List Token). keyed_by ts (work_in rest c.args.self.now)) (c.in-Some.ensures.1)))
    c.declare_number.ensures

pub returns-else-is_number : goal.returns-else-is_number
returns-else-is_number c = works.ok_map c.declare.result
    (λ _ e rest. e rest ∙ sym (works.text_key c.in-Some.token.now (work_in rest c.args.self.now) (sym c.is_number.ensures ∙ c.if-is_number.false))
    ∙ sym (ap (λ (ts : List Token). keyed_by ts (work_in rest c.args.self.now)) (c.in-Some.ensures.1)))
    c.declare.ensures

pub returns-in-None : goal.returns-in-None
returns-in-None c = λ rest. sym (ap (λ (ts : List Token). keyed_by ts (work_in rest c.args.self.now)) c.in-None.ensures)
