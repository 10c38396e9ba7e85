use Rattle.std.proofs.Common.{List, sym, ap, ◌∙◌}
use Rattle.js_lexer.specs.declared.token.Token.{Token}
use Rattle.parser_rules.specs.Work.{declared_by}
use Rattle.js_parser.specs.Changes.{work_in}
use Rattle.js_parser.proofs.Works as works
use Rattle.js_parser.proofs.builder.Builder.declare_by.Goals as goal

pub returns-in-Some : goal.returns-in-Some
returns-in-Some c = works.ok_map c.declare.result (λ _ e rest. e rest ∙ sym (ap (λ (ts : List Token). declared_by ts (work_in rest c.args.self.now)) (c.in-Some.ensures.1))) c.declare.ensures

pub returns-in-None : goal.returns-in-None
returns-in-None c = λ rest. sym (ap (λ (ts : List Token). declared_by ts (work_in rest c.args.self.now)) c.in-None.ensures)
