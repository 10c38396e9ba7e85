use Rattle.std.proofs.Common.{ℕ, List, ap, ◌∙◌}
use Rattle.parser_rules.specs.Work.{with_one_name}
use Rattle.js_parser.specs.Changes.{work_in}
use Rattle.js_parser.proofs.Works as works
use Rattle.js_parser.proofs.builder.Builder.declare_number.Goals as goal

pub returns : goal.returns
returns c = works.ok_map c.push_name.result (λ _ e rest. e rest ∙ ap (λ (n : List ℕ). with_one_name n c.args.token.now.place (work_in rest c.args.self.now)) c.in_ok-decimal_of.ensures) c.push_name.ensures
