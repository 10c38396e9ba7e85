use Rattle.std.proofs.Common.{[], ap, ◌∙◌}
use Rattle.parser_rules.specs.Work.{Frame, added}
use Rattle.js_syntax.specs.declared.kind.Kind.TheVariants as kinds
use Rattle.js_parser.specs.View.{grown}
use Rattle.js_parser.specs.Changes.{work_in}
use Rattle.js_parser.proofs.Works as works
use Rattle.js_parser.proofs.builder.Builder.omit.Goals as goal

pub returns : goal.returns
returns c = works.ok_map c.add.result (λ _ e rest. e rest ∙ ap (λ (f : Frame). added f (work_in rest c.args.self.now)) (works.plain_frame (grown [] c.args.self.now.nodes) _ kinds.Absent 0 c.new.ensures)) c.add.ensures
