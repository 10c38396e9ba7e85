use Rattle.std.proofs.Common.{[], sym, ap, ◌∙◌}
use Rattle.parser_rules.specs.Work.{added}
use Rattle.js_parser.specs.declared.draft.Draft.{Draft}
use Rattle.js_parser.specs.View.{grown, frame_of, work_of}
use Rattle.js_parser.specs.Changes.{work_in}
use Rattle.js_parser.proofs.Works as works
use Rattle.js_parser.proofs.builder.Builder.close.Goals as goal

pub returns-in-None : goal.returns-in-None
returns-in-None c = λ rest.
    works.close_none (work_in rest c.args.self.now) _ (works.no_frames (grown [] c.args.self.now.nodes) _ c.in-None.ensures.drafts.0)
    (works.same_below rest c.args.self.now.nodes c.args.self.now.top c.args.self.now.below _ (c.in-None.ensures.drafts.1 ∙ sym c.in-None.ensures.drafts.0))

pub returns-in-Some : goal.returns-in-Some
returns-in-Some c = works.ok_map c.add.result
    (λ _ e rest. works.close_some (work_in rest c.args.self.now) _ _ (frame_of (grown [] c.args.self.now.nodes) c.in-Some.outer) _
    (works.last_frame (grown [] c.args.self.now.nodes) _ _ c.in-Some.outer c.in-Some.ensures.drafts)
    (ap (λ (d : Draft). work_of rest c.args.self.now.nodes d c.take_draft.new.drafts) c.replace-inner.ensures.after)
    (e rest ∙ ap (λ (d : Draft). added (frame_of (grown [] c.args.self.now.nodes) d) (work_of rest c.args.self.now.nodes c.replace-inner.new.dest c.take_draft.new.drafts)) c.replace-inner.ensures.value))
    c.add.ensures
