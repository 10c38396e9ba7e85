use Rattle.std.proofs.Common.{◌≡◌, ℕ, [], sym, ap, ◌∙◌}
use Rattle.parser_rules.specs.Work.{Work, pushed}
use Rattle.js_parser.specs.declared.draft.Draft.{Draft}
use Rattle.js_parser.specs.View.{grown, part_at, frame_of, frames_then, work_of}
use Rattle.js_parser.specs.Changes.{work_in}
use Rattle.js_parser.proofs.Works as works
use Rattle.js_parser.proofs.builder.Builder.unwrap_part.Goals as goal

pub returns-in-None : goal.returns-in-None
returns-in-None c = works.ok_map c.push-in-None.result
    (λ _ e w rest e0 e1. works.unwrap_alone w (work_in rest c.args.self.now) _ (part_at (grown [] c.args.self.now.nodes) c.args.piece) _ e0
    (sym (ap (λ (v : Work). v.below) e1) ∙ works.no_frames (grown [] c.args.self.now.nodes) _ c.in-None.ensures.drafts.0) e1
    (e rest ∙ ap (λ (v : Work). pushed (part_at (grown [] c.args.self.now.nodes) c.args.piece) v)
    (works.same_below rest c.args.self.now.nodes c.args.self.now.top c.args.self.now.below _ (c.in-None.ensures.drafts.1 ∙ sym c.in-None.ensures.drafts.0))))
    c.push-in-None.ensures

pub returns-in-Some : goal.returns-in-Some
returns-in-Some c = works.ok_map c.push.result
    (λ _ e w rest e0 e1.
    let made = grown [] c.args.self.now.nodes in
    let place : c.args.self.now.top.place ≡ w.top.place = ap (λ (v : Work). v.top.place) e1 in
    let inner : c.replace-inner.result.place ≡ w.top.place = ap (λ (d : Draft). d.place) c.replace-inner.ensures.value ∙ place in
    works.unwrap_some w (work_of rest c.args.self.now.nodes c.in-Some.outer c.take_draft.new.drafts) _ (part_at made c.args.piece) _ (frame_of made c.in-Some.outer) _ e0
    (sym (ap (λ (v : Work). v.below) e1) ∙ works.last_frame made _ _ c.in-Some.outer c.in-Some.ensures.drafts)
    (ap (λ (v : Work). record v { top = frame_of made c.in-Some.outer; below = frames_then made c.take_draft.new.drafts [] }) e1)
    (e rest
    ∙ ap (λ (n : ℕ). pushed (record (part_at made c.args.piece) { start = n }) (work_of rest c.args.self.now.nodes c.replace-inner.new.dest c.take_draft.new.drafts)) inner
    ∙ ap (λ (d : Draft). pushed (record (part_at made c.args.piece) { start = w.top.place }) (work_of rest c.args.self.now.nodes d c.take_draft.new.drafts)) c.replace-inner.ensures.after))
    c.push.ensures
