use Rattle.std.proofs.Common.{◌∙◌}
use Rattle.js_parser.proofs.Works as works
use Rattle.js_parser.proofs.builder.Builder.open.Goals as goal

pub returns-clause-work : goal.returns-clause-work
returns-clause-work c = works.ok_map c.put_draft.result
    (λ _ e rest. works.opens rest c.args.self.now.nodes c.args.self.now.top c.replace-outer.result c.replace-outer.new.dest c.args.self.now.below c.put_draft.new.drafts c.args.kind c.args.place
    c.replace-outer.ensures.value (c.replace-outer.ensures.after ∙ c.new-inner.ensures) e)
    c.put_draft.ensures.ok
