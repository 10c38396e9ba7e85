use Rattle.std.proofs.Common.{ℕ, List, [], ◌∷◌, ◌++◌, length, ap, ◌∙◌}
use Rattle.js_parser.specs.declared.draft.Draft.{Draft}
use Rattle.js_parser.specs.State.{state_of}
use Rattle.js_parser.specs.View.{known}
use Rattle.js_parser.proofs.Built.{put_known, none_known}
use Rattle.js_parser.proofs.Endings as endings
use Rattle.js_parser.proofs.scripts.start.Goals as goal

pub invariant_of-result : goal.invariant_of-result
invariant_of-result c =
    let n : ℕ = length c.new-nodes.result in
    record {
      top_known = ap (λ (d : Draft). known n d.pieces) c.new-top.ensures;
      below_known = put_known n c.new-below.result c.push.new.self c.new-outer.result c.in_ok-push.ensures.ok (none_known n c.new-below.result c.new-below.ensures)
          (ap (λ (d : Draft). known n d.pieces) c.new-outer.ensures);
    }

pub returns : goal.returns
unfolding state_of
returns c = endings.started c.args.tokens.now c.new-nodes.result c.new-top.result c.new-outer.result c.push.new.self c.new-nodes.ensures c.new-top.ensures
    (c.in_ok-push.ensures.ok ∙ ap (λ (ds : List Draft). ds ++ c.new-outer.result ∷ []) c.new-below.ensures) c.new-outer.ensures
