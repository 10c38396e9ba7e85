use Rattle.std.proofs.Common.{sym, ◌∙◌}
use Rattle.js_parser.specs.State.{state_of}
use Rattle.js_parser.proofs.Built.{both, true_below}
use Rattle.js_parser.proofs.Steps as steps
use Rattle.js_parser.proofs.reader.Reader.take_next.Goals as goal

pub returns-then-passed-more : goal.returns-then-passed-more
unfolding state_of
returns-then-passed-more c = λ test e.
    let (p, m) = both _ _ c.if-passed-more.true in
    steps.take_hit c.args.self.now test c.requires (sym e ∙ p) (true_below _ _ m)

pub returns-else-passed-more : goal.returns-else-passed-more
unfolding state_of
returns-else-passed-more c = λ test e. steps.take_none c.args.self.now test c.args.passed c.requires e c.if-passed-more.false
