use Rattle.std.proofs.Common.{◌+◌, ◌-◌, ◌≡◌, arith, length, ◌∙◌, ap, Bool, List}
use Rattle.js_parser.specs.Marks.{is_marked, marks_of}
use Rattle.js_parser.proofs.MarkLemmas.{marks_more, marks_done, below_one_more, length-passed_on}
use Rattle.js_parser.proofs.marks.marks_of.Goals as goal

pub loop-left-preserved : goal.loop-left-preserved
loop-left-preserved c =
    let nodes = c.args.nodes.now in
    let n = c.loop-left.left - 1 in
    let node = c.node.result.now in
    let one : n + 1 ≡ c.loop-left.left = omega arith in
    let places : length c.pass_on.new.marks ≡ length nodes = (ap (λ (marks : List Bool). length marks) c.pass_on.ensures ∙ length-passed_on (is_marked c.loop-left.marks n) node c.loop-left.marks) ∙ c.loop-left.invariant.places in
    record {
      marks = marks_more nodes c.loop-left.left n c.loop-left.marks c.pass_on.new.marks (marks_of nodes) node one c.node.ensures.node c.pass_on.ensures c.loop-left.invariant.marks;
      places = places;
      within = omega arith;
      below = below_one_more nodes c.loop-left.left n node one c.node.ensures.node c.node.ensures.kids c.loop-left.invariant.below;
    }

pub returns-clause-marks : goal.returns-clause-marks
returns-clause-marks c =
    marks_done c.args.nodes.now c.loop-left.left c.loop-left.marks (marks_of c.args.nodes.now) (omega arith) c.loop-left.invariant.marks

pub returns-clause-below : goal.returns-clause-below
returns-clause-below c = λ n within. c.loop-left.invariant.below n (omega arith) within
