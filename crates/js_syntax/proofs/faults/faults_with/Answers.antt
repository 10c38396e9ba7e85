use Rattle.std.proofs.Common.{[], ap, ◌∙◌}
use Rattle.js_syntax.specs.Names.{twice}
use Rattle.js_syntax.specs.Noted.{least}
use Rattle.js_syntax.proofs.WorkedLemmas.{own_worked, all_worked}
use Rattle.js_syntax.proofs.faults.faults_with.Goals as goal

pub returns : goal.returns
returns c =
    all_worked c.args.nodes.now c.args.noted.now c.args.node.now c.earlier_of-own.result _ _ _ _
    (own_worked c.args.nodes.now c.args.node.now _ c.in_ok-names.names.items _ c.earlier_of-own.result c.bad_target.result c.in_ok-twice.twice
    c.as_slice-2.ensures.items c.in_ok-names.ensures c.may_share.ensures c.bad_target.ensures (c.in_ok-twice.ensures ∙ ap (λ list. least (twice c.may_share.result [] list)) c.as_slice.ensures.value) c.earlier_of-own.ensures)
    c.fault_with.ensures c.fault_with-2.ensures c.fault_with-3.ensures c.fault_with-4.ensures
