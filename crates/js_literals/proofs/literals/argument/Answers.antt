use Rattle.std.proofs.Common.{sym, ap, ◌∙◌}
use Rattle.js_literals.specs.Told.{is_call}
use Rattle.js_literals.proofs.Nodes.{stands}
use Rattle.js_literals.proofs.literals.argument.Goals as goal

pub form_of-requires-clause-call : goal.form_of-requires-clause-call
form_of-requires-clause-call c =
    let s = stands c.args.script.now c.args.number c.node.result.now c.node.ensures.node c.node.ensures.kids in
    ap is_call s.kind ∙ sym c.is_call.ensures ∙ c.if-is_call.true

pub returns-in_ok-copy : goal.returns-in_ok-copy
returns-in_ok-copy c =
    let s = stands c.args.script.now c.args.number c.node.result.now c.node.ensures.node c.node.ensures.kids in
    (ap is_call s.kind ∙ sym c.is_call.ensures ∙ c.if-is_call.false, c.in_ok-copy.ensures)
