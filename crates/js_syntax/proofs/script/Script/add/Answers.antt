use Rattle.std.proofs.Common.{◌≡◌, ◌+◌, ◌∙◌, ap, arith, length, subst}
use Rattle.js_syntax.specs.declared.around.Around.{Around}
use Rattle.js_syntax.specs.Noted.{fault_in, fault_with}
use Rattle.js_syntax.specs.Shape.{AreBelow}
use Rattle.js_syntax.proofs.NotedLemmas.{noted_more}
use Rattle.js_syntax.proofs.SoundLemmas.{sound_more}
use Rattle.js_syntax.proofs.script.Script.add.Goals as goal

pub invariant_of-self-in_default : goal.invariant_of-self-in_default
invariant_of-self-in_default c =
    let below : AreBelow c.args.node.kids (length c.self.inside.nodes) = subst (AreBelow c.args.node.kids) (omega (arith, ap length c.self.view_is)) c.requires.kids in
    let from_zero : AreBelow c.args.node.kids (0 + length c.self.inside.nodes) = subst (AreBelow c.args.node.kids) (omega arith) below in
    let worked : (around : Around) → fault_in c.in_ok-faults.faults around ≡ fault_with c.self.inside.nodes c.self.inside.noted c.args.node around = λ around. c.in_ok-faults.ensures around ∙ (ap (λ nodes. fault_with nodes c.as_slice-2.result.now c.args.node around) c.as_slice.ensures.items ∙ ap (λ noted. fault_with c.self.inside.nodes noted c.args.node around) c.as_slice-2.ensures.items) in
    rw (c.in_default.ensures.ok, c.in_ok-push.ensures.ok)
    (sound_more 0 c.self.inside.nodes c.args.node c.self.invariant.0 from_zero c.requires.formed, noted_more c.self.inside.nodes c.self.inside.noted c.args.node c.in_ok-faults.faults c.self.invariant.1 below worked)
