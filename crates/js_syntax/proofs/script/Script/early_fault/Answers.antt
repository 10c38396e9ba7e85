use Rattle.std.proofs.Common.{◌≡◌, ◌+◌, IfSome, IfNone, length, sym, ap, arith}
use Rattle.js_syntax.specs.Early.{HasEarlyFault, HasNoEarlyFault}
use Rattle.js_syntax.proofs.NotedLemmas.{some_told, none_told}
use Rattle.js_syntax.proofs.script.Script.early_fault.Goals as goal

pub returns-clause-some : goal.returns-clause-some
returns-clause-some c =
    let last : c.root.result + 1 ≡ length c.self.inside.nodes = omega (arith, ap length c.self.view_is, c.root.ensures) in
    let told : IfSome c.told.result (HasEarlyFault c.self.inside.nodes) = some_told c.self.inside.nodes c.self.inside.noted c.root.result c.in_ok-get.field-0.now c.told.result c.self.invariant.1 last (sym c.in_ok-get.ensures.value) c.told.ensures in
    rw c.self.view_is at told

pub returns-clause-none : goal.returns-clause-none
returns-clause-none c =
    let last : c.root.result + 1 ≡ length c.self.inside.nodes = omega (arith, ap length c.self.view_is, c.root.ensures) in
    let told : IfNone c.told.result (HasNoEarlyFault c.self.inside.nodes) = none_told c.self.inside.nodes c.self.inside.noted c.root.result c.in_ok-get.field-0.now c.told.result c.self.invariant.1 last (sym c.in_ok-get.ensures.value) c.told.ensures in
    rw c.self.view_is at told
