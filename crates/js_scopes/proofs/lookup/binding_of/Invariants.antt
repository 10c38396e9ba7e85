use Rattle.std.proofs.Common.{◌≡◌}
use Rattle.std.specs.Prelude.{IfSome}
use Rattle.charged_heap.specs.Store.{IsAt, IsScope}
use Rattle.js_scopes.specs.Lookup.{binding_of}
use Rattle.js_scopes.proofs.Walks.{outwards_from, numbers_left}
use Rattle.js_scopes.proofs.lookup.binding_of.Given as goal

abbrev pub invariant-loop-next : goal.invariant-loop-next
invariant-loop-next l = record {
  same : outwards_from l.heap l.name l.next ≡ binding_of l.heap l.name l.fn.scope;
  there : IfSome l.next (IsAt IsScope l.heap);
}

abbrev pub decreases-loop-next : goal.decreases-loop-next
decreases-loop-next l = numbers_left l.next
