use Rattle.std.proofs.Common.{◌≡◌, take}
use Rattle.host_laws.specs.Driving.{fresh_cells}
use Rattle.host_runs.proofs.one_thread.fresh_cells.Given as goal

abbrev pub invariant-loop-number : goal.invariant-loop-number
invariant-loop-number l = l.cells.items ≡ fresh_cells 0 (take l.number l.decls)
