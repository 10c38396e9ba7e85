use Rattle.std.proofs.Common.{◌-◌, length}
use Rattle.host_meaning.specs.Stand.{place}
use Rattle.host_laws.specs.Driving.{CellsAre}
use Rattle.host_runs.proofs.one_thread.carry_out.Given as goal

abbrev pub invariant-commands : goal.invariant-commands
invariant-commands l = CellsAre l.fn.script l.host l.cells.items

abbrev pub decreases-commands : goal.decreases-commands
decreases-commands l = length l.fn.script.commands - place l.host
