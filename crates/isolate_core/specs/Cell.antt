-- What holds of every cell.
-- This project's own; docs/MAP.md, "One isolate".
use Rattle.std.specs.Prelude.{ℕ}
use Rattle.isolate_core.specs.declared.life.Life.{Life}
use Rattle.isolate_core.specs.Life.{state_of, IsOpenWhereLive}
use Rattle.isolate_core.specs.Written.{Written}
use Rattle.isolate_meaning.specs.Replay.{Kept, IsKept}

abbrev pub kept_in : ℕ → ℕ → Written → Life → Kept
kept_in number limit written life = record { number = number; limit = limit; journal = written.entries; state = state_of life }

pub record IsWhole (number limit : ℕ) (written : Written) (life : Life) : Type 0 where
  pub kept : IsKept (kept_in number limit written life)
  pub stoppable : IsOpenWhereLive life written.is_open
