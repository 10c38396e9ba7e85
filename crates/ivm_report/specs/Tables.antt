-- What is looked up in a record. No caller needs this.
-- This project's own; docs/FORMATS.md, "The report".
use Rattle.std.specs.Prelude.{◌≡◌, ℕ, ◌<◌, List, length, map, Option, None, slice_index_or}
use Rattle.task_history.specs.declared.record.Record.{Record}
use Rattle.task_history.specs.declared.record.Settlement.{Settlement}
use Rattle.host_meaning.specs.Settlement.{settlement_of}
use Rattle.ivm_report.specs.Report.{first_disposal}

-- the settlements of the first calls by number, and the place of each journal's first disposal
pub record AreTables (kept : Record) (count : ℕ) (settlements : List (Option Settlement)) (firsts : List (Option ℕ)) : Type 0 where
  pub long : length settlements ≡ count
  pub told : (n : ℕ) → n < count → slice_index_or settlements n None ≡ settlement_of n kept.host
  pub firsts_are : firsts ≡ map first_disposal kept.isolates
