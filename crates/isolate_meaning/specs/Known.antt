-- Tasks whose numbers their isolate has told before.
-- This project's own; docs/MAP.md, "One isolate".
use Rattle.std.specs.Prelude.{ℕ, List, Option}
use Rattle.std.specs.List.{Contains}
use Rattle.task_history.specs.declared.task.Task.{Task}
use Rattle.task_history.specs.declared.task.TaskKind.{TaskKind}
use Rattle.task_history.specs.declared.task.TaskKind.TheVariants as kind
use Rattle.task_history.specs.declared.outcome.Outcome.TheVariants as outcome
use Rattle.task_history.specs.declared.outcome.Out.{Out}
use Rattle.task_history.specs.declared.outcome.Out.TheVariants.{Reply}
use Rattle.isolate_meaning.specs.Fits.{IsSound}

-- among these outs is a reply that tells a context and the row of its global object
abbrev pub TellsContext : List Out → ℕ → ℕ → Type 0
TellsContext outs context row = (call : Option ℕ) × Contains outs (Reply call (outcome.Context context row))

-- each number that a task names stands in one of these outs
abbrev pub NamesKnown : List Out → TaskKind → Type 0
NamesKnown outs kind.Context = Unit {0}
NamesKnown outs (kind.Compile text) = Unit {0}
NamesKnown outs (kind.Run script context want) = ⊥
NamesKnown outs (kind.Eval context text want) = (row : ℕ) × TellsContext outs context row
NamesKnown outs (kind.Act row act) = (context : ℕ) × TellsContext outs context row
NamesKnown outs (kind.Resume promise answer) = ⊥

-- the task is sound and names nothing but what stands in these outs of its isolate
pub record IsKnown (outs : List Out) (task : Task) : Type 0 where
  pub sound : IsSound task
  pub names : NamesKnown outs task.kind
