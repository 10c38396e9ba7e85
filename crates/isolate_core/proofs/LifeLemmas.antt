-- What a task does to the state of a cell.
use Rattle.std.proofs.Common.{◌≡◌, Some, Result, Ok, Err, refl, subst, sym, ap}
use Rattle.std.specs.Prelude.{IfOk}
use Rattle.ivm_text.specs.declared.fault.NoMemory.{NoMemory}
use Rattle.task_history.specs.declared.task.Task.{Task}
use Rattle.task_history.specs.declared.outcome.By.{By}
use Rattle.task_history.specs.declared.outcome.Outcome.TheVariants.{Disposed}
use Rattle.task_history.specs.declared.record.Entry.{Entry}
use Rattle.isolate_meaning.specs.State.{State, live, ended, HeapIsClosed}
use Rattle.isolate_meaning.specs.Tasks.{Done}
use Rattle.isolate_meaning.specs.Does.{Acts, DoesTo, acts, refuses, entry_of}
use Rattle.isolate_core.specs.declared.contents.Contents.{Contents as Held}
use Rattle.isolate_core.specs.declared.life.Life.{Life}
use Rattle.isolate_core.specs.declared.life.Life.TheVariants.{Live, Ended}
use Rattle.isolate_core.specs.Contents.{contents_of}
use Rattle.isolate_core.specs.Life.{state_of, CarriesOut}

live_carried : (task : Task) (life new : Life) (held : Held) (done : Done) (entry : Entry) → life ≡ Live held
    → Acts task.budget task.kind (contents_of held) done → HeapIsClosed done.state → state_of new ≡ Some done.state
    → entry ≡ entry_of task done.out done.ticks done.cells → CarriesOut task life new entry
live_carried task life new held done entry is does closed now noted = record {
  before = live (contents_of held);
  after = done.state;
  was = ap state_of is;
  now = now;
  does = subst (DoesTo task (live (contents_of held)) done.state) (sym noted) (acts does);
  closed = closed;
}

-- a live isolate does what the task asks for
pub carried_live : (task : Task) (life : Life) (held : Held) (done : Done) (told : Result (Life × Entry) NoMemory) → life ≡ Live held
    → Acts task.budget task.kind (contents_of held) done → HeapIsClosed done.state → IfOk told (λ end. state_of end.0 ≡ Some done.state)
    → IfOk told (λ end. end.1 ≡ entry_of task done.out done.ticks done.cells) → IfOk told (λ end. CarriesOut task life end.0 end.1)
carried_live task life held done (Ok end) is does closed now noted = live_carried task life end.0 held done end.1 is does closed now noted
carried_live task life held done (Err none) is does closed now noted = tt

-- one that has ended refuses it
pub carried_ended : (task : Task) (life : Life) (by : By) (entry : Entry) → life ≡ Ended by → entry ≡ entry_of task (Disposed by) 0 0 → CarriesOut task life (Ended by) entry
carried_ended task life by entry is noted = record {
  before = ended by;
  after = ended by;
  was = ap state_of is;
  now = refl;
  does = subst (DoesTo task (ended by) (ended by)) (sym noted) refuses;
  closed = tt;
}
