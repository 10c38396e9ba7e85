-- Each step leaves an isolate beside the host.
use Rattle.std.proofs.Common.{◌≡◌, ◌≢◌, ℕ, List, [], ◌∷◌, ◌++◌, refl, subst, sym, ap, ◌∙◌, append-nil}
use Rattle.task_history.specs.Lists.{tasks, outs, receives}
use Rattle.task_history.specs.declared.task.Own.TheVariants.{Disposed}
use Rattle.task_history.specs.declared.task.Task.{Task}
use Rattle.task_history.specs.declared.outcome.Out.{Out}
use Rattle.task_history.specs.declared.record.Event.{Event}
use Rattle.task_history.specs.declared.record.Event.TheVariants.{Post, Ask, Settle}
use Rattle.task_history.specs.declared.record.Settlement.TheVariants as how
use Rattle.isolate_meaning.specs.Known.{IsKnown}
use Rattle.host_meaning.specs.declared.moves.Move.TheVariants as move
use Rattle.host_meaning.specs.Stand.{Stand, drawn}
use Rattle.host_meaning.specs.Machine.{turn, task_of, received}
use Rattle.host_meaning.specs.Course.{Worker}
use Rattle.host_laws.specs.Courses.{IsBeside}
use Rattle.host_laws.specs.Finished.{HasDone}
use Rattle.host_laws.specs.Stays.{PostsNothing, StaysAtTurns, StaysAtPosts, StaysAtReceipts, StaysAtOthers, HasDoneAtRest}
use Rattle.host_laws.proofs.Turns.{turn_cases}
use Rattle.host_laws.proofs.Lists.{other_if}
use Rattle.host_laws.proofs.Beside.{beside_quiet, beside_post}
use Rattle.host_laws.proofs.Targets.{turn_post}
use Rattle.host_laws.proofs.AnyOrder.{receipt_here, receipt_there}

pub stays_at_turns : (i limit : ℕ) (worker : Worker) → StaysAtTurns i limit worker
stays_at_turns i limit worker stand nothing beside =
    turn_cases stand (λ m. PostsNothing i m.0 → IsBeside i limit m.1.history worker)
    (λ _. beside)
    (λ _. beside)
    (λ _. beside)
    (λ _. beside_quiet i limit stand.history (Settle (drawn stand) (how.Own Disposed)) worker refl refl tt beside)
    (λ j budget kind _ other. beside_quiet i limit stand.history (Post j (task_of stand budget kind)) worker (other_if i j (task_of stand budget kind ∷ []) [] other) refl tt beside)
    (λ j _ _. beside_quiet i limit stand.history (Ask j) worker refl refl tt beside)
    nothing

pub stays_at_posts : (i limit : ℕ) (worker : Worker) → StaysAtPosts i limit worker
stays_at_posts i limit worker stand task posts known beside =
    subst (λ (s : Stand). IsBeside i limit s.history (record worker { waiting = worker.waiting ++ task ∷ [] })) (sym (turn_post stand i task posts))
    (beside_post i limit stand.history task worker known beside)

pub stays_at_receipts : (i limit : ℕ) (worker : Worker) → StaysAtReceipts i limit worker
stays_at_receipts i limit worker stand out later first beside = receipt_here stand i limit out later worker first beside

pub stays_at_others : (i limit : ℕ) (worker : Worker) → StaysAtOthers i limit worker
stays_at_others i limit worker stand j out other beside = receipt_there stand j i limit out worker other beside

pub done_at_rest : (i limit : ℕ) (worker : Worker) → HasDoneAtRest i limit worker
done_at_rest i limit worker history none_wait none_sent beside = record {
  replays = (worker.isolate, beside.replays);
  posted = sym (beside.posted ∙ ap (λ x. tasks worker.journal ++ x) none_wait ∙ append-nil (tasks worker.journal));
  told = beside.told ∙ ap (λ x. receives i history ++ x) none_sent ∙ append-nil (receives i history);
  caused = beside.caused;
}
