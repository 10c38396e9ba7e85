-- An isolate at work beside the host's history, in any order of posting, carrying out and receiving.
use Rattle.std.proofs.Common.{◌≡◌, ℕ, ◌≤◌, List, [], ◌∷◌, ◌++◌, length, true, false, Some, None, refl, subst, sym, ap, ◌∙◌, arith, inl, inr, append-nil, append_assoc, length-append}
use Rattle.std.proofs.lemmas.List.Concat.{flat_map-append}
use Rattle.std.proofs.lemmas.List.Elements.{Contains-append_left, Contains-append_right, Contains-push_cases}
use Rattle.std.specs.List.{Contains}
use Rattle.task_history.specs.declared.task.Task.{Task}
use Rattle.task_history.specs.declared.task.TaskKind.{TaskKind}
use Rattle.task_history.specs.declared.task.TaskKind.TheVariants as kind
use Rattle.task_history.specs.declared.outcome.By.TheVariants.{Host}
use Rattle.task_history.specs.declared.outcome.Outcome.TheVariants as outcome
use Rattle.task_history.specs.declared.outcome.Out.{Out}
use Rattle.task_history.specs.declared.outcome.Out.TheVariants.{Reply}
use Rattle.task_history.specs.declared.record.Entry.{Entry}
use Rattle.task_history.specs.declared.record.Event.{Event}
use Rattle.task_history.specs.declared.record.Event.TheVariants.{Post, Recv}
use Rattle.task_history.specs.Lists.{listed, tasks, outs, receives, post_of, receive_of, is_asked, asks_it}
use Rattle.isolate_meaning.specs.State.{ended, Isolate, fresh}
use Rattle.isolate_meaning.specs.Does.{Does, HostStop}
use Rattle.isolate_meaning.specs.Replay.{Replay, Stands}
use Rattle.isolate_meaning.specs.Known.{NamesKnown, IsKnown}
use Rattle.isolate_meaning.proofs.Replays.{replay_more, task_of_entry, stands_itself}
use Rattle.isolate_meaning.proofs.Ends.{by_host_task, told_by_journal}
use Rattle.host_meaning.specs.Course.{Worker, idle}
use Rattle.host_meaning.specs.Lawful.{IsCaused, IsCausedBy}
use Rattle.host_laws.specs.Courses.{IsBeside}
pub use Rattle.host_laws.specs.Stays.{with_entry}
use Rattle.host_laws.proofs.Lists.{none_there, by_quiet, posts_post_here, receives_more, receive_here, is_asked_more, still_asked}
use Rattle.host_laws.proofs.Causes.{caused_push, caused_grown}

-- ---- known tasks stay known

names_more : (heard more : List Out) (wanted : TaskKind) → NamesKnown heard wanted → NamesKnown (heard ++ more) wanted
names_more heard more kind.Context known = tt
names_more heard more (kind.Compile text) known = tt
names_more heard more (kind.Run script context want) known = known
names_more heard more (kind.Eval context text want) known = (known.0, (known.1.0, Contains-append_left heard more (Reply known.1.0 (outcome.Context context known.0)) known.1.1))
names_more heard more (kind.Act row act) known = (known.0, (known.1.0, Contains-append_left heard more (Reply known.1.0 (outcome.Context known.0 row)) known.1.1))
names_more heard more (kind.Resume promise answer) known = known

pub known_more : (heard more : List Out) (task : Task) → IsKnown heard task → IsKnown (heard ++ more) task
known_more heard more task known = record { sound = known.sound; names = names_more heard more task.kind known.names }

-- ---- the beginning

pub beside_idle : (i limit : ℕ) → IsBeside i limit [] (idle i limit)
beside_idle i limit = record {
  replays = refl;
  posted = refl;
  told = refl;
  stop = λ e. absurd (cc e);
  caused = tt;
  known = λ task there. absurd (none_there task there);
}

-- ---- events of the host

-- whoever was asked after an event that asks nobody was asked before
pub asked_quiet : (i : ℕ) (history : List Event) (event : Event) → asks_it i event ≡ false → is_asked i (history ++ event ∷ []) ≡ true → is_asked i history ≡ true
asked_quiet i history event quiet asked =
    let parts = is_asked_more i history (event ∷ []) in
    grind (arith, parts, quiet, asked)

-- an event that is none of this isolate's
pub beside_quiet : (i limit : ℕ) (history : List Event) (event : Event) (worker : Worker) → post_of i event ≡ [] → receive_of i event ≡ [] → IsCausedBy i worker.journal history event
    → IsBeside i limit history worker → IsBeside i limit (history ++ event ∷ []) worker
beside_quiet i limit history event worker no_post no_receipt by beside =
    let heard : receives i (history ++ event ∷ []) ≡ receives i history = by_quiet (receive_of i) history event no_receipt in
    record {
      replays = beside.replays;
      posted = by_quiet (post_of i) history event no_post ∙ beside.posted;
      told = beside.told ∙ ap (λ x. x ++ worker.sent) (sym heard);
      stop = λ by_host. still_asked i history (event ∷ []) (beside.stop by_host);
      caused = caused_push i worker.journal history event by beside.caused;
      known = λ task there. subst (λ x. IsKnown x task) (sym heard) (beside.known task there);
    }

-- a task that is posted to it waits
pub beside_post : (i limit : ℕ) (history : List Event) (task : Task) (worker : Worker) → IsKnown (receives i history) task
    → IsBeside i limit history worker → IsBeside i limit (history ++ Post i task ∷ []) (record worker { waiting = worker.waiting ++ task ∷ [] })
beside_post i limit history task worker known beside =
    let heard : receives i (history ++ Post i task ∷ []) ≡ receives i history = by_quiet (receive_of i) history (Post i task) refl in
    record {
      replays = beside.replays;
      posted = posts_post_here i history task ∙ ap (λ x. x ++ task ∷ []) beside.posted ∙ append_assoc (tasks worker.journal) worker.waiting (task ∷ []);
      told = beside.told ∙ ap (λ x. x ++ worker.sent) (sym heard);
      stop = λ by_host. still_asked i history (Post i task ∷ []) (beside.stop by_host);
      caused = caused_push i worker.journal history (Post i task) tt beside.caused;
      known = λ other there. subst (λ x. IsKnown x other) (sym heard)
          (elim (Contains-push_cases worker.waiting task other there) as (λ x. IsKnown (receives i history) other) [
            | inl before ↦ beside.known other before
            | inr same ↦ subst (λ x. IsKnown (receives i history) x) same known
          ]);
    }

-- ---- a receipt

tasks_before : (front rest : List Entry) (entry : Entry) → length (tasks (front ++ entry ∷ [])) ≤ length (tasks (front ++ entry ∷ rest))
tasks_before front rest entry =
    let a = ap (λ x. length (tasks x)) (append_assoc front (entry ∷ []) rest) in
    let b = ap length (flat_map-append (λ (e : Entry). listed e.task) (front ++ entry ∷ []) rest) in
    let c = length-append (tasks (front ++ entry ∷ [])) (tasks rest) in
    grind (arith, a, b, c)

-- whatever of a journal is received next has its cause
caused_next : (i limit : ℕ) (history : List Event) (worker : Worker) → IsBeside i limit history worker → IsCaused i worker.journal history
caused_next i limit history worker beside front entry stands =
    let few = tasks_before front stands.rest entry in
    let whole = ap (λ x. length (tasks x)) stands.whole in
    let posted = ap length beside.posted in
    let parts = length-append (tasks worker.journal) worker.waiting in (
      grind (arith, few, whole, posted, parts),
      λ is. beside.stop (told_by_journal (fresh i limit) worker.isolate front stands.rest entry Host (subst (λ j. Replay (fresh i limit) j worker.isolate) stands.whole beside.replays) is),
    )

-- the first out that it sent is received
pub beside_receive : (i limit : ℕ) (history : List Event) (out : Out) (later : List Out) (worker : Worker) → worker.sent ≡ out ∷ later
    → IsBeside i limit history worker → IsBeside i limit (history ++ Recv i out ∷ []) (record worker { sent = later })
beside_receive i limit history out later worker first beside =
    let heard : receives i (history ++ Recv i out ∷ []) ≡ receives i history ++ out ∷ [] = receives_more i history (Recv i out ∷ []) ∙ ap (λ x. receives i history ++ x) (receive_here i out) in
    record {
      replays = beside.replays;
      posted = by_quiet (post_of i) history (Recv i out) refl ∙ beside.posted;
      told = beside.told ∙ ap (λ x. receives i history ++ x) first ∙ sym (append_assoc (receives i history) (out ∷ []) later) ∙ ap (λ x. x ++ later) (sym heard);
      stop = λ by_host. still_asked i history (Recv i out ∷ []) (beside.stop by_host);
      caused = caused_push i worker.journal history (Recv i out) (λ e. caused_next i limit history worker beside) beside.caused;
      known = λ task there. subst (λ x. IsKnown x task) (sym heard) (known_more (receives i history) (out ∷ []) task (beside.known task there));
    }

-- ---- entries

beside_entry : (i limit : ℕ) (history : List Event) (worker : Worker) (isolate : Isolate) (entry : Entry) (later : List Task) → Stands entry.task worker.isolate isolate entry
    → worker.waiting ≡ listed entry.task ++ later → (isolate.state ≡ ended Host → is_asked i history ≡ true)
    → IsBeside i limit history worker → IsBeside i limit history (with_entry worker isolate entry later)
beside_entry i limit history worker isolate entry later stands first stop beside =
    let told = ap length beside.told in
    let parts = length-append (receives i history) worker.sent in
    let few : length (receives i history) ≤ length (outs worker.journal) = grind (arith, told, parts) in
    let more : tasks (worker.journal ++ entry ∷ []) ≡ tasks worker.journal ++ listed entry.task =
    flat_map-append (λ (e : Entry). listed e.task) worker.journal (entry ∷ []) ∙ ap (λ x. tasks worker.journal ++ x) (append-nil (listed entry.task)) in
    record {
      replays = replay_more (fresh i limit) worker.isolate isolate worker.journal entry beside.replays stands;
      posted = beside.posted ∙ ap (λ x. tasks worker.journal ++ x) first ∙ sym (append_assoc (tasks worker.journal) (listed entry.task) later) ∙ ap (λ x. x ++ later) (sym more);
      told = flat_map-append (λ (e : Entry). e.outs) worker.journal (entry ∷ []) ∙ ap (λ x. outs worker.journal ++ x) (append-nil entry.outs)
          ∙ ap (λ x. x ++ entry.outs) beside.told ∙ append_assoc (receives i history) worker.sent entry.outs;
      stop = stop;
      caused = caused_grown i worker.journal (entry ∷ []) [] history few beside.caused;
      known = λ task there. beside.known task (subst (λ x. Contains x task) (sym first) (Contains-append_right (listed entry.task) later task there));
    }

-- the first task that waits is carried out
pub beside_perform : (i limit : ℕ) (history : List Event) (worker : Worker) (task : Task) (later : List Task) (isolate : Isolate) (entry : Entry) → worker.waiting ≡ task ∷ later → Does task worker.isolate isolate entry
    → IsBeside i limit history worker → IsBeside i limit history (with_entry worker isolate entry later)
beside_perform i limit history worker task later isolate entry first does beside =
    beside_entry i limit history worker isolate entry later (stands_itself (Some task) worker.isolate isolate entry does)
    (first ∙ ap (λ x. listed x ++ later) (sym (task_of_entry (Some task) worker.isolate isolate entry does))) (λ by_host. beside.stop (by_host_task task worker.isolate isolate entry does by_host)) beside

-- it was asked to stop, and does
pub beside_stop : (i limit : ℕ) (history : List Event) (worker : Worker) (isolate : Isolate) (entry : Entry) → is_asked i history ≡ true → HostStop worker.isolate isolate entry
    → IsBeside i limit history worker → IsBeside i limit history (with_entry worker isolate entry worker.waiting)
beside_stop i limit history worker isolate entry asked stop beside =
    beside_entry i limit history worker isolate entry worker.waiting (stands_itself None worker.isolate isolate entry stop)
    (ap (λ x. listed x ++ worker.waiting) (sym (task_of_entry None worker.isolate isolate entry stop))) (λ by_host. asked) beside
