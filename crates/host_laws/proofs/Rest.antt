-- A course that has come to rest: its record is lawful. And a task that waits fits, at any time.
use Rattle.std.proofs.Common.{◌≡◌, ℕ, suc, zero, ◌<◌, ◌≤◌, ◌==◌, ◌&&◌, ◌||◌, not, nat_le, Bool, false, Option, None, arith, List, [], ◌∷◌, ◌++◌, length, map, true, Some, refl, subst, sym, ap, ◌∙◌, inl, inr, append-nil, slice_get, slice_index_or}
use Rattle.std.proofs.lemmas.Bool.{cases_lt}
use Rattle.std.proofs.lemmas.List.{length-map}
use Rattle.std.specs.List.{Contains}
use Rattle.task_history.specs.declared.task.Task.{Task}
use Rattle.task_history.specs.declared.record.Entry.{Entry}
use Rattle.task_history.specs.declared.record.Event.{Event}
use Rattle.task_history.specs.Lists.{listed, posts, receives, tasks, outs, replies, is_asked, has_ended, journal_at}
use Rattle.isolate_meaning.specs.State.{fresh}
use Rattle.isolate_meaning.specs.Fits.{Fits}
use Rattle.isolate_meaning.specs.Laws.{calls}
use Rattle.isolate_meaning.proofs.Replies.{replies_of_journal}
use Rattle.isolate_meaning.proofs.Ends.{ended_of_journal}
use Rattle.isolate_meaning.proofs.Told.{known_fits}
use Rattle.host_syntax.specs.declared.script.HostScript.{HostScript}
use Rattle.host_syntax.specs.Whole.{IsWhole}
use Rattle.host_meaning.specs.Stand.{Stand, place, drawn, is_settled}
use Rattle.host_meaning.specs.Machine.{replies_of, has_answered, have_answered, is_finished, NoneLeft}
use Rattle.host_meaning.specs.Course.{Worker, Scene, Course, IsAtRest, idle, record_of}
use Rattle.host_meaning.specs.Lawful.{IsLawful}
use Rattle.host_laws.specs.Courses.{IsBeside, AreBeside, NextTasksFit}
use Rattle.host_laws.specs.Finished.{HasDone, AllHaveDone}
use Rattle.host_laws.proofs.Lists.{contains_at}
use Rattle.host_laws.proofs.Accounted.{IsAnswered, accounted}
use Rattle.host_laws.proofs.Entries.{call_there, contains_head}
use Rattle.host_laws.proofs.Workers.{worker_at, limit_at, limit_is, get_within, worker_past}
use Rattle.host_laws.proofs.AnyOrder.{Holds, holds_course, beside_at}
use Rattle.host_laws.proofs.Numbers.{each_all_settled, none_left_when_all_settled}
use Rattle.host_laws.proofs.Finished.{done_ended, finished_lawful}
use Rattle.host_laws.proofs.Stays.{done_at_rest}

-- ---- a task that waits

pub first_fits : (script : HostScript) (scene : Scene) (i : ℕ) (worker : Worker) (task : Task) (later : List Task) → IsWhole script → Course script scene
    → slice_get scene.workers i ≡ Some worker → worker.waiting ≡ task ∷ later → Fits worker.isolate.state task
first_fits script scene i worker task later whole course at first =
    let beside = beside_at script scene i worker (holds_course script scene whole course) at in
    let known = beside.known task (subst (λ x. Contains x task) (sym first) (contains_head task task later refl)) in
    known_fits (fresh i (limit_at script.isolates i)) worker.isolate worker.journal beside.replays (receives i scene.stand.history) worker.sent task beside.told known

pub next_fit : (script : HostScript) (scene : Scene) → IsWhole script → Course script scene → NextTasksFit scene
next_fit script scene whole course i worker task later at first = first_fits script scene i worker task later whole course at first

-- ---- each isolate beside the host

pub course_beside : (script : HostScript) (scene : Scene) → IsWhole script → Course script scene → AreBeside script scene
course_beside script scene whole course i limit worker at is =
    subst (λ m. IsBeside i m scene.stand.history worker) (limit_is script i limit is) (beside_at script scene i worker (holds_course script scene whole course) at)

-- ---- at rest

each_at : (P : Worker → Type 0) (workers : List Worker) → ((i : ℕ) (worker : Worker) → slice_get workers i ≡ Some worker → P worker) → ((i : ℕ) → P (idle i 0)) → (i : ℕ) → P (worker_at workers i)
each_at P workers there past i =
    elim (cases_lt i (length workers)) as (λ x. P (worker_at workers i)) [
      | inl l ↦ there i (worker_at workers i) (get_within workers i l)
      | inr l ↦ subst P (sym (worker_past workers i l)) (past i)
    ]

journal_by : (workers : List Worker) (i : ℕ) (d : Worker) → d.journal ≡ [] → slice_index_or (map (λ (w : Worker). w.journal) workers) i [] ≡ (slice_index_or workers i d).journal
journal_by [] i d e = sym e
journal_by (w ∷ workers) zero d e = refl
journal_by (w ∷ workers) (suc i) d e = journal_by workers i d e

-- an isolate at rest beside a history: all that was posted was carried out, and all that it sent was received
record Rested (i limit : ℕ) (history : List Event) (worker : Worker) : Type 0 where
  pub beside : IsBeside i limit history worker
  pub none_wait : worker.waiting ≡ []
  pub none_sent : worker.sent ≡ []

rested_posts : (i limit : ℕ) (history : List Event) (worker : Worker) → Rested i limit history worker → tasks worker.journal ≡ posts i history
rested_posts i limit history worker rested = sym (rested.beside.posted ∙ ap (λ x. tasks worker.journal ++ x) rested.none_wait ∙ append-nil (tasks worker.journal))

rested_receives : (i limit : ℕ) (history : List Event) (worker : Worker) → Rested i limit history worker → receives i history ≡ outs worker.journal
rested_receives i limit history worker rested = sym (rested.beside.told ∙ ap (λ x. receives i history ++ x) rested.none_sent ∙ append-nil (receives i history))

-- its replies name the calls of its journal
rested_calls : (i limit : ℕ) (history : List Event) (worker : Worker) → Rested i limit history worker → replies (receives i history) ≡ calls worker.journal
rested_calls i limit history worker rested =
    ap replies (rested_receives i limit history worker rested) ∙ replies_of_journal (fresh i limit) worker.isolate worker.journal rested.beside.replays

rested_answers : (stand : Stand) (i limit n : ℕ) (worker : Worker) (task : Task) → Rested i limit stand.history worker → IsAnswered stand → Contains (posts i stand.history) task → task.call ≡ Some n → is_settled stand n ≡ true
rested_answers stand i limit n worker task rested answered there named =
    answered i n (subst (λ x. Contains x (Some n)) (sym (rested_calls i limit stand.history worker rested))
    (call_there worker.journal task n (subst (λ x. Contains x task) (sym (rested_posts i limit stand.history worker rested)) there) named))

both : {a b : Bool} → a ≡ true → b ≡ true → (a && b) ≡ true
both {a} {b} left right = ap (λ x. x && b) left ∙ right

asked_over : (asked over : Bool) → (asked ≡ true → over ≡ true) → (not asked || over) ≡ true
asked_over true over ends = ends refl
asked_over false over ends = refl

-- a journal has at most as many tasks as calls, one an entry
tasks_called : (journal : List Entry) → length (tasks journal) ≤ length (calls journal)
tasks_called [] = grind arith
tasks_called (entry ∷ journal) = more entry.task (tasks_called journal)
  where
    more : (task : Option Task) → length (tasks journal) ≤ length (calls journal) → length (listed task ++ tasks journal) ≤ suc (length (calls journal))
    more None few = grind (arith, few)
    more (Some task) few = grind (arith, few)

module _ (script : HostScript) (scene : Scene) (holds : Holds script scene) (rest : IsAtRest scene) where
  rested : (i : ℕ) → Rested i (limit_at script.isolates i) scene.stand.history (worker_at scene.workers i)
  rested i = record {
    beside = holds.beside i;
    none_wait = each_at (λ w. w.waiting ≡ []) scene.workers rest.none_wait (λ k. refl) i;
    none_sent = each_at (λ w. w.sent ≡ []) scene.workers rest.none_sent (λ k. refl) i;
  }

  each_settled : (n : ℕ) → n < drawn scene.stand → is_settled scene.stand n ≡ true
  each_settled n l =
      elim (accounted script scene.stand holds.run n l) as (λ x. is_settled scene.stand n ≡ true) [
        | inl settled ↦ settled
        | inr is ↦ rested_answers scene.stand is.isolate (limit_at script.isolates is.isolate) n (worker_at scene.workers is.isolate) is.task (rested is.isolate) holds.answered
            (contains_at (posts is.isolate scene.stand.history) is.place is.task is.at) is.named
      ]

  journal_is : (i : ℕ) → journal_at (record_of scene).isolates i ≡ (worker_at scene.workers i).journal
  journal_is i = journal_by scene.workers i (idle i 0) refl

  has_done : (i : ℕ) → HasDone i (limit_at script.isolates i) scene.stand.history (worker_at scene.workers i).journal
  has_done i = done_at_rest i (limit_at script.isolates i) (worker_at scene.workers i) scene.stand.history (rested i).none_wait (rested i).none_sent (rested i).beside

  all_have_done : AllHaveDone script scene.stand.history (record_of scene).isolates
  all_have_done i limit is =
      subst (λ j. HasDone i limit scene.stand.history j) (sym (journal_is i))
      (subst (λ m. HasDone i m scene.stand.history (worker_at scene.workers i).journal) (limit_is script i limit is) (has_done i))

  -- an isolate that was asked to stop has told its end
  told_end : (i : ℕ) → is_asked i scene.stand.history ≡ true → has_ended i scene.stand.history ≡ true
  told_end i asked =
      let worker = worker_at scene.workers i in
      let l : i < length scene.workers = subst (λ n. i < n) (sym holds.count) (holds.within i asked) in
      sym (done_ended i (limit_at script.isolates i) scene.stand.history worker.journal (has_done i))
      ∙ ended_of_journal i (limit_at script.isolates i) worker.journal worker.isolate (holds.beside i).replays
      ∙ rest.ended i worker (get_within scene.workers i l) asked

  answered : (i : ℕ) → has_answered scene.stand.history i ≡ true
  answered i =
      let worker = worker_at scene.workers i in
      let few = tasks_called worker.journal in
      let posted = ap length (rested_posts i (limit_at script.isolates i) scene.stand.history worker (rested i)) in
      let replied = ap length (rested_calls i (limit_at script.isolates i) scene.stand.history worker (rested i)) in
      let enough : nat_le (length (posts i scene.stand.history)) (replies_of i scene.stand.history) ≡ true = grind (arith, few, posted, replied) in
      both enough (asked_over (is_asked i scene.stand.history) (has_ended i scene.stand.history) (told_end i))

  all_answered : (n : ℕ) → have_answered scene.stand.history n ≡ true
  all_answered zero = refl
  all_answered (suc n) = both (all_answered n) (answered n)

  finished : is_finished scene.stand ≡ true
  finished =
      let none_left : NoneLeft scene.stand = none_left_when_all_settled script scene.stand holds.run each_settled rest.blocked in
      let placed : (place scene.stand == length scene.stand.script.commands) ≡ true = grind (arith, none_left) in
      both (both placed (each_all_settled scene.stand each_settled)) (all_answered (length scene.stand.script.isolates))

  -- so the record of a course at rest is that of a host that has finished
  pub at_rest : IsWhole script → IsLawful script (record_of scene)
  at_rest whole =
      finished_lawful script scene.stand (record_of scene).isolates whole holds.run finished
      (length-map scene.workers (λ (w : Worker). w.journal) ∙ holds.count) all_have_done

pub course_is_lawful : (script : HostScript) (scene : Scene) → IsWhole script → Course script scene → IsAtRest scene → IsLawful script (record_of scene)
course_is_lawful script scene whole course rest = at_rest script scene (holds_course script scene whole course) rest whole
