-- The run on one thread is a course, and at rest between its commands.
use Rattle.std.proofs.Common.{◌≡◌, ◌≢◌, ℕ, suc, zero, ◌<◌, List, [], ◌∷◌, ◌++◌, length, true, ◌||◌, Some, refl, subst, sym, ap, ◌∙◌, arith, inl, inr, slice_get, slice_set}
use Rattle.std.proofs.lemmas.Bool.{or_cases, eqb-true}
use Rattle.std.proofs.lemmas.Option.{slice_get_within}
use Rattle.std.proofs.lemmas.List.{set-set}
use Rattle.task_history.specs.declared.task.Task.{Task}
use Rattle.task_history.specs.declared.task.Own.TheVariants.{Disposed}
use Rattle.task_history.specs.declared.outcome.Out.{Out}
use Rattle.task_history.specs.declared.record.Entry.{Entry}
use Rattle.task_history.specs.declared.record.Event.{Event}
use Rattle.task_history.specs.declared.record.Event.TheVariants.{Post, Ask, Settle}
use Rattle.task_history.specs.declared.record.Settlement.TheVariants as how
use Rattle.task_history.specs.Lists.{is_asked, is_disposal}
use Rattle.isolate_meaning.specs.State.{Isolate, is_ended}
use Rattle.isolate_meaning.proofs.Ends.{ended_by_entry, stop_ends}
use Rattle.host_syntax.specs.declared.script.HostScript.{HostScript}
use Rattle.host_meaning.specs.declared.moves.Move.TheVariants as move
use Rattle.host_meaning.specs.Stand.{Stand, drawn}
use Rattle.host_meaning.specs.Machine.{turn, received, received_all}
use Rattle.host_meaning.specs.Course.{Worker, Scene, opening, Course, IsAtRest}
use Rattle.host_meaning.specs.Course.Course.{opens, moves}
use Rattle.host_meaning.specs.Course.Moves.{host_turns, host_posts, host_asks, performs, stops, receives as receives_first}
use Rattle.host_meaning.specs.OneThread.{after_entry, PostsAtOnce, StopsAtOnce, AsksTheEnded, OneCommand, OneThread}
use Rattle.host_meaning.specs.OneThread.OneCommand.{own, posts, stops as stops_one, asks_ended}
use Rattle.host_meaning.specs.OneThread.OneThread.{opens as opens_one, goes}
use Rattle.host_laws.proofs.Lists.{is_asked_more, is_asked_received_all}
use Rattle.host_laws.proofs.Targets.{turn_post, turn_ask, own_cases}
use Rattle.host_laws.proofs.Workers.{scene_with, worker_at, idle_at, worker_is, get_set, each_set}
use Rattle.host_laws.proofs.Beside.{asked_quiet}

-- ---- all that an isolate sent is received

set_same : (workers : List Worker) (i : ℕ) (worker : Worker) → slice_get workers i ≡ Some worker → slice_set workers i worker ≡ workers
set_same [] i worker at = refl
set_same (w ∷ workers) zero worker at = let same : w ≡ worker = cc in ap (λ x. x ∷ workers) (sym same)
set_same (w ∷ workers) (suc i) worker at = ap (λ x. w ∷ x) (set_same workers i worker at)

abbrev with_sent : Worker → List Out → Worker
with_sent worker sent = record { isolate = worker.isolate; journal = worker.journal; waiting = worker.waiting; sent = sent }

pub receives_all : (script : HostScript) (i : ℕ) (sent : List Out) (stand : Stand) (workers : List Worker) (worker : Worker) → slice_get workers i ≡ Some worker → worker.sent ≡ sent
    → Course script (scene_with stand workers) → Course script (scene_with (received_all stand i sent) (slice_set workers i (with_sent worker [])))
receives_all script i [] stand workers worker at is course =
    let same : with_sent worker [] ≡ worker = ap (with_sent worker) (sym is) in
    subst (λ x. Course script (scene_with stand x)) (sym (set_same workers i worker at) ∙ ap (slice_set workers i) (sym same)) course
receives_all script i (out ∷ sent) stand workers worker at is course =
    let new : Worker = with_sent worker sent in
    let heard : Scene = scene_with (received stand i out) (slice_set workers i new) in
    let first : Course script heard = moves course (receives_first (record { i = i; worker = worker; at = at; out = out; later = sent; first = is; now = refl })) in
    let rest : Course script (scene_with (received_all (received stand i out) i sent) (slice_set (slice_set workers i new) i (with_sent new []))) =
    receives_all script i sent (received stand i out) (slice_set workers i new) new (get_set workers i new (slice_get_within workers i worker at)) refl first in
    subst (λ x. Course script (scene_with (received_all (received stand i out) i sent) x)) (set-set workers i new (with_sent worker [])) rest

-- ---- one command

-- an isolate between two commands
pub record IsReady (i : ℕ) (history : List Event) (worker : Worker) : Type 0 where
  pub none_wait : worker.waiting ≡ []
  pub none_sent : worker.sent ≡ []
  pub ended : is_asked i history ≡ true → is_ended worker.isolate.state ≡ true

abbrev pub AreReady : Scene → Type 0
AreReady scene = (i : ℕ) → IsReady i scene.stand.history (worker_at scene.workers i)

ready_at : (scene : Scene) (i : ℕ) (worker : Worker) → AreReady scene → slice_get scene.workers i ≡ Some worker → IsReady i scene.stand.history worker
ready_at scene i worker ready at = subst (λ w. IsReady i scene.stand.history w) (worker_is scene.workers i worker at) (ready i)

-- after an event that asks nobody, an isolate is as ready as it was
ready_later : (i : ℕ) (history next : List Event) (worker : Worker) → (is_asked i next ≡ true → is_asked i history ≡ true) → IsReady i history worker → IsReady i next worker
ready_later i history next worker back ready = record { none_wait = ready.none_wait; none_sent = ready.none_sent; ended = λ asked. ready.ended (back asked) }

-- the scene of a command after which all that its isolate sent is received
after_one : (script : HostScript) (stand : Stand) (workers : List Worker) (i : ℕ) (worker middle : Worker) (isolate : Isolate) (entry : Entry) → slice_get workers i ≡ Some worker → worker.sent ≡ []
    → Course script (scene_with stand (slice_set (slice_set workers i middle) i (record { isolate = isolate; journal = worker.journal ++ entry ∷ []; waiting = []; sent = worker.sent ++ entry.outs })))
    → Course script (scene_with (received_all stand i entry.outs) (slice_set workers i (after_entry worker isolate entry)))
after_one script stand workers i worker middle isolate entry at none course =
    let new : Worker = record { isolate = isolate; journal = worker.journal ++ entry ∷ []; waiting = []; sent = worker.sent ++ entry.outs } in
    let l : i < length workers = slice_get_within workers i worker at in
    let once : Course script (scene_with stand (slice_set workers i new)) = subst (λ x. Course script (scene_with stand x)) (set-set workers i middle new) course in
    let all : Course script (scene_with (received_all stand i entry.outs) (slice_set (slice_set workers i new) i (with_sent new []))) =
    receives_all script i entry.outs stand (slice_set workers i new) new (get_set workers i new l) (ap (λ x. x ++ entry.outs) none) once in
    subst (λ x. Course script (scene_with (received_all stand i entry.outs) x)) (set-set workers i new (with_sent new [])) all

posts_course : (script : HostScript) (old new : Scene) → Course script old → AreReady old → PostsAtOnce old new → Course script new
posts_course script old new course ready m =
    let stand = (turn old.stand).1 in
    let waits : Worker = record m.worker { waiting = m.worker.waiting ++ m.task ∷ [] } in
    let is = ready_at old m.i m.worker ready m.at in
    let posted : Course script (scene_with stand (slice_set old.workers m.i waits)) =
    moves course (host_posts (record { i = m.i; task = m.task; posts = m.posts; worker = m.worker; at = m.at; now = refl })) in
    let done : Course script (scene_with stand (slice_set (slice_set old.workers m.i waits) m.i (record { isolate = m.isolate; journal = m.worker.journal ++ m.entry ∷ []; waiting = []; sent = m.worker.sent ++ m.entry.outs }))) =
    moves posted (performs (record {
      i = m.i;
      worker = waits;
      at = get_set old.workers m.i waits (slice_get_within old.workers m.i m.worker m.at);
      task = m.task;
      later = [];
      first = ap (λ x. x ++ m.task ∷ []) is.none_wait;
      isolate = m.isolate;
      entry = m.entry;
      does = m.does;
      now = refl;
    })) in
    subst (Course script) (sym m.now) (after_one script stand old.workers m.i m.worker waits m.isolate m.entry m.at is.none_sent done)

asked_here : (history : List Event) (i : ℕ) → is_asked i (history ++ Ask i ∷ []) ≡ true
asked_here history i = let parts = is_asked_more i history (Ask i ∷ []) in grind (arith, parts)

stops_course : (script : HostScript) (old new : Scene) → Course script old → AreReady old → StopsAtOnce old new → Course script new
stops_course script old new course ready m =
    let stand = (turn old.stand).1 in
    let is = ready_at old m.i m.worker ready m.at in
    let turned : Course script (scene_with stand old.workers) = moves course (host_asks (record { i = m.i; asks = m.asks; now = refl })) in
    let asked : is_asked m.i stand.history ≡ true = ap (λ (s : Stand). is_asked m.i s.history) (turn_ask old.stand m.i m.asks) ∙ asked_here old.stand.history m.i in
    let last : Worker = record { isolate = m.isolate; journal = m.worker.journal ++ m.entry ∷ []; waiting = m.worker.waiting; sent = m.worker.sent ++ m.entry.outs } in
    let done : Course script (scene_with stand (slice_set old.workers m.i last)) =
    moves turned (stops (record { i = m.i; asked = asked; worker = m.worker; at = m.at; isolate = m.isolate; entry = m.entry; stop = m.stop; now = refl })) in
    let bare : Course script (scene_with stand (slice_set (slice_set old.workers m.i m.worker) m.i (record { isolate = m.isolate; journal = m.worker.journal ++ m.entry ∷ []; waiting = []; sent = m.worker.sent ++ m.entry.outs }))) =
    subst (λ x. Course script (scene_with stand x))
    (ap (λ x. slice_set old.workers m.i (record { isolate = m.isolate; journal = m.worker.journal ++ m.entry ∷ []; waiting = x; sent = m.worker.sent ++ m.entry.outs })) is.none_wait
    ∙ sym (set-set old.workers m.i m.worker (record { isolate = m.isolate; journal = m.worker.journal ++ m.entry ∷ []; waiting = []; sent = m.worker.sent ++ m.entry.outs }))) done in
    subst (Course script) (sym m.now) (after_one script stand old.workers m.i m.worker m.worker m.isolate m.entry m.at is.none_sent bare)

command_course : (script : HostScript) (old new : Scene) → Course script old → AreReady old → OneCommand old new → Course script new
command_course script old new course ready (own is now) = moves course (host_turns (record { own = is; now = now }))
command_course script old new course ready (posts m) = posts_course script old new course ready m
command_course script old new course ready (stops_one m) = stops_course script old new course ready m
command_course script old new course ready (asks_ended m) = moves course (host_asks (record { i = m.i; asks = m.asks; now = m.now }))

-- ---- between two commands

-- whoever is asked after a post was asked before
asked_post : (stand : Stand) (i j : ℕ) (task : Task) (sent : List Out) → (turn stand).0 ≡ move.Post i task → is_asked j (received_all (turn stand).1 i sent).history ≡ true → is_asked j stand.history ≡ true
asked_post stand i j task sent is asked =
    asked_quiet j stand.history (Post i task) refl
    (ap (λ (s : Stand). is_asked j s.history) (sym (turn_post stand i task is)) ∙ sym (is_asked_received_all (turn stand).1 i j sent) ∙ asked)

-- whoever else is asked after an ask was asked before
asked_other : (stand : Stand) (i j : ℕ) (sent : List Out) → (turn stand).0 ≡ move.Ask i → j ≢ i → is_asked j (received_all (turn stand).1 i sent).history ≡ true → is_asked j stand.history ≡ true
asked_other stand i j sent is other asked =
    let now : is_asked j (stand.history ++ Ask i ∷ []) ≡ true = ap (λ (s : Stand). is_asked j s.history) (sym (turn_ask stand i is)) ∙ sym (is_asked_received_all (turn stand).1 i j sent) ∙ asked in
    elim (or_cases (is_asked j stand.history) (is_asked j (Ask i ∷ [])) (sym (is_asked_more j stand.history (Ask i ∷ [])) ∙ now)) as (λ x. is_asked j stand.history ≡ true) [
      | inl before ↦ before
      | inr here ↦ (let same : j ≡ i = eqb-true j i (grind (arith, here)) in absurd (other same))
    ]

ready_own : (old : Scene) → AreReady old → (turn old.stand).0 ≡ move.Own → AreReady (scene_with (turn old.stand).1 old.workers)
ready_own old ready is = own_cases old.stand (λ s. AreReady (scene_with s old.workers)) is ready
    (λ i. ready_later i old.stand.history (old.stand.history ++ Settle (drawn old.stand) (how.Own Disposed) ∷ []) (worker_at old.workers i)
    (asked_quiet i old.stand.history (Settle (drawn old.stand) (how.Own Disposed)) refl) (ready i))

ready_posts : (old new : Scene) → AreReady old → PostsAtOnce old new → AreReady new
ready_posts old new ready m =
    let stand = received_all (turn old.stand).1 m.i m.entry.outs in
    let is = ready_at old m.i m.worker ready m.at in
    let here : IsReady m.i stand.history (after_entry m.worker m.isolate m.entry) = record {
      none_wait = refl;
      none_sent = refl;
      ended = λ asked.
          (let before : is_ended m.worker.isolate.state ≡ true = is.ended (asked_post old.stand m.i m.i m.task m.entry.outs m.posts asked) in
          sym (ended_by_entry (Some m.task) m.worker.isolate m.isolate m.entry m.does) ∙ ap (λ b. b || is_disposal m.entry.outcome) before);
    } in
    subst AreReady (sym m.now) (each_set (λ j w. IsReady j stand.history w) old.workers m.i (after_entry m.worker m.isolate m.entry) (slice_get_within old.workers m.i m.worker m.at) here
    (λ j other. ready_later j old.stand.history stand.history (worker_at old.workers j) (asked_post old.stand m.i j m.task m.entry.outs m.posts) (ready j)))

ready_stops : (old new : Scene) → AreReady old → StopsAtOnce old new → AreReady new
ready_stops old new ready m =
    let stand = received_all (turn old.stand).1 m.i m.entry.outs in
    let here : IsReady m.i stand.history (after_entry m.worker m.isolate m.entry) = record {
      none_wait = refl;
      none_sent = refl;
      ended = λ asked. ap is_ended (stop_ends m.worker.isolate m.isolate m.entry m.stop);
    } in
    subst AreReady (sym m.now) (each_set (λ j w. IsReady j stand.history w) old.workers m.i (after_entry m.worker m.isolate m.entry) (slice_get_within old.workers m.i m.worker m.at) here
    (λ j other. ready_later j old.stand.history stand.history (worker_at old.workers j) (asked_other old.stand m.i j m.entry.outs m.asks other) (ready j)))

ready_asks : (old new : Scene) → AreReady old → AsksTheEnded old new → AreReady new
ready_asks old new ready m =
    let stand = (turn old.stand).1 in
    let is = ready_at old m.i m.worker ready m.at in
    let each : (j : ℕ) → IsReady j stand.history (worker_at (slice_set old.workers m.i m.worker) j) =
    each_set (λ j w. IsReady j stand.history w) old.workers m.i m.worker (slice_get_within old.workers m.i m.worker m.at)
    (record { none_wait = is.none_wait; none_sent = is.none_sent; ended = λ asked. m.is })
    (λ j other. ready_later j old.stand.history stand.history (worker_at old.workers j) (asked_other old.stand m.i j [] m.asks other) (ready j)) in
    subst AreReady (sym m.now) (subst (λ ws. AreReady (scene_with stand ws)) (set_same old.workers m.i m.worker m.at) each)

command_ready : (old new : Scene) → AreReady old → OneCommand old new → AreReady new
command_ready old new ready (own is now) = subst AreReady (sym now) (ready_own old ready is)
command_ready old new ready (posts m) = ready_posts old new ready m
command_ready old new ready (stops_one m) = ready_stops old new ready m
command_ready old new ready (asks_ended m) = ready_asks old new ready m

ready_opening : (script : HostScript) → AreReady (opening script)
ready_opening script i = subst (λ w. IsReady i [] w) (sym (idle_at script.isolates i))
    (record { none_wait = refl; none_sent = refl; ended = λ asked. let no : ⊥ = cc in absurd no })

-- ---- the whole run

pub one_thread_ready : (script : HostScript) (scene : Scene) → OneThread script scene → AreReady scene
one_thread_ready script scene opens_one = ready_opening script
one_thread_ready script next (goes {scene} run command) = command_ready scene next (one_thread_ready script scene run) command

pub one_thread_course : (script : HostScript) (scene : Scene) → OneThread script scene → Course script scene
one_thread_course script scene opens_one = opens
one_thread_course script next (goes {scene} run command) = command_course script scene next (one_thread_course script scene run) (one_thread_ready script scene run) command

-- where the host can't go on, all is at rest
pub one_thread_rests : (script : HostScript) (scene : Scene) → OneThread script scene → (turn scene.stand).0 ≡ move.Blocked → IsAtRest scene
one_thread_rests script scene run blocked =
    let ready = one_thread_ready script scene run in
    record {
      blocked = blocked;
      none_wait = λ i worker at. (ready_at scene i worker ready at).none_wait;
      none_sent = λ i worker at. (ready_at scene i worker ready at).none_sent;
      ended = λ i worker at asked. (ready_at scene i worker ready at).ended asked;
    }
