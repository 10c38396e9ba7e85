-- What holds of the host and its isolates after any moves.
use Rattle.std.proofs.Common.{◌≡◌, ◌≢◌, ℕ, ◌<◌, List, [], ◌∷◌, ◌++◌, length, true, Some, refl, subst, sym, ap, ◌∙◌, arith, inl, inr, append_assoc, slice_get, slice_set}
use Rattle.std.proofs.lemmas.Bool.{or_cases, eqb-true}
use Rattle.std.proofs.lemmas.Option.{slice_get_within}
use Rattle.std.proofs.lemmas.List.{length-set}
use Rattle.std.proofs.lemmas.List.Elements.{Contains-append_left, Contains-append_right}
use Rattle.std.specs.List.{Contains}
use Rattle.task_history.specs.declared.task.Task.{Task}
use Rattle.task_history.specs.declared.task.Own.TheVariants.{Disposed}
use Rattle.task_history.specs.declared.outcome.Outcome.{Outcome}
use Rattle.task_history.specs.declared.outcome.Out.{Out}
use Rattle.task_history.specs.declared.outcome.Out.TheVariants.{Reply}
use Rattle.task_history.specs.declared.record.Event.{Event}
use Rattle.task_history.specs.declared.record.Event.TheVariants.{Post, Recv, Ask, Settle}
use Rattle.task_history.specs.declared.record.Settlement.TheVariants as how
use Rattle.task_history.specs.Lists.{posts, receives, tasks, replies, reply_of, is_asked}
use Rattle.isolate_meaning.specs.State.{fresh}
use Rattle.isolate_meaning.specs.Laws.{calls}
use Rattle.isolate_meaning.proofs.Replies.{replies_of_journal}
use Rattle.host_syntax.specs.declared.script.HostScript.{HostScript}
use Rattle.host_syntax.specs.Whole.{IsWhole}
use Rattle.host_meaning.specs.declared.moves.Move.{Move}
use Rattle.host_meaning.specs.declared.moves.Move.TheVariants as move
use Rattle.host_meaning.specs.Stand.{Stand, drawn}
use Rattle.host_meaning.specs.Machine.{DoesCommand, HostRun, HostStep, turn, received, replies_of, MayReceive, IsReply}
use Rattle.host_meaning.specs.Machine.HostRun.{begins, goes}
use Rattle.host_meaning.specs.Machine.HostStep.{turns, receives_one}
use Rattle.host_meaning.specs.Course.{Worker, Scene, opening, Course, Moves}
use Rattle.host_meaning.specs.Course.Course.{opens, moves}
use Rattle.host_meaning.specs.Course.Moves.{host_turns, host_posts, host_asks, performs, stops, receives as receives_first}
use Rattle.host_laws.specs.Courses.{IsBeside}
use Rattle.host_laws.specs.Known.{IsServed}
use Rattle.host_laws.proofs.Turns.{received_cases, script_run}
use Rattle.host_laws.proofs.Lists.{other_if, place_of, is_asked_more, is_asked_received, replies_more}
use Rattle.host_laws.proofs.Entries.{run_at, task_there, contains_head}
use Rattle.host_laws.proofs.Beside.{with_entry, asked_quiet, beside_idle, beside_quiet, beside_post, beside_receive, beside_perform, beside_stop}
use Rattle.host_laws.proofs.Accounted.{IsPosted, IsAnswered, posted_are_drawn, answered_beginning, answered_turn, answered_received}
use Rattle.host_laws.proofs.Targets.{turn_post, turn_ask, own_cases, ask_within}
use Rattle.host_laws.proofs.Workers.{scene_with, worker_at, limit_at, idle_at, count_idle, worker_is, each_set}
use Rattle.host_laws.proofs.Sent.{replies_alone}
use Rattle.host_laws.proofs.Known.{posts_known}

pub record Holds (script : HostScript) (scene : Scene) : Type 0 where
  pub run : HostRun script scene.stand
  pub count : length scene.workers ≡ length script.isolates
  pub within : (i : ℕ) → is_asked i scene.stand.history ≡ true → i < length script.isolates
  pub answered : IsAnswered scene.stand
  pub beside : (i : ℕ) → IsBeside i (limit_at script.isolates i) scene.stand.history (worker_at scene.workers i)

-- ---- the beginning

pub holds_opening : (script : HostScript) → Holds script (opening script)
holds_opening script = record {
  run = begins;
  count = count_idle script.isolates 0;
  within = λ i asked. let no : ⊥ = cc in absurd no;
  answered = answered_beginning script;
  beside = λ i. subst (λ w. IsBeside i (limit_at script.isolates i) [] w) (sym (idle_at script.isolates i)) (beside_idle i (limit_at script.isolates i));
}

-- ---- moves of the host

step_to : (stand : Stand) (m : Move) → (turn stand).0 ≡ m → DoesCommand m → HostStep stand (turn stand).1
step_to stand m is does = turns (subst DoesCommand (sym is) does) refl

holds_own : (script : HostScript) (scene : Scene) → Holds script scene → (turn scene.stand).0 ≡ move.Own → Holds script (scene_with (turn scene.stand).1 scene.workers)
holds_own script scene holds own =
    let run : HostRun script (turn scene.stand).1 = goes holds.run (step_to scene.stand move.Own own tt) in
    own_cases scene.stand (λ s. HostRun script s → IsAnswered s → Holds script (scene_with s scene.workers)) own
    (λ run answered. record { run = run; count = holds.count; within = holds.within; answered = answered; beside = holds.beside })
    (λ run answered. record {
      run = run;
      count = holds.count;
      within = λ i asked. holds.within i (asked_quiet i scene.stand.history (Settle (drawn scene.stand) (how.Own Disposed)) refl asked);
      answered = answered;
      beside = λ i. beside_quiet i (limit_at script.isolates i) scene.stand.history (Settle (drawn scene.stand) (how.Own Disposed)) (worker_at scene.workers i) refl refl tt (holds.beside i);
    })
    run (answered_turn scene.stand holds.answered)

-- each isolate carries out what was posted to it, and is heard, in order
pub served : (script : HostScript) (scene : Scene) → Holds script scene → (i : ℕ) → IsServed i scene.stand.history
served script scene holds i =
    let worker = worker_at scene.workers i in
    let beside = holds.beside i in
    record { limit = limit_at script.isolates i; journal = worker.journal; replays = (worker.isolate, beside.replays); waiting = worker.waiting; posted = beside.posted; sent = worker.sent; heard = beside.told }

holds_post : (script : HostScript) (scene : Scene) (i : ℕ) (task : Task) (worker : Worker) → IsWhole script → Holds script scene → (turn scene.stand).0 ≡ move.Post i task → slice_get scene.workers i ≡ Some worker
    → Holds script (scene_with (turn scene.stand).1 (slice_set scene.workers i (record worker { waiting = worker.waiting ++ task ∷ [] })))
holds_post script scene i task worker whole holds posted at =
    let stand = scene.stand in
    let new : Worker = record worker { waiting = worker.waiting ++ task ∷ [] } in
    let run : HostRun script (turn stand).1 = goes holds.run (step_to stand (move.Post i task) posted tt) in
    let is = turn_post stand i task posted in
    let known = posts_known script stand whole holds.run (λ j _. served script scene holds j) i task posted in
    let l : i < length scene.workers = slice_get_within scene.workers i worker at in
    subst (λ s. Holds script (scene_with s (slice_set scene.workers i new))) (sym is) (record {
      run = subst (λ s. HostRun script s) is run;
      count = length-set scene.workers i new ∙ holds.count;
      within = λ j asked. holds.within j (asked_quiet j stand.history (Post i task) refl asked);
      answered = subst IsAnswered is (answered_turn stand holds.answered);
      beside = each_set (λ j w. IsBeside j (limit_at script.isolates j) (stand.history ++ Post i task ∷ []) w) scene.workers i new l
          (beside_post i (limit_at script.isolates i) stand.history task worker known (subst (λ w. IsBeside i (limit_at script.isolates i) stand.history w) (worker_is scene.workers i worker at) (holds.beside i)))
          (λ j other. beside_quiet j (limit_at script.isolates j) stand.history (Post i task) (worker_at scene.workers j) (other_if j i (task ∷ []) [] other) refl tt (holds.beside j));
    })

holds_ask : (script : HostScript) (scene : Scene) (i : ℕ) → IsWhole script → Holds script scene → (turn scene.stand).0 ≡ move.Ask i → Holds script (scene_with (turn scene.stand).1 scene.workers)
holds_ask script scene i whole holds asks =
    let stand = scene.stand in
    let run : HostRun script (turn stand).1 = goes holds.run (step_to stand (move.Ask i) asks tt) in
    let is = turn_ask stand i asks in
    let l = ask_within script stand i whole (script_run script stand holds.run) asks in
    let within : (j : ℕ) → is_asked j (stand.history ++ Ask i ∷ []) ≡ true → j < length script.isolates = λ j asked.
    (elim (or_cases (is_asked j stand.history) (is_asked j (Ask i ∷ [])) (sym (is_asked_more j stand.history (Ask i ∷ [])) ∙ asked)) as (λ x. j < length script.isolates) [
      | inl before ↦ holds.within j before
      | inr now ↦ (let same : j ≡ i = eqb-true j i (grind (arith, now)) in subst (λ k. k < length script.isolates) (sym same) l)
    ]) in
    subst (λ s. Holds script (scene_with s scene.workers)) (sym is) (record {
      run = subst (λ s. HostRun script s) is run;
      count = holds.count;
      within = within;
      answered = subst IsAnswered is (answered_turn stand holds.answered);
      beside = λ j. beside_quiet j (limit_at script.isolates j) stand.history (Ask i) (worker_at scene.workers j) refl refl tt (holds.beside j);
    })

-- ---- moves of an isolate

holds_entry : (script : HostScript) (scene : Scene) (i : ℕ) (new : Worker) → i < length scene.workers → IsBeside i (limit_at script.isolates i) scene.stand.history new
    → Holds script scene → Holds script (scene_with scene.stand (slice_set scene.workers i new))
holds_entry script scene i new l beside holds = record {
  run = holds.run;
  count = length-set scene.workers i new ∙ holds.count;
  within = holds.within;
  answered = holds.answered;
  beside = each_set (λ j w. IsBeside j (limit_at script.isolates j) scene.stand.history w) scene.workers i new l beside (λ j _. holds.beside j);
}

pub beside_at : (script : HostScript) (scene : Scene) (i : ℕ) (worker : Worker) → Holds script scene → slice_get scene.workers i ≡ Some worker → IsBeside i (limit_at script.isolates i) scene.stand.history worker
beside_at script scene i worker holds at = subst (λ w. IsBeside i (limit_at script.isolates i) scene.stand.history w) (worker_is scene.workers i worker at) (holds.beside i)

-- ---- a receipt

pub receipt_there : (stand : Stand) (i j limit : ℕ) (out : Out) (worker : Worker) → j ≢ i → IsBeside j limit stand.history worker → IsBeside j limit (received stand i out).history worker
receipt_there stand i j limit out worker other beside =
    let heard = beside_quiet j limit stand.history (Recv i out) worker refl (other_if j i (out ∷ []) [] other) (λ e. absurd (other (sym e))) beside in
    received_cases stand i out (λ s. IsBeside j limit s.history worker) (λ _. heard)
    (λ n outcome _ _. subst (λ h. IsBeside j limit h worker) (append_assoc stand.history (Recv i out ∷ []) (Settle n (how.Entry i (replies_of i stand.history)) ∷ []))
    (beside_quiet j limit (stand.history ++ Recv i out ∷ []) (Settle n (how.Entry i (replies_of i stand.history))) worker refl refl tt heard))

pub receipt_here : (stand : Stand) (i limit : ℕ) (out : Out) (later : List Out) (worker : Worker) → worker.sent ≡ out ∷ later → IsBeside i limit stand.history worker
    → IsBeside i limit (received stand i out).history (record worker { sent = later })
receipt_here stand i limit out later worker first beside =
    let new : Worker = record worker { sent = later } in
    let heard : IsBeside i limit (stand.history ++ Recv i out ∷ []) new = beside_receive i limit stand.history out later worker first beside in
    received_cases stand i out (λ s. IsBeside i limit s.history new) (λ _. heard)
    (λ n outcome _ _. subst (λ h. IsBeside i limit h new) (append_assoc stand.history (Recv i out ∷ []) (Settle n (how.Entry i (replies_of i stand.history)) ∷ []))
    (beside_quiet i limit (stand.history ++ Recv i out ∷ []) (Settle n (how.Entry i (replies_of i stand.history))) new refl refl tt heard))

-- a number that a reply answers was drawn
reply_drawn : (script : HostScript) (stand : Stand) (i limit : ℕ) (out : Out) (later : List Out) (worker : Worker) → HostRun script stand → IsBeside i limit stand.history worker → worker.sent ≡ out ∷ later
    → (n : ℕ) → Contains (reply_of out) (Some n) → n < drawn stand
reply_drawn script stand i limit out later worker run beside first n there =
    let all : calls worker.journal ≡ replies (receives i stand.history) ++ (reply_of out ++ replies later) =
    sym (replies_of_journal (fresh i limit) worker.isolate worker.journal beside.replays) ∙ ap replies (beside.told ∙ ap (λ x. receives i stand.history ++ x) first) ∙ replies_more (receives i stand.history) (out ∷ later) in
    let called : Contains (calls worker.journal) (Some n) = subst (λ x. Contains x (Some n)) (sym all)
    (Contains-append_right (replies (receives i stand.history)) (reply_of out ++ replies later) (Some n) (Contains-append_left (reply_of out) (replies later) (Some n) there)) in
    let place = place_of (calls worker.journal) (Some n) called in
    let found = run_at worker.journal place.0 n place.1 in
    let task = found.2.task in
    let done : Contains (tasks worker.journal) task = task_there worker.journal place.0 found.0 task found.1 found.2.has in
    let posted : Contains (posts i stand.history) task = subst (λ x. Contains x task) (sym beside.posted) (Contains-append_left (tasks worker.journal) worker.waiting task done) in
    let at = place_of (posts i stand.history) task posted in
    let is : IsPosted stand.history n = record { isolate = i; place = at.0; task = task; at = at.1; named = found.2.named } in
    posted_are_drawn script stand run n is

reply_call : (out : Out) (n : ℕ) (outcome : Outcome) → out ≡ Reply (Some n) outcome → Contains (reply_of out) (Some n)
reply_call out n outcome is = subst (λ x. Contains (reply_of x) (Some n)) (sym is) (contains_head (Some n) (Some n) [] refl)

-- what an isolate sends are replies
pub may_receive : (script : HostScript) (scene : Scene) (i : ℕ) (out : Out) → Holds script scene → i < length scene.workers → IsReply out → MayReceive scene.stand.script i out
may_receive script scene i out holds l reply =
    let is = script_run script scene.stand holds.run in
    (subst (λ n. i < n) (holds.count ∙ ap (λ (s : HostScript). length s.isolates) (sym is)) l, reply)

holds_receipt : (script : HostScript) (scene : Scene) (i : ℕ) (worker : Worker) (out : Out) (later : List Out) → Holds script scene → slice_get scene.workers i ≡ Some worker → worker.sent ≡ out ∷ later → IsReply out
    → Holds script (scene_with (received scene.stand i out) (slice_set scene.workers i (record worker { sent = later })))
holds_receipt script scene i worker out later holds at first reply =
    let stand = scene.stand in
    let new : Worker = record worker { sent = later } in
    let l : i < length scene.workers = slice_get_within scene.workers i worker at in
    let beside = beside_at script scene i worker holds at in
    record {
      run = goes holds.run (receives_one i out (may_receive script scene i out holds l reply) refl);
      count = length-set scene.workers i new ∙ holds.count;
      within = λ j asked. holds.within j (sym (is_asked_received stand i out j) ∙ asked);
      answered = answered_received stand i out (λ n outcome is. reply_drawn script stand i (limit_at script.isolates i) out later worker holds.run beside first n (reply_call out n outcome is)) holds.answered;
      beside = each_set (λ j w. IsBeside j (limit_at script.isolates j) (received stand i out).history w) scene.workers i new l
          (receipt_here stand i (limit_at script.isolates i) out later worker first beside)
          (λ j other. receipt_there stand i j (limit_at script.isolates j) out (worker_at scene.workers j) other (holds.beside j));
    }

-- ---- any move

-- what is sent and on its way is a reply
sent_reply : (i limit : ℕ) (history : List Event) (worker : Worker) (out : Out) (later : List Out) → worker.sent ≡ out ∷ later → IsBeside i limit history worker → IsReply out
sent_reply i limit history worker out later first beside =
    replies_alone (fresh i limit) worker.isolate worker.journal beside.replays out
    (subst (λ x. Contains x out) (sym (beside.told ∙ ap (λ x. receives i history ++ x) first)) (Contains-append_right (receives i history) (out ∷ later) out (contains_head out out later refl)))

pub holds_move : (script : HostScript) (old new : Scene) → IsWhole script → Holds script old → Moves old new → Holds script new
holds_move script old new whole holds (host_turns m) = subst (Holds script) (sym m.now) (holds_own script old holds m.own)
holds_move script old new whole holds (host_posts m) = subst (Holds script) (sym m.now) (holds_post script old m.i m.task m.worker whole holds m.posts m.at)
holds_move script old new whole holds (host_asks m) = subst (Holds script) (sym m.now) (holds_ask script old m.i whole holds m.asks)
holds_move script old new whole holds (performs m) =
    subst (Holds script) (sym m.now) (holds_entry script old m.i (with_entry m.worker m.isolate m.entry m.later) (slice_get_within old.workers m.i m.worker m.at)
    (beside_perform m.i (limit_at script.isolates m.i) old.stand.history m.worker m.task m.later m.isolate m.entry m.first m.does (beside_at script old m.i m.worker holds m.at)) holds)
holds_move script old new whole holds (stops m) =
    subst (Holds script) (sym m.now) (holds_entry script old m.i (with_entry m.worker m.isolate m.entry m.worker.waiting) (slice_get_within old.workers m.i m.worker m.at)
    (beside_stop m.i (limit_at script.isolates m.i) old.stand.history m.worker m.isolate m.entry m.asked m.stop (beside_at script old m.i m.worker holds m.at)) holds)
holds_move script old new whole holds (receives_first m) =
    subst (Holds script) (sym m.now) (holds_receipt script old m.i m.worker m.out m.later holds m.at m.first
    (sent_reply m.i (limit_at script.isolates m.i) old.stand.history m.worker m.out m.later m.first (beside_at script old m.i m.worker holds m.at)))

pub holds_course : (script : HostScript) (scene : Scene) → IsWhole script → Course script scene → Holds script scene
holds_course script scene whole opens = holds_opening script
holds_course script next whole (moves {scene} course move) = holds_move script scene next whole (holds_course script scene whole course) move
