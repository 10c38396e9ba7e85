-- The moves of a course, as code that works on parts of a scene has them.
use Rattle.std.proofs.Common.{◌≡◌, ℕ, ◌<◌, List, [], ◌∷◌, ◌++◌, length, true, Some, refl, subst, sym, ap, ◌∙◌, slice_get, slice_set}
use Rattle.task_history.specs.declared.task.Task.{Task}
use Rattle.task_history.specs.declared.outcome.Out.{Out}
use Rattle.task_history.specs.declared.record.Entry.{Entry}
use Rattle.task_history.specs.Lists.{is_asked}
use Rattle.isolate_meaning.specs.State.{Isolate}
use Rattle.isolate_meaning.specs.Does.{Does, HostStop}
use Rattle.host_syntax.specs.declared.script.HostScript.{HostScript}
use Rattle.host_syntax.specs.Whole.{IsWhole}
use Rattle.host_meaning.specs.declared.moves.Move.{Move}
use Rattle.host_meaning.specs.declared.moves.Move.TheVariants.{Post, Ask, Own}
use Rattle.host_meaning.specs.Stand.{Stand}
use Rattle.host_meaning.specs.Machine.{turn, received}
use Rattle.host_meaning.specs.Course.{Worker, Course}
use Rattle.host_meaning.specs.Course.Course.{moves}
use Rattle.host_meaning.specs.Course.Moves.{host_turns, host_posts, host_asks, performs, stops, receives}
use Rattle.host_laws.proofs.Turns.{script_run}
use Rattle.host_laws.proofs.Targets.{post_within, ask_within}
use Rattle.host_laws.proofs.Workers.{scene_with}
use Rattle.host_laws.proofs.Beside.{with_entry}
use Rattle.host_laws.proofs.AnyOrder.{holds_course}

module _ (script : HostScript) (stand : Stand) (workers : List Worker) (course : Course script (scene_with stand workers)) where
  -- ---- the host

  pub after_own : (next : Stand) (m : Move) → (m, next) ≡ turn stand → m ≡ Own → Course script (scene_with next workers)
  after_own next m is own =
      moves course (host_turns (record { own = sym (ap (λ x. x.0) is) ∙ own; now = ap (λ s. scene_with s workers) (ap (λ x. x.1) is) }))

  -- the isolate of a post or an ask is there
  pub post_there : IsWhole script → (next : Stand) (m : Move) (i : ℕ) (task : Task) → (m, next) ≡ turn stand → m ≡ Post i task → i < length workers
  post_there whole next m i task is posted =
      let holds = holds_course script (scene_with stand workers) whole course in
      subst (λ n. i < n) (sym holds.count) (post_within script stand i task whole (script_run script stand holds.run) (sym (ap (λ x. x.0) is) ∙ posted))

  pub ask_there : IsWhole script → (next : Stand) (m : Move) (i : ℕ) → (m, next) ≡ turn stand → m ≡ Ask i → i < length workers
  ask_there whole next m i is asked =
      let holds = holds_course script (scene_with stand workers) whole course in
      subst (λ n. i < n) (sym holds.count) (ask_within script stand i whole (script_run script stand holds.run) (sym (ap (λ x. x.0) is) ∙ asked))

  pub after_post : (next : Stand) (m : Move) (i : ℕ) (task : Task) (worker : Worker) → (m, next) ≡ turn stand → m ≡ Post i task → slice_get workers i ≡ Some worker
      → Course script (scene_with next (slice_set workers i (record worker { waiting = worker.waiting ++ task ∷ [] })))
  after_post next m i task worker is posted at =
      moves course (host_posts (record {
        i = i;
        task = task;
        posts = sym (ap (λ x. x.0) is) ∙ posted;
        worker = worker;
        at = at;
        now = ap (λ s. scene_with s (slice_set workers i (record { isolate = worker.isolate; journal = worker.journal; waiting = worker.waiting ++ task ∷ []; sent = worker.sent }))) (ap (λ x. x.1) is);
      }))

  pub after_ask : (next : Stand) (m : Move) (i : ℕ) → (m, next) ≡ turn stand → m ≡ Ask i → Course script (scene_with next workers)
  after_ask next m i is asked =
      moves course (host_asks (record { i = i; asks = sym (ap (λ x. x.0) is) ∙ asked; now = ap (λ s. scene_with s workers) (ap (λ x. x.1) is) }))

  -- ---- an isolate

  pub after_perform : (i : ℕ) (worker : Worker) (task : Task) (later : List Task) (isolate : Isolate) (entry : Entry) → slice_get workers i ≡ Some worker → worker.waiting ≡ task ∷ later
      → Does task worker.isolate isolate entry → Course script (scene_with stand (slice_set workers i (with_entry worker isolate entry later)))
  after_perform i worker task later isolate entry at first does =
      moves course (performs (record { i = i; worker = worker; at = at; task = task; later = later; first = first; isolate = isolate; entry = entry; does = does; now = refl }))

  pub after_stop : (i : ℕ) (worker : Worker) (isolate : Isolate) (entry : Entry) → is_asked i stand.history ≡ true → slice_get workers i ≡ Some worker
      → HostStop worker.isolate isolate entry → Course script (scene_with stand (slice_set workers i (with_entry worker isolate entry worker.waiting)))
  after_stop i worker isolate entry asked at stop =
      moves course (stops (record { i = i; asked = asked; worker = worker; at = at; isolate = isolate; entry = entry; stop = stop; now = refl }))

  pub after_receipt : (i : ℕ) (worker : Worker) (out : Out) (later : List Out) → slice_get workers i ≡ Some worker → worker.sent ≡ out ∷ later
      → Course script (scene_with (received stand i out) (slice_set workers i (record worker { sent = later })))
  after_receipt i worker out later at first =
      moves course (receives (record { i = i; worker = worker; at = at; out = out; later = later; first = first; now = refl }))
