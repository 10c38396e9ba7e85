-- The commands of the run on one thread, as a loop over cells does them.
use Rattle.std.proofs.Common.{◌≡◌, ◌≢◌, ℕ, suc, zero, ◌+◌, ◌-◌, ◌<◌, List, [], ◌∷◌, ◌++◌, length, map, take, Option, Some, None, refl, subst, sym, ap, ◌∙◌, arith, add-one, inl, inr, slice_get, slice_set, slice_index_or}
use Rattle.std.proofs.lemmas.Option.{slice_get-map, slice_get_within, slice_get_past, slice_get_read}
use Rattle.std.proofs.lemmas.List.{map-set, length-map, take_more}
use Rattle.std.specs.List.{Contains}
use Rattle.std.specs.Option.{option_map}
use Rattle.task_history.specs.declared.task.Task.{Task}
use Rattle.task_history.specs.declared.outcome.By.TheVariants.{Host}
use Rattle.task_history.specs.declared.outcome.Out.{Out}
use Rattle.task_history.specs.declared.record.Entry.{Entry}
use Rattle.task_history.specs.declared.record.Event.{Event}
use Rattle.task_history.specs.declared.outcome.By.{By}
use Rattle.isolate_meaning.specs.State.{Contents, State, live, ended, cells_of, is_ended}
use Rattle.isolate_meaning.specs.Fits.{Fits}
use Rattle.isolate_meaning.specs.Does.{Does, HostStop, stop_entry}
use Rattle.isolate_meaning.specs.Replay.{Kept, fresh_cell, isolate_in, FitsUnlessVoid, MayPerform, Performs, stopped, stopped_at}
use Rattle.host_syntax.specs.declared.script.HostScript.{HostScript}
use Rattle.host_syntax.specs.declared.script.IsolateDecl.{IsolateDecl}
use Rattle.host_syntax.specs.Whole.{IsWhole}
use Rattle.host_meaning.specs.declared.moves.Move.{Move}
use Rattle.host_meaning.specs.declared.moves.Move.TheVariants.{Post, Ask, Own, Blocked, NoTarget}
use Rattle.host_meaning.specs.Stand.{Stand, beginning, place}
use Rattle.host_meaning.specs.Machine.{DoesCommand, HostRun, turn, received, received_all, MayReceive}
use Rattle.host_meaning.specs.Course.{Worker, Course, all_idle, record_of}
use Rattle.host_meaning.specs.Course.Course.{moves}
use Rattle.host_meaning.specs.Course.Moves.{host_posts}
use Rattle.host_meaning.specs.OneThread.{OneThread, OneCommand, after_entry}
use Rattle.host_meaning.specs.OneThread.OneCommand.{own, posts, stops, asks_ended}
use Rattle.host_meaning.specs.OneThread.OneThread.{opens, goes}
use Rattle.host_meaning.specs.Lawful.{IsLawful}
use Rattle.host_laws.specs.Driving.{fresh_cells, state_or_end, worker_of, scene_of, HasState, CellsAre, outs_of, outs_at, AreReplies, record_with}
use Rattle.host_laws.proofs.Turns.{turn_goes, script_turn, script_run, script_received_all, numbers_received_all}
use Rattle.host_laws.proofs.Lists.{none_there, slice_get-append_here}
use Rattle.host_laws.proofs.Targets.{post_within, ask_within, turn_blocked}
use Rattle.host_laws.proofs.Workers.{scene_with, get_set}
use Rattle.host_laws.proofs.Sent.{by_entry}
use Rattle.host_laws.proofs.AnyOrder.{Holds, holds_course}
use Rattle.host_laws.proofs.CallTargets.{courses_have_targets}
use Rattle.host_laws.proofs.OneThread.{one_thread_course, one_thread_rests}
use Rattle.host_laws.proofs.Rest.{first_fits, course_is_lawful}

-- ---- lists of cells

set_same : {A : Type 0} (xs : List A) (i : ℕ) (x : A) → slice_get xs i ≡ Some x → slice_set xs i x ≡ xs
set_same [] i x at = refl
set_same (y ∷ xs) zero x at = let same : y ≡ x = cc in ap (λ z. z ∷ xs) (sym same)
set_same (y ∷ xs) (suc i) x at = ap (λ z. y ∷ z) (set_same xs i x at)

each_set : {A : Type 0} (P : A → Type 0) (xs : List A) (i : ℕ) (new : A) → P new → ((j : ℕ) (x : A) → slice_get xs j ≡ Some x → P x) → (j : ℕ) (x : A) → slice_get (slice_set xs i new) j ≡ Some x → P x
each_set P [] i new here each j x at = each j x at
each_set P (y ∷ xs) zero new here each zero x at = let same : new ≡ x = cc in subst P same here
each_set P (y ∷ xs) zero new here each (suc j) x at = each (suc j) x at
each_set P (y ∷ xs) (suc i) new here each zero x at = each zero x at
each_set P (y ∷ xs) (suc i) new here each (suc j) x at = each_set P xs i new here (λ k z found. each (suc k) z found) j x at

map_map : {A B C : Type 0} (f : B → C) (g : A → B) (xs : List A) → map f (map g xs) ≡ map (λ x. f (g x)) xs
map_map f g [] = refl
map_map f g (x ∷ xs) = ap (λ z. f (g x) ∷ z) (map_map f g xs)

-- a cell that was read by its index
pub cell_there : (cells : List Kept) (i : ℕ) (cell : Kept) → i < length cells → cell ≡ slice_index_or cells i cell → slice_get cells i ≡ Some cell
cell_there cells i cell l is = slice_get_read cells (length cells) i cell refl l is

-- ---- the beginning

fresh_workers : (n : ℕ) (decls : List IsolateDecl) → map worker_of (fresh_cells n decls) ≡ all_idle n decls
fresh_workers n [] = refl
fresh_workers n (decl ∷ decls) = ap (λ x. worker_of (fresh_cell n decl.limit) ∷ x) (fresh_workers (n + 1) decls)

fresh_there : (n : ℕ) (decls : List IsolateDecl) (i : ℕ) (cell : Kept) → slice_get (fresh_cells n decls) i ≡ Some cell → HasState cell.state
fresh_there n [] i cell at = let no : ⊥ = cc in absurd no
fresh_there n (decl ∷ decls) zero cell at = let same : fresh_cell n decl.limit ≡ cell = cc in subst (λ (c : Kept). HasState c.state) same tt
fresh_there n (decl ∷ decls) (suc i) cell at = fresh_there (n + 1) decls i cell at

pub at_begin : (script : HostScript) → CellsAre script (beginning script) (fresh_cells 0 script.isolates)
at_begin script = record {
  run = subst (λ ws. OneThread script (scene_with (beginning script) ws)) (sym (fresh_workers 0 script.isolates)) opens;
  none_void = fresh_there 0 script.isolates;
}

pub begin_cells : (script : HostScript) (stand : Stand) (cells : List Kept) → stand ≡ beginning script → cells ≡ fresh_cells 0 script.isolates → CellsAre script stand cells
begin_cells script stand cells begins fresh = subst (λ s. CellsAre script s cells) (sym begins) (subst (λ cs. CellsAre script (beginning script) cs) (sym fresh) (at_begin script))

-- one more fresh cell, for the loop that makes them
fresh_from : (decls : List IsolateDecl) (n k m : ℕ) (d : IsolateDecl) → m ≡ n + k → k < length decls → fresh_cells n (take (suc k) decls) ≡ fresh_cells n (take k decls) ++ fresh_cell m (slice_index_or decls k d).limit ∷ []
fresh_from [] n k m d e l = absurd (grind (arith, l))
fresh_from (decl ∷ decls) n zero m d e l = let same : n ≡ m = grind (arith, e) in ap (λ x. fresh_cell x decl.limit ∷ []) same
fresh_from (decl ∷ decls) n (suc k) m d e l = ap (λ x. fresh_cell n decl.limit ∷ x) (fresh_from decls (n + 1) k m d (grind (arith, e)) (grind (arith, l)))

pub fresh_more : (decls : List IsolateDecl) (k : ℕ) (d : IsolateDecl) → k < length decls → fresh_cells 0 (take (k + 1) decls) ≡ fresh_cells 0 (take k decls) ++ fresh_cell k (slice_index_or decls k d).limit ∷ []
fresh_more decls k d l = ap (λ n. fresh_cells 0 (take n decls)) (add-one k) ∙ fresh_from decls 0 k k d (grind arith) l

-- ---- the loop ends

fewer_left : (stand next last : Stand) (m : Move) (i : ℕ) (sent : List Out) → (m, next) ≡ turn stand → DoesCommand m → last ≡ received_all next i sent
    → length stand.script.commands - place last < length stand.script.commands - place stand
fewer_left stand next last m i sent is on heard =
    elim (turn_goes stand) as (λ x. length stand.script.commands - place last < length stand.script.commands - place stand) [
      | inl stays ↦ absurd (stays.none (subst DoesCommand (ap (λ x. x.0) is) on))
      | inr goes_on ↦
          (let more = goes_on.next in
          let was = goes_on.was_there in
          let same : place last ≡ place (turn stand).1 = ap place heard ∙ ap length (numbers_received_all next i sent) ∙ ap (λ x. place x.1) is in
          grind (arith, more, was, same))
    ]

-- ---- what is known before a command

module _ (script : HostScript) (stand : Stand) (cells : List Kept) (whole : IsWhole script) (are : CellsAre script stand cells) where
  course : Course script (scene_of stand cells)
  course = one_thread_course script (scene_of stand cells) are.run

  holds : Holds script (scene_of stand cells)
  holds = holds_course script (scene_of stand cells) whole course

  pub run_of_cells : HostRun script stand
  run_of_cells = holds.run

  pub script_of_cells : stand.script ≡ script
  script_of_cells = script_run script stand holds.run

  -- after a command fewer are left
  pub fewer_commands : (next last : Stand) (m : Move) (i : ℕ) (sent : List Out) → (m, next) ≡ turn stand → DoesCommand m → last ≡ received_all next i sent
      → length script.commands - place last < length script.commands - place stand
  fewer_commands next last m i sent is on heard =
      let fewer = fewer_left stand next last m i sent is on heard in
      let same = ap (λ (s : HostScript). length s.commands) script_of_cells in
      grind (arith, fewer, same)

  -- no call is without its target
  pub has_target : (next : Stand) (m : Move) → (m, next) ≡ turn stand → m ≢ NoTarget
  has_target next m is lost = courses_have_targets script whole (scene_of stand cells) course (sym (ap (λ x. x.0) is) ∙ lost)

  -- a host that can't go on has the same script
  pub ends_with_script : (next : Stand) (m : Move) (given : HostScript) → (m, next) ≡ turn stand → m ≡ Blocked → given ≡ next.script → given ≡ script
  ends_with_script next m given is blocked back =
      let none : (turn stand).0 ≡ Blocked = sym (ap (λ x. x.0) is) ∙ blocked in
      let same : next ≡ stand = ap (λ x. x.1) is ∙ turn_blocked stand none in
      back ∙ ap (λ (s : Stand). s.script) same ∙ script_of_cells

  pub count_cells : length cells ≡ length script.isolates
  count_cells = sym (length-map cells worker_of) ∙ holds.count

  pub post_index : (next : Stand) (m : Move) (i : ℕ) (task : Task) → (m, next) ≡ turn stand → m ≡ Post i task → i < length cells
  post_index next m i task is posted =
      subst (λ n. i < n) (sym count_cells) (post_within script stand i task whole script_of_cells (sym (ap (λ x. x.0) is) ∙ posted))

  pub ask_index : (next : Stand) (m : Move) (i : ℕ) → (m, next) ≡ turn stand → m ≡ Ask i → i < length cells
  ask_index next m i is asks =
      subst (λ n. i < n) (sym count_cells) (ask_within script stand i whole script_of_cells (sym (ap (λ x. x.0) is) ∙ asks))

  -- the host's script is the same after a move, and has the isolates of these cells
  pub within_next : (next : Stand) (m : Move) (i : ℕ) → (m, next) ≡ turn stand → i < length cells → i < length next.script.isolates
  within_next next m i is l =
      let same : next.script ≡ script = ap (λ x. x.1.script) is ∙ script_turn stand ∙ script_of_cells in
      subst (λ (s : HostScript). i < length s.isolates) (sym same) (subst (λ n. i < n) count_cells l)

  -- the cell that a task is posted to may carry it out
  pub post_fits : (next : Stand) (m : Move) (i : ℕ) (task : Task) (cell : Kept) → (m, next) ≡ turn stand → m ≡ Post i task → slice_get cells i ≡ Some cell → MayPerform cell task
  post_fits next m i task cell is posted at =
      let worker = worker_of cell in
      let at_worker : slice_get (map worker_of cells) i ≡ Some worker = slice_get-map worker_of cells i ∙ ap (option_map worker_of) at in
      let waits : Worker = record worker { waiting = task ∷ [] } in
      let after : Course script (scene_with (turn stand).1 (slice_set (map worker_of cells) i waits)) =
      moves course (host_posts (record { i = i; task = task; posts = sym (ap (λ x. x.0) is) ∙ posted; worker = worker; at = at_worker; now = refl })) in
      fits_cell cell.state (first_fits script (scene_with (turn stand).1 (slice_set (map worker_of cells) i waits)) i waits task [] whole after
      (get_set (map worker_of cells) i waits (slice_get_within (map worker_of cells) i worker at_worker)) refl)
    where
      fits_cell : (state : Option State) → Fits (state_or_end state) task → FitsUnlessVoid state task
      fits_cell None fits = tt
      fits_cell (Some state) fits = fits

-- ---- the outs of an entry that joined a journal

outs_joined : (journal : List Entry) (entry : Entry) → outs_at (journal ++ entry ∷ []) (length journal) ≡ entry.outs
outs_joined journal entry = ap outs_of (slice_get-append_here journal [] entry)

outs_performed : (task : Task) (old new : Kept) (p : Performs task old new) → outs_at new.journal (length old.journal) ≡ p.entry.outs
outs_performed task old new p = ap (λ (c : Kept). outs_at c.journal (length old.journal)) p.now ∙ outs_joined old.journal p.entry

pub performed_replies : (task : Task) (old new : Kept) → Performs task old new → AreReplies (outs_at new.journal (length old.journal))
performed_replies task old new p = subst AreReplies (sym (outs_performed task old new p)) (by_entry (Some task) (isolate_in old p.before) (isolate_in old p.after) p.entry p.does)

-- a stop of a live cell
stop_live : (old : Kept) (contents : Contents) → old.state ≡ Some (live contents) → stopped old ≡ record old { journal = old.journal ++ stop_entry (cells_of contents) ∷ []; state = Some (ended Host) }
stop_live old contents is = ap (stopped_at old) is

-- a stop of an ended one
stop_ended : (old : Kept) (by : By) → old.state ≡ Some (ended by) → stopped old ≡ old
stop_ended old by is = ap (stopped_at old) is

none_joined : (journal : List Entry) → outs_at journal (length journal) ≡ []
none_joined journal = ap outs_of (slice_get_past journal (length journal) (grind arith))

stop_replies : (contents : Contents) → AreReplies (stop_entry (cells_of contents)).outs
stop_replies contents = by_entry None (isolate_in stopping (live contents)) (isolate_in stopping (ended Host)) (stop_entry (cells_of contents)) (record { contents = contents; was_live = refl; ends = refl; noted = refl })
  where
    stopping : Kept
    stopping = fresh_cell 0 0

no_replies : AreReplies []
no_replies out there = absurd (none_there out there)

replies_by : (old : Kept) (state : Option State) → old.state ≡ state → AreReplies (outs_at (stopped_at old state).journal (length old.journal))
replies_by old None is = subst AreReplies (sym (none_joined old.journal)) no_replies
replies_by old (Some (live contents)) is = subst AreReplies (sym (outs_joined old.journal (stop_entry (cells_of contents)))) (stop_replies contents)
replies_by old (Some (ended by)) is = subst AreReplies (sym (none_joined old.journal)) no_replies

pub stopped_replies : (old : Kept) → AreReplies (outs_at (stopped old).journal (length old.journal))
stopped_replies old = replies_by old old.state refl

-- ---- one command

module _ (script : HostScript) (stand : Stand) (cells : List Kept) (are : CellsAre script stand cells) where
  -- the command that was done
  goes_to : (next : Stand) (after : List Kept) → OneCommand (scene_of stand cells) (scene_of next after) → ((i : ℕ) (cell : Kept) → slice_get after i ≡ Some cell → HasState cell.state) → CellsAre script next after
  goes_to next after command there = record { run = goes are.run command; none_void = there }

  pub after_own : (next : Stand) (m : Move) → (m, next) ≡ turn stand → m ≡ Own → CellsAre script next cells
  after_own next m is own_move =
      goes_to next cells (own (sym (ap (λ x. x.0) is) ∙ own_move) (ap (λ s. scene_of s cells) (ap (λ x. x.1) is))) are.none_void

  worker_there : (i : ℕ) (cell : Kept) → slice_get cells i ≡ Some cell → slice_get (map worker_of cells) i ≡ Some (worker_of cell)
  worker_there i cell at = slice_get-map worker_of cells i ∙ ap (option_map worker_of) at

  -- a posted task is carried out, and all that it sent is received
  pub after_post : (next last : Stand) (m : Move) (i : ℕ) (task : Task) (old new : Kept) → (m, next) ≡ turn stand → m ≡ Post i task → slice_get cells i ≡ Some old → Performs task old new
      → last ≡ received_all next i (outs_at new.journal (length old.journal)) → CellsAre script last (slice_set cells i new)
  after_post next last m i task old new is posted at p heard =
      let isolate = isolate_in old p.after in
      let does : Does task (worker_of old).isolate isolate p.entry = subst (λ s. Does task (isolate_in old (state_or_end s)) isolate p.entry) (sym p.was) p.does in
      let workers : map worker_of (slice_set cells i new) ≡ slice_set (map worker_of cells) i (after_entry (worker_of old) isolate p.entry) =
      map-set worker_of cells i new ∙ ap (λ c. slice_set (map worker_of cells) i (worker_of c)) p.now in
      let stands : last ≡ received_all (turn stand).1 i p.entry.outs =
      heard ∙ ap (received_all next i) (outs_performed task old new p) ∙ ap (λ s. received_all s i p.entry.outs) (ap (λ x. x.1) is) in
      goes_to last (slice_set cells i new)
      (posts (record {
        i = i;
        task = task;
        posts = sym (ap (λ x. x.0) is) ∙ posted;
        worker = worker_of old;
        at = worker_there i old at;
        isolate = isolate;
        entry = p.entry;
        does = does;
        now = ap (λ s. scene_with s (map worker_of (slice_set cells i new))) stands ∙ ap (scene_with (received_all (turn stand).1 i p.entry.outs)) workers;
      }))
      (each_set (λ (c : Kept). HasState c.state) cells i new (subst (λ (c : Kept). HasState c.state) (sym p.now) tt) are.none_void)

  ask_by : (next last : Stand) (m : Move) (i : ℕ) (old new : Kept) (state : Option State) → old.state ≡ state → (m, next) ≡ turn stand → m ≡ Ask i → slice_get cells i ≡ Some old → new ≡ stopped old
      → last ≡ received_all next i (outs_at new.journal (length old.journal)) → CellsAre script last (slice_set cells i new)
  ask_by next last m i old new None was is asked at stop heard = absurd (subst HasState was (are.none_void i old at))
  ask_by next last m i old new (Some (live contents)) was is asked at stop heard =
      let isolate = isolate_in old (ended Host) in
      let entry = stop_entry (cells_of contents) in
      let now : new ≡ record old { journal = old.journal ++ entry ∷ []; state = Some (ended Host) } = stop ∙ stop_live old contents was in
      let host_stop : HostStop (worker_of old).isolate isolate entry = record { contents = contents; was_live = ap state_or_end was; ends = refl; noted = refl } in
      let workers : map worker_of (slice_set cells i new) ≡ slice_set (map worker_of cells) i (after_entry (worker_of old) isolate entry) =
      map-set worker_of cells i new ∙ ap (λ c. slice_set (map worker_of cells) i (worker_of c)) now in
      let sent : outs_at new.journal (length old.journal) ≡ entry.outs = ap (λ (c : Kept). outs_at c.journal (length old.journal)) now ∙ outs_joined old.journal entry in
      let stands : last ≡ received_all (turn stand).1 i entry.outs = heard ∙ ap (received_all next i) sent ∙ ap (λ s. received_all s i entry.outs) (ap (λ x. x.1) is) in
      goes_to last (slice_set cells i new)
      (stops (record {
        i = i;
        asks = sym (ap (λ x. x.0) is) ∙ asked;
        worker = worker_of old;
        at = worker_there i old at;
        isolate = isolate;
        entry = entry;
        stop = host_stop;
        now = ap (λ s. scene_with s (map worker_of (slice_set cells i new))) stands ∙ ap (scene_with (received_all (turn stand).1 i entry.outs)) workers;
      }))
      (each_set (λ (c : Kept). HasState c.state) cells i new (subst (λ (c : Kept). HasState c.state) (sym now) tt) are.none_void)
  ask_by next last m i old new (Some (ended by)) was is asked at stop heard =
      let same : new ≡ old = stop ∙ stop_ended old by was in
      let after : slice_set cells i new ≡ cells = ap (slice_set cells i) same ∙ set_same cells i old at in
      let sent : outs_at new.journal (length old.journal) ≡ [] = ap (λ (c : Kept). outs_at c.journal (length old.journal)) same ∙ none_joined old.journal in
      let stands : last ≡ (turn stand).1 = heard ∙ ap (received_all next i) sent ∙ ap (λ x. x.1) is in
      subst (λ cs. CellsAre script last cs) (sym after)
      (goes_to last cells
      (asks_ended (record { i = i; asks = sym (ap (λ x. x.0) is) ∙ asked; worker = worker_of old; at = worker_there i old at; is = ap (λ s. is_ended (state_or_end s)) was; now = ap (λ s. scene_of s cells) stands }))
      are.none_void)

  -- an isolate that is asked to stop does, unless it has ended, and all that it sent is received
  pub after_ask : (next last : Stand) (m : Move) (i : ℕ) (old new : Kept) → (m, next) ≡ turn stand → m ≡ Ask i → slice_get cells i ≡ Some old → new ≡ stopped old
      → last ≡ received_all next i (outs_at new.journal (length old.journal)) → CellsAre script last (slice_set cells i new)
  after_ask next last m i old new is asked at stop heard = ask_by next last m i old new old.state refl is asked at stop heard

  -- the host can't go on
  pub at_end : IsWhole script → (next : Stand) (m : Move) → (m, next) ≡ turn stand → m ≡ Blocked → IsLawful script (record_with next cells)
  at_end whole next m is blocked =
      let none : (turn stand).0 ≡ Blocked = sym (ap (λ x. x.0) is) ∙ blocked in
      let same : next ≡ stand = ap (λ x. x.1) is ∙ turn_blocked stand none in
      let lawful : IsLawful script (record_of (scene_of stand cells)) =
      course_is_lawful script (scene_of stand cells) whole (one_thread_course script (scene_of stand cells) are.run) (one_thread_rests script (scene_of stand cells) are.run none) in
      let journals : (record_of (scene_of stand cells)).isolates ≡ map (λ (c : Kept). c.journal) cells = map_map (λ (w : Worker). w.journal) worker_of cells in
      subst (λ s. IsLawful script (record_with s cells)) (sym same) (subst (λ js. IsLawful script (record { host = stand.history; isolates = js })) journals lawful)

  -- and the record that is kept of it
  pub ends_lawful : IsWhole script → (next : Stand) (m : Move) (history : List Event) (journals : List (List Entry)) → (m, next) ≡ turn stand → m ≡ Blocked
      → history ≡ next.history → journals ≡ map (λ (c : Kept). c.journal) cells → IsLawful script (record { host = history; isolates = journals })
  ends_lawful whole next m history journals is blocked told kept =
      subst (λ h. IsLawful script (record { host = h; isolates = journals })) (sym told)
      (subst (λ js. IsLawful script (record { host = next.history; isolates = js })) (sym kept) (at_end whole next m is blocked))

-- ---- receipts, one after another

pub receive_more : (stand now next : Stand) (i : ℕ) (sent : List Out) (k : ℕ) (d : Out) → now ≡ received_all stand i (take k sent) → next ≡ received now i (slice_index_or sent k d) → k < length sent → next ≡ received_all stand i (take (k + 1) sent)
receive_more stand now next i sent k d so_far then l =
    then ∙ ap (λ s. received s i (slice_index_or sent k d)) so_far ∙ sym (ap (received_all stand i) (take_more sent k d l) ∙ all_more stand (take k sent))
  where
    all_more : (s : Stand) (outs : List Out) → received_all s i (outs ++ slice_index_or sent k d ∷ []) ≡ received (received_all s i outs) i (slice_index_or sent k d)
    all_more s [] = refl
    all_more s (out ∷ outs) = all_more (received s i out) outs

-- each of them may be received
pub may_receive_next : (stand now : Stand) (i : ℕ) (before : List Out) (sent : List Out) (out : Out) → AreReplies sent → i < length stand.script.isolates → now ≡ received_all stand i before → Contains sent out → MayReceive now.script i out
may_receive_next stand now i before sent out replies l is there =
    let same : now.script ≡ stand.script = ap (λ (s : Stand). s.script) is ∙ script_received_all stand i before in
    (subst (λ (s : HostScript). i < length s.isolates) (sym same) l, replies out there)

-- ---- the record of a host that can't go on

pub cells_lawful : (script : HostScript) (stand : Stand) (cells : List Kept) → IsWhole script → CellsAre script stand cells → (turn stand).0 ≡ Blocked → IsLawful script (record_with stand cells)
cells_lawful script stand cells whole are blocked =
    subst (λ s. IsLawful script (record_with s cells)) (turn_blocked stand blocked) (at_end script stand cells are whole (turn stand).1 (turn stand).0 refl blocked)
