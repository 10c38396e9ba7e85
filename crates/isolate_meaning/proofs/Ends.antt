-- An isolate has ended exactly where its journal holds a disposal, and the cause of its end stands there.
use Rattle.std.proofs.Common.{◌≡◌, ℕ, List, [], ◌∷◌, ◌++◌, Bool, true, false, ◌||◌, Option, None, Some, refl, ap, sym, ◌∙◌, subst, append-nil, append_assoc, arith}
use Rattle.std.specs.List.{Contains}
use Rattle.std.proofs.lemmas.List.Elements.{Contains-append_left, Contains-append_right}
use Rattle.task_history.specs.Lists.{is_disposal, has_disposal}
use Rattle.task_history.specs.declared.task.Task.{Task}
use Rattle.task_history.specs.declared.outcome.By.{By}
use Rattle.task_history.specs.declared.outcome.By.TheVariants.{Host}
use Rattle.task_history.specs.declared.outcome.Outcome.TheVariants as outcome
use Rattle.task_history.specs.declared.record.Entry.{Entry}
use Rattle.isolate_meaning.specs.State.{Contents, State, live, ended, Isolate, fresh, is_ended, cells_of}
use Rattle.isolate_meaning.specs.Tasks.{Done}
use Rattle.isolate_meaning.specs.Does.{Does, DoesTo, acts, refuses, entry_of, HostStop}
use Rattle.isolate_meaning.specs.Replay.{Replay, Stands}
use Rattle.isolate_meaning.specs.Laws.{HasCause, IsRefusedWhereEnded}
use Rattle.isolate_meaning.proofs.Deeds.{Comes, lives_on, passes, comes, quiet, never_host, never_disposed, ends_by_limit}
use Rattle.isolate_meaning.proofs.Replays.{replay_splits}

-- ---- one entry

told_deed : (task : Task) (old new : State) (entry : Entry) → DoesTo task old new entry → is_disposal entry.outcome ≡ is_ended new
told_deed task old new entry (acts {contents = contents} {done = done} deed) = quiet contents done (comes task.budget task.kind contents done deed)
told_deed task old new entry refuses = refl

-- after a task an isolate has ended exactly where the task is told as a disposal
pub told_task : (task : Task) (old new : Isolate) (entry : Entry) → Does task old new entry → is_disposal entry.outcome ≡ is_ended new.state
told_task task old new entry deed = told_deed task old.state new.state entry deed.does

ended_by_deed : (task : Task) (old new : State) (entry : Entry) → DoesTo task old new entry → (is_ended old || is_disposal entry.outcome) ≡ is_ended new
ended_by_deed task old new entry (acts {contents = contents} {done = done} deed) = quiet contents done (comes task.budget task.kind contents done deed)
ended_by_deed task old new entry refuses = refl

-- an isolate has ended after an entry where it had before, or the entry holds a disposal
pub ended_by_entry : (task : Option Task) (old new : Isolate) (entry : Entry) → Stands task old new entry → (is_ended old.state || is_disposal entry.outcome) ≡ is_ended new.state
ended_by_entry None old new entry stop =
    ap (λ s. is_ended s || is_disposal entry.outcome) stop.was_live ∙ ap (λ (e : Entry). is_disposal e.outcome) stop.noted ∙ sym (ap (λ (i : Isolate). is_ended i.state) stop.ends)
ended_by_entry (Some task) old new entry deed = ended_by_deed task old.state new.state entry deed.does

-- after a stop an isolate has ended by the host
pub stop_ends : (old new : Isolate) (entry : Entry) → HostStop old new entry → new.state ≡ ended Host
stop_ends old new entry stop = ap (λ (i : Isolate). i.state) stop.ends

by_host_deed : (task : Task) (old new : State) (entry : Entry) → DoesTo task old new entry → new ≡ ended Host → old ≡ ended Host
by_host_deed task old new entry (acts {contents = contents} {done = done} deed) is = absurd (never_host contents done (comes task.budget task.kind contents done deed) is)
by_host_deed task old new entry refuses is = is

-- no task ends an isolate by the host
pub by_host_task : (task : Task) (old new : Isolate) (entry : Entry) → Does task old new entry → new.state ≡ ended Host → old.state ≡ ended Host
by_host_task task old new entry deed is = by_host_deed task old.state new.state entry deed.does is

refused_deed : (task : Task) (old new : State) (entry : Entry) (by : By) → DoesTo task old new entry → old ≡ ended by → (new ≡ ended by) × (entry ≡ entry_of task (outcome.Disposed by) 0 0)
refused_deed task old new entry by (acts deed) over = absurd (cc over)
refused_deed task old new entry by (refuses {by = cause}) over = let same : cause ≡ by = cc in (ap ended same, ap (λ b. entry_of task (outcome.Disposed b) 0 0) same)

-- an isolate that has ended stays so, and refuses each task with the cause of its end
pub refused_task : (task : Task) (old new : Isolate) (entry : Entry) (by : By) → Does task old new entry → old.state ≡ ended by → (new.state ≡ ended by) × (entry ≡ entry_of task (outcome.Disposed by) 0 0)
refused_task task old new entry by deed over = refused_deed task old.state new.state entry by deed.does over

refused_there : (task : Task) (old new : State) (entry : Entry) → DoesTo task old new entry → IsRefusedWhereEnded task old new entry
refused_there task old new entry (acts {contents = contents} {done = done} deed) = ends_by_limit task contents done (comes task.budget task.kind contents done deed)
refused_there task old new entry refuses = (refl, refl)

-- a live isolate ends exactly where a task passes its limit; an ended one refuses each task
pub refused_where_ended : (task : Task) (old new : Isolate) (entry : Entry) → Does task old new entry → IsRefusedWhereEnded task old.state new.state entry
refused_where_ended task old new entry deed = refused_there task old.state new.state entry deed.does

told_by_deed : (task : Task) (old new : State) (entry : Entry) (by : By) → DoesTo task old new entry → entry.outcome ≡ outcome.Disposed by → new ≡ ended by
told_by_deed task old new entry by (acts {contents = contents} {done = done} deed) told = absurd (never_disposed contents done by (comes task.budget task.kind contents done deed) told)
told_by_deed task old new entry by (refuses {by = cause}) told = let same : cause ≡ by = cc in ap ended same

-- whoever is told as disposed has ended with that cause
pub told_by_entry : (task : Option Task) (old new : Isolate) (entry : Entry) (by : By) → Stands task old new entry → entry.outcome ≡ outcome.Disposed by → new.state ≡ ended by
told_by_entry None old new entry by stop told =
    let same : outcome.Disposed Host ≡ outcome.Disposed by = sym (ap (λ (e : Entry). e.outcome) stop.noted) ∙ told in
    let cause : Host ≡ by = cc in
    stop_ends old new entry stop ∙ ap ended cause
told_by_entry (Some task) old new entry by deed told = told_by_deed task old.state new.state entry by deed.does told

-- whoever has ended stays so
pub stays_ended : (task : Option Task) (old new : Isolate) (entry : Entry) (by : By) → Stands task old new entry → old.state ≡ ended by → new.state ≡ ended by
stays_ended None old new entry by stop over = let no : live stop.contents ≡ ended by = sym stop.was_live ∙ over in absurd (cc no)
stays_ended (Some task) old new entry by deed over = (refused_task task old new entry by deed over).0

-- ---- whole journals

or_assoc : (a b c : Bool) → (a || (b || c)) ≡ ((a || b) || c)
or_assoc true b c = refl
or_assoc false b c = refl

or_false : (a : Bool) → (a || false) ≡ a
or_false true = refl
or_false false = refl

pub ended_from : (first last : Isolate) (journal : List Entry) → Replay first journal last → (is_ended first.state || has_disposal journal) ≡ is_ended last.state
ended_from first last [] whole = or_false (is_ended first.state) ∙ ap (λ (i : Isolate). is_ended i.state) (sym whole)
ended_from first last (entry ∷ journal) whole =
    or_assoc (is_ended first.state) (is_disposal entry.outcome) (has_disposal journal)
    ∙ ap (λ b. b || has_disposal journal) (ended_by_entry entry.task first whole.0 entry whole.1)
    ∙ ended_from whole.0 last journal whole.2

pub ended_of_journal : (i limit : ℕ) (journal : List Entry) (last : Isolate) → Replay (fresh i limit) journal last → has_disposal journal ≡ is_ended last.state
ended_of_journal i limit journal last whole = ended_from (fresh i limit) last journal whole

ended_stays : (first last : Isolate) (journal : List Entry) (by : By) → Replay first journal last → first.state ≡ ended by → last.state ≡ ended by
ended_stays first last [] by whole over = ap (λ (i : Isolate). i.state) whole ∙ over
ended_stays first last (entry ∷ journal) by whole over = ended_stays whole.0 last journal by whole.2 (stays_ended entry.task first whole.0 entry by whole.1 over)

-- an isolate whose journal tells an end has ended with that cause
pub told_by_journal : (first last : Isolate) (front rest : List Entry) (entry : Entry) (by : By) → Replay first (front ++ entry ∷ rest) last → entry.outcome ≡ outcome.Disposed by → last.state ≡ ended by
told_by_journal first last front rest entry by whole told =
    let parts = replay_splits first last front (entry ∷ rest) whole in
    let next = parts.2.0 in
    ended_stays next last rest by parts.2.2 (told_by_entry entry.task parts.0 next entry by parts.2.1 told)

-- ---- whoever has ended has a cause

cause_left : (front more : List Entry) (state : State) → HasCause front state → HasCause (front ++ more) state
cause_left front more (live contents) so_far = tt
cause_left front more (ended by) so_far = (so_far.0, Contains-append_left front more so_far.0 so_far.1, so_far.2)

last_there : (front : List Entry) (entry : Entry) → Contains (front ++ entry ∷ []) entry
last_there front entry = Contains-append_right front (entry ∷ []) entry (0, omega arith, refl)

caused_done : (front : List Entry) (task : Task) (old : Contents) (done : Done) → Comes old done → HasCause (front ++ entry_of task done.out done.ticks done.cells ∷ []) done.state
caused_done front task old done (lives_on new out ticks all silent there) = tt
caused_done front task old done (passes s told ticks) =
    let entry = entry_of task done.out done.ticks done.cells in (entry, last_there front entry, tt)

caused_deed : (front : List Entry) (task : Task) (old new : State) (entry : Entry) → DoesTo task old new entry → HasCause front old → HasCause (front ++ entry ∷ []) new
caused_deed front task old new entry (acts {contents = contents} {done = done} deed) so_far = caused_done front task contents done (comes task.budget task.kind contents done deed)
caused_deed front task old new entry (refuses {by = by}) so_far = cause_left front (entry_of task (outcome.Disposed by) 0 0 ∷ []) (ended by) so_far

caused_entry : (front : List Entry) (task : Option Task) (old new : Isolate) (entry : Entry) → Stands task old new entry → HasCause front old.state → HasCause (front ++ entry ∷ []) new.state
caused_entry front None old new entry stop so_far =
    subst (λ s. HasCause (front ++ entry ∷ []) s) (sym (stop_ends old new entry stop)) (entry, last_there front entry, (cells_of stop.contents, stop.noted))
caused_entry front (Some task) old new entry deed so_far = caused_deed front task old.state new.state entry deed.does so_far

caused_from : (front : List Entry) (first last : Isolate) (journal : List Entry) → Replay first journal last → HasCause front first.state → HasCause (front ++ journal) last.state
caused_from front first last [] whole so_far =
    rw append-nil (subst (λ (i : Isolate). HasCause front i.state) (sym whole) so_far)
caused_from front first last (entry ∷ journal) whole so_far =
    subst (λ l. HasCause l last.state) (append_assoc front (entry ∷ []) journal)
    (caused_from (front ++ entry ∷ []) whole.0 last journal whole.2 (caused_entry front entry.task first whole.0 entry whole.1 so_far))

-- the cause of an end stands in the journal
pub caused_of_journal : (i limit : ℕ) (journal : List Entry) (last : Isolate) → Replay (fresh i limit) journal last → HasCause journal last.state
caused_of_journal i limit journal last whole = caused_from [] (fresh i limit) last journal whole tt
