-- A replay goes on, and comes apart, at its entries.
use Rattle.std.proofs.Common.{◌≡◌, List, [], ◌∷◌, ◌++◌, Option, None, Some, refl, subst, sym, ap, ◌∙◌}
use Rattle.task_history.specs.declared.task.Task.{Task}
use Rattle.task_history.specs.declared.record.Entry.{Entry}
use Rattle.isolate_meaning.specs.State.{State, Isolate}
use Rattle.isolate_meaning.specs.Does.{DoesTo, acts, refuses}
use Rattle.isolate_meaning.specs.Replay.{Replay, Stands}

-- ---- more entries

pub replay_joins : (first middle last : Isolate) (front back : List Entry) → Replay first front middle → Replay middle back last → Replay first (front ++ back) last
replay_joins first middle last [] back so_far more = subst (λ i. Replay i back last) so_far more
replay_joins first middle last (entry ∷ front) back so_far more = (so_far.0, so_far.1, replay_joins so_far.0 middle last front back so_far.2 more)

pub replay_more : (first middle last : Isolate) (journal : List Entry) (entry : Entry) → Replay first journal middle → Stands entry.task middle last entry → Replay first (journal ++ entry ∷ []) last
replay_more first middle last journal entry so_far stands = replay_joins first middle last journal (entry ∷ []) so_far (last, stands, refl)

pub replay_splits : (first last : Isolate) (front back : List Entry) → Replay first (front ++ back) last → (middle : Isolate) × Replay first front middle × Replay middle back last
replay_splits first last [] back whole = (first, refl, whole)
replay_splits first last (entry ∷ front) back whole =
    let rest = replay_splits whole.0 last front back whole.2 in
    (rest.0, (whole.0, whole.1, rest.1), rest.2)

-- the last entry comes after a replay of the others
pub replay_before : (first last : Isolate) (journal : List Entry) (entry : Entry) → Replay first (journal ++ entry ∷ []) last → (middle : Isolate) × Replay first journal middle × Stands entry.task middle last entry
replay_before first last journal entry whole =
    let parts = replay_splits first last journal (entry ∷ []) whole in
    (parts.0, parts.1, subst (λ i. Stands entry.task parts.0 i entry) (sym parts.2.2) parts.2.1)

-- ---- the task of an entry

task_of_deed : (task : Task) (old new : State) (entry : Entry) → DoesTo task old new entry → entry.task ≡ Some task
task_of_deed task old new entry (acts deed) = refl
task_of_deed task old new entry refuses = refl

-- an entry that stands for a task, or for a stop, has that task, or none
pub task_of_entry : (task : Option Task) (old new : Isolate) (entry : Entry) → Stands task old new entry → entry.task ≡ task
task_of_entry None old new entry stop = ap (λ (e : Entry). e.task) stop.noted
task_of_entry (Some task) old new entry deed = task_of_deed task old.state new.state entry deed.does

-- what was done may stand in a journal
pub stands_itself : (task : Option Task) (old new : Isolate) (entry : Entry) → Stands task old new entry → Stands entry.task old new entry
stands_itself task old new entry stands = subst (λ t. Stands t old new entry) (sym (task_of_entry task old new entry stands)) stands

-- ---- the number and the limit stay

pub same_number : (task : Option Task) (old new : Isolate) (entry : Entry) → Stands task old new entry → new.number ≡ old.number
same_number None old new entry stop = ap (λ (i : Isolate). i.number) stop.ends
same_number (Some task) old new entry deed = deed.number

pub same_limit : (task : Option Task) (old new : Isolate) (entry : Entry) → Stands task old new entry → new.limit ≡ old.limit
same_limit None old new entry stop = ap (λ (i : Isolate). i.limit) stop.ends
same_limit (Some task) old new entry deed = deed.limit

pub replay_same_number : (first last : Isolate) (journal : List Entry) → Replay first journal last → last.number ≡ first.number
replay_same_number first last [] whole = ap (λ (i : Isolate). i.number) whole
replay_same_number first last (entry ∷ journal) whole = replay_same_number whole.0 last journal whole.2 ∙ same_number entry.task first whole.0 entry whole.1

pub replay_same_limit : (first last : Isolate) (journal : List Entry) → Replay first journal last → last.limit ≡ first.limit
replay_same_limit first last [] whole = ap (λ (i : Isolate). i.limit) whole
replay_same_limit first last (entry ∷ journal) whole = replay_same_limit whole.0 last journal whole.2 ∙ same_limit entry.task first whole.0 entry whole.1
