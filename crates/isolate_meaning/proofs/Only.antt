-- A task does one thing, and so a journal that is carried out again has one end, as far as each text is read in one way.
use Rattle.std.proofs.Common.{◌≡◌, ℕ, List, [], ◌∷◌, Option, None, Some, refl, sym, ap, subst, ◌∙◌}
use Rattle.task_history.specs.declared.task.Act.{Act}
use Rattle.task_history.specs.declared.task.Act.TheVariants.{Get, Set, Apply, CopyOut}
use Rattle.task_history.specs.declared.task.Task.{Task}
use Rattle.task_history.specs.declared.task.TaskKind.{TaskKind}
use Rattle.task_history.specs.declared.task.TaskKind.TheVariants as kind
use Rattle.task_history.specs.declared.outcome.By.{By}
use Rattle.task_history.specs.declared.outcome.Outcome.TheVariants.{Disposed}
use Rattle.task_history.specs.declared.record.Entry.{Entry}
use Rattle.isolate_meaning.specs.State.{Contents, State, live, ended, Isolate, cells_of}
use Rattle.isolate_meaning.specs.Tasks.{Done, text_run}
use Rattle.isolate_meaning.specs.Does.{Acts, ActsOn, Does, DoesTo, acts, refuses, HostStop, entry_of, stop_entry}
use Rattle.isolate_meaning.specs.Replay.{Replay, Stands}
use Rattle.isolate_meaning.specs.Laws.{AreReadOnce, IsOneDeed, IsOneEnd}

-- ---- what acts

some_once : {o : Option Done} (one other : Done) → o ≡ Some one → o ≡ Some other → other ≡ one
some_once one other a b = cc

act_once : (row : ℕ) (act : Act) (contents : Contents) (one other : Done) → ActsOn row act contents one → ActsOn row act contents other → other ≡ one
act_once row (Get key want) contents one other a b = some_once one other a b
act_once row (Set key value) contents one other a b = some_once one other a b
act_once row (Apply receiver args want) contents one other a b = absurd a
act_once row CopyOut contents one other a b = absurd a

pub acts_once : AreReadOnce → (budget : ℕ) (task : TaskKind) (contents : Contents) (one other : Done) → Acts budget task contents one → Acts budget task contents other → other ≡ one
acts_once once budget kind.Context contents one other a b = some_once one other a b
acts_once once budget (kind.Compile text) contents one other a b = absurd a
acts_once once budget (kind.Run script context want) contents one other a b = absurd a
acts_once once budget (kind.Eval context text want) contents one other a b =
    some_once one other a.runs (ap (λ r. text_run budget context r contents) (sym (once text b.reading a.reading b.reads a.reads)) ∙ b.runs)
acts_once once budget (kind.Act row act) contents one other a b = act_once row act contents one other a b
acts_once once budget (kind.Resume promise answer) contents one other a b = absurd a

-- ---- what a task does

-- the state and the entry that it comes to are these
pub record AreSame (new other : State) (entry another : Entry) : Type 0 where
  pub states : other ≡ new
  pub entries : another ≡ entry

-- what a task does to a state that is known to be live, or to have ended
live_deed : (task : Task) (old other : State) (another : Entry) (contents : Contents) → DoesTo task old other another → old ≡ live contents
    → (done : Done) × Acts task.budget task.kind contents done × (other ≡ done.state) × (another ≡ entry_of task done.out done.ticks done.cells)
live_deed task old other another contents (acts {contents = was} {done = done} deed) is =
    let same : was ≡ contents = cc in
    (done, subst (λ c. Acts task.budget task.kind c done) same deed, refl, refl)
live_deed task old other another contents refuses is = absurd (cc is)

ended_deed : (task : Task) (old other : State) (another : Entry) (by : By) → DoesTo task old other another → old ≡ ended by → AreSame (ended by) other (entry_of task (Disposed by) 0 0) another
ended_deed task old other another by (acts deed) is = absurd (cc is)
ended_deed task old other another by (refuses {by = cause}) is =
    let same : cause ≡ by = cc in
    record { states = ap ended same; entries = ap (λ b. entry_of task (Disposed b) 0 0) same }

pub deeds_once : AreReadOnce → (task : Task) (old new other : State) (entry another : Entry) → DoesTo task old new entry → DoesTo task old other another → AreSame new other entry another
deeds_once once task old new other entry another (acts {contents = contents} {done = done} deed) more =
    let found = live_deed task (live contents) other another contents more refl in
    let same : found.0 ≡ done = acts_once once task.budget task.kind contents done found.0 deed found.1 in
    record {
      states = found.2 ∙ ap (λ (d : Done). d.state) same;
      entries = found.3 ∙ ap (λ (d : Done). entry_of task d.out d.ticks d.cells) same;
    }
deeds_once once task old new other entry another (refuses {by = by}) more = ended_deed task (ended by) other another by more refl

-- ---- isolates

pub same_isolate : (one other : Isolate) → other.number ≡ one.number → other.limit ≡ one.limit → other.state ≡ one.state → other ≡ one
same_isolate one other number limit state =
    ap (λ n. record { number = n; limit = other.limit; state = other.state }) number
    ∙ ap (λ n. record { number = one.number; limit = n; state = other.state }) limit
    ∙ ap (λ s. record { number = one.number; limit = one.limit; state = s }) state

pub tasks_once : AreReadOnce → (task : Task) (old new other : Isolate) (entry another : Entry) → Does task old new entry → Does task old other another → (other ≡ new) × (another ≡ entry)
tasks_once once task old new other entry another one more =
    let same = deeds_once once task old.state new.state other.state entry another one.does more.does in
    (same_isolate new other (more.number ∙ sym one.number) (more.limit ∙ sym one.limit) same.states, same.entries)

-- so does a stop by the host
pub stops_once : (old new other : Isolate) (entry another : Entry) → HostStop old new entry → HostStop old other another → (other ≡ new) × (another ≡ entry)
stops_once old new other entry another one more =
    let lives : live more.contents ≡ live one.contents = sym more.was_live ∙ one.was_live in
    let same : more.contents ≡ one.contents = cc in
    (more.ends ∙ sym one.ends, more.noted ∙ ap (λ c. stop_entry (cells_of c)) same ∙ sym one.noted)

pub stands_once : AreReadOnce → (task : Option Task) (old new other : Isolate) (entry another : Entry) → Stands task old new entry → Stands task old other another → (other ≡ new) × (another ≡ entry)
stands_once once None old new other entry another one more = stops_once old new other entry another one more
stands_once once (Some task) old new other entry another one more = tasks_once once task old new other entry another one more

-- a journal that is carried out again has one end
pub replays_once : AreReadOnce → (first last other : Isolate) (journal : List Entry) → Replay first journal last → Replay first journal other → other ≡ last
replays_once once first last other [] one more = more ∙ sym one
replays_once once first last other (entry ∷ journal) one more =
    let same : more.0 ≡ one.0 = (stands_once once entry.task first one.0 more.0 entry entry one.1 more.1).0 in
    replays_once once one.0 last other journal one.2 (subst (λ i. Replay i journal other) same more.2)

-- a task turns an isolate into one other, and leaves one entry
pub one_deed : AreReadOnce → (task : Task) (old new : Isolate) (entry : Entry) → Does task old new entry → IsOneDeed task old new entry
one_deed once task old new entry one other another more = tasks_once once task old new other entry another one more

pub one_end : AreReadOnce → (first last : Isolate) (journal : List Entry) → Replay first journal last → IsOneEnd first journal last
one_end once first last journal one other more = replays_once once first last other journal one more
