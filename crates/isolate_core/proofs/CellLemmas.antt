-- A cell stays whole: its journal gives its state again, and no other.
use Rattle.std.proofs.Common.{◌≡◌, ℕ, List, [], ◌∷◌, ◌++◌, Bool, true, false, if◌then◌else◌, Option, None, Some, refl, subst, sym, ap, ◌∙◌}
use Rattle.task_history.specs.declared.task.Task.{Task}
use Rattle.task_history.specs.declared.outcome.By.TheVariants.{Host}
use Rattle.task_history.specs.declared.record.Entry.{Entry}
use Rattle.isolate_meaning.specs.State.{Contents, State, live, ended, Isolate, fresh, cells_of, is_ended}
use Rattle.isolate_meaning.specs.Does.{Does, DoesTo, acts, refuses, stop_entry}
use Rattle.isolate_meaning.specs.Laws.{AreReadOnce}
use Rattle.isolate_meaning.specs.Replay.{Kept, Replay, GivesAgain, StandsBy, FitsUnlessVoid, MayPerform, Performs, isolate_in}
use Rattle.isolate_meaning.proofs.Only.{replays_once, tasks_once}
use Rattle.isolate_meaning.proofs.Replays.{replay_more, replay_before, stands_itself}
use Rattle.isolate_meaning.proofs.Scripts.{scripts_stay}
use Rattle.isolate_core.specs.declared.contents.Contents.{Contents as Held}
use Rattle.isolate_core.specs.declared.life.Life.{Life}
use Rattle.isolate_core.specs.declared.life.Life.TheVariants.{Live, Ended, Void}
use Rattle.isolate_core.specs.Only.{IsOnlyPerformance}
use Rattle.isolate_core.specs.Contents.{contents_of}
use Rattle.isolate_core.specs.Life.{state_of, CarriesOut, IsClosedLife, IsOpenWhereLive}
use Rattle.isolate_core.specs.Written.{Written, closed}
use Rattle.isolate_core.specs.Cell.{kept_in, IsWhole}

abbrev isolate_of : ℕ → ℕ → State → Isolate
isolate_of number limit state = record { number = number; limit = limit; state = state }

-- ---- a task

-- with the entry of one more task the journal gives the isolate after it
gives_more : AreReadOnce → (task : Task) (first : Isolate) (journal : List Entry) (old new : Isolate) (entry : Entry)
    → GivesAgain first journal old → Does task old new entry → GivesAgain first (journal ++ entry ∷ []) new
gives_more once task first journal old new entry again does =
    let more : Replay first (journal ++ entry ∷ []) new = replay_more first old new journal entry again.replays (stands_itself (Some task) old new entry does) in
    record { replays = more; only = λ other whole. replays_once once first new other (journal ++ entry ∷ []) more whole }

-- what is performed is one thing
pub only_performance : AreReadOnce → (task : Task) (old new : Kept) → Performs task old new → IsOnlyPerformance task old new
only_performance once task old new one = λ other more.
    let states : Some more.before ≡ Some one.before = sym more.was ∙ one.was in
    let before : more.before ≡ one.before = cc in
    let does : Does task (isolate_in old one.before) (isolate_in old more.after) more.entry =
    subst (λ state. Does task (isolate_in old state) (isolate_in old more.after) more.entry) before more.does
    in
    let same = tasks_once once task (isolate_in old one.before) (isolate_in old one.after) (isolate_in old more.after) one.entry more.entry one.does does in
    more.now
    ∙ ap (λ (i : Isolate). record old { journal = old.journal ++ more.entry ∷ []; state = Some i.state }) same.0
    ∙ ap (λ entry. record old { journal = old.journal ++ entry ∷ []; state = Some one.after }) same.1
    ∙ sym one.now

-- the cell after a task is one
pub only_after : AreReadOnce → (task : Task) (number limit : ℕ) (written new : Written) (old life : Life) (entry : Entry) (was : Kept)
    → kept_in number limit written old ≡ was → MayPerform was task → CarriesOut task old life entry
    → new ≡ record written { entries = written.entries ++ entry ∷ [] } → IsOnlyPerformance task was (kept_in number limit new life)
only_after once task number limit written new old life entry was seen may carried is =
    only_performance once task was (kept_in number limit new life)
    (subst (λ kept. Performs task kept (kept_in number limit new life)) seen (record {
      before = carried.before;
      after = carried.after;
      was = carried.was;
      entry = entry;
      does = record {
        fits = subst (λ s. FitsUnlessVoid s task) carried.was (subst (λ kept. MayPerform kept task) (sym seen) may);
        number = refl;
        limit = refl;
        does = carried.does;
      };
      now =
          ap (λ (w : Written). kept_in number limit w life) is
          ∙ ap (λ state. record { number = number; limit = limit; journal = written.entries ++ entry ∷ []; state = state }) carried.now;
    }))

-- an isolate that has ended stays so
stays_ended : (task : Task) (old new : State) (entry : Entry) → DoesTo task old new entry → is_ended old ≡ true → is_ended new ≡ true
stays_ended task old new entry (acts deed) was = absurd (cc was)
stays_ended task old new entry refuses was = refl

-- a cell that lives on has its stop ready
open_after : (task : Task) (old new : Life) (before after : State) (entry : Entry) (is_open : Bool) → state_of old ≡ Some before → state_of new ≡ Some after
    → DoesTo task before after entry → IsOpenWhereLive old is_open → IsOpenWhereLive new is_open
open_after task old (Ended by) before after entry is_open was now does ready = tt
open_after task old Void before after entry is_open was now does ready = tt
open_after task (Live held) (Live others) before after entry is_open was now does ready = ready
open_after task (Ended by) (Live others) before after entry is_open was now does ready =
    let here : ended by ≡ before = cc in
    let there : live (contents_of others) ≡ after = cc in
    let contrary : false ≡ true = ap is_ended there ∙ stays_ended task before after entry does (sym (ap is_ended here)) in
    absurd (cc contrary)
open_after task Void (Live others) before after entry is_open was now does ready = absurd (cc was)

-- the state that a whole cell has is closed
closed_of : (kept : Kept) (state : Option State) → StandsBy kept state → IsClosedLife state
closed_of kept None stands = tt
closed_of kept (Some state) stands = stands.1.0

pub closed_in : (number limit : ℕ) (written : Written) (life : Life) → IsWhole number limit written life → IsClosedLife (state_of life)
closed_in number limit written life whole = closed_of (kept_in number limit written life) (state_of life) whole.kept

pub performed_whole : AreReadOnce → (task : Task) (number limit : ℕ) (written new : Written) (old life : Life) (entry : Entry) → IsWhole number limit written old
    → FitsUnlessVoid (state_of old) task → CarriesOut task old life entry → new ≡ record written { entries = written.entries ++ entry ∷ [] }
    → IsWhole number limit new life
performed_whole once task number limit written new old life entry whole may carried is =
    subst (λ w. IsWhole number limit w life) (sym is) (record {
      kept = subst (StandsBy (kept_in number limit (record written { entries = written.entries ++ entry ∷ [] }) life)) (sym carried.now)
          (again, (carried.closed, scripts_stay number limit (written.entries ++ entry ∷ []) (isolate_of number limit carried.after) again.replays));
      stoppable = open_after task old life carried.before carried.after entry written.is_open carried.was carried.now carried.does whole.stoppable;
    })
  where
    so_far : GivesAgain (fresh number limit) written.entries (isolate_of number limit carried.before)
    so_far = (subst (StandsBy (kept_in number limit written old)) carried.was whole.kept).0

    does : Does task (isolate_of number limit carried.before) (isolate_of number limit carried.after) entry
    does = record { fits = subst (λ s. FitsUnlessVoid s task) carried.was may; number = refl; limit = refl; does = carried.does }

    again : GivesAgain (fresh number limit) (written.entries ++ entry ∷ []) (isolate_of number limit carried.after)
    again = gives_more once task (fresh number limit) written.entries (isolate_of number limit carried.before) (isolate_of number limit carried.after) entry so_far does

-- ---- a stop

gives_stop : (number limit : ℕ) (journal : List Entry) (contents : Contents)
    → GivesAgain (fresh number limit) journal (record { number = number; limit = limit; state = live contents })
    → GivesAgain (fresh number limit) (journal ++ stop_entry (cells_of contents) ∷ []) (record { number = number; limit = limit; state = ended Host })
gives_stop number limit journal contents again = record {
  replays = replay_more (fresh number limit) (record { number = number; limit = limit; state = live contents }) (record { number = number; limit = limit; state = ended Host })
      journal (stop_entry (cells_of contents)) again.replays (record { contents = contents; was_live = refl; ends = refl; noted = refl });
  only = λ other whole.
      let back = replay_before (fresh number limit) other journal (stop_entry (cells_of contents)) whole in
      back.2.ends ∙ ap (λ (i : Isolate). record i { state = ended Host }) (again.only back.0 back.1);
}

pub stopped_whole : (number limit : ℕ) (written new : Written) (life : Life) (held : Held) (cells : ℕ) → IsWhole number limit written life → life ≡ Live held
    → cells ≡ cells_of (contents_of held) → new ≡ closed cells written → IsWhole number limit new (Ended Host)
stopped_whole number limit written new life held cells whole is counted done =
    let lives : IsWhole number limit written (Live held) = subst (IsWhole number limit written) is whole in
    let open_now : new ≡ record { entries = written.entries ++ stop_entry (cells_of (contents_of held)) ∷ []; is_open = false } =
    done ∙ ap (λ b. if b then record { entries = written.entries ++ stop_entry cells ∷ []; is_open = false } else written) lives.stoppable
    ∙ ap (λ n. record { entries = written.entries ++ stop_entry n ∷ []; is_open = false }) counted
    in
    subst (λ w. IsWhole number limit w (Ended Host)) (sym open_now)
    (record { kept = (gives_stop number limit written.entries (contents_of held) lives.kept.0, (tt, tt)); stoppable = tt })
