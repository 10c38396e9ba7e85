-- The entries, tasks and calls of a journal.
use Rattle.std.proofs.Common.{◌≡◌, ℕ, suc, zero, List, [], ◌∷◌, ◌++◌, Option, Some, None, refl, subst, sym, ap, ◌∙◌, arith, inl, inr, slice_get}
use Rattle.std.proofs.lemmas.Option.{same_Some}
use Rattle.std.proofs.lemmas.List.Elements.{Contains-append_left, Contains-append_right, Contains-append_cases, Contains-push_cases}
use Rattle.std.specs.List.{Contains}
use Rattle.task_history.specs.declared.task.Task.{Task}
use Rattle.task_history.specs.declared.record.Entry.{Entry}
use Rattle.task_history.specs.Lists.{listed, tasks}
use Rattle.isolate_meaning.specs.Laws.{call_of, calls}
use Rattle.host_meaning.specs.Settlement.{IsRunOf}
use Rattle.host_laws.proofs.Lists.{none_there}

pub contains_head : {A : Type 0} (x y : A) (xs : List A) → x ≡ y → Contains (x ∷ xs) y
contains_head x y xs e = (0, grind arith, e)

pub contains_tail : {A : Type 0} (x : A) (xs : List A) (y : A) → Contains xs y → Contains (x ∷ xs) y
contains_tail x xs y c = Contains-append_right (x ∷ []) xs y c

is_run : (n : ℕ) (entry : Entry) (task : Option Task) → entry.task ≡ task → call_of task ≡ Some n → IsRunOf n entry
is_run n entry None is call = let no : ⊥ = cc in absurd no
is_run n entry (Some task) is call = record { task = task; has = is; named = call }

-- the entry at the place of call n among the calls is that of a task of call n
pub run_at : (journal : List Entry) (p n : ℕ) → slice_get (calls journal) p ≡ Some (Some n) → (entry : Entry) × (slice_get journal p ≡ Some entry) × IsRunOf n entry
run_at [] p n is = let no : ⊥ = cc in absurd no
run_at (entry ∷ journal) zero n is = (entry, refl, is_run n entry entry.task refl (same_Some (call_of entry.task) (Some n) is))
run_at (entry ∷ journal) (suc p) n is = run_at journal p n is

-- the task of an entry is among the tasks
pub task_there : (journal : List Entry) (p : ℕ) (entry : Entry) (task : Task) → slice_get journal p ≡ Some entry → entry.task ≡ Some task → Contains (tasks journal) task
task_there [] p entry task at has = let no : ⊥ = cc in absurd no
task_there (x ∷ journal) zero entry task at has =
    let is : x.task ≡ Some task = ap (λ (e : Entry). e.task) (same_Some x entry at) ∙ has in
    Contains-append_left (listed x.task) (tasks journal) task (subst (λ t. Contains (listed t) task) (sym is) (contains_head task task [] refl))
task_there (x ∷ journal) (suc p) entry task at has = Contains-append_right (listed x.task) (tasks journal) task (task_there journal p entry task at has)

call_by : (journal : List Entry) (first : Option Task) (task : Task) (n : ℕ) → (Contains (tasks journal) task → Contains (calls journal) (Some n)) → Contains (listed first ++ tasks journal) task → task.call ≡ Some n
    → Contains (call_of first ∷ calls journal) (Some n)
call_by journal None task n rest there named = contains_tail None (calls journal) (Some n) (rest there)
call_by journal (Some other) task n rest there named =
    elim (Contains-append_cases (other ∷ []) (tasks journal) task there) as (λ x. Contains (other.call ∷ calls journal) (Some n)) [
      | inl here ↦
          (elim (Contains-push_cases [] other task here) as (λ x. Contains (other.call ∷ calls journal) (Some n)) [
            | inl none ↦ absurd (none_there task none)
            | inr same ↦ contains_head other.call (Some n) (calls journal) (ap (λ (t : Task). t.call) same ∙ named)
          ])
      | inr later ↦ contains_tail other.call (calls journal) (Some n) (rest later)
    ]

-- the call of a journal's task is among its calls
pub call_there : (journal : List Entry) (task : Task) (n : ℕ) → Contains (tasks journal) task → task.call ≡ Some n → Contains (calls journal) (Some n)
call_there [] task n there named = absurd (none_there task there)
call_there (entry ∷ journal) task n there named = call_by journal entry.task task n (λ later. call_there journal task n later named) there named
