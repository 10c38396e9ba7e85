-- What an isolate sends are replies.
use Rattle.std.proofs.Common.{ℕ, List, [], ◌∷◌, Option, Some, None, subst, sym, inl, inr}
use Rattle.std.proofs.lemmas.List.Elements.{Contains-append_cases, Contains-push_cases}
use Rattle.task_history.specs.declared.task.Task.{Task}
use Rattle.task_history.specs.declared.outcome.By.TheVariants.{Host}
use Rattle.task_history.specs.declared.outcome.Outcome.{Outcome}
use Rattle.task_history.specs.declared.outcome.Outcome.TheVariants.{Disposed}
use Rattle.task_history.specs.declared.outcome.Out.TheVariants.{Reply}
use Rattle.task_history.specs.declared.record.Entry.{Entry}
use Rattle.task_history.specs.Lists.{outs}
use Rattle.isolate_meaning.specs.State.{State, Isolate}
use Rattle.isolate_meaning.specs.Does.{DoesTo, acts, refuses}
use Rattle.isolate_meaning.specs.Replay.{Replay, Stands}
use Rattle.host_meaning.specs.Machine.{IsReply}
use Rattle.host_laws.specs.Driving.{AreReplies}
use Rattle.host_laws.proofs.Lists.{none_there}

one_reply : (call : Option ℕ) (told : Outcome) → AreReplies (Reply call told ∷ [])
one_reply call told out there =
    elim (Contains-push_cases [] (Reply call told) out there) as (λ x. IsReply out) [
      | inl none ↦ absurd (none_there out none)
      | inr same ↦ subst IsReply same tt
    ]

by_deed : (task : Task) (old new : State) (entry : Entry) → DoesTo task old new entry → AreReplies entry.outs
by_deed task old new entry (acts {done = done} deed) = one_reply task.call done.out
by_deed task old new entry (refuses {by}) = one_reply task.call (Disposed by)

pub by_entry : (task : Option Task) (old new : Isolate) (entry : Entry) → Stands task old new entry → AreReplies entry.outs
by_entry None old new entry stop = subst (λ (e : Entry). AreReplies e.outs) (sym stop.noted) (one_reply None (Disposed Host))
by_entry (Some task) old new entry deed = by_deed task old.state new.state entry deed.does

pub replies_alone : (first last : Isolate) (journal : List Entry) → Replay first journal last → AreReplies (outs journal)
replies_alone first last [] replays out there = absurd (none_there out there)
replies_alone first last (entry ∷ journal) replays out there =
    elim (Contains-append_cases entry.outs (outs journal) out there) as (λ x. IsReply out) [
      | inl here ↦ by_entry entry.task first replays.0 entry replays.1 out here
      | inr later ↦ replies_alone replays.0 last journal replays.2 out later
    ]
