-- Each entry sends one reply, which names the call of its task.
use Rattle.std.proofs.Common.{◌≡◌, List, [], ◌∷◌, ◌++◌, Option, None, Some, refl, ap, ◌∙◌}
use Rattle.std.proofs.lemmas.Grind.{flat_map-append}
use Rattle.task_history.specs.Lists.{outs, replies, reply_of}
use Rattle.task_history.specs.declared.task.Task.{Task}
use Rattle.task_history.specs.declared.record.Entry.{Entry}
use Rattle.isolate_meaning.specs.State.{State, Isolate}
use Rattle.isolate_meaning.specs.Does.{DoesTo, acts, refuses}
use Rattle.isolate_meaning.specs.Replay.{Replay, Stands}
use Rattle.isolate_meaning.specs.Laws.{call_of, calls}

replies_of_deed : (task : Task) (old new : State) (entry : Entry) → DoesTo task old new entry → replies entry.outs ≡ task.call ∷ []
replies_of_deed task old new entry (acts deed) = refl
replies_of_deed task old new entry refuses = refl

pub replies_of_entry : (task : Option Task) (old new : Isolate) (entry : Entry) → Stands task old new entry → replies entry.outs ≡ call_of task ∷ []
replies_of_entry None old new entry stop = ap (λ (e : Entry). replies e.outs) stop.noted
replies_of_entry (Some task) old new entry deed = replies_of_deed task old.state new.state entry deed.does

pub replies_of_journal : (first last : Isolate) (journal : List Entry) → Replay first journal last → replies (outs journal) ≡ calls journal
replies_of_journal first last [] whole = refl
replies_of_journal first last (entry ∷ journal) whole =
    flat_map-append reply_of entry.outs (outs journal)
    ∙ ap (λ front. front ++ replies (outs journal)) (replies_of_entry entry.task first whole.0 entry whole.1)
    ∙ ap (λ rest. call_of entry.task ∷ rest) (replies_of_journal whole.0 last journal whole.2)
