-- A context that was told is there, and so a task that names only what was told fits.
use Rattle.std.proofs.Common.{◌≡◌, ℕ, zero, suc, List, [], ◌∷◌, ◌++◌, Option, None, Some, refl, sym, subst, arith, ⊎_elim}
use Rattle.std.specs.Prelude.{IfSome}
use Rattle.std.specs.List.{Contains}
use Rattle.std.proofs.lemmas.List.Elements.{Contains-append_left, Contains-append_cases}
use Rattle.task_history.specs.Lists.{outs}
use Rattle.task_history.specs.declared.task.Task.{Task}
use Rattle.task_history.specs.declared.task.TaskKind.{TaskKind}
use Rattle.task_history.specs.declared.task.TaskKind.TheVariants as kind
use Rattle.task_history.specs.declared.outcome.Outcome.TheVariants as outcome
use Rattle.task_history.specs.declared.outcome.Out.{Out}
use Rattle.task_history.specs.declared.outcome.Out.TheVariants.{Reply}
use Rattle.task_history.specs.declared.record.Entry.{Entry}
use Rattle.isolate_meaning.specs.State.{Contents, State, live, ended, Isolate}
use Rattle.isolate_meaning.specs.Fits.{Fits, NamesIn}
use Rattle.isolate_meaning.specs.Tasks.{Done}
use Rattle.isolate_meaning.specs.Does.{Acts, Does, DoesTo, acts, refuses}
use Rattle.isolate_meaning.specs.Replay.{Replay, Stands}
use Rattle.isolate_meaning.specs.Known.{TellsContext, NamesKnown, IsKnown}
use Rattle.isolate_meaning.specs.Laws.{IsContextReply, AreThere, TellsWhatIsThere, KnownFits}
use Rattle.isolate_meaning.proofs.Deeds.{Replies, comes, stays_there, told_there, made_reply}

-- ---- what is there stays, or the isolate ends

stays_deed : (task : Task) (old new : State) (entry : Entry) (n row : ℕ) → DoesTo task old new entry → AreThere old n row → AreThere new n row
stays_deed task old new entry n row (acts {contents = contents} {done = done} deed) there = stays_there contents done n row (comes task.budget task.kind contents done deed) there
stays_deed task old new entry n row refuses there = there

stays_entry : (task : Option Task) (old new : Isolate) (entry : Entry) (n row : ℕ) → Stands task old new entry → AreThere old.state n row → AreThere new.state n row
stays_entry None old new entry n row stop there = subst (λ (i : Isolate). AreThere i.state n row) (sym stop.ends) tt
stays_entry (Some task) old new entry n row deed there = stays_deed task old.state new.state entry n row deed.does there

stays : (first last : Isolate) (journal : List Entry) (n row : ℕ) → Replay first journal last → AreThere first.state n row → AreThere last.state n row
stays first last [] n row whole there = subst (λ (i : Isolate). AreThere i.state n row) (sym whole) there
stays first last (entry ∷ journal) n row whole there = stays whole.0 last journal n row whole.2 (stays_entry entry.task first whole.0 entry n row whole.1 there)

-- ---- what an entry tells is there after it

only_one : (x y : Out) → Contains (x ∷ []) y → x ≡ y
only_one x y (zero, below, here) = here
only_one x y (suc k, below, here) = absurd (omega (arith, below))

tells_deed : (task : Task) (old new : State) (entry : Entry) (call : Option ℕ) (n row : ℕ) → DoesTo task old new entry → Contains entry.outs (Reply call (outcome.Context n row)) → AreThere new n row
tells_deed task old new entry call n row (acts {contents = contents} {done = done} deed) here =
    let same : Reply task.call done.out ≡ Reply call (outcome.Context n row) = only_one (Reply task.call done.out) (Reply call (outcome.Context n row)) here in
    let is : done.out ≡ outcome.Context n row = cc in
    told_there contents done n row (comes task.budget task.kind contents done deed) is
tells_deed task old new entry call n row (refuses {by = by}) here = tt

tells_entry : (task : Option Task) (old new : Isolate) (entry : Entry) (call : Option ℕ) (n row : ℕ) → Stands task old new entry → Contains entry.outs (Reply call (outcome.Context n row)) → AreThere new.state n row
tells_entry None old new entry call n row stop here = subst (λ (i : Isolate). AreThere i.state n row) (sym stop.ends) tt
tells_entry (Some task) old new entry call n row deed here = tells_deed task old.state new.state entry call n row deed.does here

tells_from : (first last : Isolate) (journal : List Entry) (call : Option ℕ) (n row : ℕ) → Replay first journal last → Contains (outs journal) (Reply call (outcome.Context n row)) → AreThere last.state n row
tells_from first last [] call n row whole (k, below, here) = absurd (omega (arith, below))
tells_from first last (entry ∷ journal) call n row whole here =
    ⊎_elim
    (λ (now : Contains entry.outs (Reply call (outcome.Context n row))). stays whole.0 last journal n row whole.2 (tells_entry entry.task first whole.0 entry call n row whole.1 now))
    (λ (later : Contains (outs journal) (Reply call (outcome.Context n row))). tells_from whole.0 last journal call n row whole.2 later)
    (Contains-append_cases entry.outs (outs journal) (Reply call (outcome.Context n row)) here)

-- a context that a journal tells is there where the isolate lives, and so is its row
pub tells_contexts : (first last : Isolate) (journal : List Entry) → Replay first journal last → TellsWhatIsThere (outs journal) last.state
tells_contexts first last journal whole n row (call, here) = tells_from first last journal call n row whole here

-- ---- the making of a context

context_reply_of : (task : Task) (old new : State) (entry : Entry) → DoesTo task old new entry → task.kind ≡ kind.Context → IsContextReply old entry.outcome
context_reply_of task old new entry (acts {contents = contents} {done = done} deed) is =
    let made = subst (λ k. Acts task.budget k contents done) is deed in
    subst (λ (o : Option Done). IfSome o (Replies contents)) made (made_reply contents)
context_reply_of task old new entry refuses is = refl

pub context_reply : (task : Task) (old new : Isolate) (entry : Entry) → Does task old new entry → task.kind ≡ kind.Context → IsContextReply old.state entry.outcome
context_reply task old new entry deed is = context_reply_of task old.state new.state entry deed.does is

-- ---- known

told_here : (contents : Contents) (journal : List Entry) (heard later : List Out) (n row : ℕ) → outs journal ≡ heard ++ later → TellsWhatIsThere (outs journal) (live contents) → TellsContext heard n row → AreThere (live contents) n row
told_here contents journal heard later n row whole tells (call, here) =
    tells n row (call, subst (λ l. Contains l (Reply call (outcome.Context n row))) (sym whole) (Contains-append_left heard later (Reply call (outcome.Context n row)) here))

names_there : (contents : Contents) (journal : List Entry) (heard later : List Out) (task : TaskKind) → outs journal ≡ heard ++ later → TellsWhatIsThere (outs journal) (live contents) → NamesKnown heard task → NamesIn contents task
names_there contents journal heard later kind.Context whole tells names = tt
names_there contents journal heard later (kind.Compile text) whole tells names = tt
names_there contents journal heard later (kind.Run script context want) whole tells names = absurd names
names_there contents journal heard later (kind.Eval context text want) whole tells (row, told) = (told_here contents journal heard later context row whole tells told).0
names_there contents journal heard later (kind.Act row act) whole tells (context, told) = (told_here contents journal heard later context row whole tells told).1
names_there contents journal heard later (kind.Resume promise answer) whole tells names = tt

fits_there : (state : State) (journal : List Entry) (heard later : List Out) (task : Task) → outs journal ≡ heard ++ later → TellsWhatIsThere (outs journal) state → IsKnown heard task → Fits state task
fits_there (live contents) journal heard later task whole tells known = (known.sound, names_there contents journal heard later task.kind whole tells known.names)
fits_there (ended by) journal heard later task whole tells known = tt

-- a task that names nothing but what its isolate told fits it
pub known_fits : (first last : Isolate) (journal : List Entry) → Replay first journal last → KnownFits journal last.state
known_fits first last journal replays heard later task whole known =
    fits_there last.state journal heard later task whole (tells_contexts first last journal replays) known
