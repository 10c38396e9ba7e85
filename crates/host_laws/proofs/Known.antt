-- What a posted task names was told by its isolate.
use Rattle.std.proofs.Common.{◌≡◌, ℕ, ◌<◌, List, [], ◌∷◌, ◌++◌, length, Bool, true, false, not, nat_le, ◌==◌, ◌||◌, if◌then◌else◌, Option, Some, None, refl, subst, sym, ap, ◌∙◌, arith, ◌⊎◌, inl, inr, slice_get, slice_index_or}
use Rattle.std.proofs.lemmas.List.Elements.{Contains-append_left, Contains-append_right, Contains-append_cases, Contains-push_cases}
use Rattle.std.specs.List.{Contains}
use Rattle.std.specs.Option.{option_map, option_map_or}
use Rattle.ivm_text.specs.declared.copies.Leaf.{Leaf}
use Rattle.ivm_text.specs.declared.copies.Leaf.TheVariants.{Undefined, Null, Bool as Boolean, Num, Node}
use Rattle.task_history.specs.Lists.{posts, receives, tasks, outs, listed, is_gone, is_asked, has_ended, is_disposal, tells_disposal, receive_of, tells_end}
use Rattle.task_history.specs.declared.task.Act.{Act}
use Rattle.task_history.specs.declared.task.Act.TheVariants as act
use Rattle.task_history.specs.declared.task.Task.{Task}
use Rattle.task_history.specs.declared.task.TaskKind.{TaskKind}
use Rattle.task_history.specs.declared.task.TaskKind.TheVariants as kind
use Rattle.task_history.specs.declared.outcome.By.TheVariants.{Host}
use Rattle.task_history.specs.declared.outcome.Outcome.{Outcome}
use Rattle.task_history.specs.declared.outcome.Outcome.TheVariants as outcome
use Rattle.task_history.specs.declared.outcome.Out.{Out}
use Rattle.task_history.specs.declared.outcome.Out.TheVariants.{Reply}
use Rattle.task_history.specs.declared.record.Entry.{Entry}
use Rattle.task_history.specs.declared.record.Event.{Event}
use Rattle.task_history.specs.declared.record.Event.TheVariants.{Post, Recv, Ask, Release, Settle}
use Rattle.isolate_meaning.specs.State.{State, live, ended, Isolate, fresh, cells_of}
use Rattle.isolate_meaning.specs.Fits.{IsPlainLeaf, IsPrimitive, IsSoundAct}
use Rattle.isolate_meaning.specs.Does.{DoesTo, acts, refuses, stop_entry}
use Rattle.isolate_meaning.specs.Replay.{Replay, Stands}
use Rattle.isolate_meaning.specs.Known.{TellsContext, IsKnown}
use Rattle.isolate_meaning.specs.Laws.{IsContextReply, IsMemoryLimit}
use Rattle.isolate_meaning.proofs.Told.{context_reply}
use Rattle.host_syntax.specs.declared.script.HostScript.{HostScript}
use Rattle.host_syntax.specs.declared.script.Command.{Command}
use Rattle.host_syntax.specs.declared.script.HostArgument.{HostArgument}
use Rattle.host_syntax.specs.declared.script.HostArgument.TheVariants.{Literal}
use Rattle.host_syntax.specs.declared.script.What.{What}
use Rattle.host_syntax.specs.declared.script.What.TheVariants as what
use Rattle.host_syntax.specs.Whole.{IsWhole, NamesEarlier, MakesContext, context_of, IsArgument, IsPrimitiveLeaf}
use Rattle.host_meaning.specs.declared.moves.Held.{Held}
use Rattle.host_meaning.specs.declared.moves.Move.TheVariants as move
use Rattle.host_meaning.specs.Stand.{Stand, place, drawn, is_there, is_settled, number_of, is_label_settled, held_of, held_at}
use Rattle.host_meaning.specs.Machine.{Request, asks_nothing, asks_task, asks_stop, act_on, default_budget, eval_in, request, is_blocked, isolate_of, context_in, row_in, argument_of, most_calls, task_of, held_by, HostRun}
use Rattle.host_laws.specs.Known.{IsServed, AreServed, PostsKnown}
use Rattle.host_laws.proofs.Turns.{turn_cases, IsAsked, MayPost, script_run}
use Rattle.host_laws.proofs.Targets.{made_in}
use Rattle.host_laws.proofs.Lists.{none_there, place_of}
use Rattle.host_laws.proofs.Accounted.{IsPosted, posted_once}
use Rattle.host_laws.proofs.Contexts.{PostsContext, ContextFate, contexts_have_fates}
use Rattle.host_laws.proofs.Replied.{IsReplied, held_are_replied}

-- ---- what a reply tells of its task

-- the making of a context is answered by the context with the row of its global object, or by the isolate's end
abbrev pub AnswersContext : Outcome → Type 0
AnswersContext out = ((n row : ℕ) × (out ≡ outcome.Context n row)) ⊎ (is_disposal out ≡ true)

-- a task of these has call n, and where it makes a context, the outcome answers that
pub record IsAnswer (done : List Task) (n : ℕ) (out : Outcome) : Type 0 where
  pub task : Task
  pub among : Contains done task
  pub named : task.call ≡ Some n
  pub makes : task.kind ≡ kind.Context → AnswersContext out

limit_tells : (out : Outcome) → IsMemoryLimit out → is_disposal out ≡ true
limit_tells (outcome.MemoryLimit told) passed = refl
limit_tells _ passed = absurd passed

context_answer : (state : State) (out : Outcome) → IsContextReply state out → AnswersContext out
context_answer (live contents) out (inl is) = inl (length contents.contexts, length contents.rows, is)
context_answer (live contents) out (inr passed) = inr (limit_tells out passed)
context_answer (ended by) out is = inr (ap is_disposal is)

only_one : (x y : Out) → Contains (x ∷ []) y → x ≡ y
only_one x y there = elim (Contains-push_cases [] x y there) as (λ r. x ≡ y) [ inl none ↦ absurd (none_there y none) | inr same ↦ same ]

-- an entry sends its outcome alone, as the reply to its task's call
reply_of_deed : (task : Task) (old new : State) (entry : Entry) (n : ℕ) (out : Outcome) → DoesTo task old new entry → Contains entry.outs (Reply (Some n) out) → (task.call ≡ Some n) × (entry.outcome ≡ out)
reply_of_deed task old new entry n out (acts {done = done} deed) here =
    let same : Reply task.call done.out ≡ Reply (Some n) out = only_one (Reply task.call done.out) (Reply (Some n) out) here in
    (cc, cc)
reply_of_deed task old new entry n out (refuses {by = by}) here =
    let same : Reply task.call (outcome.Disposed by) ≡ Reply (Some n) out = only_one (Reply task.call (outcome.Disposed by)) (Reply (Some n) out) here in
    (cc, cc)

answer_of_entry : (task : Option Task) (old new : Isolate) (entry : Entry) (n : ℕ) (out : Outcome) → Stands task old new entry → Contains entry.outs (Reply (Some n) out) → IsAnswer (listed task) n out
answer_of_entry None old new entry n out stop here =
    let among : Contains (stop_entry (cells_of stop.contents)).outs (Reply (Some n) out) = subst (λ (e : Entry). Contains e.outs (Reply (Some n) out)) stop.noted here in
    let same : Reply None (outcome.Disposed Host) ≡ Reply (Some n) out = only_one (Reply None (outcome.Disposed Host)) (Reply (Some n) out) among in
    let no : ⊥ = cc in absurd no
answer_of_entry (Some task) old new entry n out deed here =
    let told = reply_of_deed task old.state new.state entry n out deed.does here in
    record {
      task = task;
      among = (0, grind arith, refl);
      named = told.0;
      makes = λ is. context_answer old.state out (subst (IsContextReply old.state) told.1 (context_reply task old new entry deed is));
    }

answer_left : (done more : List Task) (n : ℕ) (out : Outcome) → IsAnswer done n out → IsAnswer (done ++ more) n out
answer_left done more n out is = record { task = is.task; among = Contains-append_left done more is.task is.among; named = is.named; makes = is.makes }

answer_right : (done more : List Task) (n : ℕ) (out : Outcome) → IsAnswer more n out → IsAnswer (done ++ more) n out
answer_right done more n out is = record { task = is.task; among = Contains-append_right done more is.task is.among; named = is.named; makes = is.makes }

pub answer_of_journal : (first last : Isolate) (journal : List Entry) (n : ℕ) (out : Outcome) → Replay first journal last → Contains (outs journal) (Reply (Some n) out) → IsAnswer (tasks journal) n out
answer_of_journal first last [] n out whole here = absurd (none_there (Reply (Some n) out) here)
answer_of_journal first last (entry ∷ journal) n out whole here =
    elim (Contains-append_cases entry.outs (outs journal) (Reply (Some n) out) here) as (λ x. IsAnswer (tasks (entry ∷ journal)) n out) [
      | inl now ↦ answer_left (listed entry.task) (tasks journal) n out (answer_of_entry entry.task first whole.0 entry n out whole.1 now)
      | inr later ↦ answer_right (listed entry.task) (tasks journal) n out (answer_of_journal whole.0 last journal n out whole.2 later)
    ]

-- ---- an isolate whose end was received is gone

shows_end : (i : ℕ) (event : Event) (out : Out) → Contains (receive_of i event) out → tells_disposal out ≡ true → tells_end i event ≡ true
shows_end i (Post j task) out here tells = absurd (none_there out here)
shows_end i (Recv j told) out here tells =
    (elim (i == j) as (λ b. Contains (if b then told ∷ [] else []) out → (if b then tells_disposal told else false) ≡ true) [
      | true ↦ λ h. ap tells_disposal (only_one told out h) ∙ tells
      | false ↦ λ h. absurd (none_there out h)
    ]) here
shows_end i (Ask j) out here tells = absurd (none_there out here)
shows_end i (Release call) out here tells = absurd (none_there out here)
shows_end i (Settle call how) out here tells = absurd (none_there out here)

or_left : (a b : Bool) → a ≡ true → (a || b) ≡ true
or_left true b is = refl
or_left false b is = cc

or_right : (a b : Bool) → b ≡ true → (a || b) ≡ true
or_right true b is = refl
or_right false b is = is

pub ended_by_receipt : (i : ℕ) (history : List Event) (out : Out) → Contains (receives i history) out → tells_disposal out ≡ true → has_ended i history ≡ true
ended_by_receipt i [] out here tells = absurd (none_there out here)
ended_by_receipt i (event ∷ history) out here tells =
    elim (Contains-append_cases (receive_of i event) (receives i history) out here) as (λ x. has_ended i (event ∷ history) ≡ true) [
      | inl now ↦ or_left (tells_end i event) (has_ended i history) (shows_end i event out now tells)
      | inr later ↦ or_right (tells_end i event) (has_ended i history) (ended_by_receipt i history out later tells)
    ]

-- ---- a context that a command may name

-- a settlement holds a context, with the row of its global object, that these outs tell
pub record HoldsTold (outs : List Out) (settled : Option Held) : Type 0 where
  pub context : ℕ
  pub row : ℕ
  pub has_context : context_in settled ≡ Some context
  pub has_row : row_in settled ≡ Some row
  pub told : TellsContext outs context row

module _ (script : HostScript) (stand : Stand) (run : HostRun script stand) (served : AreServed stand.script stand.history) where
  -- a reply to a task of this call, posted to this isolate to make a context, came from this isolate and answers that
  answers : (isolate n j : ℕ) (out : Outcome) → PostsContext stand.history isolate n → j < length stand.script.isolates → Contains (receives j stand.history) (Reply (Some n) out) → (j ≡ isolate) × AnswersContext out
  answers isolate n j out posted inside heard =
      let beside : IsServed j stand.history = served j inside in
      let sent : Contains (outs beside.journal) (Reply (Some n) out) =
      subst (λ l. Contains l (Reply (Some n) out)) (sym beside.heard) (Contains-append_left (receives j stand.history) beside.sent (Reply (Some n) out) heard) in
      let answer : IsAnswer (tasks beside.journal) n out = answer_of_journal (fresh j beside.limit) beside.replays.0 beside.journal n out beside.replays.1 sent in
      let among : Contains (posts j stand.history) answer.task =
      subst (λ l. Contains l answer.task) (sym beside.posted) (Contains-append_left (tasks beside.journal) beside.waiting answer.task answer.among) in
      let there = place_of (posts j stand.history) answer.task among in
      let one : IsPosted stand.history n = record { isolate = j; place = there.0; task = answer.task; at = there.1; named = answer.named } in
      let other : IsPosted stand.history n = record { isolate = isolate; place = posted.place; task = posted.task; at = posted.at; named = posted.named } in
      let same : (j ≡ isolate) × (there.0 ≡ posted.place) = posted_once script stand run n one other in
      let at : slice_get (posts isolate stand.history) posted.place ≡ Some answer.task =
      subst (λ i. slice_get (posts i stand.history) posted.place ≡ Some answer.task) same.0 (subst (λ p. slice_get (posts j stand.history) p ≡ Some answer.task) same.1 there.1) in
      let tasks_same : posted.task ≡ answer.task = some_same posted.task answer.task (sym posted.at ∙ at) in
      (same.0, answer.makes (ap (λ (t : Task). t.kind) (sym tasks_same) ∙ posted.makes))
    where
      some_same : (a b : Task) → Some a ≡ Some b → a ≡ b
      some_same a b e = cc

  -- what such a reply makes of the call
  told_by : (isolate n : ℕ) (now : Held) (out : Outcome) → is_gone isolate stand.history ≡ false → Contains (receives isolate stand.history) (Reply (Some n) out) → now ≡ held_by out → AnswersContext out
      → HoldsTold (receives isolate stand.history) (Some now)
  told_by isolate n now out here heard is (inl (c, row, makes)) =
      subst (λ h. HoldsTold (receives isolate stand.history) (Some h)) (sym (is ∙ ap held_by makes))
      (record {
        context = c;
        row = row;
        has_context = refl;
        has_row = refl;
        told = (Some n, subst (λ o. Contains (receives isolate stand.history) (Reply (Some n) o)) makes heard);
      })
  told_by isolate n now out here heard is (inr over) =
      let gone : is_gone isolate stand.history ≡ true = or_right (is_asked isolate stand.history) (has_ended isolate stand.history) (ended_by_receipt isolate stand.history (Reply (Some n) out) heard over) in
      let no : ⊥ = cc in absurd no

  by_call : (isolate n : ℕ) (call : Option Held) → slice_index_or stand.calls n None ≡ call → PostsContext stand.history isolate n → is_there call ≡ true → is_gone isolate stand.history ≡ false
      → HoldsTold (receives isolate stand.history) call
  by_call isolate n None is posted settled here = let no : ⊥ = cc in absurd no
  by_call isolate n (Some now) is posted settled here =
      let replied : IsReplied stand n now = held_are_replied script stand run n now is (record { isolate = isolate; place = posted.place; task = posted.task; at = posted.at; named = posted.named }) in
      let answer = answers isolate n replied.isolate replied.outcome posted replied.inside replied.heard in
      told_by isolate n now replied.outcome here (subst (λ j. Contains (receives j stand.history) (Reply (Some n) replied.outcome)) answer.0 replied.heard) replied.is answer.1

  by_number : (isolate : ℕ) (number : Option ℕ) → ContextFate stand isolate number → option_map_or (is_settled stand) number true ≡ true → nat_le most_calls (drawn stand) ≡ false → is_gone isolate stand.history ≡ false
      → HoldsTold (receives isolate stand.history) (held_of stand number)
  by_number isolate None full settled room here = let no : ⊥ = cc in absurd no
  by_number isolate (Some n) (inl gone) settled room here = let no : ⊥ = cc in absurd no
  by_number isolate (Some n) (inr posted) settled room here = by_call isolate n (slice_index_or stand.calls n None) refl posted settled here

  -- where a command's context is settled and its isolate isn't gone, the isolate told the context
  pub context_told : (k isolate : ℕ) → MakesContext stand.script.commands (place stand) k → isolate_of stand.script k ≡ Some isolate → is_label_settled stand k ≡ true → nat_le most_calls (drawn stand) ≡ false → is_gone isolate stand.history ≡ false
      → HoldsTold (receives isolate stand.history) (held_at stand k)
  context_told k isolate (command, maker, below, at, makes) is settled room here =
      let same : maker ≡ isolate = cc (made_in stand.script (place stand) k (command, maker, below, at, makes), is) in
      by_number isolate (number_of stand k) (contexts_have_fates script stand run k isolate command at (makes ∙ ap (λ i. Some i) same) below) settled room here

-- ---- what a request asks for

plain_leaf : (leaf : Leaf) → IsPrimitiveLeaf leaf → IsPlainLeaf leaf
plain_leaf Undefined is = tt
plain_leaf Null is = tt
plain_leaf (Boolean b) is = tt
plain_leaf (Num n) is = tt
plain_leaf (Node n) is = absurd is

plain_argument : (value : HostArgument) → IsArgument value → IsPrimitive (argument_of value)
plain_argument (Literal copy) is = (is.0, plain_leaf copy.root is.1)

-- the kind of a task that is asked for is there, and what it names was told in these outs
pub record NamesTold (outs : List Out) (budget : ℕ) (kind : Option TaskKind) : Type 0 where
  pub one : TaskKind
  pub is : kind ≡ Some one
  pub known : (call : Option ℕ) → IsKnown outs (record { call = call; budget = budget; kind = one })

-- what a task that is asked for names is there and was told by its isolate, unless that is gone
abbrev pub AsksForKnown : List Event → Request → Type 0
AsksForKnown history asks_nothing = Unit {0}
AsksForKnown history (asks_task None budget kind) = ⊥
AsksForKnown history (asks_task (Some i) budget kind) = is_gone i history ≡ false → NamesTold (receives i history) budget kind
AsksForKnown history (asks_stop i) = Unit {0}

free_label : (settled : Bool) → not settled ≡ false → settled ≡ true
free_label true is = refl
free_label false is = cc

-- a task for the isolate in which a command makes a context
asks_known : (stand : Stand) (k budget : ℕ) (kind : Option TaskKind) → MakesContext stand.script.commands (place stand) k
    → ((isolate : ℕ) → isolate_of stand.script k ≡ Some isolate → is_gone isolate stand.history ≡ false → NamesTold (receives isolate stand.history) budget kind)
    → AsksForKnown stand.history (asks_task (isolate_of stand.script k) budget kind)
asks_known stand k budget kind makes each =
    let is = made_in stand.script (place stand) k makes in
    subst (λ isolate. AsksForKnown stand.history (asks_task isolate budget kind)) (sym is) (each makes.1 is)

-- something is done with a row that was told
act_known : (outs : List Out) (settled : Option Held) (wanted : Act) → IsSoundAct wanted → HoldsTold outs settled → NamesTold outs default_budget (act_on settled wanted)
act_known outs settled wanted sound held = record {
  one = kind.Act held.row wanted;
  is = ap (option_map (λ row. kind.Act row wanted)) held.has_row;
  known = λ call. record { sound = record { kind = sound; some = grind arith; most = grind arith }; names = (held.context, held.told) };
}

module _ (script : HostScript) (stand : Stand) (run : HostRun script stand) (served : AreServed stand.script stand.history) (room : nat_le most_calls (drawn stand) ≡ false) where
  holds_told : (k isolate : ℕ) → MakesContext stand.script.commands (place stand) k → not (is_label_settled stand k) ≡ false → isolate_of stand.script k ≡ Some isolate → is_gone isolate stand.history ≡ false
      → HoldsTold (receives isolate stand.history) (held_at stand k)
  holds_told k isolate makes free is here = context_told script stand run served k isolate makes is (free_label (is_label_settled stand k) free) room here

  pub known_request : (wanted : What) → NamesEarlier stand.script (place stand) wanted → is_blocked stand wanted ≡ false → AsksForKnown stand.history (request stand wanted)
  known_request what.Declare names free = tt
  known_request (what.Context isolate) names free = λ here. record {
    one = kind.Context;
    is = refl;
    known = λ call. record { sound = record { kind = tt; some = grind arith; most = grind arith }; names = tt };
  }
  known_request (what.Eval context budget want text) names free =
      asks_known stand context budget (eval_in (held_at stand context) text want) names.0 (λ isolate is here.
      (let held = holds_told context isolate names.0 free is here in
      record {
        one = kind.Eval held.context text want;
        is = ap (option_map (λ c. kind.Eval c text want)) held.has_context;
        known = λ call. record { sound = record { kind = names.3; some = names.1; most = names.2 }; names = (held.row, held.told) };
      }))
  known_request (what.Get target key want) names free =
      asks_known stand target default_budget (act_on (held_at stand target) (act.Get key want)) names.0
      (λ isolate is here. act_known (receives isolate stand.history) (held_at stand target) (act.Get key want) names.1 (holds_told target isolate names.0 free is here))
  known_request (what.Set target key value) names free =
      asks_known stand target default_budget (act_on (held_at stand target) (act.Set key (argument_of value))) names.0
      (λ isolate is here. act_known (receives isolate stand.history) (held_at stand target) (act.Set key (argument_of value)) (plain_argument value names.1) (holds_told target isolate names.0 free is here))
  known_request (what.Dispose isolate) names free = tt
  known_request (what.Wait target) names free = tt

  -- so it is with what the next command asks for
  pub asked_known : (wanted : Request) → IsWhole stand.script → IsAsked stand wanted → AsksForKnown stand.history wanted
  asked_known wanted whole asked =
      subst (AsksForKnown stand.history) asked.is (known_request asked.command.what (whole.in_place (place stand) asked.command asked.at).names asked.free)

-- ---- what is posted

known_if_posted : (script : HostScript) (stand : Stand) → IsWhole stand.script → HostRun script stand → AreServed stand.script stand.history
    → (i budget : ℕ) (kind : TaskKind) → MayPost stand i budget kind → IsKnown (receives i stand.history) (task_of stand budget kind)
known_if_posted script stand whole run served i budget kind may =
    let told = asked_known script stand run served may.asked.room (asks_task (Some i) budget (Some kind)) whole may.asked may.here in
    let same : told.one ≡ kind = some_kind told.one kind told.is in
    subst (λ k. IsKnown (receives i stand.history) (task_of stand budget k)) same (told.known (Some (drawn stand)))
  where
    some_kind : (one other : TaskKind) → Some other ≡ Some one → one ≡ other
    some_kind one other e = cc

posts_known_at : (script : HostScript) (stand : Stand) → IsWhole stand.script → HostRun script stand → AreServed stand.script stand.history → PostsKnown stand
posts_known_at script stand whole run served i task =
    turn_cases stand (λ m. m.0 ≡ move.Post i task → IsKnown (receives i stand.history) task)
    (λ e. let no : ⊥ = cc in absurd no)
    (λ e. let no : ⊥ = cc in absurd no)
    (λ e. let no : ⊥ = cc in absurd no)
    (λ e. let no : ⊥ = cc in absurd no)
    (λ j budget kind may e.
    let same : j ≡ i = cc in
    let same_task : task_of stand budget kind ≡ task = cc in
    subst (λ x. IsKnown (receives i stand.history) x) same_task (subst (λ x. IsKnown (receives x stand.history) (task_of stand budget kind)) same (known_if_posted script stand whole run served j budget kind may)))
    (λ j _ e. let no : ⊥ = cc in absurd no)

pub posts_known : (script : HostScript) (stand : Stand) → IsWhole script → HostRun script stand → AreServed script stand.history → PostsKnown stand
posts_known script stand whole run served =
    let same : script ≡ stand.script = sym (script_run script stand run) in
    posts_known_at script stand (subst IsWhole same whole) run (subst (λ s. AreServed s stand.history) same served)
