-- The cases of a command, and of an out that is received.
use Rattle.std.proofs.Common.{◌≡◌, ◌≢◌, ℕ, ◌+◌, ◌<◌, List, [], ◌∷◌, ◌++◌, length, Bool, true, false, nat_le, if◌then◌else◌, Option, Some, None, refl, subst, sym, ap, ◌∙◌, slice_get, ◌⊎◌, inl, inr, length-append}
use Rattle.std.proofs.lemmas.Option.{slice_get_within}
use Rattle.task_history.specs.Lists.{is_gone}
use Rattle.task_history.specs.declared.task.TaskKind.{TaskKind}
use Rattle.task_history.specs.declared.outcome.Outcome.{Outcome}
use Rattle.task_history.specs.declared.record.Event.{Event}
use Rattle.task_history.specs.declared.outcome.Out.{Out}
use Rattle.task_history.specs.declared.outcome.Out.TheVariants.{Call, Log, AskTable, Reply}
use Rattle.host_syntax.specs.declared.script.HostScript.{HostScript}
use Rattle.host_syntax.specs.declared.script.Command.{Command}
use Rattle.host_meaning.specs.declared.moves.Move.{Move}
use Rattle.host_meaning.specs.declared.moves.Move.TheVariants.{Post, Ask, Own, Blocked, NoTarget}
use Rattle.host_meaning.specs.Stand.{Stand, beginning, place, drawn}
use Rattle.host_meaning.specs.Machine.{Request, asks_nothing, asks_task, asks_stop, request, is_blocked, most_calls, task_of, passing, refusing, posting, asking, tasking, calling, doing, by_command, turn, is_open, hearing, settling, received, received_all, MayReceive, DoesCommand, HostRun}
use Rattle.host_meaning.specs.Machine.HostStep.{turns, receives_one}
use Rattle.host_meaning.specs.Machine.HostRun.{begins, goes}

pub if_cases : {A : Type 0} (b : Bool) (P : A → Type 0) (x y : A) → (b ≡ true → P x) → (b ≡ false → P y) → P (if b then x else y)
if_cases true P x y held missed = held refl
if_cases false P x y held missed = missed refl

-- ---- the next command

-- the next command is there, isn't blocked, and has a call that may draw a number: this is what it asks
pub record IsAsked (stand : Stand) (asked : Request) : Type 0 where
  pub command : Command
  pub at : slice_get stand.script.commands (place stand) ≡ Some command
  pub free : is_blocked stand command.what ≡ false
  pub room : nat_le most_calls (drawn stand) ≡ false
  pub is : request stand command.what ≡ asked

-- a task that is posted, and an isolate that is asked to stop
pub record MayPost (stand : Stand) (i budget : ℕ) (kind : TaskKind) : Type 0 where
  pub asked : IsAsked stand (asks_task (Some i) budget (Some kind))
  pub here : is_gone i stand.history ≡ false

pub record MayAsk (stand : Stand) (i : ℕ) : Type 0 where
  pub asked : IsAsked stand (asks_stop i)
  pub here : is_gone i stand.history ≡ false

-- a command that draws no number: it is no call, or all numbers are drawn
pub record MayPass (stand : Stand) : Type 0 where
  pub command : Command
  pub at : slice_get stand.script.commands (place stand) ≡ Some command
  pub why : (request stand command.what ≡ asks_nothing) ⊎ (nat_le most_calls (drawn stand) ≡ true)

-- the isolate to which a request goes
abbrev pub GoesTo : Request → ℕ → Type 0
GoesTo asks_nothing i = ⊥
GoesTo (asks_task None budget kind) i = ⊥
GoesTo (asks_task (Some j) budget kind) i = j ≡ i
GoesTo (asks_stop j) i = j ≡ i

-- a call that is refused: its isolate was asked to stop or has told its end
pub record IsRefused (stand : Stand) : Type 0 where
  pub wanted : Request
  pub isolate : ℕ
  pub asked : IsAsked stand wanted
  pub to : GoesTo wanted isolate
  pub gone : is_gone isolate stand.history ≡ true

-- the isolate of a request isn't there; or it isn't gone, and the context or the row of the task isn't there
abbrev pub LacksTarget : List Event → Request → Type 0
LacksTarget history asks_nothing = ⊥
LacksTarget history (asks_task None budget kind) = Unit {0}
LacksTarget history (asks_task (Some i) budget None) = is_gone i history ≡ false
LacksTarget history (asks_task (Some i) budget (Some kind)) = ⊥
LacksTarget history (asks_stop i) = ⊥

-- a call without its target
pub record IsLost (stand : Stand) : Type 0 where
  pub wanted : Request
  pub asked : IsAsked stand wanted
  pub lacks : LacksTarget stand.history wanted

module _ (stand : Stand) (P : Move × Stand → Type 0)
    (blocked : P (Blocked, stand))
    (lost : IsLost stand → P (NoTarget, stand))
    (passed : MayPass stand → P (Own, passing stand))
    (refused : IsRefused stand → P (Own, refusing stand))
    (posted : (i budget : ℕ) (kind : TaskKind) → MayPost stand i budget kind → P (Post i (task_of stand budget kind), posting stand i (task_of stand budget kind)))
    (asked : (i : ℕ) → MayAsk stand i → P (Ask i, asking stand i)) where
  tasking_cases : (i budget : ℕ) (kind : Option TaskKind) → IsAsked stand (asks_task (Some i) budget kind) → is_gone i stand.history ≡ false → P (tasking stand i budget kind)
  tasking_cases i budget None is here = lost (record { wanted = asks_task (Some i) budget None; asked = is; lacks = here })
  tasking_cases i budget (Some kind) is here = posted i budget kind (record { asked = is; here = here })

  calling_cases : (wanted : Request) → IsAsked stand wanted → P (calling stand wanted)
  calling_cases asks_nothing is = passed (record { command = is.command; at = is.at; why = inl is.is })
  calling_cases (asks_task None budget kind) is = lost (record { wanted = asks_task None budget kind; asked = is; lacks = tt })
  calling_cases (asks_task (Some i) budget kind) is =
      if_cases (is_gone i stand.history) P (Own, refusing stand) (tasking stand i budget kind)
      (λ gone. refused (record { wanted = asks_task (Some i) budget kind; isolate = i; asked = is; to = refl; gone = gone })) (λ here. tasking_cases i budget kind is here)
  calling_cases (asks_stop i) is =
      if_cases (is_gone i stand.history) P (Own, refusing stand) (Ask i, asking stand i)
      (λ gone. refused (record { wanted = asks_stop i; isolate = i; asked = is; to = refl; gone = gone })) (λ here. asked i (record { asked = is; here = here }))

  command_cases : (command : Command) → slice_get stand.script.commands (place stand) ≡ Some command → P (by_command stand (Some command))
  command_cases command at =
      if_cases (is_blocked stand command.what) P (Blocked, stand) (doing stand (request stand command.what)) (λ _. blocked)
      (λ free. if_cases (nat_le most_calls (drawn stand)) P (Own, passing stand) (calling stand (request stand command.what))
      (λ full. passed (record { command = command; at = at; why = inr full }))
      (λ room. calling_cases (request stand command.what) (record { command = command; at = at; free = free; room = room; is = refl })))

  next_cases : (next : Option Command) → slice_get stand.script.commands (place stand) ≡ next → P (by_command stand next)
  next_cases None at = blocked
  next_cases (Some command) at = command_cases command at

  -- with what each case shows of the command
  pub turn_cases_shown : P (turn stand)
  turn_cases_shown = next_cases (slice_get stand.script.commands (place stand)) refl

pub turn_cases : (stand : Stand) (P : Move × Stand → Type 0)
    → P (Blocked, stand)
    → P (NoTarget, stand)
    → P (Own, passing stand)
    → P (Own, refusing stand)
    → ((i budget : ℕ) (kind : TaskKind) → MayPost stand i budget kind → P (Post i (task_of stand budget kind), posting stand i (task_of stand budget kind)))
    → ((i : ℕ) → MayAsk stand i → P (Ask i, asking stand i))
    → P (turn stand)
turn_cases stand P blocked lost passed refused posted asked =
    turn_cases_shown stand P blocked (λ _. lost) (λ _. passed) (λ _. refused) posted asked

-- what a call asks for doesn't block
tasking_goes : (stand : Stand) (i budget : ℕ) (kind : Option TaskKind) → (tasking stand i budget kind).0 ≢ Blocked
tasking_goes stand i budget None = λ e. cc
tasking_goes stand i budget (Some kind) = λ e. cc

calling_goes : (stand : Stand) (wanted : Request) → (calling stand wanted).0 ≢ Blocked
calling_goes stand asks_nothing = λ e. cc
calling_goes stand (asks_task None budget kind) = λ e. cc
calling_goes stand (asks_task (Some i) budget kind) =
    if_cases (is_gone i stand.history) (λ (m : Move × Stand). m.0 ≢ Blocked) (Own, refusing stand) (tasking stand i budget kind) (λ _ e. cc) (λ _. tasking_goes stand i budget kind)
calling_goes stand (asks_stop i) =
    if_cases (is_gone i stand.history) (λ (m : Move × Stand). m.0 ≢ Blocked) (Own, refusing stand) (Ask i, asking stand i) (λ _ e. cc) (λ _ e. cc)

doing_goes : (stand : Stand) (wanted : Request) → (doing stand wanted).0 ≢ Blocked
doing_goes stand wanted =
    if_cases (nat_le most_calls (drawn stand)) (λ (m : Move × Stand). m.0 ≢ Blocked) (Own, passing stand) (calling stand wanted) (λ _ e. cc) (λ _. calling_goes stand wanted)

-- why the host can't go on
abbrev pub CantGoOn : Stand → Option Command → Type 0
CantGoOn stand None = Unit {0}
CantGoOn stand (Some command) = is_blocked stand command.what ≡ true

why_blocked_by : (stand : Stand) (next : Option Command) → (by_command stand next).0 ≡ Blocked → CantGoOn stand next
why_blocked_by stand None is = tt
why_blocked_by stand (Some command) is =
    if_cases (is_blocked stand command.what) (λ (m : Move × Stand). m.0 ≡ Blocked → is_blocked stand command.what ≡ true) (Blocked, stand) (doing stand (request stand command.what))
    (λ stuck _. stuck) (λ _ e. absurd (doing_goes stand (request stand command.what) e)) is

pub why_blocked : (stand : Stand) → (turn stand).0 ≡ Blocked → CantGoOn stand (slice_get stand.script.commands (place stand))
why_blocked stand is = why_blocked_by stand (slice_get stand.script.commands (place stand)) is

-- ---- the place

place_more : (stand : Stand) (number : Option ℕ) → length (stand.numbers ++ number ∷ []) ≡ place stand + 1
place_more stand number = length-append stand.numbers (number ∷ [])

-- nothing is done
pub record StandsStill (stand : Stand) (m : Move × Stand) : Type 0 where
  pub still : m.1 ≡ stand
  pub none : DoesCommand m.0 → ⊥

-- a command is done, and the next one is the host's
pub record GoesOn (stand : Stand) (m : Move × Stand) : Type 0 where
  pub was_there : place stand < length stand.script.commands
  pub next : place m.1 ≡ place stand + 1

command_there : (stand : Stand) (command : Command) → slice_get stand.script.commands (place stand) ≡ Some command → place stand < length stand.script.commands
command_there stand command at = slice_get_within stand.script.commands (place stand) command at

pub turn_goes : (stand : Stand) → StandsStill stand (turn stand) ⊎ GoesOn stand (turn stand)
turn_goes stand = turn_cases_shown stand (λ m. StandsStill stand m ⊎ GoesOn stand m)
    (inl (record { still = refl; none = λ does. does }))
    (λ _. inl (record { still = refl; none = λ does. does }))
    (λ may. inr (record { was_there = command_there stand may.command may.at; next = place_more stand None }))
    (λ refused. inr (record { was_there = command_there stand refused.asked.command refused.asked.at; next = place_more stand (Some (drawn stand)) }))
    (λ i budget kind may. inr (record { was_there = command_there stand may.asked.command may.asked.at; next = place_more stand (Some (drawn stand)) }))
    (λ i may. inr (record { was_there = command_there stand may.asked.command may.asked.at; next = place_more stand (Some (drawn stand)) }))

-- ---- an out

-- a reply to no call that is drawn and unsettled, or no reply
abbrev pub SettlesNone : Stand → Out → Type 0
SettlesNone stand out = (n : ℕ) (outcome : Outcome) → out ≡ Reply (Some n) outcome → is_open stand n ≡ false

pub received_cases : (stand : Stand) (i : ℕ) (out : Out) (P : Stand → Type 0)
    → (SettlesNone stand out → P (hearing stand i out))
    → ((n : ℕ) (outcome : Outcome) → out ≡ Reply (Some n) outcome → is_open stand n ≡ true → P (settling stand i out n outcome))
    → P (received stand i out)
received_cases stand i (Call promise to budget act) P heard settled = heard (λ n outcome e. cc)
received_cases stand i (Log callback args) P heard settled = heard (λ n outcome e. cc)
received_cases stand i (AskTable callback promise key) P heard settled = heard (λ n outcome e. cc)
received_cases stand i (Reply None told) P heard settled = heard (λ n outcome e. cc)
received_cases stand i (Reply (Some m) told) P heard settled =
    if_cases (is_open stand m) P (settling stand i (Reply (Some m) told) m told) (hearing stand i (Reply (Some m) told))
    (λ was_open. settled m told refl was_open)
    (λ shut. heard (λ n outcome e. let same : m ≡ n = cc in subst (λ x. is_open stand x ≡ false) same shut))

-- ---- runs

pub script_turn : (stand : Stand) → (turn stand).1.script ≡ stand.script
script_turn stand = turn_cases stand (λ m. m.1.script ≡ stand.script) refl refl refl refl (λ i budget kind _. refl) (λ i _. refl)

pub script_received : (stand : Stand) (i : ℕ) (out : Out) → (received stand i out).script ≡ stand.script
script_received stand i out = received_cases stand i out (λ s. s.script ≡ stand.script) (λ _. refl) (λ n outcome _ _. refl)

pub numbers_received : (stand : Stand) (i : ℕ) (out : Out) → (received stand i out).numbers ≡ stand.numbers
numbers_received stand i out = received_cases stand i out (λ s. s.numbers ≡ stand.numbers) (λ _. refl) (λ n outcome _ _. refl)

pub stops_received : (stand : Stand) (i : ℕ) (out : Out) → (received stand i out).stops ≡ stand.stops
stops_received stand i out = received_cases stand i out (λ s. s.stops ≡ stand.stops) (λ _. refl) (λ n outcome _ _. refl)

pub script_received_all : (stand : Stand) (i : ℕ) (outs : List Out) → (received_all stand i outs).script ≡ stand.script
script_received_all stand i [] = refl
script_received_all stand i (out ∷ outs) = script_received_all (received stand i out) i outs ∙ script_received stand i out

pub numbers_received_all : (stand : Stand) (i : ℕ) (outs : List Out) → (received_all stand i outs).numbers ≡ stand.numbers
numbers_received_all stand i [] = refl
numbers_received_all stand i (out ∷ outs) = numbers_received_all (received stand i out) i outs ∙ numbers_received stand i out

-- what holds at the beginning and is kept by commands and receipts holds of every run
pub run_keeps_heard : (script : HostScript) (P : Stand → Type 0)
    → P (beginning script)
    → ((stand : Stand) → HostRun script stand → P stand → P (turn stand).1)
    → ((stand : Stand) (i : ℕ) (out : Out) → HostRun script stand → MayReceive stand.script i out → P stand → P (received stand i out))
    → (stand : Stand) → HostRun script stand → P stand
run_keeps_heard script P first turned heard stand begins = first
run_keeps_heard script P first turned heard next (goes {stand} run step) =
    elim step as (λ x. P next) [
      | turns moves now ↦ subst P (sym now) (turned stand run (run_keeps_heard script P first turned heard stand run))
      | receives_one i out may now ↦ subst P (sym now) (heard stand i out run may (run_keeps_heard script P first turned heard stand run))
    ]

-- the same, of any out at all
pub run_keeps : (script : HostScript) (P : Stand → Type 0)
    → P (beginning script)
    → ((stand : Stand) → HostRun script stand → P stand → P (turn stand).1)
    → ((stand : Stand) (i : ℕ) (out : Out) → HostRun script stand → P stand → P (received stand i out))
    → (stand : Stand) → HostRun script stand → P stand
run_keeps script P first turned heard = run_keeps_heard script P first turned (λ s i out run _. heard s i out run)

pub script_run : (script : HostScript) (stand : Stand) → HostRun script stand → stand.script ≡ script
script_run script = run_keeps script (λ stand. stand.script ≡ script) refl
    (λ stand run kept. script_turn stand ∙ kept)
    (λ stand i out run kept. script_received stand i out ∙ kept)
