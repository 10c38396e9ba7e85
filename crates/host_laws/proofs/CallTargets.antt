-- Each call has its target, and so has each move of a course.
use Rattle.std.proofs.Common.{◌≡◌, ◌≢◌, ℕ, List, length, false, nat_le, Option, None, Some, refl, subst, sym, ap, ◌∙◌, slice_get}
use Rattle.task_history.specs.Lists.{is_gone, receives}
use Rattle.task_history.specs.declared.record.Event.{Event}
use Rattle.task_history.specs.declared.task.TaskKind.{TaskKind}
use Rattle.host_syntax.specs.declared.script.HostScript.{HostScript}
use Rattle.host_syntax.specs.declared.script.Command.{Command}
use Rattle.host_syntax.specs.Whole.{IsWhole}
use Rattle.host_meaning.specs.declared.moves.Move.TheVariants.{NoTarget}
use Rattle.host_meaning.specs.Stand.{Stand, drawn, place}
use Rattle.host_meaning.specs.Machine.{HostRun, Request, asks_nothing, asks_task, asks_stop, is_blocked, most_calls, request, turn}
use Rattle.host_meaning.specs.Course.{Scene, Course}
use Rattle.host_laws.specs.Known.{AreServed}
use Rattle.host_laws.specs.Targets.{HasIsolate, CallsHaveIsolates, IsThere, HasTarget, CallsHaveTargets, MovesHaveTargets, CoursesHaveTargets}
use Rattle.host_laws.proofs.Turns.{turn_cases_shown, IsAsked, IsLost, LacksTarget, script_run}
use Rattle.host_laws.proofs.Targets.{IsTo, request_within}
use Rattle.host_laws.proofs.Known.{AsksForKnown, NamesTold, asked_known}
use Rattle.host_laws.proofs.AnyOrder.{holds_course, served}

-- ---- isolates

isolate_of_request : (n : ℕ) (wanted : Request) → IsTo n wanted → HasIsolate n wanted
isolate_of_request n asks_nothing within = tt
isolate_of_request n (asks_task None budget kind) within = absurd within
isolate_of_request n (asks_task (Some i) budget kind) within = within
isolate_of_request n (asks_stop i) within = within

isolates_at : (stand : Stand) → IsWhole stand.script → (k : ℕ) (command : Command) → slice_get stand.script.commands k ≡ Some command
    → HasIsolate (length stand.script.isolates) (request stand command.what)
isolates_at stand whole k command at =
    isolate_of_request (length stand.script.isolates) (request stand command.what)
    (request_within stand k command.what whole (whole.in_place k command at).names)

pub calls_have_isolates : (script : HostScript) → IsWhole script → CallsHaveIsolates script
calls_have_isolates script whole stand k command is at =
    subst (λ (s : HostScript). HasIsolate (length s.isolates) (request stand command.what)) is
    (isolates_at stand (subst IsWhole (sym is) whole) k command (subst (λ (s : HostScript). slice_get s.commands k ≡ Some command) (sym is) at))

-- ---- contexts and rows

there : (kind : Option TaskKind) (one : TaskKind) → kind ≡ Some one → IsThere kind
there kind one is = subst IsThere (sym is) tt

target_of_known : (history : List Event) (wanted : Request) → AsksForKnown history wanted → HasTarget history wanted
target_of_known history asks_nothing known = tt
target_of_known history (asks_task None budget kind) known = absurd known
target_of_known history (asks_task (Some i) budget kind) known = λ here. there kind (known here).one (known here).is
target_of_known history (asks_stop i) known = tt

module _ (script : HostScript) (stand : Stand) (whole : IsWhole stand.script) (run : HostRun script stand) (isolates : AreServed stand.script stand.history) where
  asked_target : (wanted : Request) → IsAsked stand wanted → HasTarget stand.history wanted
  asked_target wanted asked = target_of_known stand.history wanted (asked_known script stand run isolates asked.room wanted whole asked)

  never_lost : IsLost stand → ⊥
  never_lost lost = both lost.wanted (asked_target lost.wanted lost.asked) lost.lacks
    where
      both : (wanted : Request) → HasTarget stand.history wanted → LacksTarget stand.history wanted → ⊥
      both asks_nothing has lacks = lacks
      both (asks_task None budget kind) has lacks = has
      both (asks_task (Some i) budget None) has lacks = has lacks
      both (asks_task (Some i) budget (Some kind)) has lacks = lacks
      both (asks_stop i) has lacks = lacks

  move_has_target : (turn stand).0 ≢ NoTarget
  move_has_target = turn_cases_shown stand (λ m. m.0 ≢ NoTarget)
      (λ e. cc) (λ lost. absurd (never_lost lost)) (λ _ e. cc) (λ _ e. cc) (λ i budget kind _ e. cc) (λ i _ e. cc)

module _ (script : HostScript) (whole : IsWhole script) where
  whole_at : (stand : Stand) → HostRun script stand → IsWhole stand.script
  whole_at stand run = subst IsWhole (sym (script_run script stand run)) whole

  served_at : (stand : Stand) → HostRun script stand → AreServed script stand.history → AreServed stand.script stand.history
  served_at stand run isolates = subst (λ (s : HostScript). AreServed s stand.history) (sym (script_run script stand run)) isolates

  pub calls_have_targets : CallsHaveTargets script
  calls_have_targets stand command run isolates at free room =
      asked_target script stand (whole_at stand run) run (served_at stand run isolates) (request stand command.what)
      (record { command = command; at = subst (λ (s : HostScript). slice_get s.commands (place stand) ≡ Some command) (sym (script_run script stand run)) at; free = free; room = room; is = refl })

  pub moves_have_targets : MovesHaveTargets script
  moves_have_targets stand run isolates = move_has_target script stand (whole_at stand run) run (served_at stand run isolates)

  pub courses_have_targets : CoursesHaveTargets script
  courses_have_targets scene course =
      let holds = holds_course script scene whole course in
      moves_have_targets scene.stand holds.run (λ i _. served script scene holds i)
