-- Which numbers commands drew, and when no command is left.
use Rattle.std.proofs.Common.{◌≡◌, ℕ, suc, zero, ◌<◌, ◌≤◌, List, [], ◌∷◌, ◌++◌, length, true, false, not, ◌&&◌, Option, Some, None, refl, subst, sym, ap, ◌∙◌, arith, ◌⊎◌, inl, inr, slice_get, slice_index_or}
use Rattle.std.specs.List.{list_all}
use Rattle.std.specs.Option.{option_map_or}
use Rattle.task_history.specs.declared.task.Own.TheVariants.{Disposed}
use Rattle.task_history.specs.declared.record.Settlement.TheVariants as how
use Rattle.task_history.specs.declared.record.Event.{Event}
use Rattle.task_history.specs.declared.record.Event.TheVariants.{Post, Ask, Settle}
use Rattle.host_syntax.specs.declared.script.HostScript.{HostScript}
use Rattle.host_syntax.specs.declared.script.Command.{Command}
use Rattle.host_syntax.specs.declared.script.What.{What}
use Rattle.host_syntax.specs.declared.script.What.TheVariants.{Declare, Context, Eval, Get, Set, Dispose, Wait}
use Rattle.host_meaning.specs.declared.moves.Held.{Held}
use Rattle.host_meaning.specs.declared.moves.Held.TheVariants as held
use Rattle.host_meaning.specs.declared.moves.Move.TheVariants.{Blocked}
use Rattle.host_meaning.specs.Stand.{Stand, place, drawn, is_there, is_settled, all_settled, number_of, is_label_settled}
use Rattle.host_meaning.specs.Machine.{turn, task_of, drawing, passing, received, is_blocked, HostRun, NoneLeft}
use Rattle.host_laws.proofs.Turns.{turn_cases, turn_goes, run_keeps, why_blocked, CantGoOn, script_turn, script_received, numbers_received}
use Rattle.host_laws.proofs.Accounted.{drawn_drawing, drawn_received}

-- ---- the numbers of commands are drawn

number_push : (numbers : List (Option ℕ)) (number : Option ℕ) (k n : ℕ) → slice_index_or (numbers ++ number ∷ []) k None ≡ Some n → (slice_index_or numbers k None ≡ Some n) ⊎ (number ≡ Some n)
number_push [] number zero n is = inr is
number_push [] number (suc k) n is = cc
number_push (x ∷ numbers) number zero n is = inl is
number_push (x ∷ numbers) number (suc k) n is = number_push numbers number k n is

abbrev pub NumbersAreDrawn : Stand → Type 0
NumbersAreDrawn stand = (k n : ℕ) → number_of stand k ≡ Some n → n < drawn stand

numbers_passing : (stand : Stand) → NumbersAreDrawn stand → NumbersAreDrawn (passing stand)
numbers_passing stand kept k n is =
    elim (number_push stand.numbers None k n is) as (λ x. n < drawn stand) [ inl old ↦ kept k n old | inr new ↦ cc ]

numbers_drawing : (stand : Stand) (settled : Option Held) (stops : List ℕ) (event : Event) → NumbersAreDrawn stand → NumbersAreDrawn (drawing stand settled stops event)
numbers_drawing stand settled stops event kept k n is =
    let more = drawn_drawing stand settled stops event in
    elim (number_push stand.numbers (Some (drawn stand)) k n is) as (λ x. n < drawn (drawing stand settled stops event)) [
      | inl old ↦ (let below = kept k n old in grind (arith, below, more))
      | inr new ↦ (let same : drawn stand ≡ n = cc in grind (arith, same, more))
    ]

pub numbers_are_drawn : (script : HostScript) (stand : Stand) → HostRun script stand → NumbersAreDrawn stand
numbers_are_drawn script = run_keeps script NumbersAreDrawn (λ k n is. cc)
    (λ s run kept. turn_cases s (λ m. NumbersAreDrawn m.1)
    kept
    kept
    (numbers_passing s kept)
    (numbers_drawing s (Some held.Nothing) [] (Settle (drawn s) (how.Own Disposed)) kept)
    (λ i budget kind _. numbers_drawing s None [] (Post i (task_of s budget kind)) kept)
    (λ i _. numbers_drawing s (Some held.Nothing) (drawn s ∷ []) (Ask i) kept))
    (λ s i out run kept k n is.
    (let below = kept k n (ap (λ x. slice_index_or x k None) (sym (numbers_received s i out)) ∙ is) in
    let same = drawn_received s i out in
    grind (arith, below, same)))

-- ---- the place is within the script

abbrev pub IsWithin : Stand → Type 0
IsWithin stand = place stand ≤ length stand.script.commands

pub place_within : (script : HostScript) (stand : Stand) → HostRun script stand → IsWithin stand
place_within script = run_keeps script IsWithin (grind arith)
    (λ s run kept. elim (turn_goes s) as (λ x. IsWithin (turn s).1) [
      | inl stays ↦ subst IsWithin (sym stays.still) kept
      | inr goes ↦ (let next = goes.next in let was = goes.was_there in let same = ap (λ x. length x.commands) (script_turn s) in grind (arith, next, was, same))
    ])
    (λ s i out run kept. subst (λ x. length x ≤ length (received s i out).script.commands) (sym (numbers_received s i out)) (subst (λ x. place s ≤ length x.commands) (sym (script_received s i out)) kept))

-- ---- what a host waits for

all_there : (calls : List (Option Held)) → ((n : ℕ) → n < length calls → is_there (slice_index_or calls n None) ≡ true) → list_all is_there calls ≡ true
all_there [] each = refl
all_there (x ∷ calls) each =
    let first : is_there x ≡ true = each zero (grind arith) in
    let rest : list_all is_there calls ≡ true = all_there calls (λ n below. each (suc n) (grind (arith, below))) in
    ap (λ b. b && list_all is_there calls) first ∙ rest

pub each_all_settled : (stand : Stand) → ((n : ℕ) → n < drawn stand → is_settled stand n ≡ true) → all_settled stand ≡ true
each_all_settled stand each = all_there stand.calls each

label_by : (stand : Stand) (number : Option ℕ) → ((n : ℕ) → number ≡ Some n → is_settled stand n ≡ true) → option_map_or (is_settled stand) number true ≡ true
label_by stand None each = refl
label_by stand (Some n) each = each n refl

-- ---- where every number is settled, nothing is waited for

module _ (script : HostScript) (stand : Stand) (run : HostRun script stand) (each : (n : ℕ) → n < drawn stand → is_settled stand n ≡ true) where
  pub label_is_settled : (k : ℕ) → is_label_settled stand k ≡ true
  label_is_settled k = label_by stand (number_of stand k) (λ n is. each n (numbers_are_drawn script stand run k n is))

  pub nothing_blocks : (what : What) → is_blocked stand what ≡ false
  nothing_blocks Declare = refl
  nothing_blocks (Context isolate) = refl
  nothing_blocks (Eval context budget want text) = ap not (label_is_settled context)
  nothing_blocks (Get target key want) = ap not (label_is_settled target)
  nothing_blocks (Set target key value) = ap not (label_is_settled target)
  nothing_blocks (Dispose isolate) = refl
  nothing_blocks (Wait None) = ap not (each_all_settled stand each)
  nothing_blocks (Wait (Some target)) = ap not (label_is_settled target)

  past : (next : Option Command) → slice_get stand.script.commands (place stand) ≡ next → CantGoOn stand next → length stand.script.commands ≤ place stand
  past None at stuck = none_at stand.script.commands (place stand) at
    where
      none_at : (commands : List Command) (k : ℕ) → slice_get commands k ≡ None → length commands ≤ k
      none_at [] k is = grind arith
      none_at (x ∷ commands) zero is = cc
      none_at (x ∷ commands) (suc k) is = let rest = none_at commands k is in grind (arith, rest)
  past (Some command) at stuck = let free : is_blocked stand command.what ≡ false = nothing_blocks command.what in cc

  -- so the host can't go on only where no command is left
  pub none_left_when_all_settled : (turn stand).0 ≡ Blocked → NoneLeft stand
  none_left_when_all_settled is =
      let low = past (slice_get stand.script.commands (place stand)) refl (why_blocked stand is) in
      let high = place_within script stand run in
      grind (arith, low, high)
