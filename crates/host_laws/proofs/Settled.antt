-- How often a call is settled.
use Rattle.std.proofs.Common.{◌≡◌, ℕ, suc, zero, ◌+◌, ◌<◌, ◌≤◌, List, [], ◌∷◌, ◌++◌, length, Bool, true, false, not, ◌==◌, if◌then◌else◌, Option, Some, None, refl, ◌∙◌, arith, slice_get, slice_index_or, slice_set, cond, count_by}
use Rattle.std.specs.List.{Contains}
use Rattle.std.specs.Option.{option_map_or}
use Rattle.std.proofs.lemmas.List.Sums.{sum_by-append, sum_by-cons}
use Rattle.task_history.specs.declared.task.Own.TheVariants.{Disposed}
use Rattle.task_history.specs.declared.outcome.Outcome.{Outcome}
use Rattle.task_history.specs.declared.outcome.Out.{Out}
use Rattle.task_history.specs.declared.record.Settlement.TheVariants as how
use Rattle.task_history.specs.declared.record.Event.{Event}
use Rattle.task_history.specs.declared.record.Event.TheVariants.{Post, Recv, Ask, Settle}
use Rattle.host_syntax.specs.declared.script.HostScript.{HostScript}
use Rattle.host_meaning.specs.declared.moves.Held.{Held}
use Rattle.host_meaning.specs.declared.moves.Held.TheVariants as held
use Rattle.host_meaning.specs.Stand.{Stand, drawn, is_there, is_settled}
use Rattle.host_meaning.specs.Machine.{turn, task_of, drawing, is_open, settling, received, held_by, replies_of, HostRun}
use Rattle.host_meaning.specs.Settlement.{settles, times_settled}
use Rattle.host_laws.proofs.Turns.{turn_cases, received_cases, run_keeps}

abbrev pub once : Bool → ℕ
once b = if b then 1 else 0

-- ---- what a list of settlements says

pub settled_push : (calls : List (Option Held)) (call : Option Held) (n : ℕ)
    → once (is_there (slice_index_or (calls ++ call ∷ []) n None)) ≡ once (is_there (slice_index_or calls n None)) + (if n == length calls then once (is_there call) else 0)
settled_push [] call zero = grind arith
settled_push [] call (suc n) = grind arith
settled_push (x ∷ calls) call zero = grind arith
settled_push (x ∷ calls) call (suc n) = let rest = settled_push calls call n in grind (arith, rest)

pub settled_set : (calls : List (Option Held)) (m : ℕ) (now : Held) (n : ℕ) → slice_get calls m ≡ Some None
    → once (is_there (slice_index_or (slice_set calls m (Some now)) n None)) ≡ once (is_there (slice_index_or calls n None)) + (if n == m then 1 else 0)
settled_set [] m now n was = cc
settled_set (x ∷ calls) zero now zero was = let none : x ≡ None = cc in rw none (grind arith)
settled_set (x ∷ calls) zero now (suc n) was = grind arith
settled_set (x ∷ calls) (suc m) now zero was = grind arith
settled_set (x ∷ calls) (suc m) now (suc n) was = let rest = settled_set calls m now n was in grind (arith, rest)

-- a number is open where it was drawn and holds nothing
open_call : (call : Option (Option Held)) → option_map_or (λ settled. not (is_there settled)) call false ≡ true → call ≡ Some None
open_call None is = cc
open_call (Some None) is = refl
open_call (Some (Some h)) is = cc

pub open_is : (stand : Stand) (n : ℕ) → is_open stand n ≡ true → slice_get stand.calls n ≡ Some None
open_is stand n is = open_call (slice_get stand.calls n) is

-- ---- how often

count_by-append : {X : Type 0} (p : X → Bool) (xs ys : List X) → count_by p (xs ++ ys) ≡ count_by p xs + count_by p ys
count_by-append p xs ys = sum_by-append (λ x. cond (p x) 1 0) xs ys

count_one : {X : Type 0} (p : X → Bool) (x : X) → count_by p (x ∷ []) ≡ once (p x)
count_one p x = grind (arith, sum_by-cons (λ y. cond (p y) 1 0) x [])

count_two : {X : Type 0} (p : X → Bool) (x y : X) → count_by p (x ∷ y ∷ []) ≡ once (p x) + once (p y)
count_two p x y = grind (arith, sum_by-cons (λ y. cond (p y) 1 0) x (y ∷ []), count_one p y)

-- the number is settled as often as it holds something: once, or never
abbrev pub IsSettledOnce : Stand → ℕ → Type 0
IsSettledOnce stand n = times_settled n stand.history stand.stops ≡ once (is_settled stand n)

times_drawing : (stand : Stand) (settled : Option Held) (stops : List ℕ) (event : Event) (n : ℕ)
    → times_settled n (drawing stand settled stops event).history (drawing stand settled stops event).stops ≡ times_settled n stand.history stand.stops + once (settles n event) + count_by (λ stop. n == stop) stops
times_drawing stand settled stops event n =
    let a = count_by-append (settles n) stand.history (event ∷ []) in
    let b = count_one (settles n) event in
    let c = count_by-append (λ stop. n == stop) stand.stops stops in
    grind (arith, a, b, c)

once_drawing : (stand : Stand) (settled : Option Held) (stops : List ℕ) (event : Event) (n : ℕ)
    → once (settles n event) + count_by (λ stop. n == stop) stops ≡ (if n == drawn stand then once (is_there settled) else 0)
    → IsSettledOnce stand n → IsSettledOnce (drawing stand settled stops event) n
once_drawing stand settled stops event n same kept =
    let t = times_drawing stand settled stops event n in
    let p = settled_push stand.calls settled n in
    grind (arith, t, p, same, kept)

same_both : (m n x : ℕ) → (if n == m then x else x) ≡ x
same_both m n x = grind arith

once_turn : (stand : Stand) (n : ℕ) → IsSettledOnce stand n → IsSettledOnce (turn stand).1 n
once_turn stand n kept = turn_cases stand (λ m. IsSettledOnce m.1 n)
    kept
    kept
    kept
    (once_drawing stand (Some held.Nothing) [] (Settle (drawn stand) (how.Own Disposed)) n (grind arith) kept)
    (λ i budget kind _. once_drawing stand None [] (Post i (task_of stand budget kind)) n (let z = same_both (drawn stand) n 0 in grind (arith, z)) kept)
    (λ i _. once_drawing stand (Some held.Nothing) (drawn stand ∷ []) (Ask i) n (let c = count_one (λ stop. n == stop) (drawn stand) in grind (arith, c)) kept)

times_hearing : (stand : Stand) (i : ℕ) (out : Out) (n : ℕ) → times_settled n (stand.history ++ Recv i out ∷ []) stand.stops ≡ times_settled n stand.history stand.stops
times_hearing stand i out n =
    let a = count_by-append (settles n) stand.history (Recv i out ∷ []) in
    let b = count_one (settles n) (Recv i out) in
    grind (arith, a, b)

once_settling : (stand : Stand) (i : ℕ) (out : Out) (m : ℕ) (outcome : Outcome) (n : ℕ) → is_open stand m ≡ true → IsSettledOnce stand n → IsSettledOnce (settling stand i out m outcome) n
once_settling stand i out m outcome n was_open kept =
    let now = how.Entry i (replies_of i stand.history) in
    let a = count_by-append (settles n) stand.history (Recv i out ∷ Settle m now ∷ []) in
    let b = count_two (settles n) (Recv i out) (Settle m now) in
    let s = settled_set stand.calls m (held_by outcome) n (open_is stand m was_open) in
    grind (arith, a, b, s, kept)

once_received : (stand : Stand) (i : ℕ) (out : Out) (n : ℕ) → IsSettledOnce stand n → IsSettledOnce (received stand i out) n
once_received stand i out n kept = received_cases stand i out (λ s. IsSettledOnce s n)
    (λ _. times_hearing stand i out n ∙ kept)
    (λ m outcome _ was_open. once_settling stand i out m outcome n was_open kept)

pub settled_once : (script : HostScript) (stand : Stand) → HostRun script stand → (n : ℕ) → IsSettledOnce stand n
settled_once script stand run n = run_keeps script (λ s. IsSettledOnce s n) refl (λ s _ kept. once_turn s n kept) (λ s i out _ kept. once_received s i out n kept) stand run

-- no number is settled twice
pub at_most_once : (script : HostScript) (stand : Stand) → HostRun script stand → (n : ℕ) → times_settled n stand.history stand.stops ≤ 1
at_most_once script stand run n = let e = settled_once script stand run n in grind (arith, e)

-- a number that is settled, once
pub times_of_settled : (script : HostScript) (stand : Stand) → HostRun script stand → (n : ℕ) → is_settled stand n ≡ true → times_settled n stand.history stand.stops ≡ 1
times_of_settled script stand run n is = let e = settled_once script stand run n in grind (arith, e, is)

-- and no other
pub times_of_open : (script : HostScript) (stand : Stand) → HostRun script stand → (n : ℕ) → is_settled stand n ≡ false → times_settled n stand.history stand.stops ≡ 0
times_of_open script stand run n is = let e = settled_once script stand run n in grind (arith, e, is)

-- ---- a settled number was drawn

past_the_end : (calls : List (Option Held)) (n : ℕ) → is_there (slice_index_or calls n None) ≡ true → n < length calls
past_the_end [] n is = cc
past_the_end (x ∷ calls) zero is = grind arith
past_the_end (x ∷ calls) (suc n) is = let rest = past_the_end calls n is in grind (arith, rest)

pub settled_is_drawn : (stand : Stand) (n : ℕ) → is_settled stand n ≡ true → n < drawn stand
settled_is_drawn stand n is = past_the_end stand.calls n is

pub undrawn_is_open : (stand : Stand) (n : ℕ) → drawn stand ≤ n → is_settled stand n ≡ false
undrawn_is_open stand n late =
    elim (is_settled stand n) as (λ b. is_settled stand n ≡ b → b ≡ false) [
      | true ↦ λ is. (let l = settled_is_drawn stand n is in absurd (grind (arith, l, late)))
      | false ↦ λ is. refl
    ] refl

-- the numbers of the disposals that were done are drawn and settled, and each stands there once
contains_count : (n : ℕ) (stops : List ℕ) → Contains stops n → 1 ≤ count_by (λ stop. n == stop) stops
contains_count n [] there = grind (arith, there.1)
contains_count n (x ∷ stops) (zero, within, is) = let c = sum_by-cons (λ y. cond (n == y) 1 0) x stops in grind (arith, c, is)
contains_count n (x ∷ stops) (suc k, within, is) =
    let c = sum_by-cons (λ y. cond (n == y) 1 0) x stops in
    let rest = contains_count n stops (k, grind (arith, within), is) in
    grind (arith, c, rest)

pub stop_is_settled : (script : HostScript) (stand : Stand) → HostRun script stand → (n : ℕ) → Contains stand.stops n → is_settled stand n ≡ true
stop_is_settled script stand run n there =
    elim (is_settled stand n) as (λ b. is_settled stand n ≡ b → b ≡ true) [
      | true ↦ λ is. refl
      | false ↦ λ is. (let e = times_of_open script stand run n is in let c = contains_count n stand.stops there in absurd (grind (arith, e, c)))
    ] refl

pub stops_once : (script : HostScript) (stand : Stand) → HostRun script stand → (n : ℕ) → count_by (λ stop. n == stop) stand.stops ≤ 1
stops_once script stand run n = let e = at_most_once script stand run n in grind (arith, e)
