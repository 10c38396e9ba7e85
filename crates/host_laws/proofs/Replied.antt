-- What the settlement of a posted call holds, a reply told.
use Rattle.std.proofs.Common.{◌≡◌, ℕ, suc, zero, ◌<◌, List, [], ◌∷◌, ◌++◌, length, true, Option, Some, None, refl, subst, sym, ap, arith, ◌⊎◌, inl, inr, slice_get, slice_index_or, slice_set, append-nil}
use Rattle.std.proofs.lemmas.List.Elements.{Contains-append_left, Contains-push}
use Rattle.std.specs.List.{Contains}
use Rattle.task_history.specs.Lists.{posts, receives, post_of}
use Rattle.task_history.specs.declared.task.Own.TheVariants.{Disposed}
use Rattle.task_history.specs.declared.task.TaskKind.{TaskKind}
use Rattle.task_history.specs.declared.outcome.Outcome.{Outcome}
use Rattle.task_history.specs.declared.outcome.Out.{Out}
use Rattle.task_history.specs.declared.outcome.Out.TheVariants.{Reply}
use Rattle.task_history.specs.declared.record.Settlement.TheVariants as how
use Rattle.task_history.specs.declared.record.Event.{Event}
use Rattle.task_history.specs.declared.record.Event.TheVariants.{Post, Recv, Ask, Settle}
use Rattle.host_syntax.specs.declared.script.HostScript.{HostScript}
use Rattle.host_meaning.specs.declared.moves.Held.{Held}
use Rattle.host_meaning.specs.declared.moves.Held.TheVariants as held
use Rattle.host_meaning.specs.Stand.{Stand, drawn}
use Rattle.host_meaning.specs.Machine.{turn, task_of, drawing, passing, posting, is_open, received, hearing, settling, held_by, replies_of, HostRun, MayReceive}
use Rattle.host_laws.specs.Settled.{PostsDrawn}
use Rattle.host_laws.proofs.Turns.{turn_cases, received_cases, run_keeps_heard}
use Rattle.host_laws.proofs.Lists.{receives_more, receives_here, posts_received}
use Rattle.host_laws.proofs.Settled.{open_is}
use Rattle.host_laws.proofs.Accounted.{IsPosted, posted_are_drawn, posted_cases, is_next, posts_drawing, same_posted}

-- a reply that was received from an isolate of the script told what the settlement of call n holds
pub record IsReplied (stand : Stand) (n : ℕ) (now : Held) : Type 0 where
  pub isolate : ℕ
  pub inside : isolate < length stand.script.isolates
  pub outcome : Outcome
  pub heard : Contains (receives isolate stand.history) (Reply (Some n) outcome)
  pub is : now ≡ held_by outcome

-- so it is with every call whose task was posted
abbrev pub HeldAreReplied : Stand → Type 0
HeldAreReplied stand = (n : ℕ) (now : Held) → slice_index_or stand.calls n None ≡ Some now → IsPosted stand.history n → IsReplied stand n now

-- ---- a call of a list with one more, or with one changed

call_push : (calls : List (Option Held)) (call : Option Held) (n : ℕ) (now : Held) → slice_index_or (calls ++ call ∷ []) n None ≡ Some now → (slice_index_or calls n None ≡ Some now) ⊎ ((n ≡ length calls) × (call ≡ Some now))
call_push [] call zero now is = inr (refl, is)
call_push [] call (suc n) now is = cc
call_push (x ∷ calls) call zero now is = inl is
call_push (x ∷ calls) call (suc n) now is =
    elim (call_push calls call n now is) as (λ r. (slice_index_or calls n None ≡ Some now) ⊎ ((suc n ≡ suc (length calls)) × (call ≡ Some now))) [
      | inl old ↦ inl old
      | inr new ↦ inr (ap suc new.0, new.1)
    ]

call_within : (calls : List (Option Held)) (n : ℕ) (now : Held) → slice_index_or calls n None ≡ Some now → n < length calls
call_within [] n now is = cc
call_within (x ∷ calls) zero now is = grind arith
call_within (x ∷ calls) (suc n) now is = let rest = call_within calls n now is in grind (arith, rest)

call_set : (calls : List (Option Held)) (m n : ℕ) (was : Option Held) (new now : Held) → slice_get calls m ≡ Some was → slice_index_or (slice_set calls m (Some new)) n None ≡ Some now
    → ((n ≡ m) × (now ≡ new)) ⊎ (slice_index_or calls n None ≡ Some now)
call_set [] m n was new now at is = cc
call_set (x ∷ calls) zero zero was new now at is = inl (refl, cc)
call_set (x ∷ calls) zero (suc n) was new now at is = inr is
call_set (x ∷ calls) (suc m) zero was new now at is = inr is
call_set (x ∷ calls) (suc m) (suc n) was new now at is =
    elim (call_set calls m n was new now at is) as (λ r. ((suc n ≡ suc m) × (now ≡ new)) ⊎ (slice_index_or calls n None ≡ Some now)) [
      | inl here ↦ inl (ap suc here.0, here.1)
      | inr there ↦ inr there
    ]

-- ---- replies stay

replied_moves : (stand next : Stand) (n : ℕ) (now : Held) → next.script ≡ stand.script → (more : List Event) → next.history ≡ stand.history ++ more → IsReplied stand n now → IsReplied next n now
replied_moves stand next n now script more history is = record {
  isolate = is.isolate;
  inside = subst (λ s. is.isolate < length s.isolates) (sym script) is.inside;
  outcome = is.outcome;
  heard = subst (λ h. Contains (receives is.isolate h) (Reply (Some n) is.outcome)) (sym history)
      (subst (λ l. Contains l (Reply (Some n) is.outcome)) (sym (receives_more is.isolate stand.history more))
      (Contains-append_left (receives is.isolate stand.history) (receives is.isolate more) (Reply (Some n) is.outcome) is.heard));
  is = is.is;
}

-- ---- commands

replied_quiet : (stand : Stand) (settled : Option Held) (stops : List ℕ) (event : Event) → ((i : ℕ) → post_of i event ≡ []) → PostsDrawn stand → HeldAreReplied stand → HeldAreReplied (drawing stand settled stops event)
replied_quiet stand settled stops event quiet below kept n now is posted =
    let before = same_posted stand.history (stand.history ++ event ∷ []) (posts_drawing stand settled stops event quiet) n posted in
    elim (call_push stand.calls settled n now is) as (λ x. IsReplied (drawing stand settled stops event) n now) [
      | inl old ↦ replied_moves stand (drawing stand settled stops event) n now refl (event ∷ []) refl (kept n now old before)
      | inr new ↦ (let l = below n before in let same = new.0 in absurd (grind (arith, l, same)))
    ]

replied_posting : (stand : Stand) (i budget : ℕ) (kind : TaskKind) → HeldAreReplied stand → HeldAreReplied (posting stand i (task_of stand budget kind))
replied_posting stand i budget kind kept n now is posted =
    elim (call_push stand.calls None n now is) as (λ x. IsReplied (posting stand i (task_of stand budget kind)) n now) [
      | inl old ↦ elim (posted_cases stand.history i (task_of stand budget kind) n posted) as (λ x. IsReplied (posting stand i (task_of stand budget kind)) n now) [
        | inl before ↦ replied_moves stand (posting stand i (task_of stand budget kind)) n now refl (Post i (task_of stand budget kind) ∷ []) refl
            (kept n now old (record { isolate = posted.isolate; place = posted.place; task = posted.task; at = before; named = posted.named }))
        | inr new ↦ (let l = call_within stand.calls n now old in let same = is_next stand budget kind n posted.task posted.named new.2 in absurd (grind (arith, l, same)))
      ]
      | inr new ↦ cc
    ]

replied_turn : (stand : Stand) → PostsDrawn stand → HeldAreReplied stand → HeldAreReplied (turn stand).1
replied_turn stand below kept = turn_cases stand (λ m. HeldAreReplied m.1)
    kept
    kept
    (λ n now is posted. replied_moves stand (passing stand) n now refl [] (sym (append-nil stand.history)) (kept n now is posted))
    (replied_quiet stand (Some held.Nothing) [] (Settle (drawn stand) (how.Own Disposed)) (λ i. refl) below kept)
    (λ i budget kind _. replied_posting stand i budget kind kept)
    (λ i _. replied_quiet stand (Some held.Nothing) (drawn stand ∷ []) (Ask i) (λ j. refl) below kept)

-- ---- an out

replied_settling : (stand : Stand) (i m : ℕ) (outcome : Outcome) → MayReceive stand.script i (Reply (Some m) outcome) → is_open stand m ≡ true → HeldAreReplied stand
    → ((j : ℕ) → posts j (settling stand i (Reply (Some m) outcome) m outcome).history ≡ posts j stand.history)
    → receives i (settling stand i (Reply (Some m) outcome) m outcome).history ≡ receives i stand.history ++ Reply (Some m) outcome ∷ []
    → HeldAreReplied (settling stand i (Reply (Some m) outcome) m outcome)
replied_settling stand i m outcome may was_open kept posted_before heard_now n now is posted =
    let next : Stand = settling stand i (Reply (Some m) outcome) m outcome in
    elim (call_set stand.calls m n None (held_by outcome) now (open_is stand m was_open) is) as (λ x. IsReplied (settling stand i (Reply (Some m) outcome) m outcome) n now) [
      | inl here ↦ record {
        isolate = i;
        inside = may.0;
        outcome = outcome;
        heard = subst (λ x. Contains (receives i next.history) (Reply (Some x) outcome)) (sym here.0)
            (subst (λ l. Contains l (Reply (Some m) outcome)) (sym heard_now) (Contains-push (receives i stand.history) (Reply (Some m) outcome)));
        is = here.1;
      }
      | inr old ↦ replied_moves stand next n now refl (Recv i (Reply (Some m) outcome) ∷ Settle m (how.Entry i (replies_of i stand.history)) ∷ []) refl
          (kept n now old (same_posted stand.history next.history posted_before n posted))
    ]

-- which of the two became of an out is known with what it lists
replied_received : (stand : Stand) (i : ℕ) (out : Out) → MayReceive stand.script i out → HeldAreReplied stand → HeldAreReplied (received stand i out)
replied_received stand i out may kept =
    received_cases stand i out
    (λ s. ((j : ℕ) → posts j s.history ≡ posts j stand.history) → receives i s.history ≡ receives i stand.history ++ out ∷ [] → HeldAreReplied s)
    (λ _ posted_before heard_now n now is posted.
    replied_moves stand (hearing stand i out) n now refl (Recv i out ∷ []) refl (kept n now is (same_posted stand.history (hearing stand i out).history posted_before n posted)))
    (λ m outcome same was_open.
    subst (λ o. MayReceive stand.script i o → ((j : ℕ) → posts j (settling stand i o m outcome).history ≡ posts j stand.history)
    → receives i (settling stand i o m outcome).history ≡ receives i stand.history ++ o ∷ [] → HeldAreReplied (settling stand i o m outcome)) (sym same)
    (λ may. replied_settling stand i m outcome may was_open kept) may)
    (posts_received stand i out) (receives_here stand i out)

pub held_are_replied : (script : HostScript) (stand : Stand) → HostRun script stand → HeldAreReplied stand
held_are_replied script = run_keeps_heard script HeldAreReplied (λ n now is posted. cc)
    (λ s run kept. replied_turn s (posted_are_drawn script s run) kept)
    (λ s i out _ may kept. replied_received s i out may kept)
