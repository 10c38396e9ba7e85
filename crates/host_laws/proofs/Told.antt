-- The replies by which calls were settled.
use Rattle.std.proofs.Common.{◌≡◌, ℕ, List, [], ◌∷◌, ◌++◌, Some, refl, subst, sym, ap, ◌∙◌, inl, inr, slice_get, append-nil}
use Rattle.std.proofs.lemmas.List.Elements.{Contains-append_cases, Contains-push_cases}
use Rattle.task_history.specs.Lists.{receives, replies, receive_of}
use Rattle.task_history.specs.declared.task.Own.TheVariants.{Disposed}
use Rattle.task_history.specs.declared.outcome.Outcome.{Outcome}
use Rattle.task_history.specs.declared.outcome.Out.{Out}
use Rattle.task_history.specs.declared.outcome.Out.TheVariants.{Reply}
use Rattle.task_history.specs.declared.record.Settlement.{Settlement}
use Rattle.task_history.specs.declared.record.Settlement.TheVariants as how
use Rattle.task_history.specs.declared.record.Event.{Event}
use Rattle.task_history.specs.declared.record.Event.TheVariants.{Post, Recv, Ask, Settle}
use Rattle.host_syntax.specs.declared.script.HostScript.{HostScript}
use Rattle.host_meaning.specs.Stand.{Stand, drawn}
use Rattle.host_meaning.specs.Machine.{task_of, received, settling, replies_of, HostRun}
use Rattle.host_laws.specs.Settled.{SettlesByReplies}
use Rattle.host_laws.proofs.Turns.{turn_cases, received_cases, run_keeps}
use Rattle.host_laws.proofs.Lists.{none_there, receives_more, replies_more, slice_get-append_left, slice_get-append_here, same_if}

told_grows : (i p n : ℕ) (history more : List Event) → slice_get (replies (receives i history)) p ≡ Some (Some n) → slice_get (replies (receives i (history ++ more))) p ≡ Some (Some n)
told_grows i p n history more is =
    subst (λ x. slice_get x p ≡ Some (Some n)) (sym (ap replies (receives_more i history more) ∙ replies_more (receives i history) (receives i more)))
    (slice_get-append_left (replies (receives i history)) (replies (receives i more)) p (Some n) is)

-- an event that settles nothing by an entry
told_push : (history : List Event) (event : Event) → ((n i p : ℕ) → event ≡ Settle n (how.Entry i p) → ⊥) → SettlesByReplies history → SettlesByReplies (history ++ event ∷ [])
told_push history event other kept n i p there =
    elim (Contains-push_cases history event (Settle n (how.Entry i p)) there) as (λ x. slice_get (replies (receives i (history ++ event ∷ []))) p ≡ Some (Some n)) [
      | inl old ↦ told_grows i p n history (event ∷ []) (kept n i p old)
      | inr same ↦ absurd (other n i p same)
    ]

own_is_no_entry : (m n i p : ℕ) → Settle m (how.Own Disposed) ≡ Settle n (how.Entry i p) → ⊥
own_is_no_entry m n i p e = cc

settle_is_quiet : (i m : ℕ) (by : Settlement) → receive_of i (Settle m by) ≡ []
settle_is_quiet i m by = refl

-- the reply that is received has the number of the replies that were received before
told_here : (i m : ℕ) (outcome : Outcome) (history : List Event) (event : Event) → receive_of i event ≡ []
    → slice_get (replies (receives i (history ++ Recv i (Reply (Some m) outcome) ∷ event ∷ []))) (replies_of i history) ≡ Some (Some m)
told_here i m outcome history event quiet =
    let now : receives i (Recv i (Reply (Some m) outcome) ∷ event ∷ []) ≡ Reply (Some m) outcome ∷ [] =
    ap (λ x. receive_of i (Recv i (Reply (Some m) outcome)) ++ (x ++ [])) quiet ∙ append-nil (receive_of i (Recv i (Reply (Some m) outcome))) ∙ same_if i (Reply (Some m) outcome ∷ []) [] in
    let all : replies (receives i (history ++ Recv i (Reply (Some m) outcome) ∷ event ∷ [])) ≡ replies (receives i history) ++ Some m ∷ [] =
    ap replies (receives_more i history (Recv i (Reply (Some m) outcome) ∷ event ∷ []) ∙ ap (λ x. receives i history ++ x) now) ∙ replies_more (receives i history) (Reply (Some m) outcome ∷ []) in
    subst (λ x. slice_get x (replies_of i history) ≡ Some (Some m)) (sym all) (slice_get-append_here (replies (receives i history)) [] (Some m))

-- a receipt, and the settlement by it
told_settling : (stand : Stand) (i m : ℕ) (outcome : Outcome) → SettlesByReplies stand.history
    → SettlesByReplies (stand.history ++ Recv i (Reply (Some m) outcome) ∷ Settle m (how.Entry i (replies_of i stand.history)) ∷ [])
told_settling stand i m outcome kept n j p there =
    elim (Contains-append_cases stand.history (received_now ∷ settled_now ∷ []) (Settle n (how.Entry j p)) there) as (λ x. Goal) [
      | inl old ↦ told_grows j p n stand.history (received_now ∷ settled_now ∷ []) (kept n j p old)
      | inr new ↦ elim (Contains-push_cases (received_now ∷ []) settled_now (Settle n (how.Entry j p)) new) as (λ x. Goal) [
        | inl first ↦ elim (Contains-push_cases [] received_now (Settle n (how.Entry j p)) first) as (λ x. Goal) [
          | inl none ↦ absurd (none_there (Settle n (how.Entry j p)) none)
          | inr same ↦ cc
        ]
        | inr same ↦ (let en : m ≡ n = cc in let ei : i ≡ j = cc in let ep : replies_of i stand.history ≡ p = cc in at en ei ep)
      ]
    ]
  where
    received_now : Event
    received_now = Recv i (Reply (Some m) outcome)

    settled_now : Event
    settled_now = Settle m (how.Entry i (replies_of i stand.history))

    Goal : Type 0
    Goal = slice_get (replies (receives j (stand.history ++ received_now ∷ settled_now ∷ []))) p ≡ Some (Some n)

    at : m ≡ n → i ≡ j → replies_of i stand.history ≡ p → Goal
    at en ei ep =
        subst (λ x. slice_get (replies (receives j (stand.history ++ received_now ∷ settled_now ∷ []))) p ≡ Some (Some x)) en
        (subst (λ x. slice_get (replies (receives j (stand.history ++ received_now ∷ settled_now ∷ []))) x ≡ Some (Some m)) ep
        (subst (λ x. slice_get (replies (receives x (stand.history ++ received_now ∷ settled_now ∷ []))) (replies_of i stand.history) ≡ Some (Some m)) ei
        (told_here i m outcome stand.history settled_now (settle_is_quiet i m (how.Entry i (replies_of i stand.history))))))

told_received : (stand : Stand) (i : ℕ) (out : Out) → SettlesByReplies stand.history → SettlesByReplies (received stand i out).history
told_received stand i out kept = received_cases stand i out (λ s. SettlesByReplies s.history)
    (λ _. told_push stand.history (Recv i out) (λ n j p e. cc) kept)
    (λ m outcome is _. subst (λ x. SettlesByReplies (settling stand i x m outcome).history) (sym is) (told_settling stand i m outcome kept))

pub told : (script : HostScript) (stand : Stand) → HostRun script stand → SettlesByReplies stand.history
told script = run_keeps script (λ s. SettlesByReplies s.history) (λ n i p there. absurd (none_there (Settle n (how.Entry i p)) there))
    (λ s run kept. turn_cases s (λ m. SettlesByReplies m.1.history)
    kept
    kept
    kept
    (told_push s.history (Settle (drawn s) (how.Own Disposed)) (own_is_no_entry (drawn s)) kept)
    (λ i budget kind _. told_push s.history (Post i (task_of s budget kind)) (λ n j p e. cc) kept)
    (λ i _. told_push s.history (Ask i) (λ n j p e. cc) kept))
    (λ s i out run kept. told_received s i out kept)
