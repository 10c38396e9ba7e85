-- The tallies beside a history that goes on.
use Rattle.std.proofs.Common.{◌≡◌, ◌≢◌, ℕ, suc, zero, ◌+◌, ◌^◌, ◌<◌, ◌≤◌, List, [], ◌∷◌, ◌++◌, length, get_or, Bool, true, false, ◌&&◌, ◌||◌, not, nat_le, Option, Some, None, refl, sym, subst, ap, ◌∙◌, arith, ◌⊎◌, inl, inr, length-append}
use Rattle.std.proofs.Math.ListN.{set, length-set}
use Rattle.std.proofs.lemmas.Bool.{cases_eq}
use Rattle.std.proofs.lemmas.List.{get_or-set_same, get_or-set_other}
use Rattle.task_history.specs.declared.record.Event.{Event}
use Rattle.task_history.specs.declared.outcome.Out.{Out}
use Rattle.task_history.specs.declared.record.Event.TheVariants.{Recv, Settle}
use Rattle.task_history.specs.declared.record.Settlement.{Settlement}
use Rattle.host_meaning.specs.Machine.{has_answered, have_answered}
use Rattle.host_machine.specs.declared.tally.Tally.{Tally}
use Rattle.host_machine.specs.Tally.{tally_of, no_tally, isolate_in, noted}
use Rattle.host_machine.specs.Ledger.{AreTallies, IsWithin}
use Rattle.host_machine.proofs.TallyLemmas.{tally_of_none, tally_elsewhere, tally_here}

-- an event of no isolate leaves the tallies
pub tallies_kept : (tallies : List Tally) (history : List Event) (event : Event) → isolate_in event ≡ None → AreTallies tallies history → AreTallies tallies (history ++ event ∷ [])
tallies_kept tallies history event none are i within = are i within ∙ sym (tally_of_none i history event none)

-- an event of one isolate changes its tally
pub tallies_noted : (tallies : List Tally) (history : List Event) (event : Event) (j : ℕ) (tally : Tally) → isolate_in event ≡ Some j → j < length tallies → tally ≡ noted event (tally_of j history)
    → AreTallies tallies history → AreTallies (set tallies j tally) (history ++ event ∷ [])
tallies_noted tallies history event j tally of there is are i within =
    let inside : i < length tallies = omega (arith, length-set tallies j tally) in
    elim (cases_eq i j) as (λ x. get_or (set tallies j tally) i no_tally ≡ tally_of i (history ++ event ∷ [])) [
      | inl same ↦ (
          ap (λ k. get_or (set tallies j tally) k no_tally) same ∙ get_or-set_same tallies j tally no_tally there
          ∙ is ∙ sym (tally_here j history event of) ∙ ap (λ k. tally_of k (history ++ event ∷ [])) (sym same))
      | inr other ↦ get_or-set_other tallies j i tally no_tally other ∙ are i inside ∙ sym (tally_elsewhere i j history event of other)
    ]

nowhere_pushed : (tallies : List Tally) (i : ℕ) → ((k : ℕ) → get_or tallies k no_tally ≡ no_tally) → get_or (tallies ++ no_tally ∷ []) i no_tally ≡ no_tally
nowhere_pushed [] zero all = refl
nowhere_pushed [] (suc i) all = refl
nowhere_pushed (tally ∷ tallies) zero all = all 0
nowhere_pushed (tally ∷ tallies) (suc i) all = nowhere_pushed tallies i (λ k. all (suc k))

-- one more tally without any event
pub one_more_idle : (tallies : List Tally) → ((k : ℕ) → get_or tallies k no_tally ≡ no_tally) → (i : ℕ) → get_or (tallies ++ no_tally ∷ []) i no_tally ≡ no_tally
one_more_idle tallies all i = nowhere_pushed tallies i all

and_false : (a b : Bool) → b ≡ false → (a && b) ≡ false
and_false true b e = e
and_false false b e = refl

false_and : (a b : Bool) → a ≡ false → (a && b) ≡ false
false_and a b e = ap (λ x. x && b) e

-- one that hasn't answered is enough
pub one_is_enough : (history : List Event) (m n : ℕ) → n < m → has_answered history n ≡ false → have_answered history m ≡ false
one_is_enough history zero n less not_so = absurd (omega arith)
one_is_enough history (suc m) n less not_so =
    elim (cases_eq n m) as (λ x. (have_answered history m && has_answered history m) ≡ false) [
      | inl same ↦ and_false (have_answered history m) (has_answered history m) (subst (λ k. has_answered history k ≡ false) same not_so)
      | inr other ↦ (let lower : n < m = omega arith in false_and (have_answered history m) (has_answered history m) (one_is_enough history m n lower not_so))
    ]

-- ---- as `Ledger` goes on

pub one_more_fits : (counted : ℕ) (history events : List Event) → counted ≤ length history → history ≡ events → length events < 2 ^ 32 → counted + 1 < 2 ^ 64
one_more_fits counted history events few same within = omega (arith, few, ap length same)

pub tallies_after : (tallies now : List Tally) (history events after : List Event) (event : Event) (j isolates : ℕ) (tally before : Tally)
    → now ≡ set tallies j tally → after ≡ events ++ event ∷ [] → history ≡ events → isolates ≡ length tallies
    → Some j ≡ isolate_in event → IsWithin isolates (isolate_in event) → before ≡ tally_of j history → tally ≡ noted event before
    → AreTallies tallies events → AreTallies now after
tallies_after tallies now history events after event j isolates tally before is_set is_pushed same many of within was is are =
    let there : j < length tallies = subst (λ n. j < n) many (subst (IsWithin isolates) (sym of) within) in
    let noted_now : tally ≡ noted event (tally_of j events) = is ∙ ap (noted event) (was ∙ ap (tally_of j) same) in
    let kept : AreTallies (set tallies j tally) (events ++ event ∷ []) = tallies_noted tallies events event j tally (sym of) there noted_now are in
    subst (λ x. AreTallies x after) (sym is_set) (subst (AreTallies (set tallies j tally)) (sym is_pushed) kept)

pub not_all : (history : List Event) (m n : ℕ) (tally : Tally) (answered : Bool) → n < m → tally ≡ tally_of n history
    → answered ≡ (nat_le tally.posts tally.replies && (not tally.asked || tally.ended)) → answered ≡ false → false ≡ have_answered history m
not_all history m n tally answered less was is not_so =
    sym (one_is_enough history m n less (sym (ap (λ (t : Tally). nat_le t.posts t.replies && (not t.asked || t.ended)) was) ∙ sym is ∙ not_so))

pub fits_32 : (counted : ℕ) (history events : List Event) → counted ≤ length history → history ≡ events → length events < 2 ^ 32 → counted < 2 ^ 32
fits_32 counted history events few same within = omega (arith, few, ap length same)

pub tallies_after_both : (tallies now : List Tally) (history events after : List Event) (j : ℕ) (out : Out) (call : ℕ) (how : Settlement) (isolates : ℕ) (tally before : Tally)
    → now ≡ set tallies j tally → after ≡ events ++ Recv j out ∷ [] ++ Settle call how ∷ [] → history ≡ events → isolates ≡ length tallies
    → j < isolates → before ≡ tally_of j history → tally ≡ noted (Recv j out) before
    → AreTallies tallies events → AreTallies now after
tallies_after_both tallies now history events after j out call how isolates tally before is_set is_pushed same many there was is are =
    let first : AreTallies now (events ++ Recv j out ∷ []) =
    tallies_after tallies now history events (events ++ Recv j out ∷ []) (Recv j out) j isolates tally before is_set refl same many refl there was is are in
    subst (AreTallies now) (sym is_pushed) (tallies_kept now (events ++ Recv j out ∷ []) (Settle call how) refl first)
