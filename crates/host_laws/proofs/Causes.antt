-- Causes stay while a history and a journal go on.
use Rattle.std.proofs.Common.{◌≡◌, ℕ, ◌<◌, ◌≤◌, List, [], ◌∷◌, ◌++◌, length, subst, sym, ap, ◌∙◌, arith, append-nil, append_assoc, length-append}
use Rattle.std.proofs.lemmas.List.Concat.{flat_map-append}
use Rattle.task_history.specs.declared.outcome.Out.{Out}
use Rattle.task_history.specs.declared.record.Entry.{Entry}
use Rattle.task_history.specs.declared.record.Event.{Event}
use Rattle.task_history.specs.declared.record.Event.TheVariants.{Post, Recv, Ask, Release, Settle}
use Rattle.task_history.specs.Lists.{outs, receives, receive_of}
use Rattle.host_meaning.specs.Lawful.{IsCaused, IsCausedBy, AreCaused}
use Rattle.host_laws.proofs.Lists.{same_if}

-- ---- a history that goes on

pub caused_more : (i : ℕ) (journal : List Entry) (history events more : List Event) → AreCaused i journal history events → AreCaused i journal (history ++ events) more → AreCaused i journal history (events ++ more)
caused_more i journal history [] more a b = subst (λ x. AreCaused i journal x more) (append-nil history) b
caused_more i journal history (event ∷ events) more a b =
    (a.0, caused_more i journal (history ++ event ∷ []) events more a.1 (subst (λ x. AreCaused i journal x more) (sym (append_assoc history (event ∷ []) events)) b))

-- one more event
pub caused_push : (i : ℕ) (journal : List Entry) (history : List Event) (event : Event) → IsCausedBy i journal history event → AreCaused i journal [] history → AreCaused i journal [] (history ++ event ∷ [])
caused_push i journal history event by caused = caused_more i journal [] history (event ∷ []) caused (by, tt)

-- ---- a journal that goes on

same_both : (x y : Entry) (xs ys : List Entry) → x ≡ y → xs ≡ ys → x ∷ xs ≡ y ∷ ys
same_both x y xs ys head tail = ap (λ z. z ∷ xs) head ∙ ap (λ z. y ∷ z) tail

-- an entry that has an out of a journal's front stands in this front
stands_before : (journal more front rest : List Entry) (entry : Entry) → journal ++ more ≡ front ++ entry ∷ rest → length (outs front) < length (outs journal) → (left : List Entry) × (journal ≡ front ++ entry ∷ left)
stands_before [] more front rest entry e l = absurd (grind (arith, l))
stands_before (x ∷ journal) more [] rest entry e l = let same : x ≡ entry = cc in (journal, ap (λ y. y ∷ journal) same)
stands_before (x ∷ journal) more (y ∷ front) rest entry e l =
    let same : x ≡ y = cc in
    let tail : journal ++ more ≡ front ++ entry ∷ rest = cc in
    let a = length-append x.outs (outs journal) in
    let b = length-append y.outs (outs front) in
    let c : length x.outs ≡ length y.outs = ap (λ z. length z.outs) same in
    let found = stands_before journal more front rest entry tail (grind (arith, l, a, b, c)) in
    (found.0, same_both x y journal (front ++ entry ∷ found.0) same found.1)

is_caused_grown : (i : ℕ) (journal more : List Entry) (history : List Event) → length (receives i history) < length (outs journal) → IsCaused i journal history → IsCaused i (journal ++ more) history
is_caused_grown i journal more history l caused front entry stands =
    let found = stands_before journal more front stands.rest entry stands.whole (grind (arith, l, stands.after)) in
    caused front entry (record { rest = found.0; whole = found.1; after = stands.after; before = stands.before })

-- after a receipt from isolate i more is received than before
more_received : (i j : ℕ) (out : Out) (history events : List Event) (n : ℕ) → j ≡ i → length (receives i (history ++ Recv j out ∷ events)) ≤ n → length (receives i history) < n
more_received i j out history events n e l =
    let a = ap length (flat_map-append (receive_of i) history (Recv j out ∷ events)) in
    let b = length-append (receives i history) (receive_of i (Recv j out) ++ receives i events) in
    let c = length-append (receive_of i (Recv j out)) (receives i events) in
    let d : length (receive_of i (Recv j out)) ≡ 1 = ap (λ x. length (receive_of i (Recv x out))) e ∙ ap length (same_if i (out ∷ []) []) in
    grind (arith, a, b, c, d, l)

caused_by_grown : (i : ℕ) (journal more : List Entry) (history events : List Event) (event : Event) → length (receives i (history ++ event ∷ events)) ≤ length (outs journal) → IsCausedBy i journal history event → IsCausedBy i (journal ++ more) history event
caused_by_grown i journal more history events (Post j task) l c = c
caused_by_grown i journal more history events (Ask j) l c = c
caused_by_grown i journal more history events (Release call) l c = c
caused_by_grown i journal more history events (Settle call how) l c = c
caused_by_grown i journal more history events (Recv j out) l c = λ e. is_caused_grown i journal more history (more_received i j out history events (length (outs journal)) e l) (c e)

pub caused_grown : (i : ℕ) (journal more : List Entry) (history events : List Event) → length (receives i (history ++ events)) ≤ length (outs journal) → AreCaused i journal history events → AreCaused i (journal ++ more) history events
caused_grown i journal more history [] l c = c
caused_grown i journal more history (event ∷ events) l c = (
  caused_by_grown i journal more history events event l c.0,
  caused_grown i journal more (history ++ event ∷ []) events (subst (λ x. length (receives i x) ≤ length (outs journal)) (sym (append_assoc history (event ∷ []) events)) l) c.1,
)

-- ---- an empty journal

none_stands : (front rest : List Entry) (entry : Entry) → [] ≡ front ++ entry ∷ rest → ⊥
none_stands [] rest entry e = cc
none_stands (x ∷ front) rest entry e = cc

caused_by_none : (i : ℕ) (history : List Event) (event : Event) → IsCausedBy i [] history event
caused_by_none i history (Post j task) = tt
caused_by_none i history (Ask j) = tt
caused_by_none i history (Release call) = tt
caused_by_none i history (Settle call how) = tt
caused_by_none i history (Recv j out) = λ e front entry stands. absurd (none_stands front stands.rest entry stands.whole)

pub caused_none : (i : ℕ) (history events : List Event) → AreCaused i [] history events
caused_none i history [] = tt
caused_none i history (event ∷ events) = (caused_by_none i history event, caused_none i (history ++ event ∷ []) events)
