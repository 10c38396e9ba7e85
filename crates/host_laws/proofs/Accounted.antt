-- What became of each number that was drawn.
use Rattle.std.proofs.Common.{◌≡◌, ℕ, suc, zero, ◌+◌, ◌<◌, ◌≤◌, List, [], ◌∷◌, ◌++◌, length, Bool, true, false, not, ◌==◌, if◌then◌else◌, Option, Some, None, refl, subst, sym, ap, ◌∙◌, arith, ◌⊎◌, inl, inr, slice_get, slice_index_or, slice_set, length-append, append-nil}
use Rattle.std.proofs.lemmas.Bool.{cases_eq}
use Rattle.std.proofs.lemmas.List.Elements.{Contains-append_cases, Contains-push_cases}
use Rattle.std.specs.List.{Contains}
use Rattle.std.specs.Option.{option_map_or}
use Rattle.task_history.specs.Lists.{posts, receives, replies, post_of, receive_of, reply_of}
use Rattle.task_history.specs.declared.task.Own.TheVariants.{Disposed}
use Rattle.task_history.specs.declared.task.Task.{Task}
use Rattle.task_history.specs.declared.task.TaskKind.{TaskKind}
use Rattle.task_history.specs.declared.outcome.Outcome.{Outcome}
use Rattle.task_history.specs.declared.outcome.Out.{Out}
use Rattle.task_history.specs.declared.outcome.Out.TheVariants.{Call, Log, AskTable, Reply}
use Rattle.task_history.specs.declared.record.Settlement.TheVariants as how
use Rattle.task_history.specs.declared.record.Event.{Event}
use Rattle.task_history.specs.declared.record.Event.TheVariants.{Post, Recv, Ask, Settle}
use Rattle.host_syntax.specs.declared.script.HostScript.{HostScript}
use Rattle.host_meaning.specs.declared.moves.Held.{Held}
use Rattle.host_meaning.specs.declared.moves.Held.TheVariants as held
use Rattle.host_meaning.specs.Stand.{Stand, beginning, drawn, is_there, is_settled}
use Rattle.host_meaning.specs.Machine.{turn, task_of, drawing, posting, settling, received, received_all, held_by, HostRun}
use Rattle.host_laws.specs.Settled.{PostsDrawn, PostsOnce, AccountsForEach}
pub use Rattle.host_laws.specs.Settled.{IsPosted}
use Rattle.host_laws.proofs.Turns.{turn_cases, received_cases, run_keeps}
use Rattle.host_laws.proofs.Lists.{posts_more, slice_get-append_left, slice_get-append_here, slice_get-push_cases, none_there, posts_post_here, posts_post_there, by_quiet, posts_received, received_by, replies_more}
use Rattle.host_laws.proofs.Settled.{once, settled_push, settled_set, open_is}

-- ---- numbers that are drawn, and settled numbers, stay so

pub length_set : {A : Type 0} (xs : List A) (k : ℕ) (x : A) → length (slice_set xs k x) ≡ length xs
length_set [] k x = refl
length_set (y ∷ xs) zero x = refl
length_set (y ∷ xs) (suc k) x = ap suc (length_set xs k x)

pub drawn_drawing : (stand : Stand) (settled : Option Held) (stops : List ℕ) (event : Event) → drawn (drawing stand settled stops event) ≡ drawn stand + 1
drawn_drawing stand settled stops event = length-append stand.calls (settled ∷ [])

pub drawn_received : (stand : Stand) (i : ℕ) (out : Out) → drawn (received stand i out) ≡ drawn stand
drawn_received stand i out = received_cases stand i out (λ s. drawn s ≡ drawn stand) (λ _. refl) (λ n outcome _ _. length_set stand.calls n (Some (held_by outcome)))

pub drawn_received_all : (stand : Stand) (i : ℕ) (outs : List Out) → drawn (received_all stand i outs) ≡ drawn stand
drawn_received_all stand i [] = refl
drawn_received_all stand i (out ∷ outs) = drawn_received_all (received stand i out) i outs ∙ drawn_received stand i out

once_one : (b : Bool) → 1 ≤ once b → b ≡ true
once_one true above = refl
once_one false above = grind (arith, above)

once_above : (a b : Bool) (more : ℕ) → once b ≡ once a + more → a ≡ true → b ≡ true
once_above a true more same is = refl
once_above a false more same is = grind (arith, same, is)

pub settled_drawing : (stand : Stand) (settled : Option Held) (stops : List ℕ) (event : Event) (n : ℕ) → is_settled stand n ≡ true → is_settled (drawing stand settled stops event) n ≡ true
settled_drawing stand settled stops event n is =
    once_above (is_settled stand n) (is_settled (drawing stand settled stops event) n) (if n == length stand.calls then once (is_there settled) else 0) (settled_push stand.calls settled n) is

pub settled_at_once : (stand : Stand) (now : Held) (stops : List ℕ) (event : Event) → is_settled (drawing stand (Some now) stops event) (drawn stand) ≡ true
settled_at_once stand now stops event =
    let p = settled_push stand.calls (Some now) (length stand.calls) in
    once_one (is_settled (drawing stand (Some now) stops event) (drawn stand)) (grind (arith, p))

pub settled_turn : (stand : Stand) (n : ℕ) → is_settled stand n ≡ true → is_settled (turn stand).1 n ≡ true
settled_turn stand n is = turn_cases stand (λ m. is_settled m.1 n ≡ true)
    is
    is
    is
    (settled_drawing stand (Some held.Nothing) [] (Settle (drawn stand) (how.Own Disposed)) n is)
    (λ i budget kind _. settled_drawing stand None [] (Post i (task_of stand budget kind)) n is)
    (λ i _. settled_drawing stand (Some held.Nothing) (drawn stand ∷ []) (Ask i) n is)

pub settled_received : (stand : Stand) (i : ℕ) (out : Out) (n : ℕ) → is_settled stand n ≡ true → is_settled (received stand i out) n ≡ true
settled_received stand i out n is = received_cases stand i out (λ s. is_settled s n ≡ true)
    (λ _. is)
    (λ m outcome _ was_open. once_above (is_settled stand n) (is_settled (settling stand i out m outcome) n) (if n == m then 1 else 0) (settled_set stand.calls m (held_by outcome) n (open_is stand m was_open)) is)

-- ---- numbers of the tasks that were posted

-- where a history has one more post, a number was posted before, or by it
pub posted_cases : (history : List Event) (j : ℕ) (new : Task) (n : ℕ) (is : IsPosted (history ++ Post j new ∷ []) n)
    → (slice_get (posts is.isolate history) is.place ≡ Some is.task) ⊎ ((is.isolate ≡ j) × (is.place ≡ length (posts j history)) × (is.task ≡ new))
posted_cases history j new n is =
    elim (cases_eq is.isolate j) as (λ x. (slice_get (posts is.isolate history) is.place ≡ Some is.task) ⊎ ((is.isolate ≡ j) × (is.place ≡ length (posts j history)) × (is.task ≡ new))) [
      | inl same ↦ here same
      | inr other ↦ inl (subst (λ x. slice_get x is.place ≡ Some is.task) (posts_post_there is.isolate j history new other) is.at)
    ]
  where
    here : is.isolate ≡ j → (slice_get (posts is.isolate history) is.place ≡ Some is.task) ⊎ ((is.isolate ≡ j) × (is.place ≡ length (posts j history)) × (is.task ≡ new))
    here same =
        let at : slice_get (posts j history ++ new ∷ []) is.place ≡ Some is.task =
        subst (λ x. slice_get x is.place ≡ Some is.task) (ap (λ x. posts x (history ++ Post j new ∷ [])) same ∙ posts_post_here j history new) is.at in
        elim (slice_get-push_cases (posts j history) new is.place is.task at) as (λ x. (slice_get (posts is.isolate history) is.place ≡ Some is.task) ⊎ ((is.isolate ≡ j) × (is.place ≡ length (posts j history)) × (is.task ≡ new))) [
          | inl old ↦ inl (subst (λ x. slice_get (posts x history) is.place ≡ Some is.task) (sym same) old)
          | inr last ↦ inr (same, last.0, last.1)
        ]

-- a history with the same posts has the same numbers
pub same_posted : (history next : List Event) → ((i : ℕ) → posts i next ≡ posts i history) → (n : ℕ) → IsPosted next n → IsPosted history n
same_posted history next same n is =
    record { isolate = is.isolate; place = is.place; task = is.task; at = subst (λ x. slice_get x is.place ≡ Some is.task) (same is.isolate) is.at; named = is.named }

pub still_posted : (history more : List Event) (n : ℕ) → IsPosted history n → IsPosted (history ++ more) n
still_posted history more n is = record {
  isolate = is.isolate;
  place = is.place;
  task = is.task;
  at = subst (λ x. slice_get x is.place ≡ Some is.task) (sym (posts_more is.isolate history more)) (slice_get-append_left (posts is.isolate history) (posts is.isolate more) is.place is.task is.at);
  named = is.named;
}

pub posts_drawing : (stand : Stand) (settled : Option Held) (stops : List ℕ) (event : Event) → ((i : ℕ) → post_of i event ≡ []) → (i : ℕ) → posts i (drawing stand settled stops event).history ≡ posts i stand.history
posts_drawing stand settled stops event quiet i = by_quiet (post_of i) stand.history event (quiet i)

-- ---- posted numbers are drawn

drawn_quiet : (stand : Stand) (settled : Option Held) (stops : List ℕ) (event : Event) → ((i : ℕ) → post_of i event ≡ []) → PostsDrawn stand → PostsDrawn (drawing stand settled stops event)
drawn_quiet stand settled stops event quiet kept n is =
    let below = kept n (same_posted stand.history (stand.history ++ event ∷ []) (posts_drawing stand settled stops event quiet) n is) in
    let more = drawn_drawing stand settled stops event in
    grind (arith, below, more)

drawn_posting : (stand : Stand) (i budget : ℕ) (kind : TaskKind) → PostsDrawn stand → PostsDrawn (posting stand i (task_of stand budget kind))
drawn_posting stand i budget kind kept n is =
    let more = drawn_drawing stand None [] (Post i (task_of stand budget kind)) in
    elim (posted_cases stand.history i (task_of stand budget kind) n is) as (λ x. n < drawn (posting stand i (task_of stand budget kind))) [
      | inl old ↦ (let below = kept n (record { isolate = is.isolate; place = is.place; task = is.task; at = old; named = is.named }) in grind (arith, below, more))
      | inr new ↦ (let same : n ≡ drawn stand = some_same n (drawn stand) (sym is.named ∙ ap (λ t. t.call) new.2) in grind (arith, same, more))
    ]
  where
    some_same : (a b : ℕ) → Some a ≡ Some b → a ≡ b
    some_same a b e = cc

pub posted_are_drawn : (script : HostScript) (stand : Stand) → HostRun script stand → PostsDrawn stand
posted_are_drawn script = run_keeps script PostsDrawn (λ n is. cc is.at)
    (λ s run kept. turn_cases s (λ m. PostsDrawn m.1)
    kept
    kept
    kept
    (drawn_quiet s (Some held.Nothing) [] (Settle (drawn s) (how.Own Disposed)) (λ i. refl) kept)
    (λ i budget kind _. drawn_posting s i budget kind kept)
    (λ i _. drawn_quiet s (Some held.Nothing) (drawn s ∷ []) (Ask i) (λ i. refl) kept))
    (λ s i out run kept n is.
    (let below = kept n (same_posted s.history (received s i out).history (posts_received s i out) n is) in
    let same = drawn_received s i out in
    grind (arith, below, same)))

-- ---- a number is posted once

once_quiet : (stand : Stand) (next : List Event) → ((i : ℕ) → posts i next ≡ posts i stand.history) → PostsOnce stand → (n : ℕ) (one other : IsPosted next n) → (one.isolate ≡ other.isolate) × (one.place ≡ other.place)
unfolding same_posted
once_quiet stand next same kept n one other = kept n (same_posted stand.history next same n one) (same_posted stand.history next same n other)

-- a number below those that are drawn isn't the next one
not_next : (stand : Stand) (i budget : ℕ) (kind : TaskKind) (n : ℕ) (is : IsPosted (stand.history ++ Post i (task_of stand budget kind) ∷ []) n)
    → PostsDrawn stand → slice_get (posts is.isolate stand.history) is.place ≡ Some is.task → n ≡ drawn stand → ⊥
not_next stand i budget kind n is below old same =
    let l = below n (record { isolate = is.isolate; place = is.place; task = is.task; at = old; named = is.named }) in
    grind (arith, l, same)

pub is_next : (stand : Stand) (budget : ℕ) (kind : TaskKind) (n : ℕ) (task : Task) → task.call ≡ Some n → task ≡ task_of stand budget kind → n ≡ drawn stand
is_next stand budget kind n task named same = let e : Some n ≡ Some (drawn stand) = sym named ∙ ap (λ t. t.call) same in cc

once_posting : (stand : Stand) (i budget : ℕ) (kind : TaskKind) → PostsDrawn stand → PostsOnce stand → PostsOnce (posting stand i (task_of stand budget kind))
once_posting stand i budget kind below kept n one other =
    elim (posted_cases stand.history i (task_of stand budget kind) n one) as (λ x. (one.isolate ≡ other.isolate) × (one.place ≡ other.place)) [
      | inl old ↦ elim (posted_cases stand.history i (task_of stand budget kind) n other) as (λ x. (one.isolate ≡ other.isolate) × (one.place ≡ other.place)) [
        | inl old' ↦ kept n (record { isolate = one.isolate; place = one.place; task = one.task; at = old; named = one.named }) (record { isolate = other.isolate; place = other.place; task = other.task; at = old'; named = other.named })
        | inr new ↦ absurd (not_next stand i budget kind n one below old (is_next stand budget kind n other.task other.named new.2))
      ]
      | inr new ↦ elim (posted_cases stand.history i (task_of stand budget kind) n other) as (λ x. (one.isolate ≡ other.isolate) × (one.place ≡ other.place)) [
        | inl old ↦ absurd (not_next stand i budget kind n other below old (is_next stand budget kind n one.task one.named new.2))
        | inr new' ↦ (new.0 ∙ sym new'.0, new.1 ∙ sym new'.1)
      ]
    ]

pub posted_once : (script : HostScript) (stand : Stand) → HostRun script stand → PostsOnce stand
posted_once script = run_keeps script PostsOnce (λ n one other. cc one.at)
    (λ s run kept. turn_cases s (λ m. PostsOnce m.1)
    kept
    kept
    kept
    (once_quiet s (s.history ++ Settle (drawn s) (how.Own Disposed) ∷ []) (posts_drawing s (Some held.Nothing) [] (Settle (drawn s) (how.Own Disposed)) (λ i. refl)) kept)
    (λ i budget kind _. once_posting s i budget kind (posted_are_drawn script s run) kept)
    (λ i _. once_quiet s (s.history ++ Ask i ∷ []) (posts_drawing s (Some held.Nothing) (drawn s ∷ []) (Ask i) (λ i. refl)) kept))
    (λ s i out run kept. once_quiet s (received s i out).history (posts_received s i out) kept)

-- ---- a drawn number is settled or posted

abbrev pub IsAccounted : Stand → ℕ → Type 0
IsAccounted stand n = (is_settled stand n ≡ true) ⊎ IsPosted stand.history n

pub last_or : (n d : ℕ) → n < d + 1 → (n < d) ⊎ (n ≡ d)
last_or n d below = grind (arith, below)

accounted_drawing : (stand : Stand) (settled : Option Held) (stops : List ℕ) (event : Event)
    → ((n : ℕ) → n < drawn stand → IsAccounted stand n) → IsAccounted (drawing stand settled stops event) (drawn stand)
    → (n : ℕ) → n < drawn (drawing stand settled stops event) → IsAccounted (drawing stand settled stops event) n
accounted_drawing stand settled stops event kept next n below =
    elim (last_or n (drawn stand) (let more = drawn_drawing stand settled stops event in grind (arith, below, more))) as (λ x. IsAccounted (drawing stand settled stops event) n) [
      | inl old ↦ elim (kept n old) as (λ x. IsAccounted (drawing stand settled stops event) n) [
        | inl is ↦ inl (settled_drawing stand settled stops event n is)
        | inr is ↦ inr (still_posted stand.history (event ∷ []) n is)
      ]
      | inr last ↦ subst (IsAccounted (drawing stand settled stops event)) (sym last) next
    ]

posted_next : (stand : Stand) (i : ℕ) (task : Task) (n : ℕ) → task.call ≡ Some n → IsPosted (stand.history ++ Post i task ∷ []) n
posted_next stand i task n named = record {
  isolate = i;
  place = length (posts i stand.history);
  task = task;
  at = subst (λ x. slice_get x (length (posts i stand.history)) ≡ Some task) (sym (posts_post_here i stand.history task)) (slice_get-append_here (posts i stand.history) [] task);
  named = named;
}

accounted_received : (stand : Stand) (i : ℕ) (out : Out) → ((n : ℕ) → n < drawn stand → IsAccounted stand n) → (n : ℕ) → n < drawn (received stand i out) → IsAccounted (received stand i out) n
accounted_received stand i out kept n below =
    elim (kept n (let same = drawn_received stand i out in grind (arith, below, same))) as (λ x. IsAccounted (received stand i out) n) [
      | inl is ↦ inl (settled_received stand i out n is)
      | inr is ↦ inr (same_posted (received stand i out).history stand.history (λ j. sym (posts_received stand i out j)) n is)
    ]

pub accounted : (script : HostScript) (stand : Stand) → HostRun script stand → AccountsForEach stand
accounted script = run_keeps script (λ s. (n : ℕ) → n < drawn s → IsAccounted s n) (λ n below. absurd (grind (arith, below)))
    (λ s run kept. turn_cases s (λ m. (n : ℕ) → n < drawn m.1 → IsAccounted m.1 n)
    kept
    kept
    kept
    (accounted_drawing s (Some held.Nothing) [] (Settle (drawn s) (how.Own Disposed)) kept (inl (settled_at_once s held.Nothing [] (Settle (drawn s) (how.Own Disposed)))))
    (λ i budget kind _. accounted_drawing s None [] (Post i (task_of s budget kind)) kept (inr (posted_next s i (task_of s budget kind) (drawn s) refl)))
    (λ i _. accounted_drawing s (Some held.Nothing) (drawn s ∷ []) (Ask i) kept (inl (settled_at_once s held.Nothing (drawn s ∷ []) (Ask i)))))
    (λ s i out run kept. accounted_received s i out kept)

-- ---- a number that was answered is settled

-- a reply that was received settled its call, or found it settled; so it is where no reply comes before its number is drawn
abbrev pub IsAnswered : Stand → Type 0
IsAnswered stand = (i n : ℕ) → Contains (replies (receives i stand.history)) (Some n) → is_settled stand n ≡ true

pub answered_beginning : (script : HostScript) → IsAnswered (beginning script)
answered_beginning script i n there = absurd (none_there (Some n) there)

answered_drawing : (stand : Stand) (settled : Option Held) (stops : List ℕ) (event : Event) → ((i : ℕ) → receive_of i event ≡ []) → IsAnswered stand → IsAnswered (drawing stand settled stops event)
answered_drawing stand settled stops event quiet kept i n there =
    settled_drawing stand settled stops event n (kept i n (subst (λ x. Contains (replies x) (Some n)) (by_quiet (receive_of i) stand.history event (quiet i)) there))

pub answered_turn : (stand : Stand) → IsAnswered stand → IsAnswered (turn stand).1
answered_turn stand kept = turn_cases stand (λ m. IsAnswered m.1)
    kept
    kept
    kept
    (answered_drawing stand (Some held.Nothing) [] (Settle (drawn stand) (how.Own Disposed)) (λ i. refl) kept)
    (λ i budget kind _. answered_drawing stand None [] (Post i (task_of stand budget kind)) (λ j. refl) kept)
    (λ i _. answered_drawing stand (Some held.Nothing) (drawn stand ∷ []) (Ask i) (λ j. refl) kept)

-- a drawn number that isn't open is settled
shut_is_settled : (calls : List (Option Held)) (n : ℕ) → n < length calls → option_map_or (λ settled. not (is_there settled)) (slice_get calls n) false ≡ false → is_there (slice_index_or calls n None) ≡ true
shut_is_settled [] n below shut = absurd (grind (arith, below))
shut_is_settled (Some x ∷ calls) zero below shut = refl
shut_is_settled (None ∷ calls) zero below shut = cc
shut_is_settled (x ∷ calls) (suc n) below shut = shut_is_settled calls n (grind (arith, below)) shut

-- what is received settles the call that it answers, where that was drawn
pub reply_settles : (stand : Stand) (i n : ℕ) (outcome : Outcome) → n < drawn stand → is_settled (received stand i (Reply (Some n) outcome)) n ≡ true
reply_settles stand i n outcome below =
    received_cases stand i (Reply (Some n) outcome) (λ s. is_settled s n ≡ true)
    (λ none. shut_is_settled stand.calls n below (none n outcome refl))
    (λ m told same was_open.
    (let e : m ≡ n = cc in
    let p = settled_set stand.calls m (held_by told) n (open_is stand m was_open) in
    once_one (is_settled (settling stand i (Reply (Some n) outcome) m told) n) (grind (arith, p, e))))

answered_by : (stand : Stand) (i : ℕ) (out : Out) (n : ℕ) → ((m : ℕ) (outcome : Outcome) → out ≡ Reply (Some m) outcome → m < drawn stand) → Contains (reply_of out) (Some n) → is_settled (received stand i out) n ≡ true
answered_by stand i (Call promise to budget act) n below there = absurd (none_there (Some n) there)
answered_by stand i (Log callback args) n below there = absurd (none_there (Some n) there)
answered_by stand i (AskTable callback promise key) n below there = absurd (none_there (Some n) there)
answered_by stand i (Reply None outcome) n below there =
    elim (Contains-push_cases [] None (Some n) there) as (λ x. is_settled (received stand i (Reply None outcome)) n ≡ true) [
      | inl none ↦ absurd (none_there (Some n) none)
      | inr same ↦ cc
    ]
answered_by stand i (Reply (Some m) outcome) n below there =
    elim (Contains-push_cases [] (Some m) (Some n) there) as (λ x. is_settled (received stand i (Reply (Some m) outcome)) n ≡ true) [
      | inl none ↦ absurd (none_there (Some n) none)
      | inr same ↦ (let e : m ≡ n = cc in subst (λ x. is_settled (received stand i (Reply (Some m) outcome)) x ≡ true) e (reply_settles stand i m outcome (below m outcome refl)))
    ]

pub answered_received : (stand : Stand) (i : ℕ) (out : Out) → ((m : ℕ) (outcome : Outcome) → out ≡ Reply (Some m) outcome → m < drawn stand) → IsAnswered stand → IsAnswered (received stand i out)
answered_received stand i out below kept j n there =
    let more : replies (receives j (received stand i out).history) ≡ replies (receives j stand.history) ++ replies (receive_of j (Recv i out)) =
    ap replies (received_by stand i out (receive_of j) (λ n how. refl)) ∙ replies_more (receives j stand.history) (receive_of j (Recv i out)) in
    elim (Contains-append_cases (replies (receives j stand.history)) (replies (receive_of j (Recv i out))) (Some n) (subst (λ x. Contains x (Some n)) more there)) as (λ x. is_settled (received stand i out) n ≡ true) [
      | inl old ↦ settled_received stand i out n (kept j n old)
      | inr new ↦
          (elim (j == i) as (λ b. Contains (replies (if b then out ∷ [] else [])) (Some n) → is_settled (received stand i out) n ≡ true) [
            | true ↦ λ h. answered_by stand i out n below (subst (λ x. Contains x (Some n)) (append-nil (reply_of out)) h)
            | false ↦ λ h. absurd (none_there (Some n) h)
          ]) new
    ]
