-- The lists of a history that goes on.
use Rattle.std.proofs.Common.{◌≡◌, ◌≢◌, ℕ, suc, zero, List, [], ◌∷◌, ◌++◌, length, Bool, true, false, ◌==◌, ◌||◌, if◌then◌else◌, Some, refl, sym, ap, ◌∙◌, arith, ◌⊎◌, inl, inr, append-nil, append_assoc, slice_get}
use Rattle.std.specs.List.{flat_map, list_any, Contains}
use Rattle.std.proofs.lemmas.Grind.{flat_map-append}
use Rattle.std.proofs.lemmas.List.Folds.{list_any-append}
use Rattle.task_history.specs.declared.task.Task.{Task}
use Rattle.task_history.specs.declared.outcome.Out.{Out}
use Rattle.task_history.specs.declared.record.Settlement.{Settlement}
use Rattle.task_history.specs.declared.record.Settlement.TheVariants as how
use Rattle.task_history.specs.declared.record.Event.{Event}
use Rattle.task_history.specs.declared.record.Event.TheVariants.{Post, Recv, Ask, Settle}
use Rattle.task_history.specs.Lists.{posts, receives, asks, replies, post_of, receive_of, ask_of, reply_of, is_asked, has_ended, is_gone, asks_it, tells_end}
use Rattle.host_meaning.specs.Stand.{Stand}
use Rattle.host_meaning.specs.Machine.{replies_of, received, received_all}
use Rattle.host_laws.proofs.Turns.{received_cases}

pub same_if : {A : Type 0} (i : ℕ) (x y : A) → (if i == i then x else y) ≡ x
same_if i x y = grind arith

pub other_if : {A : Type 0} (i j : ℕ) (x y : A) → i ≢ j → (if i == j then x else y) ≡ y
other_if i j x y other = grind (arith, other)

-- ---- places in a list

pub none_there : {A : Type 0} (x : A) → Contains [] x → ⊥
none_there x there = grind (arith, there.1)

pub slice_get-append_left : {A : Type 0} (xs ys : List A) (k : ℕ) (x : A) → slice_get xs k ≡ Some x → slice_get (xs ++ ys) k ≡ Some x
slice_get-append_left [] ys k x is = cc
slice_get-append_left (y ∷ xs) ys zero x is = is
slice_get-append_left (y ∷ xs) ys (suc k) x is = slice_get-append_left xs ys k x is

pub slice_get-append_here : {A : Type 0} (xs ys : List A) (x : A) → slice_get (xs ++ x ∷ ys) (length xs) ≡ Some x
slice_get-append_here [] ys x = refl
slice_get-append_here (y ∷ xs) ys x = slice_get-append_here xs ys x

-- an element of a list with one more is one of before, or the last
pub slice_get-push_cases : {A : Type 0} (xs : List A) (y : A) (k : ℕ) (x : A) → slice_get (xs ++ y ∷ []) k ≡ Some x → (slice_get xs k ≡ Some x) ⊎ ((k ≡ length xs) × (x ≡ y))
slice_get-push_cases [] y zero x is = inr (refl, cc)
slice_get-push_cases [] y (suc k) x is = inl is
slice_get-push_cases (z ∷ xs) y zero x is = inl is
slice_get-push_cases (z ∷ xs) y (suc k) x is =
    elim (slice_get-push_cases xs y k x is) as (λ r. (slice_get xs k ≡ Some x) ⊎ ((suc k ≡ suc (length xs)) × (x ≡ y))) [
      | inl old ↦ inl old
      | inr new ↦ inr (ap suc new.0, new.1)
    ]

pub contains_at : {A : Type 0} (xs : List A) (k : ℕ) (x : A) → slice_get xs k ≡ Some x → Contains xs x
contains_at [] k x is = cc
contains_at (y ∷ xs) zero x is = (0, grind arith, cc)
contains_at (y ∷ xs) (suc k) x is = let rest = contains_at xs k x is in (suc rest.0, grind (arith, rest.1), rest.2)

-- where an element of a list stands
pub place_of : {A : Type 0} (xs : List A) (x : A) → Contains xs x → (k : ℕ) × (slice_get xs k ≡ Some x)
place_of [] x there = absurd (none_there x there)
place_of (y ∷ xs) x (zero, within, is) = (zero, ap Some is)
place_of (y ∷ xs) x (suc k, within, is) = let rest = place_of xs x (k, grind (arith, within), is) in (suc rest.0, rest.1)

-- ---- a history with more events

pub posts_more : (i : ℕ) (history more : List Event) → posts i (history ++ more) ≡ posts i history ++ posts i more
posts_more i history more = flat_map-append (post_of i) history more

pub receives_more : (i : ℕ) (history more : List Event) → receives i (history ++ more) ≡ receives i history ++ receives i more
receives_more i history more = flat_map-append (receive_of i) history more

pub asks_more : (i : ℕ) (history more : List Event) → asks i (history ++ more) ≡ asks i history ++ asks i more
asks_more i history more = flat_map-append (ask_of i) history more

pub is_asked_more : (i : ℕ) (history more : List Event) → is_asked i (history ++ more) ≡ (is_asked i history || is_asked i more)
is_asked_more i history more = list_any-append (asks_it i) history more

pub has_ended_more : (i : ℕ) (history more : List Event) → has_ended i (history ++ more) ≡ (has_ended i history || has_ended i more)
has_ended_more i history more = list_any-append (tells_end i) history more

or_false : (a : Bool) → (a || false) ≡ a
or_false true = refl
or_false false = refl

or_pairs : (a b c d : Bool) → ((a || b) || (c || d)) ≡ ((a || c) || (b || d))
or_pairs true b c d = refl
or_pairs false true true d = refl
or_pairs false true false d = refl
or_pairs false false c d = refl

pub is_gone_more : (i : ℕ) (history more : List Event) → is_gone i (history ++ more) ≡ (is_gone i history || is_gone i more)
is_gone_more i history more =
    ap (λ x. x || has_ended i (history ++ more)) (is_asked_more i history more)
    ∙ ap (λ x. (is_asked i history || is_asked i more) || x) (has_ended_more i history more)
    ∙ or_pairs (is_asked i history) (is_asked i more) (has_ended i history) (has_ended i more)

pub still_gone : (i : ℕ) (history more : List Event) → is_gone i history ≡ true → is_gone i (history ++ more) ≡ true
still_gone i history more gone = is_gone_more i history more ∙ ap (λ x. x || is_gone i more) gone

pub still_asked : (i : ℕ) (history more : List Event) → is_asked i history ≡ true → is_asked i (history ++ more) ≡ true
still_asked i history more asked = is_asked_more i history more ∙ ap (λ x. x || is_asked i more) asked

-- ---- one event

pub post_here : (i : ℕ) (task : Task) → posts i (Post i task ∷ []) ≡ task ∷ []
post_here i task = append-nil (post_of i (Post i task)) ∙ same_if i (task ∷ []) []

pub post_there : (i j : ℕ) (task : Task) → i ≢ j → posts i (Post j task ∷ []) ≡ []
post_there i j task other = append-nil (post_of i (Post j task)) ∙ other_if i j (task ∷ []) [] other

pub receive_here : (i : ℕ) (out : Out) → receives i (Recv i out ∷ []) ≡ out ∷ []
receive_here i out = append-nil (receive_of i (Recv i out)) ∙ same_if i (out ∷ []) []

pub receive_there : (i j : ℕ) (out : Out) → i ≢ j → receives i (Recv j out ∷ []) ≡ []
receive_there i j out other = append-nil (receive_of i (Recv j out)) ∙ other_if i j (out ∷ []) [] other

pub ask_there : (i j : ℕ) → i ≢ j → asks i (Ask j ∷ []) ≡ []
ask_there i j other = append-nil (ask_of i (Ask j)) ∙ other_if i j (j ∷ []) [] other

pub posts_post_here : (i : ℕ) (history : List Event) (task : Task) → posts i (history ++ Post i task ∷ []) ≡ posts i history ++ task ∷ []
posts_post_here i history task = posts_more i history (Post i task ∷ []) ∙ ap (λ x. posts i history ++ x) (post_here i task)

pub posts_post_there : (i j : ℕ) (history : List Event) (task : Task) → i ≢ j → posts i (history ++ Post j task ∷ []) ≡ posts i history
posts_post_there i j history task other = posts_more i history (Post j task ∷ []) ∙ ap (λ x. posts i history ++ x) (post_there i j task other) ∙ append-nil (posts i history)

-- an event that is no post, receipt or ask changes none of the lists
pub by_quiet : {A : Type 0} (f : Event → List A) (history : List Event) (event : Event) → f event ≡ [] → flat_map f (history ++ event ∷ []) ≡ flat_map f history
by_quiet f history event quiet = flat_map-append f history (event ∷ []) ∙ ap (λ x. flat_map f history ++ (x ++ [])) quiet ∙ append-nil (flat_map f history)

-- ---- an out that is received

module _ (stand : Stand) (i : ℕ) (out : Out) where
  -- but for settlements, what a history lists of an out is its receipt
  pub received_by : {A : Type 0} (f : Event → List A) → ((n : ℕ) (how : Settlement) → f (Settle n how) ≡ []) → flat_map f (received stand i out).history ≡ flat_map f stand.history ++ f (Recv i out)
  received_by {A} f quiet =
      received_cases stand i out (λ s. flat_map f s.history ≡ flat_map f stand.history ++ f (Recv i out))
      (λ _. flat_map-append f stand.history (Recv i out ∷ []) ∙ ap (λ x. flat_map f stand.history ++ x) (append-nil (f (Recv i out))))
      (λ n outcome _ _. settled n (how.Entry i (replies_of i stand.history)))
    where
      settled : (n : ℕ) (by : Settlement) → flat_map f (stand.history ++ Recv i out ∷ Settle n by ∷ []) ≡ flat_map f stand.history ++ f (Recv i out)
      settled n by =
          flat_map-append f stand.history (Recv i out ∷ Settle n by ∷ [])
          ∙ ap (λ x. flat_map f stand.history ++ (f (Recv i out) ++ (x ++ []))) (quiet n by)
          ∙ ap (λ x. flat_map f stand.history ++ x) (append-nil (f (Recv i out)))

  -- and what a history shows of an out, its receipt shows
  pub received_shows : (p : Event → Bool) → ((n : ℕ) (how : Settlement) → p (Settle n how) ≡ false) → list_any p (received stand i out).history ≡ (list_any p stand.history || p (Recv i out))
  received_shows p quiet =
      received_cases stand i out (λ s. list_any p s.history ≡ (list_any p stand.history || p (Recv i out)))
      (λ _. list_any-append p stand.history (Recv i out ∷ []) ∙ ap (λ x. list_any p stand.history || x) (or_false (p (Recv i out))))
      (λ n outcome _ _. settled n (how.Entry i (replies_of i stand.history)))
    where
      settled : (n : ℕ) (by : Settlement) → list_any p (stand.history ++ Recv i out ∷ Settle n by ∷ []) ≡ (list_any p stand.history || p (Recv i out))
      settled n by =
          list_any-append p stand.history (Recv i out ∷ Settle n by ∷ [])
          ∙ ap (λ x. list_any p stand.history || (p (Recv i out) || (x || false))) (quiet n by)
          ∙ ap (λ x. list_any p stand.history || x) (or_false (p (Recv i out)))

  pub posts_received : (j : ℕ) → posts j (received stand i out).history ≡ posts j stand.history
  posts_received j = received_by (post_of j) (λ n how. refl) ∙ append-nil (posts j stand.history)

  pub asks_received : (j : ℕ) → asks j (received stand i out).history ≡ asks j stand.history
  asks_received j = received_by (ask_of j) (λ n how. refl) ∙ append-nil (asks j stand.history)

  pub receives_here : receives i (received stand i out).history ≡ receives i stand.history ++ out ∷ []
  receives_here = received_by (receive_of i) (λ n how. refl) ∙ ap (λ x. receives i stand.history ++ x) (same_if i (out ∷ []) [])

  pub receives_there : (j : ℕ) → j ≢ i → receives j (received stand i out).history ≡ receives j stand.history
  receives_there j other =
      received_by (receive_of j) (λ n how. refl) ∙ ap (λ x. receives j stand.history ++ x) (other_if j i (out ∷ []) [] other) ∙ append-nil (receives j stand.history)

  pub is_asked_received : (j : ℕ) → is_asked j (received stand i out).history ≡ is_asked j stand.history
  is_asked_received j = received_shows (asks_it j) (λ n how. refl) ∙ or_false (is_asked j stand.history)

  pub has_ended_received : (j : ℕ) → has_ended j (received stand i out).history ≡ (has_ended j stand.history || tells_end j (Recv i out))
  has_ended_received j = received_shows (tells_end j) (λ n how. refl)

-- ---- outs that are received one after another

pub posts_received_all : (stand : Stand) (i j : ℕ) (outs : List Out) → posts j (received_all stand i outs).history ≡ posts j stand.history
posts_received_all stand i j [] = refl
posts_received_all stand i j (out ∷ outs) = posts_received_all (received stand i out) i j outs ∙ posts_received stand i out j

pub asks_received_all : (stand : Stand) (i j : ℕ) (outs : List Out) → asks j (received_all stand i outs).history ≡ asks j stand.history
asks_received_all stand i j [] = refl
asks_received_all stand i j (out ∷ outs) = asks_received_all (received stand i out) i j outs ∙ asks_received stand i out j

pub is_asked_received_all : (stand : Stand) (i j : ℕ) (outs : List Out) → is_asked j (received_all stand i outs).history ≡ is_asked j stand.history
is_asked_received_all stand i j [] = refl
is_asked_received_all stand i j (out ∷ outs) = is_asked_received_all (received stand i out) i j outs ∙ is_asked_received stand i out j

pub receives_here_all : (stand : Stand) (i : ℕ) (outs : List Out) → receives i (received_all stand i outs).history ≡ receives i stand.history ++ outs
receives_here_all stand i [] = sym (append-nil (receives i stand.history))
receives_here_all stand i (out ∷ outs) =
    receives_here_all (received stand i out) i outs ∙ ap (λ x. x ++ outs) (receives_here stand i out) ∙ append_assoc (receives i stand.history) (out ∷ []) outs

pub receives_there_all : (stand : Stand) (i j : ℕ) (outs : List Out) → j ≢ i → receives j (received_all stand i outs).history ≡ receives j stand.history
receives_there_all stand i j [] other = refl
receives_there_all stand i j (out ∷ outs) other = receives_there_all (received stand i out) i j outs other ∙ receives_there stand i out j other

-- ---- replies

pub replies_more : (outs more : List Out) → replies (outs ++ more) ≡ replies outs ++ replies more
replies_more outs more = flat_map-append reply_of outs more

-- what is received only adds to the outs that were received from an isolate
pub receives_grow : (stand : Stand) (i j : ℕ) (out : Out) → (more : List Out) × (receives j (received stand i out).history ≡ receives j stand.history ++ more)
receives_grow stand i j out = (receive_of j (Recv i out), received_by stand i out (receive_of j) (λ n how. refl))
