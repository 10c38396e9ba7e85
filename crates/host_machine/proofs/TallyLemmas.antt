-- What one more event adds to the tally of an isolate.
use Rattle.std.proofs.Common.{◌≡◌, ◌≢◌, ℕ, ◌+◌, ◌<◌, ◌≤◌, List, [], ◌∷◌, ◌++◌, length, Bool, true, false, ◌||◌, ◌==◌, if◌then◌else◌, Option, Some, None, refl, sym, ap, ◌∙◌, arith, append-nil, length-append}
use Rattle.std.proofs.lemmas.Grind.{flat_map-append}
use Rattle.std.proofs.lemmas.List.Folds.{list_any-append}
use Rattle.std.proofs.lemmas.Option.{same_Some}
use Rattle.std.specs.List.{flat_map, list_any}
use Rattle.task_history.specs.declared.task.Task.{Task}
use Rattle.task_history.specs.declared.outcome.Out.{Out}
use Rattle.task_history.specs.declared.outcome.Out.TheVariants.{Call, Log, AskTable, Reply}
use Rattle.task_history.specs.declared.record.Event.{Event}
use Rattle.task_history.specs.declared.record.Event.TheVariants.{Post, Recv, Ask, Release, Settle}
use Rattle.task_history.specs.Lists.{posts, post_of, receives, receive_of, replies, reply_of, is_asked, asks_it, has_ended, tells_end, tells_disposal}
use Rattle.host_meaning.specs.Machine.{replies_of}
use Rattle.host_machine.specs.declared.tally.Tally.{Tally}
use Rattle.host_machine.specs.Tally.{tally_of, isolate_in, noted, heard}

same_if : {A : Type 0} (i : ℕ) (x y : A) → (if i == i then x else y) ≡ x
same_if i x y = grind arith

other_if : {A : Type 0} (i j : ℕ) (x y : A) → i ≢ j → (if i == j then x else y) ≡ y
other_if i j x y n = grind (arith, n)

or_false : (a b : Bool) → (a || (b || false)) ≡ (a || b)
or_false a true = refl
or_false a false = refl

-- a tally with so much more
abbrev adding : Tally → ℕ → ℕ → Bool → Bool → Tally
adding tally posts replies asked ended = record { posts = tally.posts + posts; replies = tally.replies + replies; asked = tally.asked || asked; ended = tally.ended || ended }

or_nothing : (a : Bool) → (a || false) ≡ a
or_nothing true = refl
or_nothing false = refl

or_true : (a : Bool) → (a || true) ≡ true
or_true true = refl
or_true false = refl

same_tally : (p q r s : ℕ) (a b c d : Bool) → p ≡ q → r ≡ s → a ≡ b → c ≡ d
    → ◌≡◌ {A = Tally} (record { posts = p; replies = r; asked = a; ended = c }) (record { posts = q; replies = s; asked = b; ended = d })
same_tally p q r s a b c d e f g h = cc

posts_more : (i : ℕ) (history : List Event) (event : Event) → length (posts i (history ++ event ∷ [])) ≡ length (posts i history) + length (post_of i event)
posts_more i history event =
    ap length (flat_map-append (post_of i) history (event ∷ []) ∙ ap (λ x. posts i history ++ x) (append-nil (post_of i event)))
    ∙ length-append (posts i history) (post_of i event)

replies_more : (i : ℕ) (history : List Event) (event : Event) → replies_of i (history ++ event ∷ []) ≡ replies_of i history + length (replies (receive_of i event))
replies_more i history event =
    ap (λ outs. length (replies outs)) (flat_map-append (receive_of i) history (event ∷ []) ∙ ap (λ x. receives i history ++ x) (append-nil (receive_of i event)))
    ∙ ap length (flat_map-append reply_of (receives i history) (receive_of i event))
    ∙ length-append (replies (receives i history)) (replies (receive_of i event))

asked_more : (i : ℕ) (history : List Event) (event : Event) → is_asked i (history ++ event ∷ []) ≡ (is_asked i history || asks_it i event)
asked_more i history event = list_any-append (asks_it i) history (event ∷ []) ∙ or_false (is_asked i history) (asks_it i event)

ended_more : (i : ℕ) (history : List Event) (event : Event) → has_ended i (history ++ event ∷ []) ≡ (has_ended i history || tells_end i event)
ended_more i history event = list_any-append (tells_end i) history (event ∷ []) ∙ or_false (has_ended i history) (tells_end i event)

tally_more : (i : ℕ) (history : List Event) (event : Event)
    → tally_of i (history ++ event ∷ []) ≡ adding (tally_of i history) (length (post_of i event)) (length (replies (receive_of i event))) (asks_it i event) (tells_end i event)
tally_more i history event =
    same_tally _ _ _ _ _ _ _ _ (posts_more i history event) (replies_more i history event) (asked_more i history event) (ended_more i history event)

nothing_more : (tally : Tally) → adding tally 0 0 false false ≡ tally
nothing_more tally = same_tally _ _ _ _ _ _ _ _ (omega arith) (omega arith) (or_nothing tally.asked) (or_nothing tally.ended)

-- an event of no isolate
pub tally_of_none : (i : ℕ) (history : List Event) (event : Event) → isolate_in event ≡ None → tally_of i (history ++ event ∷ []) ≡ tally_of i history
tally_of_none i history (Post j task) none = cc
tally_of_none i history (Recv j out) none = cc
tally_of_none i history (Ask j) none = cc
tally_of_none i history (Release call) none = tally_more i history (Release call) ∙ nothing_more (tally_of i history)
tally_of_none i history (Settle call how) none = tally_more i history (Settle call how) ∙ nothing_more (tally_of i history)

post_elsewhere : (i j : ℕ) (history : List Event) (task : Task) → i ≢ j → tally_of i (history ++ Post j task ∷ []) ≡ tally_of i history
post_elsewhere i j history task other =
    tally_more i history (Post j task)
    ∙ ap (λ x. adding (tally_of i history) (length x) 0 false false) (other_if i j (task ∷ []) [] other) ∙ nothing_more (tally_of i history)

recv_elsewhere : (i j : ℕ) (history : List Event) (out : Out) → i ≢ j → tally_of i (history ++ Recv j out ∷ []) ≡ tally_of i history
recv_elsewhere i j history out other =
    tally_more i history (Recv j out)
    ∙ ap (λ x. adding (tally_of i history) 0 (length (replies x)) false (tells_end i (Recv j out))) (other_if i j (out ∷ []) [] other)
    ∙ ap (λ x. adding (tally_of i history) 0 0 false x) (other_if i j _ false other)
    ∙ nothing_more (tally_of i history)

ask_elsewhere : (i j : ℕ) (history : List Event) → i ≢ j → tally_of i (history ++ Ask j ∷ []) ≡ tally_of i history
ask_elsewhere i j history other =
    tally_more i history (Ask j)
    ∙ ap (λ x. adding (tally_of i history) 0 0 x false) (grind (arith, other)) ∙ nothing_more (tally_of i history)

-- an event of another isolate
pub tally_elsewhere : (i j : ℕ) (history : List Event) (event : Event) → isolate_in event ≡ Some j → i ≢ j → tally_of i (history ++ event ∷ []) ≡ tally_of i history
tally_elsewhere i j history (Post k task) of other = post_elsewhere i k history task (λ e. other (e ∙ same_Some k j of))
tally_elsewhere i j history (Recv k out) of other = recv_elsewhere i k history out (λ e. other (e ∙ same_Some k j of))
tally_elsewhere i j history (Ask k) of other = ask_elsewhere i k history (λ e. other (e ∙ same_Some k j of))
tally_elsewhere i j history (Release call) of other = cc
tally_elsewhere i j history (Settle call how) of other = cc

post_here : (i : ℕ) (history : List Event) (task : Task) → tally_of i (history ++ Post i task ∷ []) ≡ noted (Post i task) (tally_of i history)
post_here i history task =
    tally_more i history (Post i task)
    ∙ ap (λ x. adding (tally_of i history) (length x) 0 false false) (same_if i (task ∷ []) [])
    ∙ same_tally _ _ _ _ _ _ _ _ refl (omega arith) (or_nothing (is_asked i history)) (or_nothing (has_ended i history))

heard_here : (tally : Tally) (out : Out) (tells : Bool) → tells ≡ tells_disposal out → adding tally 0 (length (reply_of out ++ [])) false tells ≡ heard out tally
heard_here tally (Call promise to budget act) tells e = ap (λ x. adding tally 0 0 false x) e ∙ nothing_more tally
heard_here tally (Log callback args) tells e = ap (λ x. adding tally 0 0 false x) e ∙ nothing_more tally
heard_here tally (AskTable callback promise key) tells e = ap (λ x. adding tally 0 0 false x) e ∙ nothing_more tally
heard_here tally (Reply call outcome) tells e = same_tally _ _ _ _ _ _ _ _ (omega arith) refl (or_nothing tally.asked) (ap (λ x. tally.ended || x) e)

recv_here : (i : ℕ) (history : List Event) (out : Out) → tally_of i (history ++ Recv i out ∷ []) ≡ noted (Recv i out) (tally_of i history)
recv_here i history out =
    tally_more i history (Recv i out)
    ∙ ap (λ x. adding (tally_of i history) 0 (length (replies x)) false (tells_end i (Recv i out))) (same_if i (out ∷ []) [])
    ∙ heard_here (tally_of i history) out (tells_end i (Recv i out)) (same_if i _ false)

ask_here : (i : ℕ) (history : List Event) → tally_of i (history ++ Ask i ∷ []) ≡ noted (Ask i) (tally_of i history)
ask_here i history =
    tally_more i history (Ask i)
    ∙ ap (λ x. adding (tally_of i history) 0 0 x false) (grind arith)
    ∙ same_tally _ _ _ _ _ _ _ _ (omega arith) (omega arith) (or_true (is_asked i history)) (or_nothing (has_ended i history))

-- an event of this isolate
pub tally_here : (i : ℕ) (history : List Event) (event : Event) → isolate_in event ≡ Some i → tally_of i (history ++ event ∷ []) ≡ noted event (tally_of i history)
tally_here i history (Post k task) of = let e : k ≡ i = same_Some k i of in ap (λ n. tally_of i (history ++ Post n task ∷ [])) e ∙ post_here i history task
tally_here i history (Recv k out) of = let e : k ≡ i = same_Some k i of in ap (λ n. tally_of i (history ++ Recv n out ∷ [])) e ∙ recv_here i history out
tally_here i history (Ask k) of = let e : k ≡ i = same_Some k i of in ap (λ n. tally_of i (history ++ Ask n ∷ [])) e ∙ ask_here i history
tally_here i history (Release call) of = cc
tally_here i history (Settle call how) of = cc

-- ---- a tally counts no more than there are events

post_few : (i : ℕ) (event : Event) → length (post_of i event) ≤ 1
post_few i (Post j task) = elim (i == j) as (λ b. length (if b then task ∷ [] else []) ≤ 1) [ true ↦ omega arith | false ↦ omega arith ]
post_few i (Recv j out) = omega arith
post_few i (Ask j) = omega arith
post_few i (Release call) = omega arith
post_few i (Settle call how) = omega arith

pub posts_few : (i : ℕ) (history : List Event) → length (posts i history) ≤ length history
posts_few i [] = omega arith
posts_few i (event ∷ history) = omega (arith, posts_few i history, post_few i event, length-append (post_of i event) (posts i history))

reply_few : (out : Out) → length (reply_of out) ≤ 1
reply_few (Call promise to budget act) = omega arith
reply_few (Log callback args) = omega arith
reply_few (AskTable callback promise key) = omega arith
reply_few (Reply call outcome) = omega arith

receive_few : (i : ℕ) (event : Event) → length (receive_of i event) ≤ 1
receive_few i (Post j task) = omega arith
receive_few i (Recv j out) = elim (i == j) as (λ b. length (if b then out ∷ [] else []) ≤ 1) [ true ↦ omega arith | false ↦ omega arith ]
receive_few i (Ask j) = omega arith
receive_few i (Release call) = omega arith
receive_few i (Settle call how) = omega arith

receives_few : (i : ℕ) (history : List Event) → length (receives i history) ≤ length history
receives_few i [] = omega arith
receives_few i (event ∷ history) = omega (arith, receives_few i history, receive_few i event, length-append (receive_of i event) (receives i history))

replies_in_few : (outs : List Out) → length (replies outs) ≤ length outs
replies_in_few [] = omega arith
replies_in_few (out ∷ outs) = omega (arith, replies_in_few outs, reply_few out, length-append (reply_of out) (replies outs))

pub replies_few : (i : ℕ) (history : List Event) → replies_of i history ≤ length history
replies_few i history = omega (arith, replies_in_few (receives i history), receives_few i history)
