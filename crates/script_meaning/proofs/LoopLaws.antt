-- A loop goes on round by round, however many rounds there may still be.
use Rattle.std.proofs.Common.{◌≡◌, ◌∙◌, ◌⊎◌, inl, inr, ℕ, zero, suc, ◌<◌, ◌≤◌, Option, Some, None, Ok, Err, refl, ap, arith, if◌then◌else◌}
use Rattle.charged_heap.specs.Store.{Store}
use Rattle.charged_heap.specs.declared.values.Value.{Value}
use Rattle.js_ops.specs.Values.{truthy}
use Rattle.js_trees.specs.Tree.{Tree}
use Rattle.charged_heap.specs.Ends.{Ends}
use Rattle.script_meaning.specs.Loops.{Loop, after_body, loop_end, loop_rule, round, round_site, rounds, tested, to_next, turn, updated}
use Rattle.script_meaning.specs.Outcome.{State, Out, Inside, on_heap, with_value}
use Rattle.script_meaning.specs.Ticks.{TakesTicks}
use Rattle.script_meaning.specs.declared.completion.Abrupt.TheVariants as abrupt
use Rattle.script_meaning.specs.declared.completion.Ended.TheVariants as ended
use Rattle.script_meaning.specs.declared.completion.StopCause.TheVariants.{Timeout}
use Rattle.script_meaning.specs.declared.site.Role.{Role}
use Rattle.script_meaning.specs.declared.site.Role.TheVariants as role
use Rattle.script_meaning.specs.declared.site.Site.{Site}

-- ---- two ways to go on that agree where they are taken

value-same : (o : Out) (f g : Value → State → Out) → ((v : Value) → f v o.1 ≡ g v o.1) → with_value o f ≡ with_value o g
value-same (Ok (ended.Value v), s) f g same = same v
value-same (Ok ended.Empty, s) f g same = refl
value-same (Ok (ended.Place p), s) f g same = refl
value-same (Ok (ended.Member function receiver), s) f g same = refl
value-same (Err e, s) f g same = refl

heap-same : {A : Type 0} → (s : State) (made : Ends A) (f g : A → State → Out)
    → ((a : A) (heap : Store) → f a (record s { heap = heap }) ≡ g a (record s { heap = heap })) → on_heap s made f ≡ on_heap s made g
heap-same s (Ok a, heap) f g same = same a heap
heap-same s (Err failed, heap) f g same = refl

body-same : (last : Option Value) (o : Out) (f g : Option Value → State → Out)
    → ((last : Option Value) → f last o.1 ≡ g last o.1) → after_body last o f ≡ after_body last o g
body-same last (Ok end, s) f g same = same _
body-same last (Err (abrupt.Continue v), s) f g same = same _
body-same last (Err (abrupt.Break v), s) f g same = refl
body-same last (Err (abrupt.Throw v), s) f g same = refl
body-same last (Err (abrupt.Return v), s) f g same = refl
body-same last (Err (abrupt.Stop cause), s) f g same = refl
body-same last (Err abrupt.NoMemory, s) f g same = refl

-- ---- ticks

-- a node leaves at most the ticks that it found
spent_by : (for : Role) (t : Tree) (site : Site) (s : State) (o : Out) → (o.1.left < s.left) ⊎ (o ≡ (Err (abrupt.Stop Timeout), s)) → o.1.left ≤ s.left
spent_by for t site s o (inl less) = omega (arith, less)
spent_by for t site s o (inr e) = rw e (omega arith)

pub spent : (at : Inside) (for : Role) (t : Tree) (site : Site) (s : State) → TakesTicks at → (at for t site s).1.left ≤ s.left
spent at for t site s takes = spent_by for t site s (at for t site s) (takes.takes for t site s)

-- ---- one round

-- so two ways to go on that agree where fewer ticks are left make one round
updated-same : (at : Inside) (update : Option Tree) (site : Site) (s : State) (f g : State → Out) (n : ℕ) → TakesTicks at → s.left < n
    → ((s : State) → s.left < n → f s ≡ g s) → updated at update site s f ≡ updated at update site s g
updated-same at None site s f g n takes few same = same s few
updated-same at (Some update) site s f g n takes few same =
    let most : (at role.Value update site s).1.left ≤ s.left = spent at role.Value update site s takes in
    value-same (at role.Value update site s) (λ _ s. f s) (λ _ s. g s)
    (λ v. same (at role.Value update site s).1 (omega (arith, most, few)))

next-same : (at : Inside) (loop : Loop) (site : Site) (s : State) (f g : Site → State → Out) (n : ℕ) → TakesTicks at → s.left < n
    → ((site : Site) (s : State) → s.left < n → f site s ≡ g site s) → to_next at loop site s f ≡ to_next at loop site s g
next-same at loop site s f g n takes few same =
    heap-same s (round_site loop.fresh site s.heap) (λ site s. updated at loop.update site s (λ s. f site s))
    (λ site s. updated at loop.update site s (λ s. g site s))
    (λ site heap. updated-same at loop.update site (record s { heap = heap }) (λ s. f site s) (λ s. g site s) n takes few (λ s less. same site s less))

turn-by : (at : Inside) (loop : Loop) (last : Option Value) (site : Site) (s : State) (f g : Option Value → Site → State → Out) (o : Out) (n : ℕ)
    → TakesTicks at → s.left ≤ n → (o.1.left < s.left) ⊎ (o ≡ (Err (abrupt.Stop Timeout), s))
    → ((last : Option Value) (site : Site) (s : State) → s.left < n → f last site s ≡ g last site s)
    → after_body last o (λ last s. to_next at loop site s (λ site s. f last site s)) ≡ after_body last o (λ last s. to_next at loop site s (λ site s. g last site s))
turn-by at loop last site s f g o n takes most (inl less) same =
    body-same last o (λ last s. to_next at loop site s (λ site s. f last site s)) (λ last s. to_next at loop site s (λ site s. g last site s))
    (λ last. next-same at loop site o.1 (λ site s. f last site s) (λ site s. g last site s) n takes (omega (arith, less, most))
    (λ site s few. same last site s few))
turn-by at loop last site s f g o n takes most (inr e) same = rw e refl

turn-same : (at : Inside) (loop : Loop) (last : Option Value) (site : Site) (s : State) (f g : Option Value → Site → State → Out) (n : ℕ)
    → TakesTicks at → s.left ≤ n
    → ((last : Option Value) (site : Site) (s : State) → s.left < n → f last site s ≡ g last site s)
    → turn at loop last site s f ≡ turn at loop last site s g
turn-same at loop last site s f g n takes most same =
    turn-by at loop last site s f g (at role.Statement loop.body site s) n takes most (takes.takes role.Statement loop.body site s) same

tested-same : (at : Inside) (test : Option Tree) (site : Site) (s : State) (f g bad : State → Out) (n : ℕ) → TakesTicks at → s.left ≤ n
    → ((s : State) → s.left ≤ n → f s ≡ g s) → tested at test site s f bad ≡ tested at test site s g bad
tested-same at None site s f g bad n takes most same = same s most
tested-same at (Some test) site s f g bad n takes most same =
    let fewer : (at role.Value test site s).1.left ≤ s.left = spent at role.Value test site s takes in
    value-same (at role.Value test site s) (λ v s. if truthy s.heap v then f s else bad s) (λ v s. if truthy s.heap v then g s else bad s)
    (λ v. ap (λ (end : Out). if truthy (at role.Value test site s).1.heap v then end else bad (at role.Value test site s).1)
    (same (at role.Value test site s).1 (omega (arith, fewer, most))))

round-same : (at : Inside) (loop : Loop) (last : Option Value) (site : Site) (s : State) (f g : Option Value → Site → State → Out)
    → TakesTicks at → ((last : Option Value) (site : Site) (after : State) → after.left < s.left → f last site after ≡ g last site after)
    → round at loop last site s f ≡ round at loop last site s g
round-same at loop last site s f g takes same =
    tested-same at loop.test site s (λ s. turn at loop last site s f) (λ s. turn at loop last site s g) (λ s. loop_end last s) s.left takes (omega arith)
    (λ now most. turn-same at loop last site now f g s.left takes most same)

-- ---- all rounds

rounds-same : (n m : ℕ) (at : Inside) (loop : Loop) (last : Option Value) (site : Site) (s : State) → TakesTicks at → s.left ≤ n → s.left ≤ m
    → rounds (suc n) at loop last site s ≡ rounds (suc m) at loop last site s
unfolding rounds
rounds-same zero m at loop last site s takes a b =
    round-same at loop last site s (λ last site s. rounds zero at loop last site s) (λ last site s. rounds m at loop last site s) takes
    (λ last site s less. absurd (omega (arith, less, a)))
rounds-same (suc n) zero at loop last site s takes a b =
    round-same at loop last site s (λ last site s. rounds (suc n) at loop last site s) (λ last site s. rounds zero at loop last site s) takes
    (λ last site s less. absurd (omega (arith, less, b)))
rounds-same (suc n) (suc m) at loop last site s takes a b =
    round-same at loop last site s (λ last site s. rounds (suc n) at loop last site s) (λ last site s. rounds (suc m) at loop last site s) takes
    (λ last site s less. rounds-same n m at loop last site s takes (omega (arith, less, a)) (omega (arith, less, b)))

enough : (n : ℕ) (at : Inside) (loop : Loop) (last : Option Value) (site : Site) (s : State) → TakesTicks at → s.left < n
    → rounds n at loop last site s ≡ loop_rule at loop last site s
unfolding loop_rule
enough zero at loop last site s takes few = absurd (omega (arith, few))
enough (suc n) at loop last site s takes few = rounds-same n s.left at loop last site s takes (omega (arith, few)) (omega arith)

-- a loop is a round, and behind it the loop
one_round : (at : Inside) (loop : Loop) (last : Option Value) (site : Site) (s : State)
    → loop_rule at loop last site s ≡ round at loop last site s (λ last site after. rounds s.left at loop last site after)
unfolding loop_rule rounds
one_round at loop last site s = refl

pub loop_goes_on : (at : Inside) (loop : Loop) (last : Option Value) (site : Site) (s : State) → TakesTicks at
    → loop_rule at loop last site s ≡ round at loop last site s (λ last site s. loop_rule at loop last site s)
loop_goes_on at loop last site s takes =
    one_round at loop last site s
    ∙ round-same at loop last site s (λ last site after. rounds s.left at loop last site after) (λ last site after. loop_rule at loop last site after) takes
    (λ last site after less. enough s.left at loop last site after takes less)
