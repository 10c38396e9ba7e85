-- The parts of a form by their places: part i, and the parts from it on.
use Rattle.std.proofs.Common.{◌≡◌, ℕ, zero, suc, ◌+◌, ◌<◌, ◌≤◌, List, [], ◌∷◌, length, Some, slice_get, refl, ap, add-one, arith}
use Rattle.js_syntax.specs.Tree.{Head, Trees, nothing, tree}
use Rattle.js_trees.specs.Tree.{Tree, kid, kid_count, kids_from, trees_by}

-- ---- the trees of numbers

-- there are as many as numbers
pub kid_count-trees_by : (at : ℕ → Tree) (numbers : List ℕ) → kid_count (trees_by at numbers) ≡ length numbers
kid_count-trees_by at [] = refl
kid_count-trees_by at (n ∷ numbers) = ap suc (kid_count-trees_by at numbers)

-- part i is the tree of number i
pub kid-trees_by : (at : ℕ → Tree) (numbers : List ℕ) (i k : ℕ) → slice_get numbers i ≡ Some k → kid i (trees_by at numbers) ≡ at k
kid-trees_by at [] zero k here = absurd (let none : ⊥ = cc in none)
kid-trees_by at [] (suc i) k here = absurd (let none : ⊥ = cc in none)
kid-trees_by at (n ∷ numbers) zero k here = let same : n ≡ k = cc in ap at same
kid-trees_by at (n ∷ numbers) (suc i) k here = kid-trees_by at numbers i k here

-- ---- the parts from one on

nothing_begins : (i : ℕ) (head : Head) (inner rest : Trees) → kids_from i nothing ≡ tree head inner rest → ⊥
nothing_begins zero head inner rest is = cc
nothing_begins (suc i) head inner rest is = cc

-- where there is a part i, the parts from it on are that part and those from the next one on
pub kids_from-at : (i : ℕ) (kids : Trees) → i < kid_count kids
    → kids_from i kids ≡ tree ((kid i kids).head) ((kid i kids).kids) (kids_from (suc i) kids)
kids_from-at i nothing within = absurd (omega arith)
kids_from-at zero (tree head kids rest) within = refl
kids_from-at (suc i) (tree head kids rest) within = kids_from-at i rest (omega arith)

-- the same where the tree of part i is at hand
pub kids_from_kid : (i : ℕ) (kids : Trees) (t : Tree) → i < kid_count kids → t ≡ kid i kids
    → kids_from i kids ≡ tree (t.head) (t.kids) (kids_from (i + 1) kids)
kids_from_kid i kids t within is = rw (is, add-one i) (kids_from-at i kids within)

-- from the number of the parts on there are none
pub kids_from-past : (i : ℕ) (kids : Trees) → kid_count kids ≤ i → kids_from i kids ≡ nothing
kids_from-past zero nothing past = refl
kids_from-past (suc i) nothing past = refl
kids_from-past zero (tree head kids rest) past = absurd (omega arith)
kids_from-past (suc i) (tree head kids rest) past = kids_from-past i rest (omega arith)

-- as many as there are parts and no more
pub kids_from-kid_count : (kids : Trees) → kids_from (kid_count kids) kids ≡ nothing
kids_from-kid_count kids = kids_from-past (kid_count kids) kids (omega arith)

both : (head other : Head) (kids more : Trees) → head ≡ other → kids ≡ more
    → let t : Tree = record { head = head; kids = kids } in t ≡ record { head = other; kids = more }
both head other kids more e f = rw (e, f)

-- the parts from i on begin with a part exactly where there is a part i, and it is that one
pub kids_from_within : (i : ℕ) (kids : Trees) (head : Head) (inner rest : Trees)
    → kids_from i kids ≡ tree head inner rest → i < kid_count kids
kids_from_within i nothing head inner rest is = absurd (nothing_begins i head inner rest is)
kids_from_within zero (tree first under later) head inner rest is = omega arith
kids_from_within (suc i) (tree first under later) head inner rest is =
    let within : i < kid_count later = kids_from_within i later head inner rest is in omega arith

pub kid_from : (i : ℕ) (kids : Trees) (head : Head) (inner rest : Trees)
    → kids_from i kids ≡ tree head inner rest → kid i kids ≡ record { head = head; kids = inner }
kid_from i nothing head inner rest is = absurd (nothing_begins i head inner rest is)
kid_from zero (tree first under later) head inner rest is =
    let same : first ≡ head = cc in
    let parts : under ≡ inner = cc in
    both first head under inner same parts
kid_from (suc i) (tree first under later) head inner rest is = kid_from i later head inner rest is

kids_from_later : (i : ℕ) (kids : Trees) (head : Head) (inner rest : Trees)
    → kids_from i kids ≡ tree head inner rest → kids_from (suc i) kids ≡ rest
kids_from_later i nothing head inner rest is = absurd (nothing_begins i head inner rest is)
kids_from_later zero (tree first under later) head inner rest is = cc
kids_from_later (suc i) (tree first under later) head inner rest is = kids_from_later i later head inner rest is

pub kids_from_next : (i : ℕ) (kids : Trees) (head : Head) (inner rest : Trees)
    → kids_from i kids ≡ tree head inner rest → kids_from (i + 1) kids ≡ rest
kids_from_next i kids head inner rest is = rw (add-one i) (kids_from_later i kids head inner rest is)

pub kids_from_none : (i : ℕ) (kids : Trees) → kids_from i kids ≡ nothing → kid_count kids ≤ i
kids_from_none i nothing is = omega arith
kids_from_none zero (tree head inner rest) is = absurd (let none : ⊥ = cc in none)
kids_from_none (suc i) (tree head inner rest) is =
    let past : kid_count rest ≤ i = kids_from_none i rest is in omega arith

-- all of them
pub kids_from-zero : (kids : Trees) → kids_from zero kids ≡ kids
kids_from-zero kids = refl

-- for lists of statements that are carried out one by one
pub ruleset parts_from = (kids_from-at, kids_from-past, kids_from-kid_count)
