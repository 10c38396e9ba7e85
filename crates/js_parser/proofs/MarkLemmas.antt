-- Which numbers are marked, when nodes pass their marks on to their kids.
use Rattle.std.proofs.Common.{◌≡◌, ◌≢◌, ℕ, zero, suc, ◌+◌, ◌-◌, ◌<◌, ◌≤◌, ◌⊎◌, inl, inr, Bool, true, false, List, [], ◌∷◌, length, set, replicate, Some, slice_get, refl, sym, ◌∙◌, ap, subst, arith}
use Rattle.std.proofs.lemmas.Bool.{cases_eq, cases_lt}
use Rattle.std.proofs.lemmas.List.{length-set, get_or-set_same, get_or-set_other, get_or-replicate, length-replicate, get_or_past}
use Rattle.std.proofs.lemmas.Option.{get_or_from_slice_get}
use Rattle.js_syntax.specs.declared.node.Node.{Node}
use Rattle.js_syntax.specs.Shape.{AreBelow}
use Rattle.js_trees.specs.Tree.{node_at, vacant}
use Rattle.js_parser.specs.Marks.{is_marked, with_marks, passed_on, marks_below, root_mark, AreDescending}

-- the number is one of these
abbrev pub Names : List ℕ → ℕ → Type 0
Names numbers m = (k : ℕ) × (slice_get numbers k ≡ Some m)

abbrev Marked : List Bool → ℕ → Type 0
Marked marks m = is_marked marks m ≡ true

-- ---- one mark

set_same : (marks : List Bool) (n m : ℕ) → n ≡ m → m < length marks → Marked (set marks n true) m
set_same marks n m same within =
    subst (λ (k : ℕ). Marked (set marks k true) m) (sym same) (get_or-set_same marks m true false within)

pub set_keep : (marks : List Bool) (n m : ℕ) → m < length marks → Marked marks m → Marked (set marks n true) m
set_keep marks n m within was = by (cases_eq n m)
  where
    by : (n ≡ m) ⊎ (n ≡ m → ⊥) → Marked (set marks n true) m
    by (inl same) = set_same marks n m same within
    by (inr other) = let apart : m ≢ n = λ e. other (sym e) in get_or-set_other marks n m true false apart ∙ was

pub set_only : (marks : List Bool) (n m : ℕ) → Marked (set marks n true) m → (n ≡ m) ⊎ Marked marks m
set_only marks n m is = by (cases_eq n m)
  where
    by : (n ≡ m) ⊎ (n ≡ m → ⊥) → (n ≡ m) ⊎ Marked marks m
    by (inl same) = inl same
    by (inr other) = let apart : m ≢ n = λ e. other (sym e) in inr (sym (get_or-set_other marks n m true false apart) ∙ is)

-- ---- several marks

-- what is marked has a place
marked_within : (marks : List Bool) (m : ℕ) → Marked marks m → m < length marks
marked_within marks m is = by (cases_lt m (length marks))
  where
    by : (m < length marks) ⊎ (length marks ≤ m) → m < length marks
    by (inl within) = within
    by (inr past) = absurd (let no : is_marked marks m ≡ false = get_or_past marks m false past in let none : ⊥ = cc in none)

pub length-with_marks : (numbers : List ℕ) (marks : List Bool) → length (with_marks numbers marks) ≡ length marks
length-with_marks [] marks = refl
length-with_marks (n ∷ numbers) marks = length-with_marks numbers (set marks n true) ∙ length-set marks n true

pub with_keep : (numbers : List ℕ) (marks : List Bool) (m : ℕ) → Marked marks m → Marked (with_marks numbers marks) m
with_keep [] marks m was = was
with_keep (n ∷ numbers) marks m was =
    with_keep numbers (set marks n true) m (set_keep marks n m (marked_within marks m was) was)

pub with_each : (numbers : List ℕ) (marks : List Bool) (k m : ℕ) → slice_get numbers k ≡ Some m → m < length marks
    → Marked (with_marks numbers marks) m
with_each [] marks zero m here within = absurd (let none : ⊥ = cc in none)
with_each [] marks (suc k) m here within = absurd (let none : ⊥ = cc in none)
with_each (n ∷ numbers) marks zero m here within =
    let same : n ≡ m = cc in with_keep numbers (set marks n true) m (set_same marks n m same within)
with_each (n ∷ numbers) marks (suc k) m here within =
    with_each numbers (set marks n true) k m here (omega (arith, length-set marks n true))

pub with_only : (numbers : List ℕ) (marks : List Bool) (m : ℕ) → Marked (with_marks numbers marks) m
    → Names numbers m ⊎ Marked marks m
with_only [] marks m is = inr is
with_only (n ∷ numbers) marks m is = by (with_only numbers (set marks n true) m is)
  where
    first : (n ≡ m) ⊎ Marked marks m → Names (n ∷ numbers) m ⊎ Marked marks m
    first (inl same) = inl (zero, ap Some same)
    first (inr was) = inr was

    by : Names numbers m ⊎ Marked (set marks n true) m → Names (n ∷ numbers) m ⊎ Marked marks m
    by (inl (k, here)) = inl (suc k, here)
    by (inr was) = first (set_only marks n m was)

-- ---- a node passes its mark on

pub length-passed_on : (b : Bool) (node : Node) (marks : List Bool) → length (passed_on b node marks) ≡ length marks
length-passed_on true node marks = length-with_marks (node.kids) marks
length-passed_on false node marks = refl

passed_keep : (b : Bool) (node : Node) (marks : List Bool) (m : ℕ) → Marked marks m → Marked (passed_on b node marks) m
passed_keep true node marks m was = with_keep (node.kids) marks m was
passed_keep false node marks m was = was

passed_only : (b : Bool) (node : Node) (marks : List Bool) (m : ℕ) → Marked (passed_on b node marks) m
    → ((b ≡ true) × Names (node.kids) m) ⊎ Marked marks m
passed_only true node marks m is = by (with_only (node.kids) marks m is)
  where
    by : Names (node.kids) m ⊎ Marked marks m → ((true ≡ true) × Names (node.kids) m) ⊎ Marked marks m
    by (inl one) = inl (refl, one)
    by (inr was) = inr was
passed_only false node marks m is = inr is

passed_each : (b : Bool) (node : Node) (marks : List Bool) (k m : ℕ) → b ≡ true → slice_get (node.kids) k ≡ Some m
    → m < length marks → Marked (passed_on b node marks) m
passed_each true node marks k m is here within = with_each (node.kids) marks k m here within
passed_each false node marks k m is here within = absurd (let none : ⊥ = cc in none)

-- ---- all nodes below n pass theirs on

pub length-marks_below : (nodes : List Node) (n : ℕ) (marks : List Bool) → length (marks_below nodes n marks) ≡ length marks
unfolding marks_below
length-marks_below nodes zero marks = refl
length-marks_below nodes (suc n) marks =
    length-marks_below nodes n (passed_on (is_marked marks n) (node_at nodes n) marks)
    ∙ length-passed_on (is_marked marks n) (node_at nodes n) marks

pub below_keep : (nodes : List Node) (n : ℕ) (marks : List Bool) (m : ℕ) → Marked marks m → Marked (marks_below nodes n marks) m
unfolding marks_below
below_keep nodes zero marks m was = was
below_keep nodes (suc n) marks m was =
    below_keep nodes n (passed_on (is_marked marks n) (node_at nodes n) marks) m
    (passed_keep (is_marked marks n) (node_at nodes n) marks m was)

-- a node without a place has no kids
pub no_node : (nodes : List Node) (n : ℕ) → length nodes ≤ n → AreBelow ((node_at nodes n).kids) n
no_node nodes n past =
    let none : node_at nodes n ≡ vacant = get_or_past nodes n vacant past in
    subst (λ (node : Node). AreBelow (node.kids) n) (sym none) nothing_below
  where
    nothing_below : AreBelow [] n
    nothing_below zero m here = absurd (let none : ⊥ = cc in none)
    nothing_below (suc k) m here = absurd (let none : ⊥ = cc in none)

pub descends : (nodes : List Node) (n : ℕ) → AreDescending nodes → AreBelow ((node_at nodes n).kids) n
descends nodes n descending = by (cases_lt n (length nodes))
  where
    by : (n < length nodes) ⊎ (length nodes ≤ n) → AreBelow ((node_at nodes n).kids) n
    by (inl within) = descending n within
    by (inr past) = no_node nodes n past

-- from n on nothing has changed: a kid stands below its parent
below_above : (nodes : List Node) (n : ℕ) (marks : List Bool) (m : ℕ) → AreDescending nodes → n ≤ m
    → Marked (marks_below nodes n marks) m → Marked marks m
unfolding marks_below
below_above nodes zero marks m descending above is = is
below_above nodes (suc n) marks m descending above is =
    by (passed_only (is_marked marks n) (node_at nodes n) marks m
    (below_above nodes n (passed_on (is_marked marks n) (node_at nodes n) marks) m descending (omega arith) is))
  where
    by : ((is_marked marks n ≡ true) × Names ((node_at nodes n).kids) m) ⊎ Marked marks m → Marked marks m
    by (inl (was, (k, here))) =
        absurd (let under : m < n = descends nodes n descending k m here in let none : ⊥ = omega arith in none)
    by (inr was) = was

-- the kids of a marked node below n are marked
pub below_closed : (nodes : List Node) (n : ℕ) (marks : List Bool) (m k i : ℕ) → AreDescending nodes → m < n → n ≤ length marks
    → Marked (marks_below nodes n marks) m → slice_get ((node_at nodes m).kids) k ≡ Some i
    → Marked (marks_below nodes n marks) i
unfolding marks_below
below_closed nodes zero marks m k i descending under room is here = absurd (omega arith)
below_closed nodes (suc n) marks m k i descending under room is here =
    by (λ lower. below_closed nodes n (passed_on (is_marked marks n) (node_at nodes n) marks) m k i descending lower
    (omega (arith, length-passed_on (is_marked marks n) (node_at nodes n) marks)) is here) (cases_eq m n)
  where
    was_marked : ((is_marked marks n ≡ true) × Names ((node_at nodes n).kids) n) ⊎ Marked marks n → is_marked marks n ≡ true
    was_marked (inl (was, one)) = was
    was_marked (inr was) = was

    at_n : m ≡ n → Marked (marks_below nodes n (passed_on (is_marked marks n) (node_at nodes n) marks)) i
    at_n same =
        let was : is_marked marks n ≡ true = was_marked (passed_only (is_marked marks n) (node_at nodes n) marks n
        (below_above nodes n (passed_on (is_marked marks n) (node_at nodes n) marks) n descending (omega arith)
        (subst (λ (v : ℕ). Marked (marks_below nodes n (passed_on (is_marked marks n) (node_at nodes n) marks)) v) same is))) in
        let kid : slice_get ((node_at nodes n).kids) k ≡ Some i = subst (λ (v : ℕ). slice_get ((node_at nodes v).kids) k ≡ Some i) same here in
        let low : i < n = descends nodes n descending k i kid in
        below_keep nodes n (passed_on (is_marked marks n) (node_at nodes n) marks) i
        (passed_each (is_marked marks n) (node_at nodes n) marks k i was kid (omega arith))

    by : (m < n → Marked (marks_below nodes n (passed_on (is_marked marks n) (node_at nodes n) marks)) i)
        → (m ≡ n) ⊎ (m ≡ n → ⊥) → Marked (marks_below nodes n (passed_on (is_marked marks n) (node_at nodes n) marks)) i
    by below (inl same) = at_n same
    by below (inr other) = below (omega arith)

-- what holds of each marked number, and of the kids of a node of which it holds, holds of each number that is marked then
pub below_only : (nodes : List Node) (n : ℕ) (marks : List Bool) (P : ℕ → Type 0)
    → ((m : ℕ) → Marked marks m → P m)
    → ((m k i : ℕ) → P m → slice_get ((node_at nodes m).kids) k ≡ Some i → P i)
    → (m : ℕ) → Marked (marks_below nodes n marks) m → P m
unfolding marks_below
below_only nodes zero marks P each closed m is = each m is
below_only nodes (suc n) marks P each closed m is =
    below_only nodes n (passed_on (is_marked marks n) (node_at nodes n) marks) P
    (λ i marked. by i (passed_only (is_marked marks n) (node_at nodes n) marks i marked)) closed m is
  where
    by : (i : ℕ) → ((is_marked marks n ≡ true) × Names ((node_at nodes n).kids) i) ⊎ Marked marks i → P i
    by i (inl (was, (k, here))) = closed n k i (each n was) here
    by i (inr was) = each i was

-- ---- the root

-- at first the root is marked, and nothing else
pub root_marked : (count root : ℕ) → root + 1 ≡ count → Marked (root_mark count) root
root_marked count root last =
    let place : count - 1 ≡ root = omega arith in
    set_same (replicate count false) (count - 1) root place (omega (arith, length-replicate count false))

none_marked : (count m : ℕ) → Marked (replicate count false) m → ⊥
none_marked count m is =
    let within : m < count = omega (arith, length-replicate count false, marked_within (replicate count false) m is) in
    let no : is_marked (replicate count false) m ≡ false = get_or-replicate count m false false within in
    let none : ⊥ = cc in none

pub root_only : (count root m : ℕ) → root + 1 ≡ count → Marked (root_mark count) m → m ≡ root
root_only count root m last is = by (set_only (replicate count false) (count - 1) m is)
  where
    by : (count - 1 ≡ m) ⊎ Marked (replicate count false) m → m ≡ root
    by (inl same) = omega arith
    by (inr was) = absurd (none_marked count m was)

pub length-root_mark : (count : ℕ) → length (root_mark count) ≡ count
length-root_mark count = length-set (replicate count false) (count - 1) true ∙ length-replicate count false

-- ---- one node more, from the last down

-- when a node has passed its mark on, those below it are left
pub marks_more : (nodes : List Node) (left n : ℕ) (marks next all : List Bool) (node : Node) → n + 1 ≡ left
    → slice_get nodes n ≡ Some node → next ≡ passed_on (is_marked marks n) node marks
    → marks_below nodes left marks ≡ all → marks_below nodes n next ≡ all
unfolding marks_below
marks_more nodes left n marks next all node one here is so_far =
    let found : node_at nodes n ≡ node = get_or_from_slice_get nodes n node vacant here in
    let same : left ≡ suc n = omega arith in
    ap (λ (marks : List Bool). marks_below nodes n marks) (is ∙ sym (ap (λ (v : Node). passed_on (is_marked marks n) v marks) found))
    ∙ subst (λ (k : ℕ). marks_below nodes k marks ≡ all) same so_far

-- when none is left, all have
pub marks_done : (nodes : List Node) (left : ℕ) (marks all : List Bool) → left ≤ 0 → marks_below nodes left marks ≡ all → marks ≡ all
unfolding marks_below
marks_done nodes zero marks all none so_far = so_far
marks_done nodes (suc left) marks all none so_far = absurd (omega arith)

-- one more node whose kids stand below it
pub below_one_more : (nodes : List Node) (left n : ℕ) (node : Node) → n + 1 ≡ left → slice_get nodes n ≡ Some node
    → AreBelow (node.kids) n → ((m : ℕ) → left ≤ m → m < length nodes → AreBelow ((node_at nodes m).kids) m)
    → (m : ℕ) → n ≤ m → m < length nodes → AreBelow ((node_at nodes m).kids) m
below_one_more nodes left n node one here below after m above within = by (cases_eq m n)
  where
    by : (m ≡ n) ⊎ (m ≡ n → ⊥) → AreBelow ((node_at nodes m).kids) m
    by (inl same) =
        let found : node_at nodes n ≡ node = get_or_from_slice_get nodes n node vacant here in
        subst (λ (k : ℕ). AreBelow ((node_at nodes k).kids) k) (sym same) (subst (λ (v : Node). AreBelow (v.kids) n) (sym found) below)
    by (inr other) = after m (omega arith) within
