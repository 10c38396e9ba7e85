-- The least place of an unbuilt form among a tree's nodes is that of the first in the tree.
use Rattle.std.proofs.Common.{◌≡◌, ℕ, zero, suc, min, ◌+◌, ◌<◌, ◌≤◌, ◌⊎◌, inl, inr, Bool, true, false, List, [], ◌∷◌, ◌++◌, length, Option, None, Some, slice_get, if◌then◌else◌, refl, sym, ◌∙◌, ap, subst, arith}
use Rattle.std.proofs.lemmas.Bool.{cases_eq, cases_lt}
use Rattle.std.proofs.lemmas.Option.{get_or_from_slice_get}
use Rattle.std.specs.Option.{unwrap_or}
use Rattle.js_syntax.specs.declared.node.Node.{Node}
use Rattle.js_syntax.specs.Tree.{Trees, tree, AreTrees, no_trees, some_trees, head_of, IsTreeOf}
use Rattle.js_trees.specs.Tree.{node_at, vacant}
use Rattle.js_scripts.specs.Lowest.{lower_of, unbuilt_place, lowest_below}
use Rattle.js_parser.specs.Nodes.{node_in, first_nodes, nodes_of}
use Rattle.js_scripts.specs.Unbuilt.{is_unbuilt, unbuilt_places, least_of, least, first_unbuilt}
use Rattle.js_parser.proofs.ReachedLemmas.{Among, itself, inside, behind, found_among, among_within}
use Rattle.js_parser.proofs.NodeLemmas.{get-first_nodes, nodes_up_to}

-- ---- the least of some numbers

-- x is one of these numbers
pub data Holds (x : ℕ) : List ℕ → Type 0 where
  first : {y : ℕ} {ys : List ℕ} → x ≡ y → Holds x (y ∷ ys)
  later : {y : ℕ} {ys : List ℕ} → Holds x ys → Holds x (y ∷ ys)

holds_left : {x : ℕ} (xs ys : List ℕ) → Holds x xs → Holds x (xs ++ ys)
holds_left [] ys one = elim one [ ]
holds_left (z ∷ xs) ys (first same) = first same
holds_left (z ∷ xs) ys (later one) = later (holds_left xs ys one)

holds_right : {x : ℕ} (xs ys : List ℕ) → Holds x ys → Holds x (xs ++ ys)
holds_right [] ys one = one
holds_right (z ∷ xs) ys one = later (holds_right xs ys one)

holds_either : {x : ℕ} (xs ys : List ℕ) → Holds x (xs ++ ys) → Holds x xs ⊎ Holds x ys
holds_either [] ys one = inr one
holds_either (z ∷ xs) ys (first same) = inl (first same)
holds_either {x} (z ∷ xs) ys (later one) = by (holds_either xs ys one)
  where
    by : Holds x xs ⊎ Holds x ys → Holds x (z ∷ xs) ⊎ Holds x ys
    by (inl one) = inl (later one)
    by (inr one) = inr one

-- the least of numbers is one of them, and none is below it
least_one : (xs : List ℕ) (m : ℕ) → least xs ≡ Some m → Holds m xs
least_one [] m is = absurd (let none : ⊥ = cc in none)
least_one (x ∷ xs) m is = by (least xs) (λ n e. least_one xs n e) is
  where
    below : (n : ℕ) → Holds n xs → min n x ≡ m → Holds m (x ∷ xs)
    below n one e = pick (cases_eq m x)
      where
        pick : (m ≡ x) ⊎ (m ≡ x → ⊥) → Holds m (x ∷ xs)
        pick (inl same) = first same
        pick (inr other) = let it : n ≡ m = omega arith in later (subst (λ (k : ℕ). Holds k xs) it one)

    by : (o : Option ℕ) → ((n : ℕ) → o ≡ Some n → Holds n xs) → Some (least_of o x) ≡ Some m → Holds m (x ∷ xs)
    by None one e = let same : x ≡ m = cc in first (sym same)
    by (Some n) one e = let same : min n x ≡ m = cc in below n (one n refl) same

least_low : (xs : List ℕ) (m x : ℕ) → least xs ≡ Some m → Holds x xs → m ≤ x
least_low [] m x is one = elim one [ ]
least_low (y ∷ xs) m x is one = by (least xs) (λ n e held. least_low xs n x e held) (λ e held. least_some xs x e held) is one
  where
    least_some : (xs : List ℕ) (x : ℕ) → least xs ≡ None → Holds x xs → ⊥
    least_some [] x is one = elim one [ ]
    least_some (y ∷ xs) x is one = let none : ⊥ = cc in none

    by : (o : Option ℕ) → ((n : ℕ) → o ≡ Some n → Holds x xs → n ≤ x) → (o ≡ None → Holds x xs → ⊥)
        → Some (least_of o y) ≡ Some m → Holds x (y ∷ xs) → m ≤ x
    by None low none e (first same) = let it : y ≡ m = cc in omega arith
    by None low none e (later held) = absurd (none refl held)
    by (Some n) low none e (first same) = let it : min n y ≡ m = cc in omega arith
    by (Some n) low none e (later held) = let it : min n y ≡ m = cc in let above : n ≤ x = low n refl held in omega arith

least_none : (xs : List ℕ) → ((x : ℕ) → Holds x xs → ⊥) → least xs ≡ None
least_none [] none = refl
least_none (x ∷ xs) none = absurd (none x (first refl))

least_is : (xs : List ℕ) (m : ℕ) → Holds m xs → ((x : ℕ) → Holds x xs → m ≤ x) → least xs ≡ Some m
least_is xs m one low = by (least xs) refl
  where
    by : (o : Option ℕ) → least xs ≡ o → o ≡ Some m
    by None e = absurd (no xs e one)
      where
        no : (ys : List ℕ) → least ys ≡ None → Holds m ys → ⊥
        no [] e one = elim one [ ]
        no (y ∷ ys) e one = let none : ⊥ = cc in none
    by (Some n) e =
        let up : m ≤ n = low n (least_one xs n e) in
        let down : n ≤ m = least_low xs n m e one in
        let same : n ≡ m = omega arith in ap Some same

-- ---- the places of unbuilt forms

-- the node with the number n is a form that isn't built
abbrev IsUnbuilt : List Node → ℕ → Type 0
IsUnbuilt nodes n = is_unbuilt ((node_at nodes n).kind) ≡ true

-- such a form among the trees stands at one of their places
unbuilt_holds : {nodes : List Node} {ns : List ℕ} {t : Trees} (n : ℕ) → AreTrees nodes ns t → Among n t → IsUnbuilt nodes n
    → Holds ((node_at nodes n).place) (unbuilt_places t)
unbuilt_holds n no_trees among is = elim among [ ]
unbuilt_holds {nodes} n (some_trees {n = m} {node = node} {kids = kids} {rest = rest} here under after) (itself same) is =
    let found : node_at nodes n ≡ node = get_or_from_slice_get nodes n node vacant (subst (λ (v : ℕ). slice_get nodes v ≡ Some node) same here) in
    subst (λ (v : Node). Holds (v.place) ((if is_unbuilt (node.kind) then node.place ∷ [] else []) ++ (unbuilt_places kids ++ unbuilt_places rest)))
    (sym found) (by (is_unbuilt (node.kind)) (sym (ap (λ (v : Node). is_unbuilt (v.kind)) found) ∙ is))
  where
    by : (b : Bool) → b ≡ true → Holds (node.place) ((if b then node.place ∷ [] else []) ++ (unbuilt_places kids ++ unbuilt_places rest))
    by true e = first refl
    by false e = absurd (let none : ⊥ = cc in none)
unbuilt_holds {nodes} n (some_trees {node = node} {kids = kids} {rest = rest} here under after) (inside one) is =
    holds_right (if is_unbuilt (node.kind) then node.place ∷ [] else []) (unbuilt_places kids ++ unbuilt_places rest)
    (holds_left (unbuilt_places kids) (unbuilt_places rest) (unbuilt_holds n under one is))
unbuilt_holds {nodes} n (some_trees {node = node} {kids = kids} {rest = rest} here under after) (behind one) is =
    holds_right (if is_unbuilt (node.kind) then node.place ∷ [] else []) (unbuilt_places kids ++ unbuilt_places rest)
    (holds_right (unbuilt_places kids) (unbuilt_places rest) (unbuilt_holds n after one is))

-- a form that isn't built, at that place
pub record StandsAt (nodes : List Node) (t : Trees) (x : ℕ) : Type 0 where
  pub n : ℕ
  pub among : Among n t
  pub unbuilt : is_unbuilt ((node_at nodes n).kind) ≡ true
  pub place : (node_at nodes n).place ≡ x

-- at each of their places such a form stands
holds_unbuilt : {nodes : List Node} {ns : List ℕ} {t : Trees} (x : ℕ) → AreTrees nodes ns t → Holds x (unbuilt_places t)
    → StandsAt nodes t x
holds_unbuilt x no_trees held = elim held [ ]
holds_unbuilt {nodes} x (some_trees {n = m} {node = node} {kids = kids} {rest = rest} here under after) held =
    by (λ one. holds_unbuilt x under one) (λ one. holds_unbuilt x after one)
    (holds_either (if is_unbuilt (node.kind) then node.place ∷ [] else []) (unbuilt_places kids ++ unbuilt_places rest) held)
  where
    found : node_at nodes m ≡ node
    found = get_or_from_slice_get nodes m node vacant here

    own : (b : Bool) → is_unbuilt (node.kind) ≡ b → Holds x (if b then node.place ∷ [] else [])
        → StandsAt nodes (tree (head_of m node) kids rest) x
    own true e (first same) = record {
      n = m;
      among = itself refl;
      unbuilt = ap (λ (v : Node). is_unbuilt (v.kind)) found ∙ e;
      place = ap (λ (v : Node). v.place) found ∙ sym same;
    }
    own true e (later none) = elim none [ ]
    own false e none = elim none [ ]

    within : StandsAt nodes kids x → StandsAt nodes (tree (head_of m node) kids rest) x
    within s = record { n = s.n; among = inside (s.among); unbuilt = s.unbuilt; place = s.place }

    past : StandsAt nodes rest x → StandsAt nodes (tree (head_of m node) kids rest) x
    past s = record { n = s.n; among = behind (s.among); unbuilt = s.unbuilt; place = s.place }

    by : (Holds x (unbuilt_places kids) → StandsAt nodes kids x) → (Holds x (unbuilt_places rest) → StandsAt nodes rest x)
        → Holds x (if is_unbuilt (node.kind) then node.place ∷ [] else []) ⊎ Holds x (unbuilt_places kids ++ unbuilt_places rest)
        → StandsAt nodes (tree (head_of m node) kids rest) x
    by one other (inl held) = own (is_unbuilt (node.kind)) refl held
    by one other (inr held) = parts one other (holds_either (unbuilt_places kids) (unbuilt_places rest) held)
      where
        parts : (Holds x (unbuilt_places kids) → StandsAt nodes kids x) → (Holds x (unbuilt_places rest) → StandsAt nodes rest x)
            → Holds x (unbuilt_places kids) ⊎ Holds x (unbuilt_places rest) → StandsAt nodes (tree (head_of m node) kids rest) x
        parts one other (inl held) = within (one held)
        parts one other (inr held) = past (other held)

-- ---- the least place among nodes

-- one node more
pub lowest_more : (nodes : List Node) (n : ℕ) (node : Node) (so_far place lowest : Option ℕ) → slice_get nodes n ≡ Some node
    → so_far ≡ lowest_below nodes n → place ≡ unbuilt_place node → lowest ≡ lower_of so_far place
    → lowest ≡ lowest_below nodes (n + 1)
unfolding lowest_below
lowest_more nodes n node so_far place lowest here before is lower =
    let found : node_at nodes n ≡ node = get_or_from_slice_get nodes n node vacant here in
    let next : n + 1 ≡ suc n = omega arith in
    lower ∙ (ap (λ o. lower_of o place) before ∙ (ap (λ o. lower_of (lowest_below nodes n) o) (is ∙ ap (λ (v : Node). unbuilt_place v) (sym found))
    ∙ sym (ap (λ k. lowest_below nodes k) next)))

-- no node below n is an unbuilt form with a lower place
abbrev IsLow : List Node → ℕ → Option ℕ → Type 0
IsLow nodes n None = (k : ℕ) → k < n → IsUnbuilt nodes k → ⊥
IsLow nodes n (Some p) = ((k : ℕ) → k < n → IsUnbuilt nodes k → p ≤ (node_at nodes k).place) × ((k : ℕ) × (k < n) × IsUnbuilt nodes k × ((node_at nodes k).place ≡ p))

unbuilt_cases : (node : Node) → ((is_unbuilt (node.kind) ≡ true) × (unbuilt_place node ≡ Some (node.place))) ⊎ ((is_unbuilt (node.kind) ≡ false) × (unbuilt_place node ≡ None))
unbuilt_cases node = by (is_unbuilt (node.kind)) refl
  where
    by : (b : Bool) → is_unbuilt (node.kind) ≡ b
        → ((b ≡ true) × ((if b then Some (node.place) else None) ≡ Some (node.place))) ⊎ ((b ≡ false) × ((if b then Some (node.place) else None) ≡ None))
    by true e = inl (refl, refl)
    by false e = inr (refl, refl)

-- the place of the lower of two is one of them, and neither is lower
low_step : (nodes : List Node) (n : ℕ) (o : Option ℕ) → IsLow nodes n o → IsLow nodes (suc n) (lower_of o (unbuilt_place (node_at nodes n)))
low_step nodes n o low = by o low (unbuilt_cases (node_at nodes n))
  where
    by : (o : Option ℕ) → IsLow nodes n o
        → ((is_unbuilt ((node_at nodes n).kind) ≡ true) × (unbuilt_place (node_at nodes n) ≡ Some ((node_at nodes n).place))) ⊎ ((is_unbuilt ((node_at nodes n).kind) ≡ false) × (unbuilt_place (node_at nodes n) ≡ None))
        → IsLow nodes (suc n) (lower_of o (unbuilt_place (node_at nodes n)))
    by None low (inr (built, place)) =
        subst (λ (p : Option ℕ). IsLow nodes (suc n) (lower_of None p)) (sym place) none
      where
        none : (k : ℕ) → k < suc n → IsUnbuilt nodes k → ⊥
        none k under is = pick (cases_eq k n)
          where
            pick : (k ≡ n) ⊎ (k ≡ n → ⊥) → ⊥
            pick (inl same) = let other : is_unbuilt ((node_at nodes n).kind) ≡ true = subst (λ (m : ℕ). IsUnbuilt nodes m) same is in let no_way : ⊥ = cc in no_way
            pick (inr other) = low k (omega arith) is
    by None low (inl (unbuilt, place)) =
        subst (λ (p : Option ℕ). IsLow nodes (suc n) (lower_of None p)) (sym place) (each, (n, omega arith, unbuilt, refl))
      where
        each : (k : ℕ) → k < suc n → IsUnbuilt nodes k → (node_at nodes n).place ≤ (node_at nodes k).place
        each k under is = pick (cases_eq k n)
          where
            pick : (k ≡ n) ⊎ (k ≡ n → ⊥) → (node_at nodes n).place ≤ (node_at nodes k).place
            pick (inl same) = let e : (node_at nodes k).place ≡ (node_at nodes n).place = ap (λ m. (node_at nodes m).place) same in omega arith
            pick (inr other) = absurd (low k (omega arith) is)
    by (Some p) (low, one) (inr (built, place)) =
        subst (λ (q : Option ℕ). IsLow nodes (suc n) (lower_of (Some p) q)) (sym place) (each, before one)
      where
        before : (k : ℕ) × (k < n) × IsUnbuilt nodes k × ((node_at nodes k).place ≡ p) → (k : ℕ) × (k < suc n) × IsUnbuilt nodes k × ((node_at nodes k).place ≡ p)
        before (k, under, is, at) = (k, omega arith, is, at)

        each : (k : ℕ) → k < suc n → IsUnbuilt nodes k → p ≤ (node_at nodes k).place
        each k under is = pick (cases_eq k n)
          where
            pick : (k ≡ n) ⊎ (k ≡ n → ⊥) → p ≤ (node_at nodes k).place
            pick (inl same) = let other : is_unbuilt ((node_at nodes n).kind) ≡ true = subst (λ (m : ℕ). IsUnbuilt nodes m) same is in absurd (let no_way : ⊥ = cc in no_way)
            pick (inr other) = low k (omega arith) is
    by (Some p) (low, one) (inl (unbuilt, place)) =
        subst (λ (q : Option ℕ). IsLow nodes (suc n) (lower_of (Some p) q)) (sym place) (each, chosen one (cases_lt p ((node_at nodes n).place)))
      where
        chosen : (k : ℕ) × (k < n) × IsUnbuilt nodes k × ((node_at nodes k).place ≡ p) → (p < (node_at nodes n).place) ⊎ ((node_at nodes n).place ≤ p)
            → (k : ℕ) × (k < suc n) × IsUnbuilt nodes k × ((node_at nodes k).place ≡ min p ((node_at nodes n).place))
        chosen (k, under, is, at) (inl lower) = (k, omega arith, is, omega arith)
        chosen one (inr lower) = (n, omega arith, unbuilt, omega arith)

        each : (k : ℕ) → k < suc n → IsUnbuilt nodes k → min p ((node_at nodes n).place) ≤ (node_at nodes k).place
        each k under is = pick (cases_eq k n)
          where
            pick : (k ≡ n) ⊎ (k ≡ n → ⊥) → min p ((node_at nodes n).place) ≤ (node_at nodes k).place
            pick (inl same) = let e : (node_at nodes k).place ≡ (node_at nodes n).place = ap (λ m. (node_at nodes m).place) same in omega arith
            pick (inr other) = let below : p ≤ (node_at nodes k).place = low k (omega arith) is in omega arith

lowest_is_low : (nodes : List Node) (n : ℕ) → IsLow nodes n (lowest_below nodes n)
unfolding lowest_below
lowest_is_low nodes zero = λ k under is. omega arith
lowest_is_low nodes (suc n) = low_step nodes n (lowest_below nodes n) (lowest_is_low nodes n)

-- ---- the first in the tree

-- a form that isn't built, among the nodes of a tree, is one of the tree's
unbuilt_among : (nodes : List Node) (root : ℕ) (t : Trees) → nodes ≡ first_nodes (suc root) t → (k : ℕ) → k < suc root
    → IsUnbuilt nodes k → Among k t
unbuilt_among nodes root t same k within is =
    by (node_in k t) refl (subst (λ (others : List Node). IsUnbuilt others k) same is)
  where
    there : node_at (first_nodes (suc root) t) k ≡ unwrap_or (node_in k t) vacant
    there =
        get_or_from_slice_get (first_nodes (suc root) t) k (unwrap_or (node_in k t) vacant) vacant (get-first_nodes (suc root) k t within)

    by : (o : Option Node) → node_in k t ≡ o → IsUnbuilt (first_nodes (suc root) t) k → Among k t
    by (Some node) e is = found_among k t node e
    by None e is =
        absurd (let empty : node_at (first_nodes (suc root) t) k ≡ vacant = there ∙ ap (λ o. unwrap_or o vacant) e in
        let no : true ≡ false = sym is ∙ ap (λ (v : Node). is_unbuilt (v.kind)) empty in let none : ⊥ = cc in none)

-- the least place of such a form among the nodes of a tree is that of the first in the tree
pub lowest_first : (nodes : List Node) (t : Trees) → IsTreeOf nodes t → nodes ≡ nodes_of t
    → lowest_below nodes (length nodes) ≡ first_unbuilt t
lowest_first nodes t (root, last, trees) are =
    by (lowest_below nodes (length nodes)) (lowest_is_low nodes (length nodes))
  where
    alone : nodes ≡ first_nodes (suc root) t
    alone = are ∙ nodes_up_to trees

    by : (o : Option ℕ) → IsLow nodes (length nodes) o → o ≡ least (unbuilt_places t)
    by None none = sym (least_none (unbuilt_places t) no)
      where
        no : (x : ℕ) → Holds x (unbuilt_places t) → ⊥
        no x held =
            let s = holds_unbuilt x trees held in none (s.n) (among_within (s.n) trees (s.among)) (s.unbuilt)
    by (Some p) (low, (k, under, is, at)) = sym (least_is (unbuilt_places t) p one each)
      where
        one : Holds p (unbuilt_places t)
        one =
            subst (λ (x : ℕ). Holds x (unbuilt_places t)) at
            (unbuilt_holds k trees (unbuilt_among nodes root t alone k (omega arith) is) is)

        each : (x : ℕ) → Holds x (unbuilt_places t) → p ≤ x
        each x held =
            let s = holds_unbuilt x trees held in
            let above : p ≤ (node_at nodes (s.n)).place = low (s.n) (among_within (s.n) trees (s.among)) (s.unbuilt) in
            let it : (node_at nodes (s.n)).place ≡ x = s.place in omega arith
