-- How many nodes trees have: what a node holds has fewer than the node.
use Rattle.std.proofs.Common.{◌≡◌, ℕ, suc, ◌+◌, ◌<◌, ◌≤◌, Bool, true, false, List, [], ◌∷◌, ◌++◌, if◌then◌else◌, refl, ap, ◌∙◌, arith}
use Rattle.std.specs.Prelude.{filter, zip, nat_le}
use Rattle.std.specs.Map.{values_of}
use Rattle.js_syntax.specs.Tree.{Trees, nothing, tree}
use Rattle.ivm_text.specs.Keys.{is_key, with_value}
use Rattle.ivm_text.specs.KeyOrder.{put_by, sorted_by, rank_of}
use Rattle.js_literals.specs.Copies.{Tree, side_by_side, parts, given, properties, is_array, is_object, members}

abbrev size : Trees → ℕ
size nothing = 0
size (tree head kids rest) = suc (size kids + size rest)

abbrev pub weight : Tree → ℕ
weight t = suc (size t.kids)

abbrev pub weights : List Tree → ℕ
weights [] = 0
weights (t ∷ ts) = weight t + weights ts

side_weights : (ts : Trees) → weights (side_by_side ts) ≡ size ts
side_weights nothing = refl
side_weights (tree head kids rest) = ap (λ k. suc (size kids) + k) (side_weights rest) ∙ omega arith

pub append_weights : (xs ys : List Tree) → weights (xs ++ ys) ≡ weights xs + weights ys
append_weights [] ys = omega arith
append_weights (x ∷ xs) ys = omega (arith, append_weights xs ys)

pub filter_weights : (test : Tree → Bool) (ts : List Tree) → weights (filter test ts) ≤ weights ts
filter_weights test [] = omega arith
filter_weights test (t ∷ ts) = elim (test t) as (λ b. weights (if b then t ∷ filter test ts else filter test ts) ≤ weight t + weights ts) [
  | true ↦ omega (arith, filter_weights test ts)
  | false ↦ omega (arith, filter_weights test ts)
]

abbrev Pairs : Type 0
Pairs = List (List ℕ × Tree)

abbrev total : Pairs → ℕ
total ps = weights (values_of ps)

put_total : (n : List ℕ × Tree → ℕ) (p : List ℕ × Tree) (ps : Pairs) → total (put_by n p ps) ≡ weight p.1 + total ps
put_total n p [] = refl
put_total n p (q ∷ ps) = elim (nat_le (n p) (n q)) as (λ b. total (if b then p ∷ q ∷ ps else q ∷ put_by n p ps) ≡ weight p.1 + total (q ∷ ps)) [
  | true ↦ refl
  | false ↦ omega (arith, put_total n p ps)
]

sorted_total : (n : List ℕ × Tree → ℕ) (ps : Pairs) → total (sorted_by n ps) ≡ total ps
sorted_total n [] = refl
sorted_total n (p ∷ ps) = put_total n p (sorted_by n ps) ∙ ap (λ k. weight p.1 + k) (sorted_total n ps)

with_value_total : (ps : Pairs) (k : List ℕ) (v : Tree) → total (with_value ps k v) ≤ total ps + weight v
with_value_total [] k v = omega arith
with_value_total (p ∷ ps) k v = elim (is_key k p.0) as (λ b. total (if b then (p.0, v) ∷ ps else p ∷ with_value ps k v) ≤ total (p ∷ ps) + weight v) [
  | true ↦ omega arith
  | false ↦ omega (arith, with_value_total ps k v)
]

given_total : (ps qs : Pairs) → total (given ps qs) ≤ total ps + total qs
given_total ps [] = omega arith
given_total ps (q ∷ qs) = omega (arith, given_total (with_value ps q.0 q.1) qs, with_value_total ps q.0 q.1)

zip_total : (ks : List (List ℕ)) (ts : List Tree) → total (zip ks ts) ≤ weights ts
zip_total [] ts = omega arith
zip_total (k ∷ ks) [] = omega arith
zip_total (k ∷ ks) (t ∷ ts) = omega (arith, zip_total ks ts)

properties_weigh : (t : Tree) → total (properties t) ≤ weights (parts t)
properties_weigh t =
    omega (arith, sorted_total (λ p. rank_of p.0) (given [] (zip t.head.names (parts t))), given_total [] (zip t.head.names (parts t)), zip_total t.head.names (parts t))

pub members_weigh : (t : Tree) → weights (members t) < weight t
members_weigh t =
    elim (is_array t.head.kind) as (λ a. weights (if a then parts t else if is_object t.head.kind then values_of (properties t) else []) < weight t) [
      | true ↦ omega (arith, side_weights t.kids)
      | false ↦ elim (is_object t.head.kind) as (λ o. weights (if o then values_of (properties t) else []) < weight t) [
        | true ↦ omega (arith, properties_weigh t, side_weights t.kids)
        | false ↦ omega arith
      ]
    ]
