-- There is one order of the nodes of a copy.
use Rattle.std.proofs.Common.{◌≡◌, ℕ, zero, suc, ◌+◌, ◌<◌, ◌≤◌, inl, inr, List, [], ◌∷◌, ◌++◌, length, take, drop, refl, sym, ap, ◌∙◌, arith, append-nil}
use Rattle.std.specs.Prelude.{flat_map}
use Rattle.std.proofs.lemmas.Bool.{cases_lt}
use Rattle.std.proofs.lemmas.Grind.{flat_map-append}
use Rattle.std.proofs.lemmas.List.{take_all, take-append-le, take-append-drop}
use Rattle.std.proofs.Math.Seq.{take-append_seam}
use Rattle.js_literals.specs.Copies.{Tree, is_node, members, inner_nodes}
use Rattle.js_literals.proofs.Weights.{weight, weights, append_weights, filter_weights, members_weigh}

inner_less : (t : Tree) → weights (inner_nodes t) < weight t
inner_less t = omega (arith, filter_weights is_node (members t), members_weigh t)

flat_le : (ts : List Tree) → weights (flat_map inner_nodes ts) ≤ weights ts
flat_le [] = omega arith
flat_le (t ∷ ts) = omega (arith, append_weights (inner_nodes t) (flat_map inner_nodes ts), inner_less t, flat_le ts)

-- only no trees hold as many nodes as they have
flat_less : (ts : List Tree) → weights ts ≤ weights (flat_map inner_nodes ts) → ts ≡ []
flat_less [] h = refl
flat_less (t ∷ ts) h = absurd (omega (arith, h, append_weights (inner_nodes t) (flat_map inner_nodes ts), inner_less t, flat_le ts))

take_weights : (k n : ℕ) (ts : List Tree) → k ≤ n → weights (take k ts) ≤ weights (take n ts)
take_weights zero n ts h = omega arith
take_weights (suc k) zero ts h = absurd (omega arith)
take_weights (suc k) (suc n) [] h = omega arith
take_weights (suc k) (suc n) (t ∷ ts) h = omega (arith, take_weights k n ts (omega arith))

-- where all that was mentioned has been looked at, nothing is left
ended : (p o : List Tree) (n : ℕ) → o ≡ p ++ flat_map inner_nodes (drop n o) → length p ≤ n → drop n o ≡ []
ended p o n e h =
    let front : take (length p) o ≡ p = ap (take (length p)) e ∙ take-append_seam p (flat_map inner_nodes (drop n o)) in
    let whole : weights o ≡ weights p + weights (flat_map inner_nodes (drop n o)) = ap weights e ∙ append_weights p (flat_map inner_nodes (drop n o)) in
    let halves : weights o ≡ weights (take n o) + weights (drop n o) = ap weights (sym (take-append-drop n o)) ∙ append_weights (take n o) (drop n o) in
    flat_less (drop n o) (omega (arith, ap weights front, whole, halves, take_weights (length p) n o h))

halved : (t : Tree) (o : List Tree) (n : ℕ) → o ≡ t ∷ flat_map inner_nodes o → o ≡ (t ∷ flat_map inner_nodes (take n o)) ++ flat_map inner_nodes (drop n o)
halved t o n e = e ∙ ap (λ ts. t ∷ ts) (ap (flat_map inner_nodes) (sym (take-append-drop n o)) ∙ flat_map-append inner_nodes (take n o) (drop n o))

all_taken : (o : List Tree) (n : ℕ) → drop n o ≡ [] → o ≡ take n o
all_taken o n e = sym (take-append-drop n o) ∙ ap (λ ts. take n o ++ ts) e ∙ append-nil (take n o)

same_front : (t : Tree) (a b : List Tree) → a ≡ t ∷ flat_map inner_nodes a → b ≡ t ∷ flat_map inner_nodes b → (n : ℕ) → take n a ≡ take n b
same_front t a b ea eb zero = refl
same_front t a b ea eb (suc n) =
    let before = same_front t a b ea eb n in
    next (t ∷ flat_map inner_nodes (take n a)) before (halved t a n ea)
    (halved t b n eb ∙ ap (λ ts. (t ∷ flat_map inner_nodes ts) ++ flat_map inner_nodes (drop n b)) (sym before))
  where
    next : (p : List Tree) → take n a ≡ take n b → a ≡ p ++ flat_map inner_nodes (drop n a) → b ≡ p ++ flat_map inner_nodes (drop n b) → take (suc n) a ≡ take (suc n) b
    next p before sa sb = elim (cases_lt n (length p)) [
      | inl h ↦
          ap (take (suc n)) sa ∙ take-append-le (suc n) p (flat_map inner_nodes (drop n a)) (omega (arith, h))
          ∙ sym (ap (take (suc n)) sb ∙ take-append-le (suc n) p (flat_map inner_nodes (drop n b)) (omega (arith, h)))
      | inr h ↦ ap (take (suc n)) (all_taken a n (ended p a n sa h) ∙ before ∙ sym (all_taken b n (ended p b n sb h)))
    ]

pub same_order : (t : Tree) (a b : List Tree) → a ≡ t ∷ flat_map inner_nodes a → b ≡ t ∷ flat_map inner_nodes b → a ≡ b
same_order t a b ea eb =
    sym (take_all (length a + length b) a (omega arith)) ∙ same_front t a b ea eb (length a + length b) ∙ take_all (length a + length b) b (omega arith)
