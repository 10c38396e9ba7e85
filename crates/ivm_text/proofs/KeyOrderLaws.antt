-- The key order, and the places that the code sorts.
use Rattle.std.proofs.Common.{◌≡◌, ℕ, ◌<◌, ◌∙◌, List, [], ◌∷◌, length, get_or, map, refl, ap, sym, subst, arith, Option, None, Some, zero, suc}
use Rattle.std.specs.Prelude.{slice_get}
use Rattle.std.specs.Option.{option_map_or}
use Rattle.std.specs.List.{All}
use Rattle.std.specs.Ordering.{nat_cmp}
use Rattle.std.specs.List.Sorted.{IsPermutation, IsNonDecreasingBy, IsStableByKey}
use Rattle.std.proofs.lemmas.List.Sorted.{All-permutation}
use Rattle.std.proofs.lemmas.List.Elements.{All-from_get_or}
use Rattle.std.proofs.lemmas.List.{ext_get_or, get_or-map, length-map}
use Rattle.ivm_text.specs.declared.key_order.TheConstants.{INDEX_END}
use Rattle.ivm_text.specs.KeyOrder.{rank_of, rank_at, key_order, sorted_by, AreInOrder, IsKeyOrder}
use Rattle.ivm_text.proofs.SortLemmas.{sorted_permutation, sorted_rises, sorted_stays, sorted_stable, rises_by, rises_from, one_sorted, sorted_map}

pub key_order_law : {V : Type 0} (pairs : List (List ℕ × V)) → IsKeyOrder pairs (key_order pairs)
key_order_law pairs = record {
  permutation = sorted_permutation (λ p. rank_of p.0) pairs;
  ascending = rises_by (λ p. rank_of p.0) (key_order pairs) (sorted_rises (λ p. rank_of p.0) pairs);
  stable = sorted_stable (λ p. rank_of p.0) pairs;
  idempotent = sorted_stays (λ p. rank_of p.0) (key_order pairs) (sorted_rises (λ p. rank_of p.0) pairs);
}

module _ {V : Type 0} (pairs : List (List ℕ × V)) where
  -- where an optional pair stands
  abbrev rank : Option (List ℕ × V) → ℕ
  rank o = option_map_or (λ p. rank_of p.0) o INDEX_END

  -- the places of all pairs, from 0 on
  places_all : (ks : List ℕ) → length ks ≡ length pairs → ((k : ℕ) → k < length ks → get_or ks k 0 ≡ k) → map (slice_get pairs) ks ≡ map Some pairs
  places_all ks len each =
      ext_get_or None (map (slice_get pairs) ks) (map Some pairs) (length-map ks (slice_get pairs) ∙ len ∙ sym (length-map pairs Some)) (λ k within.
      let inside : k < length ks = omega (arith, length-map ks (slice_get pairs), within) in
      get_or-map (slice_get pairs) ks k 0 None inside ∙ ap (slice_get pairs) (each k inside) ∙ there pairs k (omega (arith, inside, len)))
    where
      there : (qs : List (List ℕ × V)) (k : ℕ) → k < length qs → slice_get qs k ≡ get_or (map Some qs) k None
      there [] k h = absurd (omega (arith, h))
      there (q ∷ qs) zero h = refl
      there (q ∷ qs) (suc k) h = there qs k (omega (arith, h))

  -- sorted by the ranks of their keys, with those of one rank as they stood, they are the places in key order
  pub places_ordered : (ks sorted : List ℕ) → length ks ≡ length pairs → ((k : ℕ) → k < length ks → get_or ks k 0 ≡ k)
      → IsNonDecreasingBy (rank_at pairs) sorted → IsStableByKey (rank_at pairs) nat_cmp ks sorted
      → AreInOrder pairs sorted
  places_ordered ks sorted len each up stable =
      ap (map (slice_get pairs)) (one_sorted (rank_at pairs) sorted (sorted_by (rank_at pairs) ks)
      (rises_from (rank_at pairs) sorted up) (sorted_rises (rank_at pairs) ks)
      (λ z. stable z ∙ sym (sorted_stable (rank_at pairs) ks z)))
      ∙ sorted_map rank (slice_get pairs) ks
      ∙ ap (sorted_by rank) (places_all ks len each)
      ∙ sym (sorted_map rank Some pairs)

  pub places_within : (ks sorted : List ℕ) → length ks ≡ length pairs → ((k : ℕ) → k < length ks → get_or ks k 0 ≡ k)
      → IsPermutation ks sorted → All (λ k. k < length pairs) sorted
  places_within ks sorted len each moved =
      All-permutation (λ k. k < length pairs) ks sorted moved
      (All-from_get_or (λ k. k < length pairs) ks 0 (λ k within. subst (λ j. j < length pairs) (sym (each k within)) (omega (arith, len, within))))
