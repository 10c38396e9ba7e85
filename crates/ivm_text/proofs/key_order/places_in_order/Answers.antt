use Rattle.std.proofs.Common.{arith, rules}
use Rattle.std.proofs.lemmas.List.Sorted.{IsNonDecreasingBy-from_sort_by_key}
use Rattle.std.proofs.lemmas.Fn.{always_returns_same}
use Rattle.ivm_text.specs.KeyOrder.{rank_at}
use Rattle.ivm_text.proofs.KeyOrderLaws.{key_order_law, places_ordered, places_within}
use Rattle.ivm_text.proofs.key_order.places_in_order.Goals as goal

pub returns-in_err-push-clause-law : goal.returns-in_err-push-clause-law
returns-in_err-push-clause-law g c = key_order_law c.args.entries.now.entries

pub returns-in_err-sort_by_cached_key-clause-law : goal.returns-in_err-sort_by_cached_key-clause-law
returns-in_err-sort_by_cached_key-clause-law g c = key_order_law c.args.entries.now.entries

pub returns-clause-law : goal.returns-clause-law
returns-clause-law g c = key_order_law c.args.entries.now.entries

pub returns-clause-within : goal.returns-clause-within
returns-clause-within g c =
    places_within c.args.entries.now.entries c.loop-place.places.items c.sort_by_cached_key.new.self.items (omega (arith, c.loop-place.invariant.0))
    (λ k within. c.loop-place.invariant.1 k (omega (arith, c.loop-place.invariant.0, within))) c.in_ok-sort_by_cached_key.ensures.permutation

pub returns-clause-ok : goal.returns-clause-ok
returns-clause-ok g c =
    places_ordered c.args.entries.now.entries c.loop-place.places.items c.sort_by_cached_key.new.self.items (omega (arith, c.loop-place.invariant.0))
    (λ k within. c.loop-place.invariant.1 k (omega (arith, c.loop-place.invariant.0, within)))
    (IsNonDecreasingBy-from_sort_by_key (rank_at c.args.entries.now.entries) _ c.in_ok-sort_by_cached_key.ensures.sorted (λ a r q k. search rules))
    (c.in_ok-sort_by_cached_key.ensures.stable (rank_at c.args.entries.now.entries) (always_returns_same _ _ _ (λ a r f q. search rules)))
