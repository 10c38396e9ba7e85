use Rattle.std.proofs.Common.{◌≡◌, ℕ, ◌+◌, ◌++◌, ◌∷◌, [], List, length, map, drop, sym, ap, ◌∙◌, subst, append-nil}
use Rattle.std.specs.Prelude.{slice_get}
use Rattle.std.specs.Map.{keys_of, values_of}
use Rattle.std.specs.List.{IsDistinct}
use Rattle.ivm_text.specs.Keys.{is_key}
use Rattle.ivm_text.specs.KeyOrder.{key_order}
use Rattle.js_literals.specs.Copies.{pairs_from}
use Rattle.js_literals.specs.View.{tree_at, pairs_at}
use Rattle.js_literals.proofs.PairLemmas.{ordered_from, ordered_past, keys_differ}
use Rattle.js_literals.proofs.Walks.{Walk, pairs_go, walk_goes, keys_go}
use Rattle.js_literals.proofs.copies.leaves_by_key.Goals as goal

pub loop-place-preserved : goal.loop-place-preserved
loop-place-preserved c =
    let nodes = c.args.script.now in
    let es = c.args.entries.now.entries in
    let i = c.loop-place.place-index in
    let p : List ℕ × ℕ = (c.entry_at-kid.result.0.now, c.entry_at-kid.result.1) in
    let rest = drop (i + 1) (key_order es) in
    let in_order = ap (λ (ps : List ℕ). map (slice_get es) ps) c.deref-place-items.ensures.value ∙ c.in_ok-places.ensures.ok in
    let at : drop i (key_order es) ≡ p ∷ rest = ordered_from es (key_order es) c.deref-place-items.result.now i p in_order c.loop-place-test.true c.entry_at-kid.ensures in
    let pushed = c.in_ok-push.ensures.ok ∙ ap (λ k. c.loop-place.pairs ++ (k, c.in_ok-leaf.leaf) ∷ []) c.in_ok-own_key.ensures in
    record {
      pairs = pairs_go nodes p.0 (tree_at nodes p.1) (pairs_at nodes rest) c.loop-place.pairs c.push.new.self _ c.in_ok-leaf.leaf c.loop-place.mentioned c.leaf_of.new.mentioned
          c.in_ok-leaf.ensures.leaf c.in_ok-leaf.ensures.mentioned pushed
          (subst (λ (ps : List (List ℕ × ℕ)). c.loop-place.pairs ++ pairs_from (length c.loop-place.mentioned) (pairs_at nodes ps) ≡ pairs_from (length c.args.mentioned.now) (pairs_at nodes (key_order es))) at c.loop-place.invariant.pairs);
      walk = walk_goes nodes (tree_at nodes p.1) (values_of (pairs_at nodes rest)) (values_of (pairs_at nodes (key_order es))) c.args.mentioned.now c.loop-place.mentioned c.leaf_of.new.mentioned
          c.in_ok-leaf.ensures.mentioned
          (subst (λ (ps : List (List ℕ × ℕ)). Walk nodes (values_of (pairs_at nodes ps)) (values_of (pairs_at nodes (key_order es))) c.args.mentioned.now c.loop-place.mentioned) at c.loop-place.invariant.walk);
      keys = keys_go c.loop-place.pairs c.push.new.self p.0 c.in_ok-leaf.leaf (keys_of rest) (keys_of (key_order es)) pushed
          (subst (λ (ps : List (List ℕ × ℕ)). keys_of c.loop-place.pairs ++ keys_of ps ≡ keys_of (key_order es)) at c.loop-place.invariant.keys);
    }

pub from_items-requires : goal.from_items-requires
from_items-requires c =
    let es = c.args.entries.now.entries in
    let in_order = ap (λ (ps : List ℕ). map (slice_get es) ps) c.deref-place-items.ensures.value ∙ c.in_ok-places.ensures.ok in
    let none = ordered_past es (key_order es) c.deref-place-items.result.now c.loop-place.place-index in_order c.loop-place-test.false in
    let same : keys_of c.loop-place.pairs ≡ keys_of (key_order es) =
    sym (append-nil (keys_of c.loop-place.pairs)) ∙ ap (λ (ps : List (List ℕ × ℕ)). keys_of c.loop-place.pairs ++ keys_of ps) (sym none) ∙ c.loop-place.invariant.keys in
    subst (λ (ks : List (List ℕ)). IsDistinct is_key ks) (sym same) (keys_differ es (key_order es) c.in_ok-places.ensures.law.permutation c.requires.distinct)
