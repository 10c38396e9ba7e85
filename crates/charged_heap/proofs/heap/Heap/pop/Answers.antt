use Rattle.std.proofs.Common.{◌≡◌, [], ◌∷◌, ◌++◌, arith, sym, subst, ◌∙◌}
use Rattle.std.specs.Prelude.{slice_set, MatchOption}
use Rattle.std.proofs.lemmas.Grind.{common_steps}
use Rattle.charged_heap.specs.Store.{elements, item_at}
use Rattle.charged_heap.proofs.ClosedLaws.{closed_popped_some}
use Rattle.charged_heap.proofs.heap.Heap.pop.Goals as goal

pub returns-then-is_some-clause-closed : goal.returns-then-is_some-clause-closed
returns-then-is_some-clause-closed c =
    let was : elements c.index_mut.result.now ≡ elements (item_at c.args.self.now c.args.n) = grind (arith, common_steps) in
    closed_popped_some c.args.self.now (record { items = slice_set c.self.inside.items.items c.args.n c.pop_element-last.new.self; limit = c.self.inside.limit })
    c.args.n (elements c.pop_element-last.new.self) c.pop_element-last.result (grind (arith, common_steps))
    (subst (λ all. MatchOption c.pop_element-last.result (all ≡ []) (λ l. all ≡ elements c.pop_element-last.new.self ++ l ∷ [])) was c.pop_element-last.ensures.last)
    (sym c.is_some.ensures ∙ c.if-is_some.true) c.requires.there
