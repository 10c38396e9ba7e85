use Rattle.charged_heap.proofs.PlaceLemmas.{maybe_indexed_bound}
use Rattle.charged_heap.proofs.bindings.Bindings.bind.Goals as goal

pub invariant_of-self : goal.invariant_of-self
invariant_of-self c =
    maybe_indexed_bound (λ places. places.value.entries) c.self.inside.index c.self.inside.listed c.bind.new.listed c.args.place c.args.value
    c.bind.ensures.value c.self.invariant
