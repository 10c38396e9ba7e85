use Rattle.std.proofs.Common.{◌≡◌, Ok, sym, subst}
use Rattle.charged_heap.specs.Closed.{IsSoundValue}
use Rattle.charged_heap.specs.Store.{elements, item_at}
use Rattle.js_members.specs.Arrays.{popped}
use Rattle.js_members.proofs.ArrayLemmas.{popped_is, popped_sound}
use Rattle.js_members.proofs.arrays.pop_at.Goals as goal

pub returns-clause-value : goal.returns-clause-value
returns-clause-value c =
    subst (λ v. popped c.args.n (elements (item_at c.args.heap.now c.args.n)) c.args.heap.now ≡ (Ok v, c.pop.new.self))
    (sym c.unwrap_or.ensures)
    (popped_is c.args.heap.now c.pop.new.self c.args.n c.pop.result c.pop.ensures.last c.pop.ensures.rest)

pub returns-clause-sound : goal.returns-clause-sound
returns-clause-sound c =
    λ closed. subst (IsSoundValue c.pop.new.self) (sym c.unwrap_or.ensures)
    (popped_sound c.args.heap.now c.pop.new.self c.args.n c.pop.result c.pop.ensures.last c.requires.there c.pop.ensures.grown closed)
