use Rattle.std.proofs.Common.{◌∙◌, ap}
use Rattle.std.specs.Prelude.{slice_set}
use Rattle.charged_heap.proofs.BindingLemmas.{with_bound-set}
use Rattle.charged_heap.specs.Store.{with_value_of}
use Rattle.charged_heap.proofs.bindings.bind.Goals as goal

pub returns-clause-value : goal.returns-clause-value
returns-clause-value c =
    c.set.ensures
    ∙ ap (λ bs. slice_set bs c.args.place (with_value_of c.replace-name.result c.args.value)) c.replace-name.ensures.items
    ∙ with_bound-set c.args.listed.now c.args.place _ c.replace-name.result c.args.value c.replace-name.ensures.value
