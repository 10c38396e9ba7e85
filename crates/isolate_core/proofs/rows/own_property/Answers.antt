use Rattle.std.proofs.Common.{◌∙◌, ap}
use Rattle.isolate_meaning.specs.Tasks.{own_property_in}
use Rattle.isolate_core.proofs.Growing.{found_sound}
use Rattle.isolate_core.proofs.rows.own_property.Goals as goal

pub returns-in-Item-clause-sound : goal.returns-in-Item-clause-sound
returns-in-Item-clause-sound c =
    found_sound c.args.heap.now c.args.value c.in-Item.n c.args.key.now c.item_property.result c.requires.closed c.requires.value c.in-Item.is
    (c.item_property.ensures ∙ ap (λ item. own_property_in item c.args.key.now) c.get.ensures)
