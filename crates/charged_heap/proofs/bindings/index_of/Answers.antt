use Rattle.std.proofs.Common.{◌≡◌, ◌<◌, ◌∙◌, arith, ap, length}
use Rattle.std.specs.Prelude.{slice_index_or}
use Rattle.charged_heap.specs.Index.{with_first}
use Rattle.charged_heap.proofs.PlaceLemmas.{indexed_next}
use Rattle.charged_heap.proofs.bindings.index_of.Goals as goal

pub loop-place-preserved : goal.loop-place-preserved
loop-place-preserved c =
    let noted : c.note_place.new.places.entries ≡ with_first c.loop-place.places.value.entries c.binding-item.result.name c.loop-place.place =
    c.in_ok-note_place.ensures ∙ ap (λ m. with_first m.entries c.binding-item.result.name c.loop-place.place) c.deref_mut.ensures.value in
    let within : c.loop-place.place < length c.args.listed.now = grind (arith) in
    let is : c.binding-item.result ≡ slice_index_or c.args.listed.now c.loop-place.place c.binding-item.result = cc in
    indexed_next c.loop-place.places.value.entries c.note_place.new.places.entries c.args.listed.now c.loop-place.place c.binding-item.result
    within is noted c.loop-place.invariant
