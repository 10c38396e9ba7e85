use Rattle.std.proofs.Common.{◌≡◌, ◌∙◌, sym, ap, length}
use Rattle.ivm_text.specs.Keys.{with_value}
use Rattle.charged_heap.proofs.PlaceLemmas.{index_kept, index_more, on_ok}
use Rattle.charged_heap.proofs.bindings.push_indexed.Goals as goal

pub returns-then-contains_key-clause-index : goal.returns-then-contains_key-clause-index
returns-then-contains_key-clause-index c =
    index_kept c.args.places.now.entries c.args.listed.now c.push.new.self c.args.binding c.push.result c.requires
    (sym c.contains_key.ensures ∙ c.if-contains_key.true) c.push.ensures.ok c.push.ensures.err

pub returns-clause-index : goal.returns-clause-index
returns-clause-index c =
    let put : c.insert.new.self.entries ≡ with_value c.args.places.now.entries c.args.binding.name (length c.args.listed.now) =
    on_ok c.unwrap.ensures c.insert.ensures.entries
    ∙ ap (λ places. with_value places c.in_ok-name.name c.len-place.result) c.reserve.ensures.entries
    ∙ ap (λ name. with_value c.args.places.now.entries name c.len-place.result) c.in_ok-name.ensures
    ∙ ap (with_value c.args.places.now.entries c.args.binding.name) c.len-place.ensures in
    index_more c.args.places.now.entries c.insert.new.self.entries c.args.listed.now c.push-2.new.self c.args.binding c.requires
    (sym c.contains_key.ensures ∙ c.if-contains_key.false) put c.in_ok-push.ensures.ok
