use Rattle.std.proofs.Common.{◌≡◌, ◌∙◌, sym, subst, Some, ap}
use Rattle.std.specs.Prelude.{position}
use Rattle.std.specs.List.{IsDistinct}
use Rattle.std.specs.Map.{keys_of}
use Rattle.ivm_text.specs.Keys.{is_key, HasDistinctKeys}
use Rattle.ivm_text.proofs.KeyLemmas.{with_value_present, keys-set_value_at}
use Rattle.charged_heap.proofs.props.Props.put.Goals as goal

pub returns-in-Some-clause-ok : goal.returns-in-Some-clause-ok
returns-in-Some-clause-ok c =
    let read : c.deref.result.now ≡ c.self.inside.map.value = cc in
    let written : c.deref_mut.result.now ≡ c.self.inside.map.value = cc in
    let at : position (is_key c.args.key.now) (keys_of c.deref.result.now.entries) ≡ Some c.in-Some.place =
    sym c.get_index_of.ensures.index ∙ c.in-Some.is in
    let here : position (is_key c.args.key.now) (keys_of c.self.inside.map.value.entries) ≡ Some c.in-Some.place =
    subst (λ m. position (is_key c.args.key.now) (keys_of m.entries) ≡ Some c.in-Some.place) read at in
    let kept = with_value_present c.self.inside.map.value.entries c.args.key.now c.args.value c.in-Some.place here in
    let entries = ap (λ m. m.entries) written in cc

pub invariant_of-self : goal.invariant_of-self
invariant_of-self c =
    let written : c.deref_mut.result.now ≡ c.self.inside.map.value = cc in
    subst (λ keys. IsDistinct is_key keys) (sym (keys-set_value_at c.deref_mut.result.now.entries c.in-Some.place c.args.value))
    (subst (λ m. HasDistinctKeys m.entries) (sym written) c.self.invariant)
