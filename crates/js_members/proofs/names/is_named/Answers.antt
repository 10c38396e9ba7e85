use Rattle.std.proofs.Common.{◌∙◌, ◌<◌, length, sym, arith}
use Rattle.js_members.proofs.KeyLemmas.{key_goes_on, key_ends}
use Rattle.js_members.proofs.names.is_named.Goals as goal

pub loop-place-preserved : goal.loop-place-preserved
loop-place-preserved c =
    let in_name : c.loop-place.place < length c.args.name.now = omega arith in
    let in_key : c.loop-place.place < length c.args.key.now = omega (arith, c.loop-place.invariant.0) in (
      c.loop-place.invariant.0,
      key_goes_on c.args.key.now c.args.name.now c.loop-place.place in_key in_name (sym c.unit_at.ensures ∙ c.if-unit_at-name.false)
          ∙ c.loop-place.invariant.1,
    )

pub returns-then-unit_at-name : goal.returns-then-unit_at-name
returns-then-unit_at-name c =
    let in_name : c.loop-place.place < length c.args.name.now = omega arith in
    let in_key : c.loop-place.place < length c.args.key.now = omega (arith, c.loop-place.invariant.0) in
    sym (key_ends c.args.key.now c.args.name.now c.loop-place.place in_key in_name (λ e. c.if-unit_at-name.true (c.unit_at.ensures ∙ e)))
    ∙ c.loop-place.invariant.1
