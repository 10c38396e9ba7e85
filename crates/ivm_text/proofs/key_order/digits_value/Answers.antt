use Rattle.std.proofs.Common.{arith, ◌+◌, ◌*◌, ◌-◌, ◌<◌, length, get_or, drop}
use Rattle.ivm_text.proofs.IndexLemmas.{read_on_ge, read_step}
use Rattle.ivm_text.proofs.key_order.digits_value.Goals as goal

pub returns-then-n-ge-INDEX_END-clause-none : goal.returns-then-n-ge-INDEX_END-clause-none
returns-then-n-ge-INDEX_END-clause-none c =
    let within : c.loop-place.place < length c.args.key.now = omega arith in
    let step = read_step c.loop-place.n c.args.key.now c.loop-place.place 0 within in
    let more = read_on_ge (10 * c.loop-place.n + (get_or c.args.key.now c.loop-place.place 0 - 48)) (drop (c.loop-place.place + 1) c.args.key.now) in
    λ all. omega (arith, step, c.loop-place.invariant.1, more, c.if-n-ge-INDEX_END.true)
