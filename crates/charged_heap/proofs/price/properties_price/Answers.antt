use Rattle.std.proofs.Common.{arith}
use Rattle.charged_heap.proofs.Charges.{sum-keys_more}
use Rattle.charged_heap.proofs.price.properties_price.Goals as goal

pub loop-place-preserved : goal.loop-place-preserved
loop-place-preserved c =
    omega (arith, sum-keys_more c.args.props.now c.loop-place.place (c.entry.result.0.now, c.entry.result.1) c.entry.ensures)
