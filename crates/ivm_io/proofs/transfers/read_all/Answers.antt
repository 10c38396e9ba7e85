use Rattle.std.proofs.Common.{◌+◌, arith}
use Rattle.std.proofs.lemmas.Result.{err_from_is_err_and}
use Rattle.ivm_io.proofs.TransferLemmas.{takes_more}
use Rattle.ivm_io.proofs.transfers.read_all.Goals as goal

pub returns-in_err-read_chunk-clause-err : goal.returns-in_err-read_chunk-clause-err
returns-in_err-read_chunk-clause-err g c =
    let p = err_from_is_err_and c.from_residual.result c.from_residual.ensures.1 in
    let h = c.in_err-read_chunk.ensures.err in
    rw p.1 (takes_more _ _ _ c.loop-bytes.bytes.items _ (c.args.most + 1) c.loop-bytes.invariant.consumed h (omega arith))
