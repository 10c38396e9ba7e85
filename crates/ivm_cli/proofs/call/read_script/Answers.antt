use Rattle.std.proofs.Common.{Err, ap, arith}
use Rattle.ivm_cli.proofs.HostLaws.{host_of_long}
use Rattle.ivm_cli.proofs.call.read_script.Goals as goal

pub returns-in-Err-TooLong-clause-ok : goal.returns-in-Err-TooLong-clause-ok
returns-in-Err-TooLong-clause-ok g c =
    let h = c.in-Err-TooLong.ensures.too_long (ap Err c.in-Err-TooLong.field-0-is) in
    (h.0, h.2, host_of_long h.0 (omega (arith, h.1)))

pub returns-in-Ok-read_host-clause-ok : goal.returns-in-Ok-read_host-clause-ok
returns-in-Ok-read_host-clause-ok g c =
    let bytes = c.in-Ok.bytes.items in
    let meant = rw c.deref.ensures.value at c.in-Ok-read_host.ensures.exact in
    (bytes, c.in-Ok.ensures.ok.1, (meant, c.in-Ok-read_host.ensures.whole))
