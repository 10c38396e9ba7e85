-- Bytes that are too many for a host script have that fault.
use Rattle.std.proofs.Common.{◌≡◌, ℕ, ◌<◌, List, length, Err, refl}
use Rattle.std.proofs.lemmas.Bool.{lt-ltb}
use Rattle.host_script.specs.HostText.{host_of}
use Rattle.host_script.specs.declared.fault.HostFault.TheVariants.{At}
use Rattle.host_script.specs.declared.fault.HostKind.TheVariants.{TooLong}
use Rattle.ivm_cli.specs.Run.{most}

pub host_of_long : (bytes : List ℕ) → most < length bytes → host_of bytes ≡ Err (At 0 TooLong)
host_of_long bytes many = rw (lt-ltb most (length bytes) many) refl
