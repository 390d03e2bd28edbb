-- Beginning a transaction: how many bytes its first frame has, or why it is refused.
use Rattle.std.specs.Prelude.{ℕ, Ok, Err, Result}
use Rattle.host.specs.declared.fault.HostFault.{HostFault}
use Rattle.host.specs.declared.transaction.calls.Begun.{Begun}

abbrev pub begun_length : {T : Type 0} → Result (Begun T) HostFault → Result ℕ HostFault
begun_length (Ok b) = Ok b.length
begun_length (Err f) = Err f
