-- A payload as the code builds it: the bytes that it holds, or why it is not built.
use Rattle.std.specs.Prelude.{ℕ, List, Some, None, Ok, Err, Option, Result}
use Rattle.arrayvec.specs.ArrayVec.{ArrayVec}
use Rattle.host.specs.declared.fault.HostFault.{HostFault}

abbrev pub unless_fault : {A : Type 0} → Option HostFault → A → Result A HostFault
unless_fault None a = Ok a
unless_fault (Some f) a = Err f

abbrev pub bytes_in : Result (ArrayVec ℕ) HostFault → Result (List ℕ) HostFault
bytes_in (Ok b) = Ok b.items
bytes_in (Err f) = Err f
