-- The texts of refusals.
use Rattle.std.specs.Prelude.{ℕ, List, codes}
use Rattle.host.specs.declared.fault.HostFault.{HostFault}
use Rattle.host.specs.declared.fault.HostFault.TheVariants.{WrongLayers, NothingToAdd, TooManyEntries, IllFormedKey, UnfitValue, BufferTooShort}

abbrev pub host_fault_text : HostFault → List ℕ
host_fault_text WrongLayers = codes "no layer is chosen, or one that the request cannot name"
host_fault_text NothingToAdd = codes "there is nothing to add"
host_fault_text TooManyEntries = codes "a request has at most 64 entries"
host_fault_text IllFormedKey = codes "an entry's key is ill-formed"
host_fault_text UnfitValue = codes "a value does not fit its key's size"
host_fault_text BufferTooShort = codes "the buffer is shorter than the frame"
