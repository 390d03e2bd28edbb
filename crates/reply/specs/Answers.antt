-- The number of each refusal of reading, and the place that it carries.
use Rattle.std.specs.Prelude.{ℕ}
use Rattle.reply.specs.declared.fault.ReadFault.{ReadFault}
use Rattle.reply.specs.declared.fault.ReadFault.TheVariants.{NothingWhole, BadPair}

abbrev pub read_fault_number : ReadFault → ℕ
read_fault_number NothingWhole = 37
read_fault_number (BadPair place) = 38

-- counted from the input's first byte; 0 where nothing is heard
abbrev pub read_fault_place : ReadFault → ℕ
read_fault_place NothingWhole = 0
read_fault_place (BadPair place) = place
