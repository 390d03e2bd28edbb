-- The texts of refusals.
use Rattle.std.specs.Prelude.{ℕ, List, ◌++◌, codes, decimal}
use Rattle.reply.specs.declared.fault.ReadFault.{ReadFault}
use Rattle.reply.specs.declared.fault.ReadFault.TheVariants.{NothingWhole, BadPair}

abbrev pub read_fault_text : ReadFault → List ℕ
read_fault_text NothingWhole = codes "no whole frame is heard"
read_fault_text (BadPair place) = codes "the pair at place " ++ decimal place ++ codes " is cut or its key is ill-formed"
