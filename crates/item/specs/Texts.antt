-- The texts of refusals.
use Rattle.std.specs.Prelude.{ℕ, List, codes}
use Rattle.item.specs.declared.value.ValueFault.{ValueFault}
use Rattle.item.specs.declared.value.ValueFault.TheVariants.{Unfit, BufferTooShort}

abbrev pub value_fault_text : ValueFault → List ℕ
value_fault_text Unfit = codes "the value does not fit its size"
value_fault_text BufferTooShort = codes "the buffer ends before the value does"
