-- The texts of refusals.
use Rattle.std.specs.Prelude.{ℕ, List, codes}
use Rattle.layer.specs.declared.fault.StoreFault.{StoreFault}
use Rattle.layer.specs.declared.fault.StoreFault.TheVariants.{Unusable, IllFormedKey, Unfit, Full}

abbrev pub store_fault_text : StoreFault → List ℕ
store_fault_text Unusable = codes "the store is not usable"
store_fault_text IllFormedKey = codes "the key is ill-formed"
store_fault_text Unfit = codes "the value does not fit the key's size"
store_fault_text Full = codes "128 settings are held already"
