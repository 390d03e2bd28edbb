-- The texts of refusals.
use Rattle.std.specs.Prelude.{ℕ, List, ◌++◌, codes, decimal}
use Rattle.catalogue.specs.declared.entries.CatalogueFault.{CatalogueFault}
use Rattle.catalogue.specs.declared.entries.CatalogueFault.TheVariants.{EntryCount, IllFormedKey, OutOfOrder, Unsound}

abbrev pub catalogue_fault_text : CatalogueFault → List ℕ
catalogue_fault_text EntryCount = codes "a catalogue has 1 to 128 entries"
catalogue_fault_text (IllFormedKey place) = codes "entry " ++ decimal place ++ codes ": the key is ill-formed"
catalogue_fault_text (OutOfOrder place) = codes "entry " ++ decimal place ++ codes ": the key is not above the one before it"
catalogue_fault_text (Unsound place) = codes "entry " ++ decimal place ++ codes ": the kind, a value or the default's bounds are wrong"
