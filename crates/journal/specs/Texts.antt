-- The texts of refusals.
use Rattle.std.specs.Prelude.{ℕ, List, ◌++◌, codes, decimal}
use Rattle.journal.specs.declared.fault.JournalFault.{JournalFault}
use Rattle.journal.specs.declared.fault.JournalFault.TheVariants.{WordCount, OutOfPlace, Malformed, Unfit, TooMany}

abbrev pub journal_fault_text : JournalFault → List ℕ
journal_fault_text WordCount = codes "a journal has 640 to 16384 words"
journal_fault_text (OutOfPlace word) = codes "word " ++ decimal word ++ codes " cannot stand where it does, or the end cuts a setting"
journal_fault_text (Malformed word) = codes "word " ++ decimal word ++ codes " has a wrong key or wrong bits"
journal_fault_text (Unfit word) = codes "the value of the setting at word " ++ decimal word ++ codes " does not fit its key's size"
journal_fault_text (TooMany word) = codes "128 settings are held before the one at word " ++ decimal word
