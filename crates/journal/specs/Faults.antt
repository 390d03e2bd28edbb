-- Each refusal's number, and the word that it carries.
use Rattle.std.specs.Prelude.{ℕ}
use Rattle.journal.specs.declared.fault.JournalFault.{JournalFault}
use Rattle.journal.specs.declared.fault.JournalFault.TheVariants.{WordCount, OutOfPlace, Malformed, Unfit, TooMany}

abbrev pub fault_number : JournalFault → ℕ
fault_number WordCount = 22
fault_number (OutOfPlace word) = 23
fault_number (Malformed word) = 24
fault_number (Unfit word) = 25
fault_number (TooMany word) = 26

abbrev pub fault_word : JournalFault → ℕ
fault_word WordCount = 0
fault_word (OutOfPlace word) = word
fault_word (Malformed word) = word
fault_word (Unfit word) = word
fault_word (TooMany word) = word
