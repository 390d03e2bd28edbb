-- What is said of a line that is refused.
use Rattle.std.specs.Prelude.{ℕ, List, ◌++◌, codes, decimal}
use Rattle.script.specs.declared.fault.LineFault.{LineFault}
use Rattle.script.specs.declared.fault.LineFault.TheVariants.{UnknownCommand, Form, NoKey, NoByte, NoWord, NoNumber, NoCount, SetUpAfterMake, CallBeforeMake, NoMemory}

abbrev pub line_fault_text : LineFault → List ℕ
line_fault_text UnknownCommand = codes "there is no such command"
line_fault_text (Form form) = codes "expected: " ++ form.now
line_fault_text NoKey = codes "a key is a hexadecimal number up to ffffffff"
line_fault_text NoByte = codes "a byte is a hexadecimal number up to ff"
line_fault_text NoWord = codes "a word is a hexadecimal number up to ffffffff"
line_fault_text (NoNumber most) = codes "expected a decimal number up to " ++ decimal most
line_fault_text NoCount = codes "expected a decimal number"
line_fault_text SetUpAfterMake = codes "set-up ends with make; new begins another receiver"
line_fault_text CallBeforeMake = codes "there is no receiver before make"
line_fault_text NoMemory = codes "there is no memory left"
