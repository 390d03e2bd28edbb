-- The texts of refusals, and numbers in text.
use Rattle.std.specs.Prelude.{ℕ, false, ◌-◌, List, ◌++◌, length, replicate, codes}
use Rattle.std.specs.Fmt.{digits}
use Rattle.frame.specs.declared.writer.WriteFault.{WriteFault}
use Rattle.frame.specs.declared.writer.WriteFault.TheVariants.{PayloadTooLong, BufferTooShort}

abbrev pub write_fault_text : WriteFault → List ℕ
write_fault_text PayloadTooLong = codes "the payload has more than 772 bytes"
write_fault_text BufferTooShort = codes "the buffer is shorter than the frame"

-- a number in at least so many hexadecimal digits
abbrev pub hexadecimal : ℕ → ℕ → List ℕ
hexadecimal width n = replicate (width - length (digits 16 false n)) 48 ++ digits 16 false n
