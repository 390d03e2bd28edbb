-- Writing: what a buffer holds after bytes were written into it, and what writing a frame answers.
use Rattle.std.specs.Prelude.{ℕ, ◌+◌, cond, List, ◌++◌, length, take, drop, Ok, Err, Result, nat_le}
use Rattle.frame.specs.declared.writer.WriteFault.{WriteFault}
use Rattle.frame.specs.declared.writer.WriteFault.TheVariants.{PayloadTooLong, BufferTooShort}
use Rattle.frame.specs.Frames.{Message, size_of, max_payload}

-- the bytes bs stand from `place` on, and all else as in old
unfoldable pub patched : ℕ → List ℕ → List ℕ → List ℕ
patched place bs old = take place old ++ (bs ++ drop (place + length bs) old)

-- the bytes bs stand at the start, and all behind them as in old
abbrev pub in_front : List ℕ → List ℕ → List ℕ
in_front bs old = bs ++ drop (length bs) old

-- Writing a frame into a buffer of so many bytes: refused where the payload has over 772 bytes, then where the buffer is too short; else
-- the frame's size.
abbrev pub written : Message → ℕ → Result ℕ WriteFault
written m room = cond (nat_le (length m.payload) max_payload) (cond (nat_le (size_of m) room) (Ok (size_of m)) (Err BufferTooShort)) (Err PayloadTooLong)
