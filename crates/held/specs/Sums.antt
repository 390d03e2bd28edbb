-- Sums beside bytes. Of the two sums only B is kept: A is what it grew by at its last byte.
use Rattle.std.specs.Prelude.{◌≡◌, ℕ, ◌+◌, ◌-◌, ◌%◌, ◌<◌, List, slice_index}
use Rattle.frame.specs.declared.sums.CheckBytes.{CheckBytes}
use Rattle.frame.specs.Checksum.{with_byte}

-- the sums before the byte at a place, of which B stands one further on
abbrev pub sums_before : List ℕ → ℕ → CheckBytes
sums_before kept place = record { a = (slice_index kept (place + 1) + 256 - slice_index kept place) % 256; b = slice_index kept (place + 1) }

-- behind each of the first n bytes are the sums before it, with it
abbrev pub SummedTo : List ℕ → List ℕ → ℕ → Type 0
SummedTo bytes kept n = (i : ℕ) → i < n → slice_index kept (i + 2) ≡ (with_byte (sums_before kept i) (slice_index bytes i)).b
