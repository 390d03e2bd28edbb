-- Little-endian numbers, and values by their size.
use Rattle.std.specs.Prelude.{◌≡◌, ℕ, zero, suc, ◌+◌, ◌*◌, ◌/◌, ◌%◌, ◌<◌, cond, List, [], ◌∷◌, length, take, Some, None, Ok, Err, Option, Result, nat_le}
use Rattle.item.specs.declared.key.Size.{Size}
use Rattle.item.specs.declared.key.Size.TheVariants.{Bit, One, Two, Four, Eight}
use Rattle.item.specs.declared.value.ValueFault.{ValueFault}
use Rattle.item.specs.declared.value.ValueFault.TheVariants.{Unfit, BufferTooShort}
use Rattle.item.specs.Keys.{width_of, limit_of, fits}

-- the number that bytes are, the lowest first
unfoldable pub number : List ℕ → ℕ
number [] = 0
number (b ∷ bs) = b + 256 * number bs

-- the lowest w bytes of a number
unfoldable pub bytes_of : ℕ → ℕ → List ℕ
bytes_of zero n = []
bytes_of (suc w) n = n % 256 ∷ bytes_of w (n / 256)

abbrev pub value_bytes : Size → ℕ → List ℕ
value_bytes s v = bytes_of (width_of s) v

-- The value in the first bytes: their number, and of a bit's byte bit 0 alone.
abbrev pub value_in : Size → List ℕ → ℕ
value_in s bs = number (take (width_of s) bs) % limit_of s

-- none where there are too few bytes
abbrev pub value_read : Size → List ℕ → Option ℕ
value_read s bs = cond (nat_le (width_of s) (length bs)) (Some (value_in s bs)) None

-- what of a value's bytes is read: all, but of a bit's byte only bit 0
abbrev pub read_bytes : Size → List ℕ → List ℕ
read_bytes Bit [] = []
read_bytes Bit (b ∷ bs) = b % 2 ∷ bs
read_bytes One bs = bs
read_bytes Two bs = bs
read_bytes Four bs = bs
read_bytes Eight bs = bs

-- What was read is a value of its size, and writing it gives the bytes that were read.
pub record ReadAs (s : Size) (bs : List ℕ) (v : ℕ) : Type 0 where
  pub fits : v < limit_of s
  pub written : value_bytes s v ≡ read_bytes s (take (width_of s) bs)

-- Writing a value at a place of a buffer of so many bytes: refused where it does not fit its size, then where the buffer ends too soon; else
-- the place behind it.
abbrev pub value_written : Size → ℕ → ℕ → ℕ → Result ℕ ValueFault
value_written s v place room = cond (fits s v) (cond (nat_le (place + width_of s) room) (Ok (place + width_of s)) (Err BufferTooShort)) (Err Unfit)
