-- The two check bytes of a run of bytes: both start at 0; each byte is added to A, then A to B, modulo 256.
use Rattle.std.specs.Prelude.{ℕ, ◌+◌, ◌-◌, ◌*◌, ◌%◌, List, [], ◌∷◌}
use Rattle.frame.specs.declared.sums.CheckBytes.{CheckBytes}

abbrev pub with_byte : CheckBytes → ℕ → CheckBytes
with_byte s x = let a : ℕ = (s.a + x) % 256 in record { a = a; b = (s.b + a) % 256 }

-- what the sums s become over more bytes
unfoldable pub summed : CheckBytes → List ℕ → CheckBytes
summed s [] = s
summed s (x ∷ xs) = summed (with_byte s x) xs

abbrev pub no_sums : CheckBytes
no_sums = record { a = 0; b = 0 }

abbrev pub check_bytes : List ℕ → CheckBytes
check_bytes bs = summed no_sums bs

-- the sums behind each of the bytes
unfoldable pub running_sums : CheckBytes → List ℕ → List CheckBytes
running_sums s [] = []
running_sums s (x ∷ xs) = with_byte s x ∷ running_sums (with_byte s x) xs

-- The check bytes of n bytes before which the sums are s and behind which they are t: each of the n sums A is s.a too large.
abbrev pub sums_between : CheckBytes → CheckBytes → ℕ → CheckBytes
sums_between s t n = record { a = (t.a + 256 - s.a) % 256; b = (t.b + 256 - (n * s.a + s.b) % 256) % 256 }
