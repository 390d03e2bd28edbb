-- The kinds of values, and the numbers that name them: 0 unsigned, 1 two's complement, 2 bits.
use Rattle.std.specs.Prelude.{ℕ, Bool, true, false, cond, ◌==◌}
use Rattle.catalogue.specs.declared.kind.Kind.{Kind}
use Rattle.catalogue.specs.declared.kind.Kind.TheVariants.{Unsigned, Signed, Bits, Unknown}

abbrev pub kind_of : ℕ → Kind
kind_of n = cond (n == 0) Unsigned (cond (n == 1) Signed (cond (n == 2) Bits (Unknown n)))

abbrev pub is_signed : Kind → Bool
is_signed Unsigned = false
is_signed Signed = true
is_signed Bits = false
is_signed (Unknown n) = false

abbrev pub is_bits : Kind → Bool
is_bits Unsigned = false
is_bits Signed = false
is_bits Bits = true
is_bits (Unknown n) = false

-- a kind that there is
abbrev pub is_known : Kind → Bool
is_known Unsigned = true
is_known Signed = true
is_known Bits = true
is_known (Unknown n) = false
