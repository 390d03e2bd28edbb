-- What a hexadecimal hole of a format writes.
use Rattle.std.proofs.Common.{◌≡◌, ℕ, ◌-◌, ◌^◌, false, [], length, append-nil, arith}
use Rattle.std.specs.Fmt.{digits, padded_integral, format_spec, char_count}
use Rattle.frame.specs.Texts.{hexadecimal}

pub padded_hexadecimal : (width n : ℕ) → padded_integral (format_spec 32 0 4 width (2 ^ 64 - 1)) false [] (digits 16 false n) ≡ hexadecimal width n
unfolding padded_integral char_count
padded_hexadecimal width n =
    let short : width - length (digits 16 false n) - 0 - 0 ≡ width - length (digits 16 false n) = omega arith in
    rw (short, append-nil (digits 16 false n))
