-- Keys: a size in bits 30..28, a group in bits 23..16, an item in bits 11..0, and zeros elsewhere. The size says which values there are.
use Rattle.std.specs.Prelude.{ℕ, ◌+◌, ◌*◌, ◌/◌, ◌%◌, ◌^◌, Bool, false, cond, ◌&&◌, Some, None, Option, ◌==◌, nat_le, nat_lt}
use Rattle.item.specs.declared.key.Size.{Size}
use Rattle.item.specs.declared.key.Size.TheVariants.{Bit, One, Two, Four, Eight}

-- the bytes of a value; a bit has a byte to itself
abbrev pub width_of : Size → ℕ
width_of Bit = 1
width_of One = 1
width_of Two = 2
width_of Four = 4
width_of Eight = 8

-- the first number that is no value
abbrev pub limit_of : Size → ℕ
limit_of Bit = 2
limit_of One = 2 ^ 8
limit_of Two = 2 ^ 16
limit_of Four = 2 ^ 32
limit_of Eight = 2 ^ 64

abbrev pub fits : Size → ℕ → Bool
fits s v = nat_lt v (limit_of s)

-- bits 30..28, 23..16 and 11..0 of a number
abbrev pub size_bits : ℕ → ℕ
size_bits k = k / 2 ^ 28 % 8

abbrev pub group_of : ℕ → ℕ
group_of k = k / 2 ^ 16 % 256

abbrev pub item_bits : ℕ → ℕ
item_bits k = k % 2 ^ 12

abbrev pub size_at : ℕ → Option Size
size_at n =
    cond (n == 1) (Some Bit) (cond (n == 2) (Some One) (cond (n == 3) (Some Two) (cond (n == 4) (Some Four) (cond (n == 5) (Some Eight) None))))

abbrev pub size_of : ℕ → Option Size
size_of k = size_at (size_bits k)

-- size 1 to 5, group 01 to fe, item 001 to ffe, zeros elsewhere
abbrev pub well_formed : ℕ → Bool
well_formed k =
    nat_le 1 (size_bits k) && (nat_le (size_bits k) 5 && (nat_le 1 (group_of k) && (nat_le (group_of k) 0xfe && (nat_le 1 (item_bits k) && (nat_le (item_bits k) 0xffe
    && k == size_bits k * 2 ^ 28 + group_of k * 2 ^ 16 + item_bits k)))))

-- a value of the size that a key has; a size of 0, 6 or 7 has none
abbrev pub fits_size : Option Size → ℕ → Bool
fits_size None v = false
fits_size (Some s) v = fits s v

abbrev pub fits_key : ℕ → ℕ → Bool
fits_key k v = fits_size (size_of k) v
