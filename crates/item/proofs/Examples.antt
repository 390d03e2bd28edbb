-- The definitions computed on worked keys, numbers and bytes.
use Rattle.std.proofs.Common.{◌≡◌, true, false, ◌&&◌, ◌||◌, [], ◌∷◌, map, replicate, Some, None, Ok, Err, refl, arith}
use Rattle.item.specs.declared.key.Size.TheVariants.{Bit, One, Two, Four, Eight}
use Rattle.item.specs.declared.selector.Selector.TheVariants.{All, Group, Key}
use Rattle.item.specs.declared.value.ValueFault.TheVariants.{Unfit, BufferTooShort}
use Rattle.item.specs.Keys.{fits, size_of, well_formed, fits_key}
use Rattle.item.specs.Selectors.{selector_of, names}
use Rattle.item.specs.Values.{number, bytes_of, value_bytes, value_read, ReadAs, value_written}

-- sizes 0 to 7, and a size below bits that are not its own
sizes : map size_of (0x00510001 ∷ 0x10510001 ∷ 0x20510001 ∷ 0x30510001 ∷ 0x40510001 ∷ 0x50510001 ∷ 0x60510001 ∷ 0x70510001 ∷ 0xafffffff ∷ [])
    ≡ None ∷ Some Bit ∷ Some One ∷ Some Two ∷ Some Four ∷ Some Eight ∷ None ∷ None ∷ Some One ∷ []
sizes = refl

-- the least and the greatest of each part of a key
keys : map well_formed (0x10010001 ∷ 0x50010001 ∷ 0x20fe0001 ∷ 0x20010ffe ∷ 0x30510001 ∷ []) ≡ replicate 5 true
keys = refl

-- size 0 and 6, bit 31, bits 27 and 24, group 00 and ff, bits 15 and 12, item 000 and fff
no_keys : map well_formed (0x00510001 ∷ 0x60510001 ∷ 0xa0510001 ∷ 0x28510001 ∷ 0x21510001 ∷ 0x20000001 ∷ 0x20ff0001 ∷ 0x20518001 ∷ 0x20511001 ∷ 0x20510000 ∷ 0x20510fff ∷ [])
    ≡ replicate 11 false
no_keys = refl

-- the greatest value of each size, and the number behind it
values_fit : fits Bit 1 && fits One 0xff && fits Two 0xffff && fits Four 0xffffffff && fits Eight 0xffffffffffffffff ≡ true
values_fit = refl

values_unfit : fits Bit 2 || fits One 0x100 || fits Two 0x10000 || fits Four 0x100000000 || fits Eight 0x10000000000000000 ≡ false
values_unfit = refl

-- no value has a size of 0, 6 or 7
none_fit : fits_key 0x00510001 0 || fits_key 0x60510001 0 || fits_key 0x70510001 0 ≡ false
none_fit = refl

-- Selectors

-- for all, whatever bits 31..28 and 15..0 are
all : map selector_of (0x0fff0000 ∷ 0xffff0001 ∷ 0x0fffffff ∷ []) ≡ replicate 3 All
all = refl

-- for a group, whatever bits 31..28 are
groups : map selector_of (0x0051ffff ∷ 0xf051ffff ∷ 0x0000ffff ∷ 0x00ffffff ∷ []) ≡ Group 0x51 ∷ Group 0x51 ∷ Group 0 ∷ Group 0xff ∷ []
groups = refl

-- neither: bits 27..16 not all ones, bits 15..0 not all ones, bits 27 or 24 of a group
others : map selector_of (0x00ff0000 ∷ 0x0f7f0000 ∷ 0x00510fff ∷ 0x0051fffe ∷ 0x0851ffff ∷ 0x0151ffff ∷ [])
    ≡ map Key (0x00ff0000 ∷ 0x0f7f0000 ∷ 0x00510fff ∷ 0x0051fffe ∷ 0x0851ffff ∷ 0x0151ffff ∷ [])
others = refl

named : names All 0x20510001 && names (Group 0x51) 0x20510001 && names (Key 0x20510001) 0x20510001 ≡ true
named = refl

unnamed : names (Group 0x50) 0x20510001 || names (Group 0x52) 0x20510001 || names (Key 0x10510001) 0x20510001 ≡ false
unnamed = refl

-- Values

-- low byte first, of a bit's byte bit 0 alone, and none where a byte is missing
read : value_read Bit (0xfe ∷ []) ≡ Some 0
unfolding number
read = refl

read_odd : value_read Bit (0x43 ∷ 0x12 ∷ []) ≡ Some 1
unfolding number
read_odd = refl

read_two : value_read Two (0x43 ∷ 0x12 ∷ 0xee ∷ []) ≡ Some 0x1243
unfolding number
read_two = refl

read_cut : value_read Two (0x43 ∷ []) ≡ None
unfolding number
read_cut = refl

written : value_bytes Four 0x20510001 ≡ 0x01 ∷ 0x00 ∷ 0x51 ∷ 0x20 ∷ []
unfolding bytes_of
written = refl

-- an unfit value comes before a buffer that ends too soon; a buffer that ends with the value does not
refused : value_written One 0x100 9 0 ≡ Err Unfit
refused = refl

too_short : value_written Four 0 3 6 ≡ Err BufferTooShort
too_short = refl

fitting : value_written Four 0 2 6 ≡ Ok 6
fitting = refl

-- What is read as a value is pinned by it: no other byte than the value's, but for what of a bit's is passed over

-- a number that is no value is not what was read
no_value : ReadAs Bit (2 ∷ []) 2 → ⊥
no_value r = absurd (omega (arith, r.fits))

-- nor is another byte's
other_byte : ReadAs One (5 ∷ []) 6 → ⊥
unfolding bytes_of
other_byte r = absurd (cc r.written)

-- nor the other bit
other_bit : ReadAs Bit (0xfe ∷ []) 1 → ⊥
unfolding bytes_of
other_bit r = absurd (cc r.written)
