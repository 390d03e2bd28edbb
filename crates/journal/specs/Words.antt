-- The words of a journal, 32 bits each. Bits 31..30 are a word's kind: 0 begins a setting, 1 is a part of its value, 2 is a removal, 3 is blank.
use Rattle.std.specs.Prelude.{ℕ, zero, suc, ◌+◌, ◌*◌, ◌/◌, ◌%◌, ◌^◌, cond, ◌&&◌, List, [], ◌∷◌, Some, None, Option, ◌==◌}
use Rattle.item.specs.declared.key.Size.{Size}
use Rattle.item.specs.declared.key.Size.TheVariants.{Bit, One, Two, Four, Eight}
use Rattle.item.specs.Keys.{size_of, size_bits, group_of, item_bits, well_formed}
use Rattle.journal.specs.declared.word.Kind.{Kind}
use Rattle.journal.specs.declared.word.Kind.TheVariants.{Head, Part, Removal, Blank}

abbrev pub kind_of : ℕ → Kind
kind_of w = cond (w / 2 ^ 30 == 0) Head (cond (w / 2 ^ 30 == 1) Part (cond (w / 2 ^ 30 == 2) Removal Blank))

-- a blank word is all ones
abbrev pub blank : ℕ
blank = 0xffffffff

-- a key with the size in bits 22..20, the group in 19..12 and the item in 11..0
abbrev pub key_in : ℕ → ℕ
key_in w = w / 2 ^ 20 % 8 * 2 ^ 28 + w / 2 ^ 12 % 256 * 2 ^ 16 + w % 2 ^ 12

-- the key that a setting's first word or a removal names: zeros in bits 29..23, and the key is well formed
abbrev pub key_named : ℕ → Option ℕ
key_named w = cond (w / 2 ^ 23 % 2 ^ 7 == 0 && well_formed (key_in w)) (Some (key_in w)) None

-- the part of a value in bits 15..0: zeros in bits 29..16
abbrev pub part_carried : ℕ → Option ℕ
part_carried w = cond (w / 2 ^ 16 % 2 ^ 14 == 0) (Some (w % 2 ^ 16)) None

-- values have 1, 1, 1, 2 and 4 parts by their size
abbrev pub parts_of : Option Size → ℕ
parts_of None = 0
parts_of (Some Bit) = 1
parts_of (Some One) = 1
parts_of (Some Two) = 1
parts_of (Some Four) = 2
parts_of (Some Eight) = 4

abbrev pub parts_under : ℕ → ℕ
parts_under k = parts_of (size_of k)

-- Words that are written

abbrev pub head_word : ℕ → ℕ
head_word k = size_bits k * 2 ^ 20 + group_of k * 2 ^ 12 + item_bits k

abbrev pub removal_word : ℕ → ℕ
removal_word k = 2 * 2 ^ 30 + head_word k

abbrev pub part_word : ℕ → ℕ
part_word v = 2 ^ 30 + v % 2 ^ 16

-- so many parts of a value, the low part first
unfoldable pub part_words : ℕ → ℕ → List ℕ
part_words zero v = []
part_words (suc n) v = part_word v ∷ part_words n (v / 2 ^ 16)

-- the record of a setting: its first word, then its value's parts
abbrev pub setting_words : ℕ → ℕ → List ℕ
setting_words k v = head_word k ∷ part_words (parts_under k) v
