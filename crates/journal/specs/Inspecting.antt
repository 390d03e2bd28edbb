-- Inspection: what the records of a buffer leave, read in order, or what is wrong with the first wrong word.
use Rattle.std.specs.Prelude.{ℕ, suc, ◌+◌, ◌*◌, ◌^◌, Bool, cond, ◌&&◌, List, [], ◌∷◌, length, Some, None, Ok, Err, Option, Result, is_ok, ◌==◌, nat_le}
use Rattle.item.specs.Keys.{fits_key}
use Rattle.layer.specs.declared.setting.Setting.{Setting}
use Rattle.layer.specs.Settings.{with_value, without}
use Rattle.layer.specs.Stores.{room}
use Rattle.journal.specs.declared.fault.JournalFault.{JournalFault}
use Rattle.journal.specs.declared.fault.JournalFault.TheVariants.{WordCount, OutOfPlace, Malformed, Unfit, TooMany}
use Rattle.journal.specs.declared.word.Kind.{Kind}
use Rattle.journal.specs.declared.word.Kind.TheVariants.{Head, Part, Removal, Blank}
use Rattle.journal.specs.Words.{kind_of, blank, key_named, part_carried, parts_under}

-- a setting that has begun: the place of its first word, its key, the value of the parts that have come, and how many these are
pub record Begun : Type 0 where
  pub head : ℕ
  pub key : ℕ
  pub value : ℕ
  pub parts : ℕ

-- what may stand next: a record or a blank; a part of the setting that has begun; blanks alone
pub data Next : Type 0 where
  any_record : Next
  part_for : Begun → Next
  only_blanks : Next

-- what was read so far: the settings that are held, and what may stand next
pub record Progress : Type 0 where
  pub held : List Setting
  pub next : Next

abbrev pub progress : List Setting → Next → Progress
progress ss n = record { held = ss; next = n }

-- a setting begins
abbrev pub begins : ℕ → List Setting → Option ℕ → Result Progress JournalFault
begins place ss (Some k) = Ok (progress ss (part_for (record { head = place; key = k; value = 0; parts = 0 })))
begins place ss None = Err (Malformed place)

-- a removal; what is not held may be removed too
abbrev pub removes : ℕ → List Setting → Option ℕ → Result Progress JournalFault
removes place ss (Some k) = Ok (progress (without k ss) any_record)
removes place ss None = Err (Malformed place)

abbrev pub blanks : ℕ → ℕ → List Setting → Result Progress JournalFault
blanks place w ss = cond (w == blank) (Ok (progress ss only_blanks)) (Err (Malformed place))

-- a setting whose last part has come is held, if its value fits and there is room; else its first word is told
abbrev pub ends_as : List Setting → ℕ → ℕ → ℕ → Result Progress JournalFault
ends_as ss head k v = cond (fits_key k v) (cond (room k ss) (Ok (progress (with_value k v ss) any_record)) (Err (TooMany head))) (Err (Unfit head))

-- a setting with one part more
abbrev pub goes_on : List Setting → Begun → Result Progress JournalFault
goes_on ss b = cond (b.parts == parts_under b.key) (ends_as ss b.head b.key b.value) (Ok (progress ss (part_for b)))

-- a part, the low one first
abbrev pub with_part : Begun → ℕ → Begun
with_part b p = record { head = b.head; key = b.key; value = b.value + p * 2 ^ (16 * b.parts); parts = b.parts + 1 }

abbrev pub takes_part : ℕ → List Setting → Begun → Option ℕ → Result Progress JournalFault
takes_part place ss b (Some p) = goes_on ss (with_part b p)
takes_part place ss b None = Err (Malformed place)

-- one word, by its kind and by what may stand there
abbrev pub word_read : ℕ → ℕ → List Setting → Next → Kind → Result Progress JournalFault
word_read place w ss any_record Head = begins place ss (key_named w)
word_read place w ss any_record Part = Err (OutOfPlace place)
word_read place w ss any_record Removal = removes place ss (key_named w)
word_read place w ss any_record Blank = blanks place w ss
word_read place w ss (part_for b) Head = Err (OutOfPlace place)
word_read place w ss (part_for b) Part = takes_part place ss b (part_carried w)
word_read place w ss (part_for b) Removal = Err (OutOfPlace place)
word_read place w ss (part_for b) Blank = Err (OutOfPlace place)
word_read place w ss only_blanks Head = Err (OutOfPlace place)
word_read place w ss only_blanks Part = Err (OutOfPlace place)
word_read place w ss only_blanks Removal = Err (OutOfPlace place)
word_read place w ss only_blanks Blank = blanks place w ss

abbrev pub after_word : ℕ → ℕ → Progress → Result Progress JournalFault
after_word place w p = word_read place w p.held p.next (kind_of w)

-- after the words from a place on
unfoldable pub after_words : ℕ → List ℕ → Result Progress JournalFault → Result Progress JournalFault
after_words place ws (Err f) = Err f
after_words place [] (Ok p) = Ok p
after_words place (w ∷ ws) (Ok p) = after_words (suc place) ws (after_word place w p)

-- at the end, which may not cut a setting
abbrev pub at_end : ℕ → List Setting → Next → Result (List Setting) JournalFault
at_end count ss any_record = Ok ss
at_end count ss (part_for b) = Err (OutOfPlace count)
at_end count ss only_blanks = Ok ss

abbrev pub if_read : ℕ → Result Progress JournalFault → Result (List Setting) JournalFault
if_read count (Ok p) = at_end count p.held p.next
if_read count (Err f) = Err f

-- 640 to 16,384 words
abbrev pub inspected : List ℕ → Result (List Setting) JournalFault
inspected ws =
    cond (nat_le 640 (length ws) && nat_le (length ws) 16384) (if_read (length ws) (after_words 0 ws (Ok (progress [] any_record)))) (Err WordCount)

-- what a buffer holds: what its records leave, and nothing where it is refused
abbrev pub held_or_none : Result (List Setting) JournalFault → List Setting
held_or_none (Ok ss) = ss
held_or_none (Err f) = []

abbrev pub held_in : List ℕ → List Setting
held_in ws = held_or_none (inspected ws)

abbrev pub is_accepted : List ℕ → Bool
is_accepted ws = is_ok (inspected ws)
