-- The parts of a receiver that is made of numbers, and why none is made.
use Rattle.std.specs.Prelude.{◌≡◌, ℕ, if◌then◌else◌, nat_le, true, List, [], map, take, length, Some}
use Rattle.frame.specs.Written.{in_front}
use Rattle.rule.specs.Rules.{both_find, ranges, first_broken}
use Rattle.journal.specs.Inspecting.{held_in, is_accepted}
use Rattle.reference.specs.Stores.{Store}
use Rattle.reference.specs.Parts.{Parts, parts_of, parts_fault}
use Rattle.embed.specs.declared.numbers.UbxEntry.{UbxEntry}
use Rattle.embed.specs.declared.numbers.UbxNeed.{UbxNeed}
use Rattle.embed.specs.declared.board.MakeFault.{MakeFault}
use Rattle.embed.specs.declared.board.MakeFault.TheVariants.{NoMemory, Refused}
use Rattle.embed.specs.Numbers.{entry_of, need_of}

-- Flash, by the words of its journal
abbrev pub words_store : List ℕ → Store
words_store ws = record { usable = is_accepted ws; settings = held_in ws }

-- BBR, empty
abbrev pub empty_store : Store
empty_store = record { usable = true; settings = [] }

-- a catalogue, ranges and the first 64 needs, an empty BBR, and the journal in these words
abbrev pub board_parts : List UbxEntry → List UbxNeed → List ℕ → Parts
board_parts es ns ws = parts_of (map entry_of es) (both_find ranges (first_broken (take 64 (map need_of ns)))) empty_store (words_store ws)

-- of want of memory nothing is promised
abbrev pub IsRefused : Parts → MakeFault → Type 0
IsRefused p NoMemory = Unit {0}
IsRefused p (Refused f) = parts_fault p ≡ Some f

-- words at the start of a buffer, if it has room for them
abbrev pub in_front_if_room : List ℕ → List ℕ → List ℕ
in_front_if_room ws old = if nat_le (length ws) (length old) then in_front ws old else old

-- so many words that hold what a store holds, at the start of a buffer if it has room for them
pub record CopiedTo (flash : Store) (old new : List ℕ) (count : ℕ) : Type 0 where
  pub words : List ℕ
  pub held : words_store words ≡ flash
  pub counted : count ≡ length words
  pub copied : new ≡ in_front_if_room words old
