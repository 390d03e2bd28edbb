-- Reading the data of a set or delete into changes of items.
use Rattle.std.specs.Prelude.{◌≡◌, ℕ, ◌+◌, ◌%◌, ◌≤◌, cond, List, length, take, drop, Some, None, Ok, Err, Option, Result, ◌==◌, nat_lt, slice_index_or}
use Rattle.item.specs.Keys.{size_of}
use Rattle.item.specs.Values.{number}
use Rattle.catalogue.specs.declared.entries.Entry.{Entry}
use Rattle.reference.specs.declared.refusal.Refusal.{Refusal}
use Rattle.reference.specs.declared.refusal.Refusal.TheVariants.{CutEntry, UnknownKey}
use Rattle.reference.specs.Requests.{Catalogue, valset, Data, Changes, latest, and_later, Read, cut, unknown, read, read_map, bytes_at, limit_at, pair_read, deletion_read}
use Rattle.request.specs.declared.change.Change.{Change}
use Rattle.request.specs.declared.data.Pair.{Pair}
use Rattle.request.specs.declared.data.EntryFault.{EntryFault}
use Rattle.request.specs.declared.data.EntryFault.TheVariants.{Cut, Unknown}
use Rattle.request.specs.Changes.{changes_by}

-- what was read means under a catalogue
abbrev pub read_as : List Entry → List (Option Change) → Result (Unit {0}) Refusal → Result Changes Refusal
read_as es slots (Ok tt) = Ok (changes_by es slots)
read_as es slots (Err r) = Err r

-- the pair at the front, whether or not its key is known; none where it is cut
abbrev pub pair_in : List ℕ → Option Pair
pair_in bs =
    let k : ℕ = number (take 4 bs) in
    let w : ℕ = bytes_at (size_of k) in
    cond (nat_lt (length bs) (4 + w)) None (Some (record { key = k; value = number (take w (drop 4 bs)) % limit_at (size_of k); len = 4 + w }))

-- an entry of a set is a pair, any other a key or selector to delete
abbrev pub entry_read : Catalogue → ℕ → List ℕ → Read Data
entry_read cat id bs = cond (id == valset) (pair_read cat bs) (deletion_read cat bs)

abbrev pub fault_at : ℕ → EntryFault → Refusal
fault_at place Cut = CutEntry place
fault_at place Unknown = UnknownKey place

-- what data change over what slots change already
abbrev pub over : List Entry → List (Option Change) → Data → Changes
over es slots d = and_later (changes_by es slots) (latest d)

-- the answer, and the changes where the entry was taken
abbrev pub taken_as : List Entry → List (Option Change) → Result ℕ EntryFault → Read Changes
taken_as es slots (Ok n) = read n (changes_by es slots)
taken_as es slots (Err Cut) = cut
taken_as es slots (Err Unknown) = unknown

abbrev pub Within : ℕ → Result ℕ EntryFault → Type 0
Within room (Ok n) = (4 ≤ n) × (n ≤ room)
Within room (Err f) = Unit {0}

-- the slots behind the first n are the same
abbrev pub SameBehind : ℕ → List (Option Change) → List (Option Change) → Type 0
SameBehind n before after = (i : ℕ) → n ≤ i → slice_index_or after i None ≡ slice_index_or before i None

-- An entry that is read so was taken over the changes before, or refused; one that was taken has 4 bytes or more, and not more than there are. The slots behind those of the items stay.
pub record Taken (es : List Entry) (entry : Read Data) (room : ℕ) (before after : List (Option Change)) (r : Result ℕ EntryFault) : Type 0 where
  pub value : taken_as es after r ≡ read_map (over es before) entry
  pub within : Within room r
  pub behind : SameBehind (length es) before after
