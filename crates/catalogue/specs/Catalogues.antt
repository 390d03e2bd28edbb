-- Catalogues: lists of entries, the check that accepts them, and which of their items a key or selector names.
use Rattle.std.specs.Prelude.{◌≡◌, ℕ, suc, ◌+◌, ◌^◌, ◌<◌, ◌≤◌, Bool, true, false, cond, not, ◌&&◌, ◌||◌, List, [], ◌∷◌, length, drop, Some, None, Ok, Err, Option, Result, ◌≢◌, nat_le, slice_index_or}
use Rattle.catalogue.specs.declared.entries.CatalogueFault.{CatalogueFault}
use Rattle.catalogue.specs.declared.entries.CatalogueFault.TheVariants.{EntryCount, IllFormedKey, OutOfOrder, Unsound}
use Rattle.catalogue.specs.declared.entries.Entry.{Entry}
use Rattle.catalogue.specs.declared.kind.Kind.TheVariants.{Unsigned}
use Rattle.catalogue.specs.Kinds.{is_signed, is_bits, is_known}
use Rattle.item.specs.declared.key.Size.{Size}
use Rattle.item.specs.declared.key.Size.TheVariants.{Bit, One, Two, Four, Eight}
use Rattle.item.specs.declared.selector.Selector.{Selector}
use Rattle.item.specs.Keys.{size_of, well_formed, fits_key}
use Rattle.item.specs.Selectors.{names}

-- The order of values: unsigned, or of signed ones two's complement

-- the first number whose top bit is set, and so the first that is negative in two's complement
abbrev pub half_of : Size → ℕ
half_of Bit = 1
half_of One = 2 ^ 7
half_of Two = 2 ^ 15
half_of Four = 2 ^ 31
half_of Eight = 2 ^ 63

-- a ≤ b in two's complement: a negative number is below one that is not, and two of a kind are as the numbers are
abbrev pub signed_at_most : Size → ℕ → ℕ → Bool
signed_at_most s a b = cond (nat_le (half_of s) a) (cond (nat_le (half_of s) b) (nat_le a b) true) (cond (nat_le (half_of s) b) false (nat_le a b))

abbrev pub sized_at_most : Option Size → ℕ → ℕ → Bool
sized_at_most None a b = nat_le a b
sized_at_most (Some s) a b = signed_at_most s a b

abbrev pub at_most : Entry → ℕ → ℕ → Bool
at_most e a b = cond (is_signed e.kind) (sized_at_most (size_of e.key) a b) (nat_le a b)

-- low ≤ value ≤ high; the bounds of bits are not read
abbrev pub allows : Entry → ℕ → Bool
allows e v = is_bits e.kind || (at_most e e.low v && at_most e v e.high)

-- The check

-- a bit has no sign: the sizes of signed values are 2 to 5
abbrev pub is_bit : Option Size → Bool
is_bit None = false
is_bit (Some Bit) = true
is_bit (Some One) = false
is_bit (Some Two) = false
is_bit (Some Four) = false
is_bit (Some Eight) = false

abbrev pub kind_suits : Entry → Bool
kind_suits e = is_known e.kind && not (is_signed e.kind && is_bit (size_of e.key))

-- what is read fits the size
abbrev pub read_fits : Entry → Bool
read_fits e = fits_key e.key e.default && (is_bits e.kind || (fits_key e.key e.low && fits_key e.key e.high))

abbrev pub is_sound : Entry → Bool
is_sound e = kind_suits e && (read_fits e && allows e e.default)

-- the first thing wrong with an entry at this place, behind an entry with the key `below`
abbrev pub entry_fault : ℕ → ℕ → Entry → Option CatalogueFault
entry_fault place below e =
    cond (well_formed e.key) (cond (nat_le e.key below) (Some (OutOfOrder place)) (cond (is_sound e) None (Some (Unsound place)))) (Some (IllFormedKey place))

abbrev pub unless_fault : Option CatalogueFault → Result (Unit {0}) CatalogueFault → Result (Unit {0}) CatalogueFault
unless_fault None rest = rest
unless_fault (Some f) rest = Err f

abbrev pub entry_checked : ℕ → ℕ → Entry → Result (Unit {0}) CatalogueFault
entry_checked place below e = unless_fault (entry_fault place below e) (Ok tt)

-- entry by entry, from this place on, behind an entry with the key `below`
abbrev pub entries_checked : ℕ → ℕ → List Entry → Result (Unit {0}) CatalogueFault
entries_checked place below [] = Ok tt
entries_checked place below (e ∷ es) = let rest : Result (Unit {0}) CatalogueFault = entries_checked (suc place) e.key es in unless_fault (entry_fault place below e) rest

-- 1 to 128 entries, and nothing wrong with any; a key is above 0, so the first is in order
abbrev pub catalogue_checked : List Entry → Result (Unit {0}) CatalogueFault
catalogue_checked es = cond (nat_le 1 (length es) && nat_le (length es) 128) (entries_checked 0 0 es) (Err EntryCount)

-- each fault's number and the entry's place that it carries
abbrev pub fault_number : CatalogueFault → ℕ
fault_number EntryCount = 1
fault_number (IllFormedKey place) = 2
fault_number (OutOfOrder place) = 3
fault_number (Unsound place) = 4

abbrev pub fault_entry : CatalogueFault → ℕ
fault_entry EntryCount = 0
fault_entry (IllFormedKey place) = place
fault_entry (OutOfOrder place) = place
fault_entry (Unsound place) = place

-- What an accepted catalogue is

-- keys ascend strictly from above n on, each is well formed, and its entry is sound
unfoldable pub Listed : ℕ → List Entry → Type 0
Listed n [] = Unit {0}
Listed n (e ∷ es) = (n < e.key) × (well_formed e.key ≡ true) × (is_sound e ≡ true) × Listed e.key es

-- an entry to read where there is none
abbrev pub blank : Entry
blank = record { key = 0; kind = Unsigned; default = 0; low = 0; high = 0 }

-- so a key stands at one place at most
pub record OnlyOnce (es : List Entry) : Type 0 where
  pub listed : Listed 0 es
  pub distinct : (i j : ℕ) → i < length es → j < length es → (slice_index_or es i blank).key ≡ (slice_index_or es j blank).key → i ≡ j

pub record Accepted (es : List Entry) : Type 0 where
  pub some : 1 ≤ length es
  pub few : length es ≤ 128
  pub once : OnlyOnce es

-- The finder: the first place with this key, or none

abbrev pub FirstWith : ℕ → List Entry → Option ℕ → Type 0
FirstWith k es None = (j : ℕ) → j < length es → (slice_index_or es j blank).key ≢ k
FirstWith k es (Some i) = (i < length es) × ((slice_index_or es i blank).key ≡ k) × ((j : ℕ) → j < i → (slice_index_or es j blank).key ≢ k)

-- The places of the entries that a selector names, in ascending order

abbrev pub named : Selector → ℕ → List Entry → List ℕ
named s place [] = []
named s place (e ∷ es) = let rest : List ℕ = named s (suc place) es in cond (names s e.key) (place ∷ rest) rest

-- the key of the item at a place
abbrev pub key_at : List Entry → ℕ → ℕ
key_at es i = (slice_index_or es i blank).key

-- from a place on
abbrev pub named_from : Selector → ℕ → List Entry → List ℕ
named_from s from es = named s from (drop from es)

-- the next of them: none is left, or it is the first, and the others come behind it
abbrev pub NextNamed : Selector → ℕ → List Entry → Option ℕ → Type 0
NextNamed s from es None = named_from s from es ≡ []
NextNamed s from es (Some i) = (from ≤ i) × (i < length es) × (named_from s from es ≡ i ∷ named_from s (i + 1) es)

-- it is named, and no item between the place and it is
abbrev pub FirstNamed : Selector → ℕ → List Entry → Option ℕ → Type 0
FirstNamed s from es None = (j : ℕ) → from ≤ j → j < length es → names s (slice_index_or es j blank).key ≡ false
FirstNamed s from es (Some i) = (names s (slice_index_or es i blank).key ≡ true) × ((j : ℕ) → from ≤ j → j < i → names s (slice_index_or es j blank).key ≡ false)
