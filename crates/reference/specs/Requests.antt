-- The three requests of the configuration class: what stands in their payloads.
use Rattle.std.specs.Prelude.{ℕ, zero, suc, ◌+◌, ◌/◌, ◌%◌, Bool, true, false, cond, not, ◌&&◌, ◌||◌, List, [], ◌∷◌, ◌++◌, map, length, take, drop, Some, None, Ok, Err, Option, Result, ◌==◌, nat_lt, slice_index, slice_index_or}
use Rattle.std.specs.Option.{option_or}
use Rattle.item.specs.declared.key.Size.{Size}
use Rattle.item.specs.declared.selector.Selector.{Selector}
use Rattle.item.specs.Keys.{size_of, width_of, limit_of}
use Rattle.item.specs.Selectors.{selector_of, names}
use Rattle.item.specs.Values.{number}
use Rattle.catalogue.specs.declared.entries.Entry.{Entry}
use Rattle.reference.specs.declared.refusal.Refusal.{Refusal}
use Rattle.reference.specs.declared.refusal.Refusal.TheVariants.{TooManyEntries, CutEntry, UnknownKey}
use Rattle.reference.specs.declared.layers.Layers.{Layers}

-- the item number is the entry's place
abbrev pub Catalogue : Type 0
Catalogue = List Entry

-- the class of the three, and the IDs of VALSET, VALGET and VALDEL
abbrev pub configuration_class : ℕ
configuration_class = 0x06

abbrev pub valset : ℕ
valset = 0x8a

abbrev pub valget : ℕ
valget = 0x8b

abbrev pub valdel : ℕ
valdel = 0x8c

-- The head: version in byte 0; layers in byte 1 (bit 0 RAM, 1 BBR, 2 Flash; a delete does not read bit 0); the action in bits 1..0 of byte 2.

abbrev pub bit : ℕ → Bool
bit n = n % 2 == 1

unfoldable pub layers_of : ℕ → List ℕ → Layers
layers_of id p = let b : ℕ = slice_index_or p 1 0 in record { ram = id == valset && bit b; bbr = bit (b / 2); flash = bit (b / 4) }

abbrev pub same_bit : Bool → Bool → Bool
same_bit true b = b
same_bit false b = not b

abbrev pub same_layers : Layers → Layers → Bool
same_layers a b = same_bit a.ram b.ram && (same_bit a.bbr b.bbr && same_bit a.flash b.flash)

-- version 0 is action 0
unfoldable pub action_of : List ℕ → ℕ
action_of p = cond (slice_index p 0 == 1) (slice_index p 2 % 4) 0

-- Which keys of a catalogue there are

unfoldable pub is_known : Catalogue → ℕ → Bool
is_known [] k = false
is_known (e ∷ es) k = e.key == k || is_known es k

-- those that a selector names, in ascending order
unfoldable pub keys_named : Selector → Catalogue → List ℕ
keys_named s [] = []
keys_named s (e ∷ es) = let rest : List ℕ = keys_named s es in cond (names s e.key) (e.key ∷ rest) rest

-- The data of a set are pairs of key and value, those of a delete keys and selectors.

-- one change that data name: a value under a key, or none where it is deleted
pub record Change : Type 0 where
  pub key : ℕ
  pub value : Option ℕ

abbrev pub Data : Type 0
Data = List Change

-- What changes under each key: nothing, or the last value, or none where it is deleted.
abbrev pub Changes : Type 0
Changes = ℕ → Option (Option ℕ)

abbrev pub no_changes : Changes
no_changes k = None

-- the last value of a key stands
unfoldable pub latest : Data → Changes
latest [] k = None
latest (c ∷ cs) k = option_or (latest cs k) (cond (c.key == k) (Some c.value) None)

-- later changes stand over earlier ones
abbrev pub and_later : Changes → Changes → Changes
and_later earlier later k = option_or (later k) (earlier k)

-- One entry, from the bytes at its place on: cut, unknown, or how many bytes it takes and what it names.
pub data Read (A : Type 0) : Type 0 where
  cut : Read A
  unknown : Read A
  read : ℕ → A → Read A

-- the bytes of a value of a key's size, and the first number that does not fit; a size of 0, 6 or 7 has no bytes
abbrev pub bytes_at : Option Size → ℕ
bytes_at None = 0
bytes_at (Some s) = width_of s

abbrev pub limit_at : Option Size → ℕ
limit_at None = 1
limit_at (Some s) = limit_of s

-- a pair of key and value; a value of size 1 is bit 0 of its byte
unfoldable pub pair_read : Catalogue → List ℕ → Read Data
pair_read cat bs =
    let k : ℕ = number (take 4 bs) in
    let w : ℕ = bytes_at (size_of k) in
    let v : ℕ = number (take w (drop 4 bs)) % limit_at (size_of k) in
    cond (nat_lt (length bs) (4 + w)) cut (cond (is_known cat k) (read (4 + w) (record { key = k; value = Some v } ∷ [])) unknown)

abbrev pub named_read : {A : Type 0} → List A → Read (List A)
named_read [] = unknown
named_read (x ∷ xs) = read 4 (x ∷ xs)

-- a key or selector
unfoldable pub key_read : Catalogue → List ℕ → Read (List ℕ)
key_read cat bs = cond (nat_lt (length bs) 4) cut (named_read (keys_named (selector_of (number (take 4 bs))) cat))

abbrev pub deleted : ℕ → Change
deleted k = record { key = k; value = None }

abbrev pub read_map : {A B : Type 0} → (A → B) → Read A → Read B
read_map f cut = cut
read_map f unknown = unknown
read_map f (read n a) = read n (f a)

abbrev pub deletion_read : Catalogue → List ℕ → Read Data
deletion_read cat bs = read_map (map deleted) (key_read cat bs)

abbrev pub ok_map : {A B : Type 0} → (A → B) → Result A Refusal → Result B Refusal
ok_map f (Ok a) = Ok (f a)
ok_map f (Err e) = Err e

-- The walk over the data, entry by entry: left is how many entries may still come; place is that of the next in the payload.
unfoldable pub walking : {A : Type 0} → Read (List A) → ℕ → (ℕ → Result (List A) Refusal) → Result (List A) Refusal
walking cut place on = Err (CutEntry place)
walking unknown place on = Err (UnknownKey place)
walking (read n a) place on = ok_map (◌++◌ a) (on n)

unfoldable pub walk : {A : Type 0} → (List ℕ → Read (List A)) → ℕ → ℕ → List ℕ → Result (List A) Refusal
walk one zero place [] = Ok []
walk one zero place (x ∷ xs) = Err (TooManyEntries place)
walk one (suc left) place [] = Ok []
walk one (suc left) place (x ∷ xs) = walking (one (x ∷ xs)) place (λ n. walk one left (place + n) (drop n (x ∷ xs)))

-- the data of a set or delete, and the keys of a get: from byte 4 on, at most 64 entries
unfoldable pub data_of : Catalogue → ℕ → List ℕ → Result Data Refusal
data_of cat id p = cond (id == valset) (walk (pair_read cat) 64 4 (drop 4 p)) (walk (deletion_read cat) 64 4 (drop 4 p))

unfoldable pub keys_of : Catalogue → List ℕ → Result (List ℕ) Refusal
keys_of cat p = walk (key_read cat) 64 4 (drop 4 p)
