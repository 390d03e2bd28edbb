-- Which requests of a host are refused, and why.
use Rattle.std.specs.Prelude.{ℕ, Bool, true, cond, ◌||◌, ◌&&◌, List, [], ◌∷◌, length, Some, None, Option, ◌==◌, nat_le}
use Rattle.std.specs.Option.{option_or}
use Rattle.item.specs.declared.selector.Selector.{Selector}
use Rattle.item.specs.declared.selector.Selector.TheVariants.{All, Group, Key}
use Rattle.item.specs.Keys.{well_formed, fits_key}
use Rattle.item.specs.Selectors.{selector_of}
use Rattle.layer.specs.declared.setting.Setting.{Setting}
use Rattle.host.specs.declared.fault.HostFault.{HostFault}
use Rattle.host.specs.declared.fault.HostFault.TheVariants.{WrongLayers, NothingToAdd, TooManyEntries, IllFormedKey, UnfitValue, BufferTooShort}

abbrev pub fault_number : HostFault → ℕ
fault_number WrongLayers = 31
fault_number NothingToAdd = 32
fault_number TooManyEntries = 33
fault_number IllFormedKey = 34
fault_number UnfitValue = 35
fault_number BufferTooShort = 36

-- The layers that a request may name. Of a set: at least one of RAM 1, BBR 2 and Flash 4, and no other bit; of a delete the same without RAM; of a
-- get one layer, by its number: 0 RAM, 1 BBR, 2 Flash, 7 the defaults.

abbrev pub set_names : ℕ → Bool
set_names l = nat_le 1 l && nat_le l 7

abbrev pub delete_names : ℕ → Bool
delete_names l = l == 2 || (l == 4 || l == 6)

abbrev pub get_names : ℕ → Bool
get_names l = nat_le l 2 || l == 7

-- What is wrong with one entry. Of a set it is a key with a value; of a delete or get a key, or a number of a selector's shape.

abbrev pub setting_fault : Setting → Option HostFault
setting_fault s = cond (well_formed s.key) (cond (fits_key s.key s.value) None (Some UnfitValue)) (Some IllFormedKey)

abbrev pub may_name : Selector → Bool
may_name All = true
may_name (Group g) = true
may_name (Key k) = well_formed k

abbrev pub number_fault : ℕ → Option HostFault
number_fault n = cond (may_name (selector_of n)) None (Some IllFormedKey)

-- the first that there is, entry by entry
abbrev pub first_fault : {A : Type 0} → (A → Option HostFault) → List A → Option HostFault
first_fault f [] = None
first_fault f (x ∷ xs) = option_or (f x) (first_fault f xs)

-- the layers first, then the count of the entries, then each entry
abbrev pub request_fault : {A : Type 0} → Bool → (A → Option HostFault) → List A → Option HostFault
request_fault named f xs = cond named (cond (nat_le (length xs) 64) (first_fault f xs) (Some TooManyEntries)) (Some WrongLayers)

abbrev pub set_fault : ℕ → List Setting → Option HostFault
set_fault l ss = request_fault (set_names l) setting_fault ss

abbrev pub delete_fault : ℕ → List ℕ → Option HostFault
delete_fault l ns = request_fault (delete_names l) number_fault ns

abbrev pub get_fault : ℕ → List ℕ → Option HostFault
get_fault l ns = request_fault (get_names l) number_fault ns

-- adding wants an entry; a begun transaction's layers are right already
abbrev pub add_fault : {A : Type 0} → (A → Option HostFault) → List A → Option HostFault
add_fault f xs = cond (length xs == 0) (Some NothingToAdd) (request_fault true f xs)
