-- The definitions computed on worked entries and catalogues, and what is not as they say.
use Rattle.std.proofs.Common.{◌≡◌, ℕ, zero, suc, ◌+◌, ◌%◌, ◌<◌, true, false, leb, List, [], ◌∷◌, map, replicate, Some, None, Ok, Err, refl, arith}
use Rattle.std.proofs.lemmas.Bool.Decides.{nat_tests}
use Rattle.item.specs.declared.key.Size.{Size}
use Rattle.item.specs.declared.key.Size.TheVariants.{Bit, One, Two, Four, Eight}
use Rattle.item.specs.declared.selector.Selector.TheVariants.{All, Group}
use Rattle.item.specs.Keys.{limit_of}
use Rattle.catalogue.specs.declared.entries.CatalogueFault.TheVariants.{EntryCount, IllFormedKey, OutOfOrder, Unsound}
use Rattle.catalogue.specs.declared.entries.Entry.{Entry}
use Rattle.catalogue.specs.declared.kind.Kind.TheVariants.{Unsigned, Signed, Bits, Unknown}
use Rattle.catalogue.specs.Bench.{entry}
use Rattle.catalogue.specs.Catalogues.{half_of, signed_at_most, is_sound, entry_fault, catalogue_checked, Listed, OnlyOnce, Accepted, FirstWith, named, NextNamed, FirstNamed}

-- Two's complement is the order of the numbers with half the limit added, for each size and all its values

signed_order : (s : Size) (a b : ℕ) → a < limit_of s → b < limit_of s → signed_at_most s a b ≡ leb ((a + half_of s) % limit_of s) ((b + half_of s) % limit_of s)
signed_order Bit a b in-a in-b = grind (arith, nat_tests)
signed_order One a b in-a in-b = grind (arith, nat_tests)
signed_order Two a b in-a in-b = grind (arith, nat_tests)
signed_order Four a b in-a in-b = grind (arith, nat_tests)
signed_order Eight a b in-a in-b = grind (arith, nat_tests)

-- Sound entries: bounds are within, and the bounds of bits are not read

sound : map is_sound (entry 0x10510001 Unsigned 1 1 1 ∷ entry 0x20510001 Signed 0xff 0xfe 3 ∷ entry 0x20510001 Bits 0xff 0x100 0 ∷ entry 0x10510001 Bits 1 0 0 ∷ []) ≡ replicate 4 true
sound = refl

-- a kind that there is not; a bit with a sign; a default, a least and a greatest value that do not fit; a default below and above its bounds, unsigned and signed
unsound : map is_sound (entry 0x20510001 (Unknown 3) 1 0 1 ∷ entry 0x10510001 Signed 0 0 0 ∷ entry 0x10510001 Bits 2 0 0 ∷ entry 0x20510001 Signed 3 0x1fe 3 ∷ entry 0x20510001 Unsigned 3 0 0x100
    ∷ entry 0x20510001 Unsigned 3 4 9 ∷ entry 0x20510001 Unsigned 10 4 9 ∷ entry 0x20510001 Signed 0xfd 0xfe 3 ∷ entry 0x20510001 Signed 4 0xfe 3 ∷ [])
    ≡ replicate 9 false
unsound = refl

-- The order of the checks of an entry, behind the key 20510002

key_first : entry_fault 3 0x20510002 (entry 0x20510000 (Unknown 3) 1 0 1) ≡ Some (IllFormedKey 3)
key_first = refl

order_next : entry_fault 3 0x20510002 (entry 0x20510002 (Unknown 3) 1 0 1) ≡ Some (OutOfOrder 3)
order_next = refl

sound_last : entry_fault 3 0x20510002 (entry 0x20510003 (Unknown 3) 1 0 1) ≡ Some (Unsound 3)
sound_last = refl

nothing_wrong : entry_fault 3 0x20510002 (entry 0x20510003 Unsigned 1 0 1) ≡ None
nothing_wrong = refl

-- the first entry at fault is named
first_at_fault : catalogue_checked (entry 0x20510001 Unsigned 1 0 1 ∷ entry 0x20510002 Unsigned 2 0 1 ∷ entry 0x20510000 Unsigned 1 0 1 ∷ []) ≡ Err (Unsound 1)
first_at_fault = refl

-- Entries with keys one above the other

many : ℕ → ℕ → List Entry
many key zero = []
many key (suc n) = entry key Unsigned 0 0 0 ∷ many (suc key) n

single : catalogue_checked (many 0x20510001 1) ≡ Ok tt
unfolding many
single = refl

full : catalogue_checked (many 0x20510001 128) ≡ Ok tt
unfolding many
full = refl

none_are_few : catalogue_checked [] ≡ Err EntryCount
none_are_few = refl

too_many : catalogue_checked (many 0x20510001 129) ≡ Err EntryCount
unfolding many
too_many = refl

-- What an accepted catalogue is not

none_accepted : Accepted [] → ⊥
none_accepted a = absurd (omega (arith, a.some))

too_many_accepted : Accepted (many 0x20510001 129) → ⊥
unfolding many
too_many_accepted a = absurd (omega (arith, a.few))

falling : Listed 0 (entry 0x20510002 Unsigned 0 0 0 ∷ entry 0x20510001 Unsigned 0 0 0 ∷ []) → ⊥
unfolding Listed
falling l = absurd (omega (arith, l.3.0))

ill_formed : Listed 0 (entry 0x20510000 Unsigned 0 0 0 ∷ []) → ⊥
unfolding Listed
ill_formed l = absurd (cc (l.1))

unsound_listed : Listed 0 (entry 0x20510001 Unsigned 1 0 0 ∷ []) → ⊥
unfolding Listed
unsound_listed l = absurd (cc (l.2))

-- one key at two places
abbrev twice : List Entry
twice = entry 0x20510001 Unsigned 0 0 0 ∷ entry 0x20510001 Unsigned 0 0 0 ∷ []

twice_once : OnlyOnce twice → ⊥
twice_once o = let e : ◌≡◌ {A = ℕ} 0 1 = o.distinct 0 1 (omega arith) (omega arith) refl in absurd (omega arith)

-- The finder: not a later place, no other key's, and not none

later_place : FirstWith 0x20510001 twice (Some 1) → ⊥
later_place f = f.2 0 (omega arith) refl

other_key : FirstWith 0x20510002 twice (Some 0) → ⊥
other_key f = absurd (omega (arith, f.1))

no_place : FirstWith 0 twice (Some 2) → ⊥
no_place f = absurd (omega (arith, f.0))

not_found : FirstWith 0x20510001 twice None → ⊥
not_found f = f 1 (omega arith) refl

-- The walk: in ascending order, from the place on

walk : named (Group 0x51) 4 (entry 0x20510001 Unsigned 0 0 0 ∷ entry 0x20520001 Unsigned 0 0 0 ∷ entry 0x30510001 Unsigned 0 0 0 ∷ []) ≡ 4 ∷ 6 ∷ []
walk = refl

skips_one : NextNamed All 0 twice (Some 1) → ⊥
skips_one n = absurd (cc (n.2))

goes_back : NextNamed All 1 twice (Some 0) → ⊥
goes_back n = absurd (omega (arith, n.0))

ends_early : NextNamed All 1 twice None → ⊥
ends_early n = absurd (cc (n))

passes_one : FirstNamed All 0 twice (Some 1) → ⊥
passes_one f = let e : true ≡ false = f.1 0 (omega arith) (omega arith) in cc

passes_last : FirstNamed All 1 twice None → ⊥
passes_last f = let e : true ≡ false = f 1 (omega arith) (omega arith) in cc

unnamed : FirstNamed (Group 0x50) 0 twice (Some 0) → ⊥
unnamed f = absurd (cc (f.0))
