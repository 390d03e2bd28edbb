-- Laws of a table of slots.
use Rattle.std.specs.Prelude.{◌≡◌, ℕ, zero, suc, ◌<◌, ◌≤◌, true, false, List, [], ◌∷◌, length, take, map, min, Some, None, Option, is_none, ◌==◌, nat_lt, MatchOption, slice_index_or, slice_set, refl}
use Rattle.std.specs.List.{filter, find, flat_map, fold, reduce}
use Rattle.std.specs.Option.{option_map, option_to_list}
use Rattle.std.proofs.Common.{sym, ap, ◌∙◌, arith}
use Rattle.std.proofs.lemmas.List.{take_all}
use Rattle.std.proofs.lemmas.Bool.Decides.{nat_tests}
use Rattle.std.proofs.lemmas.Bool.{true≢false}
use Rattle.layer.specs.declared.setting.Setting.{Setting}
use Rattle.layer.specs.Settings.{is_setting, value_under, with_value, without, least, key_above, Ascends}
use Rattle.layer.specs.Stores.{room, Shows}
use Rattle.store.specs.Slots.{holding, settings_of, names, lacks, apart, used_in, sound, FirstSlot, Place, Found, Missing}
use Rattle.layer.specs.SettingsLemmas.{value_with_same, value_with_other, with_twice, with_swap, length_with_new, ascends_with, without_none, without_with_same, key_above_with}

-- Where no slot has a key

pub value_lacks : (k : ℕ) (ss : List (Option Setting)) → lacks k ss ≡ true → value_under k (settings_of ss) ≡ None
value_lacks k [] h = refl
value_lacks k (None ∷ ss) h = value_lacks k ss h
value_lacks k (Some s ∷ ss) h = grind (arith, nat_tests, value_lacks k ss, value_with_other s.key s.value k (settings_of ss))

-- the slots before i, where each of them is passed by
lacks_front : (k i : ℕ) (ss : List (Option Setting)) → i ≤ length ss → ((j : ℕ) → j < i → names k (slice_index_or ss j None) ≡ false) → lacks k (take i ss) ≡ true
lacks_front k zero ss le passed = refl
lacks_front k (suc i) [] le passed = absurd (omega arith)
lacks_front k (suc i) (s ∷ ss) le passed =
    let here : names k s ≡ false = passed 0 (omega arith) in
    let later = lacks_front k i ss (omega arith) (λ j lt. passed (suc j) (omega arith)) in grind arith

lacks_set : (k i : ℕ) (ss : List (Option Setting)) (t : Option Setting) → names k t ≡ false → lacks k ss ≡ true → lacks k (slice_set ss i t) ≡ true
lacks_set k i [] t n h = refl
lacks_set k zero (s ∷ ss) t n h = grind (arith, nat_tests)
lacks_set k (suc i) (s ∷ ss) t n h = grind (arith, nat_tests, lacks_set k i ss t n)

lacks_not : (k i : ℕ) (ss : List (Option Setting)) → i < length ss → names k (slice_index_or ss i None) ≡ true → lacks k ss ≡ false
lacks_not k i [] lt n = absurd (omega arith)
lacks_not k zero (s ∷ ss) lt n = grind (arith, nat_tests)
lacks_not k (suc i) (s ∷ ss) lt n = let h = lacks_not k i ss (omega arith) n in grind (arith, nat_tests)

-- where keys are apart, no other slot has the key of the one at i
lacks_out : (k i : ℕ) (ss : List (Option Setting)) → apart ss ≡ true → i < length ss → names k (slice_index_or ss i None) ≡ true → lacks k (slice_set ss i None) ≡ true
lacks_out k i [] a lt n = absurd (omega arith)
lacks_out k zero (None ∷ ss) a lt n = absurd (true≢false (sym n))
lacks_out k zero (Some s ∷ ss) a lt n = grind (arith, nat_tests)
lacks_out k (suc i) (None ∷ ss) a lt n = lacks_out k i ss a (omega arith) n
lacks_out k (suc i) (Some s ∷ ss) a lt n = grind (arith, nat_tests, lacks_out k i ss, lacks_not k i ss (omega arith) n)

-- What a slot that is written or freed leaves

-- a slot that is written, where no other has its key
settings_set : (k v i : ℕ) (ss : List (Option Setting)) → i < length ss → lacks k (slice_set ss i None) ≡ true → settings_of (slice_set ss i (holding k v)) ≡ with_value k v (settings_of (slice_set ss i None))
settings_set k v i [] lt h = absurd (omega arith)
settings_set k v zero (s ∷ ss) lt h = refl
settings_set k v (suc i) (None ∷ ss) lt h = settings_set k v i ss (omega arith) h
settings_set k v (suc i) (Some s ∷ ss) lt h =
    grind (arith, nat_tests, settings_set k v i ss (omega arith), with_swap k v s.key s.value (settings_of (slice_set ss i None)))

abbrev value_at : Option Setting → ℕ
value_at None = 0
value_at (Some s) = s.value

-- a slot that is used, taken out
settings_out : (k i : ℕ) (ss : List (Option Setting)) → i < length ss → lacks k (take i ss) ≡ true → names k (slice_index_or ss i None) ≡ true → settings_of ss ≡ with_value k (value_at (slice_index_or ss i None)) (settings_of (slice_set ss i None))
settings_out k i [] lt h n = absurd (omega arith)
settings_out k zero (None ∷ ss) lt h n = absurd (true≢false (sym n))
settings_out k zero (Some s ∷ ss) lt h n = grind (arith, nat_tests)
settings_out k (suc i) (None ∷ ss) lt h n = settings_out k i ss (omega arith) h n
settings_out k (suc i) (Some s ∷ ss) lt h n =
    grind (arith, nat_tests, settings_out k i ss (omega arith), with_swap k (value_at (slice_index_or ss i None)) s.key s.value (settings_of (slice_set ss i None)))

settings_free : (i : ℕ) (ss : List (Option Setting)) → slice_index_or ss i None ≡ None → settings_of (slice_set ss i None) ≡ settings_of ss
settings_free i [] n = refl
settings_free zero (s ∷ ss) n = ap (λ t. settings_of (t ∷ ss)) (sym n)
settings_free (suc i) (None ∷ ss) n = settings_free i ss n
settings_free (suc i) (Some s ∷ ss) n = ap (with_value s.key s.value) (settings_free i ss n)

pub apart_set : (k v i : ℕ) (ss : List (Option Setting)) → apart ss ≡ true → lacks k (slice_set ss i None) ≡ true → apart (slice_set ss i (holding k v)) ≡ true
apart_set k v i [] a h = refl
apart_set k v zero (None ∷ ss) a h = grind (arith, nat_tests)
apart_set k v zero (Some s ∷ ss) a h = grind (arith, nat_tests)
apart_set k v (suc i) (None ∷ ss) a h = apart_set k v i ss a h
apart_set k v (suc i) (Some s ∷ ss) a h = grind (arith, nat_tests, apart_set k v i ss, lacks_set s.key i ss (holding k v))

apart_blank : (i : ℕ) (ss : List (Option Setting)) → apart ss ≡ true → apart (slice_set ss i None) ≡ true
apart_blank i [] a = refl
apart_blank zero (None ∷ ss) a = a
apart_blank zero (Some s ∷ ss) a = grind (arith, nat_tests)
apart_blank (suc i) (None ∷ ss) a = apart_blank i ss a
apart_blank (suc i) (Some s ∷ ss) a = grind (arith, nat_tests, apart_blank i ss, lacks_set s.key i ss None refl)

pub sound_set : (k v i : ℕ) (ss : List (Option Setting)) → is_setting k v ≡ true → sound ss ≡ true → sound (slice_set ss i (holding k v)) ≡ true
sound_set k v i [] w h = refl
sound_set k v zero (None ∷ ss) w h = grind (arith, nat_tests)
sound_set k v zero (Some s ∷ ss) w h = grind (arith, nat_tests)
sound_set k v (suc i) (None ∷ ss) w h = sound_set k v i ss w h
sound_set k v (suc i) (Some s ∷ ss) w h = grind (arith, nat_tests, sound_set k v i ss w)

sound_blank : (i : ℕ) (ss : List (Option Setting)) → sound ss ≡ true → sound (slice_set ss i None) ≡ true
sound_blank i [] h = refl
sound_blank zero (None ∷ ss) h = h
sound_blank zero (Some s ∷ ss) h = grind (arith, nat_tests)
sound_blank (suc i) (None ∷ ss) h = sound_blank i ss h
sound_blank (suc i) (Some s ∷ ss) h = grind (arith, nat_tests, sound_blank i ss)

-- How many slots are used

length_settings : (ss : List (Option Setting)) → apart ss ≡ true → length (settings_of ss) ≡ used_in ss
length_settings [] a = refl
length_settings (None ∷ ss) a = length_settings ss a
length_settings (Some s ∷ ss) a =
    grind (arith, nat_tests, length_settings ss, length_with_new s.key s.value (settings_of ss), value_lacks s.key ss)

pub count_found : (ss : List (Option Setting)) → apart ss ≡ true → length (flat_map option_to_list ss) ≡ length (settings_of ss)
count_found ss a = used_found ss ∙ sym (length_settings ss a)
  where
    used_found : (ss : List (Option Setting)) → length (flat_map option_to_list ss) ≡ used_in ss
    used_found [] = refl
    used_found (None ∷ ss) = used_found ss
    used_found (Some s ∷ ss) = ap suc (used_found ss)

used_le : (ss : List (Option Setting)) → used_in ss ≤ length ss
used_le [] = omega arith
used_le (None ∷ ss) = let h = used_le ss in omega arith
used_le (Some s ∷ ss) = let h = used_le ss in omega arith

used_lt : (i : ℕ) (ss : List (Option Setting)) → i < length ss → slice_index_or ss i None ≡ None → used_in ss < length ss
used_lt i [] lt n = absurd (omega arith)
used_lt zero (None ∷ ss) lt n = let h = used_le ss in omega arith
used_lt zero (Some s ∷ ss) lt n = cc
used_lt (suc i) (None ∷ ss) lt n = let h = used_lt i ss (omega arith) n in omega arith
used_lt (suc i) (Some s ∷ ss) lt n = let h = used_lt i ss (omega arith) n in omega arith

used_all : (ss : List (Option Setting)) → ((j : ℕ) → j < length ss → is_none (slice_index_or ss j None) ≡ false) → used_in ss ≡ length ss
used_all [] passed = refl
used_all (None ∷ ss) passed = absurd (true≢false (passed 0 (omega arith)))
used_all (Some s ∷ ss) passed = let h = used_all ss (λ j lt. passed (suc j) (omega arith)) in omega arith

-- the first slot that is not used, or that each is used
pub free_told : (ss : List (Option Setting)) (o : Option ℕ) → length ss ≡ 128 → FirstSlot is_none ss o → MatchOption o (used_in ss ≡ 128) (λ i. (i < 128) × (slice_index_or ss i None ≡ None))
free_told ss None len passed = used_all ss passed ∙ len
free_told ss (Some i) len first = (omega (arith, first.0), none_is (slice_index_or ss i None) first.1)
  where
    none_is : (s : Option Setting) → is_none s ≡ true → s ≡ None
    none_is None e = refl
    none_is (Some s) e = absurd (true≢false (sym e))

-- Where a value goes

pub place_held : (k i : ℕ) (ss : List (Option Setting)) → length ss ≡ 128 → apart ss ≡ true → i < 128 → lacks k (take i ss) ≡ true → names k (slice_index_or ss i None) ≡ true → Place k ss i
place_held k i ss len a lt h n =
    let out = settings_out k i ss (omega arith) h n in
    record {
      within = lt;
      alone = lacks_out k i ss a (omega arith) n;
      rest = λ v. sym (ap (with_value k v) out ∙ with_twice k v _ _);
      can = let e = ap (value_under k) out ∙ value_with_same k _ _ in grind (arith, nat_tests);
    }

place_free : (k i : ℕ) (ss : List (Option Setting)) → length ss ≡ 128 → apart ss ≡ true → i < 128 → lacks k ss ≡ true → slice_index_or ss i None ≡ None → Place k ss i
place_free k i ss len a lt h n =
    record {
      within = lt;
      alone = lacks_set k i ss None refl h;
      rest = λ v. ap (with_value k v) (settings_free i ss n);
      can = let e = value_lacks k ss h in let m = length_settings ss a in let l = used_lt i ss (omega arith) n in grind (arith, nat_tests);
    }

no_place : (k : ℕ) (ss : List (Option Setting)) → apart ss ≡ true → lacks k ss ≡ true → used_in ss ≡ 128 → room k (settings_of ss) ≡ false
no_place k ss a h n = let e = value_lacks k ss h in let m = length_settings ss a in grind (arith, nat_tests)

place_new : (k : ℕ) (ss : List (Option Setting)) (o : Option ℕ) → length ss ≡ 128 → apart ss ≡ true → lacks k ss ≡ true → MatchOption o (used_in ss ≡ 128) (λ i. (i < 128) × (slice_index_or ss i None ≡ None)) → MatchOption o (room k (settings_of ss) ≡ false) (λ i. Place k ss i)
place_new k ss None len a h p = no_place k ss a h p
place_new k ss (Some i) len a h p = place_free k i ss len a p.0 h p.1

-- where a slot that holds the key comes before one that is not used
pub place_chosen : {P : Type 0} (k : ℕ) (ss : List (Option Setting)) (o r : Option ℕ) → length ss ≡ 128 → apart ss ≡ true
    → (P → MatchOption r (used_in ss ≡ 128) (λ i. (i < 128) × (slice_index_or ss i None ≡ None)))
    → MatchOption o (Missing k ss) (λ i. Found k ss i) → MatchOption o P (λ i. r ≡ Some i) → MatchOption r (room k (settings_of ss) ≡ false) (λ i. Place k ss i)
place_chosen k ss None r len a free missing new = place_new k ss r len a missing.lacking (free new)
place_chosen k ss (Some i) r len a free found held = rw held (place_held k i ss len a found.within found.before found.here)

-- writing a slot
pub put_settings : (k v i : ℕ) (ss : List (Option Setting)) → length ss ≡ 128 → Place k ss i → settings_of (slice_set ss i (holding k v)) ≡ with_value k v (settings_of ss)
put_settings k v i ss len p = settings_set k v i ss (omega (arith, p.within)) p.alone ∙ p.rest v

remove_settings : (k i : ℕ) (ss : List (Option Setting)) → length ss ≡ 128 → apart ss ≡ true → i < 128 → lacks k (take i ss) ≡ true → names k (slice_index_or ss i None) ≡ true → settings_of (slice_set ss i None) ≡ without k (settings_of ss)
remove_settings k i ss len a lt h n =
    let out = settings_out k i ss (omega arith) h n in
    let gone = without_none k _ (value_lacks k (slice_set ss i None) (lacks_out k i ss a (omega arith) n)) in
    sym (ap (without k) out ∙ without_with_same k _ _ ∙ gone)

-- What the search for a key tells its callers

pub place_told : (k : ℕ) (ss : List (Option Setting)) (o : Option ℕ) → length ss ≡ 128 → apart ss ≡ true → sound ss ≡ true → FirstSlot (names k) ss o → MatchOption o (Missing k ss) (λ i. Found k ss i)
place_told k ss None len a f passed =
    let h : lacks k ss ≡ true = ap (lacks k) (sym (take_all (length ss) ss (omega arith))) ∙ lacks_front k (length ss) ss (omega arith) passed in
    record { lacking = h; gone = sym (without_none k _ (value_lacks k ss h)) }
place_told k ss (Some i) len a f first =
    let h = lacks_front k i ss (omega (arith, first.0)) first.2 in
    record {
      within = omega (arith, first.0);
      before = h;
      here = first.1;
      gone = remove_settings k i ss len a (omega (arith, first.0)) h first.1;
      kept = apart_blank i ss a;
      fit = sound_blank i ss f;
    }

-- What the slots hold, read in their order

pub value_found : (k : ℕ) (ss : List (Option Setting)) → value_under k (settings_of ss) ≡ option_map (λ s. s.value) (find (λ s. s.key == k) (flat_map option_to_list ss))
value_found k [] = refl
value_found k (None ∷ ss) = value_found k ss
value_found k (Some s ∷ ss) =
    grind (arith, nat_tests, value_found k ss, value_with_other s.key s.value k (settings_of ss), value_with_same s.key s.value (settings_of ss))

fold_least : (k : ℕ) (ks : List ℕ) → Some (fold min k ks) ≡ least k (reduce min ks)
fold_least k [] = refl
fold_least k (j ∷ ks) = fold_least (min k j) ks ∙ least_twice k j (reduce min ks) ∙ ap (least k) (sym (fold_least j ks))
  where
    least_twice : (k j : ℕ) (o : Option ℕ) → least (min k j) o ≡ least k (least j o)
    least_twice k j None = grind (arith, nat_tests)
    least_twice k j (Some m) = grind (arith, nat_tests)

pub key_found : (n : ℕ) (ss : List (Option Setting)) → reduce min (filter (λ k. nat_lt n k) (map (λ s. s.key) (flat_map option_to_list ss))) ≡ key_above n (settings_of ss)
key_found n [] = refl
key_found n (None ∷ ss) = key_found n ss
key_found n (Some s ∷ ss) =
    grind (arith, nat_tests, key_found n ss, key_above_with n s.key s.value (settings_of ss), fold_least s.key (filter (λ k. nat_lt n k) (map (λ s. s.key) (flat_map option_to_list ss))))

-- The laws of the table as a store

pub ascends_settings : (ss : List (Option Setting)) → Ascends (settings_of ss)
ascends_settings [] = tt
ascends_settings (None ∷ ss) = ascends_settings ss
ascends_settings (Some s ∷ ss) = ascends_with s.key s.value (settings_of ss) (ascends_settings ss)

-- a table is usable, and has 128 slots
pub table_shows : (ss : List (Option Setting)) → length ss ≡ 128 → apart ss ≡ true → Shows true (settings_of ss)
table_shows ss len a = record { few = omega (arith, length_settings ss a, used_le ss); idle = λ e. absurd (true≢false e) }

pub value_sound : (k v : ℕ) (ss : List (Option Setting)) → sound ss ≡ true → value_under k (settings_of ss) ≡ Some v → is_setting k v ≡ true
value_sound k v [] h e = absurd (let z : ◌≡◌ {A = ℕ} 0 1 = cc in omega arith)
value_sound k v (None ∷ ss) h e = value_sound k v ss h e
value_sound k v (Some s ∷ ss) h e =
    grind (arith, nat_tests, value_sound k v ss, value_with_other s.key s.value k (settings_of ss), value_with_same s.key s.value (settings_of ss))
