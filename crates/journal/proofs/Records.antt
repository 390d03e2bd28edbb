-- Records that were written are read again.
use Rattle.std.proofs.Common.{◌≡◌, ℕ, zero, suc, ◌+◌, ◌*◌, ◌/◌, ◌%◌, ◌^◌, ◌<◌, true, false, List, [], ◌∷◌, take, Some, None, Ok, Err, Option, Result, ◌==◌, sym, refl, ap, ◌∙◌, subst, arith}
use Rattle.std.proofs.lemmas.Bool.Decides.{nat_tests}
use Rattle.std.proofs.lemmas.Nat.{pow-add}
use Rattle.std.proofs.lemmas.Bool.{cond-true, cond-false, ltb-true}
use Rattle.item.specs.declared.key.Size.{Size}
use Rattle.item.specs.declared.key.Size.TheVariants.{Bit, One, Two, Four, Eight}
use Rattle.item.specs.Keys.{size_of, well_formed, fits_size, fits_key}
use Rattle.layer.specs.declared.setting.Setting.{Setting}
use Rattle.layer.specs.Settings.{is_setting, with_value, without}
use Rattle.layer.specs.Stores.{room}
use Rattle.layer.proofs.Stores.{setting_key, setting_fits}
use Rattle.journal.specs.declared.fault.JournalFault.{JournalFault}
use Rattle.journal.specs.declared.word.Kind.{Kind}
use Rattle.journal.specs.declared.word.Kind.TheVariants.{Head, Part, Removal}
use Rattle.journal.specs.Words.{parts_of, parts_under, head_word, removal_word, part_word, part_words, setting_words, kind_of}
use Rattle.journal.specs.Inspecting.{Begun, Next, any_record, part_for, Progress, progress, begins, removes, ends_as, goes_on, with_part, takes_part, word_read, after_words}
use Rattle.journal.proofs.Words.{parts_some, head_kind, removal_kind, part_kind, head_names, removal_names, part_carries}

-- the words of a setting as the code gathers them
pub setting_parts : (k v : ℕ) → take (1 + parts_under k) (head_word k ∷ part_word v ∷ part_word (v / 2 ^ 16) ∷ part_word (v / 2 ^ 32) ∷ part_word (v / 2 ^ 48) ∷ []) ≡ setting_words k v
unfolding part_words
setting_parts k v = go (size_of k)
  where
    go : (o : Option Size) → take (1 + parts_of o) (head_word k ∷ part_word v ∷ part_word (v / 2 ^ 16) ∷ part_word (v / 2 ^ 32) ∷ part_word (v / 2 ^ 48) ∷ []) ≡ head_word k ∷ part_words (parts_of o) v
    go None = refl
    go (Some Bit) = refl
    go (Some One) = refl
    go (Some Two) = refl
    go (Some Four) = refl
    go (Some Eight) =
        let two : v / 2 ^ 16 / 2 ^ 16 ≡ v / 2 ^ 32 = omega arith in
        let three : v / 2 ^ 32 / 2 ^ 16 ≡ v / 2 ^ 48 = omega arith in
        rw (two, three) refl

-- nothing more to read
pub read_none : (at : ℕ) (r : Result Progress JournalFault) → after_words at [] r ≡ r
unfolding after_words
read_none at (Ok p) = refl
read_none at (Err f) = refl

-- one word
read_one : (at w : ℕ) (ws : List ℕ) (ss : List Setting) (n : Next) (kind : Kind) → kind_of w ≡ kind
    → after_words at (w ∷ ws) (Ok (progress ss n)) ≡ after_words (suc at) ws (word_read at w ss n kind)
unfolding after_words
read_one at w ws ss n kind e = ap (λ k. after_words (suc at) ws (word_read at w ss n k)) e

pub read_removal : (at k : ℕ) (ss : List Setting) → well_formed k ≡ true → after_words at (removal_word k ∷ []) (Ok (progress ss any_record)) ≡ Ok (progress (without k ss) any_record)
read_removal at k ss w =
    read_one at (removal_word k) [] ss any_record Removal (removal_kind k) ∙ ap (λ o. after_words (suc at) [] (removes at ss o)) (removal_names k w) ∙ read_none (suc at) _

read_head : (at k : ℕ) (ws : List ℕ) (ss : List Setting) → well_formed k ≡ true
    → after_words at (head_word k ∷ ws) (Ok (progress ss any_record)) ≡ after_words (suc at) ws (Ok (progress ss (part_for (record { head = at; key = k; value = 0; parts = 0 }))))
read_head at k ws ss w =
    read_one at (head_word k) ws ss any_record Head (head_kind k) ∙ ap (λ o. after_words (suc at) ws (begins at ss o)) (head_names k w)

read_part : (at v : ℕ) (ws : List ℕ) (ss : List Setting) (b : Begun)
    → after_words at (part_word v ∷ ws) (Ok (progress ss (part_for b))) ≡ after_words (suc at) ws (goes_on ss (with_part b (v % 2 ^ 16)))
read_part at v ws ss b =
    read_one at (part_word v) ws ss (part_for b) Part (part_kind v) ∙ ap (λ o. after_words (suc at) ws (takes_part at ss b o)) (part_carries v)

-- the high parts count by their weight
parts_join : (x v b : ℕ) → x + v % 2 ^ 16 * b + v / 2 ^ 16 * (b * 2 ^ 16) ≡ x + v * b
parts_join x v b =
    let e : v / 2 ^ 16 * 2 ^ 16 + v % 2 ^ 16 ≡ v = omega arith in
    ap (λ (m : ℕ). x + v % 2 ^ 16 * b + m) (parts_high (v / 2 ^ 16) b) ∙ parts_sum x (v % 2 ^ 16 * b) (v / 2 ^ 16 * 2 ^ 16 * b) ∙ ap (λ m. x + m) (sym (add-mul (v / 2 ^ 16 * 2 ^ 16) (v % 2 ^ 16) b)) ∙ ap (λ m. x + m * b) e
  where
    parts_high : (q b : ℕ) → q * (b * 2 ^ 16) ≡ q * 2 ^ 16 * b
    parts_high q b = grind arith

    parts_sum : (x r q : ℕ) → x + r + q ≡ x + (q + r)
    parts_sum x r q = omega arith

    add-mul : (q r b : ℕ) → (q + r) * b ≡ q * b + r * b
    add-mul q r b = grind arith

read_parts : (n at v : ℕ) (ss : List Setting) (b : Begun) → b.parts + suc n ≡ parts_under b.key → v < 2 ^ (16 * suc n)
    → after_words at (part_words (suc n) v) (Ok (progress ss (part_for b))) ≡ ends_as ss b.head b.key (b.value + v * 2 ^ (16 * b.parts))
unfolding part_words
read_parts zero at v ss b last small =
    let is : (b.parts + 1 == parts_under b.key) ≡ true = grind (arith, nat_tests) in
    let all : v % 2 ^ 16 ≡ v = omega arith in
    read_part at v [] ss b ∙ read_none (suc at) _ ∙ cond-true _ _ _ is ∙ ap (λ p. ends_as ss b.head b.key (b.value + p * 2 ^ (16 * b.parts))) all
read_parts (suc n) at v ss b more small =
    let is : (b.parts + 1 == parts_under b.key) ≡ false = grind (arith, nat_tests) in
    let rest : b.parts + 1 + suc n ≡ parts_under b.key = omega arith in
    let weight : 2 ^ (16 * (b.parts + 1)) ≡ 2 ^ (16 * b.parts) * 2 ^ 16 = ap (λ m. 2 ^ m) (omega arith) ∙ pow-add 2 (16 * b.parts) 16 in
    let few : v / 2 ^ 16 < 2 ^ (16 * suc n) = high_small n v small in
    read_part at v (part_words (suc n) (v / 2 ^ 16)) ss b ∙ ap (after_words (suc at) (part_words (suc n) (v / 2 ^ 16))) (cond-false _ _ _ is)
    ∙ read_parts n (suc at) (v / 2 ^ 16) ss (with_part b (v % 2 ^ 16)) rest few
    ∙ ap (λ w. ends_as ss b.head b.key (b.value + v % 2 ^ 16 * 2 ^ (16 * b.parts) + v / 2 ^ 16 * w)) weight
    ∙ ap (ends_as ss b.head b.key) (parts_join b.value v (2 ^ (16 * b.parts)))
  where
    high_small : (n v : ℕ) → v < 2 ^ (16 * suc (suc n)) → v / 2 ^ 16 < 2 ^ (16 * suc n)
    high_small n v small =
        let e : 16 * suc (suc n) ≡ 16 * suc n + 16 = omega arith in
        let p : 2 ^ (16 * suc (suc n)) ≡ 2 ^ (16 * suc n) * 2 ^ 16 = ap (λ m. 2 ^ m) e ∙ pow-add 2 (16 * suc n) 16 in omega arith

-- a value that fits has no more parts than are written
fits_parts : (k v : ℕ) → fits_key k v ≡ true → v < 2 ^ (16 * parts_under k)
fits_parts k v f = go (size_of k) f
  where
    go : (o : Option Size) → fits_size o v ≡ true → v < 2 ^ (16 * parts_of o)
    go None f = absurd (let z : ◌≡◌ {A = ℕ} 0 1 = cc in omega arith)
    go (Some Bit) f = omega (arith, ltb-true v 2 f)
    go (Some One) f = omega (arith, ltb-true v (2 ^ 8) f)
    go (Some Two) f = omega (arith, ltb-true v (2 ^ 16) f)
    go (Some Four) f = omega (arith, ltb-true v (2 ^ 32) f)
    go (Some Eight) f = omega (arith, ltb-true v (2 ^ 64) f)

-- a setting's record sets it, if there is room
pub read_setting : (at k v : ℕ) (ss : List Setting) → is_setting k v ≡ true → room k ss ≡ true
    → after_words at (setting_words k v) (Ok (progress ss any_record)) ≡ Ok (progress (with_value k v ss) any_record)
read_setting at k v ss is can = go (parts_under k) refl
  where
    begun : Begun
    begun = record { head = at; key = k; value = 0; parts = 0 }

    go : (n : ℕ) → parts_under k ≡ n → after_words at (setting_words k v) (Ok (progress ss any_record)) ≡ Ok (progress (with_value k v ss) any_record)
    go zero none = absurd (omega (arith, parts_some k (setting_key k v is)))
    go (suc n) some =
        let small : v < 2 ^ (16 * suc n) = subst (λ m. v < 2 ^ (16 * m)) some (fits_parts k v (setting_fits k v is)) in
        let start : 0 + suc n ≡ parts_under k = omega (arith, some) in
        let whole : 0 + v * 2 ^ (16 * 0) ≡ v = omega arith in
        read_head at k (part_words (parts_under k) v) ss (setting_key k v is) ∙ ap (λ m. after_words (suc at) (part_words m v) (Ok (progress ss (part_for begun)))) some
        ∙ read_parts n (suc at) v ss begun start small ∙ ap (ends_as ss at k) whole
        ∙ cond-true _ _ _ (setting_fits k v is) ∙ cond-true _ _ _ can
