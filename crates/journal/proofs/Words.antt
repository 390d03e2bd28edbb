-- Laws of words.
use Rattle.std.proofs.Common.{◌≡◌, ℕ, zero, suc, ◌+◌, ◌*◌, ◌/◌, ◌%◌, ◌^◌, ◌<◌, ◌≤◌, true, Some, None, Option, nat_le, arith}
use Rattle.std.proofs.lemmas.Bool.Decides.{nat_tests}
use Rattle.std.proofs.lemmas.Bool.{and_parts, leb-true, eqb-true}
use Rattle.item.specs.declared.key.Size.{Size}
use Rattle.item.specs.declared.key.Size.TheVariants.{Bit, One, Two, Four, Eight}
use Rattle.item.specs.Keys.{size_of, size_at, size_bits, group_of, item_bits, well_formed}
use Rattle.journal.specs.declared.word.Kind.TheVariants.{Head, Part, Removal}
use Rattle.journal.specs.Words.{kind_of, key_in, key_named, part_carried, parts_of, parts_under, head_word, removal_word, part_word}

pub parts_few : (k : ℕ) → parts_under k ≤ 4
parts_few k = go (size_of k)
  where
    go : (o : Option Size) → parts_of o ≤ 4
    go None = omega arith
    go (Some Bit) = omega arith
    go (Some One) = omega arith
    go (Some Two) = omega arith
    go (Some Four) = omega arith
    go (Some Eight) = omega arith

-- a part that is added to a value of as many parts before it
pub record Adds (n v p : ℕ) : Type 0 where
  pub fits : v + p * 2 ^ (16 * n) % 2 ^ 64 < 2 ^ 64
  pub value : v + p * 2 ^ (16 * n) % 2 ^ 64 ≡ v + p * 2 ^ (16 * n)
  pub small : v + p * 2 ^ (16 * n) % 2 ^ 64 < 2 ^ (16 * (n + 1))

adds : (n v p : ℕ) → n < 4 → v < 2 ^ (16 * n) → p < 2 ^ 16 → Adds n v p
adds zero v p few small part = record { fits = omega arith; value = omega arith; small = omega arith }
adds (suc zero) v p few small part = record { fits = omega arith; value = omega arith; small = omega arith }
adds (suc (suc zero)) v p few small part = record { fits = omega arith; value = omega arith; small = omega arith }
adds (suc (suc (suc zero))) v p few small part = record { fits = omega arith; value = omega arith; small = omega arith }
adds (suc (suc (suc (suc n)))) v p few small part = absurd (omega arith)

pub part_adds : (k n v p q : ℕ) → n < parts_under k → v < 2 ^ (16 * n) → q < 2 ^ 16 → p ≡ q → Adds n v p
part_adds k n v p q waiting small part is = let few = parts_few k in adds n v p (omega (arith, waiting)) small (omega arith)

-- a well-formed key's values have a part at least
pub parts_some : (k : ℕ) → well_formed k ≡ true → 0 < parts_under k
parts_some k w =
    let parts = and_parts (nat_le 1 (size_bits k)) _ w in
    let most = and_parts (nat_le (size_bits k) 5) _ parts.1 in
    sized (size_bits k) (leb-true _ _ parts.0) (leb-true _ _ most.0)
  where
    sized : (n : ℕ) → 1 ≤ n → n ≤ 5 → 0 < parts_of (size_at n)
    sized zero low high = absurd (omega arith)
    sized (suc zero) low high = omega arith
    sized (suc (suc zero)) low high = omega arith
    sized (suc (suc (suc zero))) low high = omega arith
    sized (suc (suc (suc (suc zero)))) low high = omega arith
    sized (suc (suc (suc (suc (suc zero))))) low high = omega arith
    sized (suc (suc (suc (suc (suc (suc n)))))) low high = absurd (omega arith)

-- What is written is of its kind, no blank, and read again

fields : (k : ℕ) → well_formed k ≡ true → k ≡ size_bits k * 2 ^ 28 + group_of k * 2 ^ 16 + item_bits k
fields k w =
    let a = (and_parts (nat_le 1 (size_bits k)) _ w).1 in
    let b = (and_parts (nat_le (size_bits k) 5) _ a).1 in
    let c = (and_parts (nat_le 1 (group_of k)) _ b).1 in
    let d = (and_parts (nat_le (group_of k) 0xfe) _ c).1 in
    let e = (and_parts (nat_le 1 (item_bits k)) _ d).1 in
    let f = (and_parts (nat_le (item_bits k) 0xffe) _ e).1 in
    eqb-true _ _ f

pub head_small : (k : ℕ) → head_word k < 2 ^ 23
head_small k = omega arith

pub head_kind : (k : ℕ) → kind_of (head_word k) ≡ Head
head_kind k = let small = head_small k in grind (arith, nat_tests)

pub removal_kind : (k : ℕ) → kind_of (removal_word k) ≡ Removal
removal_kind k = let small = head_small k in grind (arith, nat_tests)

pub part_kind : (v : ℕ) → kind_of (part_word v) ≡ Part
part_kind v = grind (arith, nat_tests)

head_key : (k : ℕ) → well_formed k ≡ true → key_in (head_word k) ≡ k
head_key k w = let all = fields k w in omega arith

removal_key : (k : ℕ) → well_formed k ≡ true → key_in (removal_word k) ≡ k
removal_key k w = let all = fields k w in omega arith

pub head_names : (k : ℕ) → well_formed k ≡ true → key_named (head_word k) ≡ Some k
head_names k w =
    let spare : head_word k / 2 ^ 23 % 2 ^ 7 ≡ 0 = omega arith in
    let key = head_key k w in
    grind (arith, nat_tests)

pub removal_names : (k : ℕ) → well_formed k ≡ true → key_named (removal_word k) ≡ Some k
removal_names k w =
    let spare : removal_word k / 2 ^ 23 % 2 ^ 7 ≡ 0 = omega arith in
    let key = removal_key k w in
    grind (arith, nat_tests)

pub part_carries : (v : ℕ) → part_carried (part_word v) ≡ Some (v % 2 ^ 16)
part_carries v = grind (arith, nat_tests)
