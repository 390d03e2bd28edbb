-- The fewest words that give a key another value: while they are read, what is still needed falls by one at most with each word.
use Rattle.std.proofs.Common.{◌≡◌, ℕ, suc, ◌+◌, ◌-◌, ◌≤◌, Bool, true, false, cond, List, [], ◌∷◌, length, Some, None, Ok, Err, Option, Result, ◌==◌, ◌≢◌, refl, sym, ap, ◌∙◌, arith}
use Rattle.std.proofs.lemmas.Bool.Decides.{nat_tests}
use Rattle.std.proofs.lemmas.Bool.{eqb-true}
use Rattle.item.specs.Keys.{well_formed, fits_key}
use Rattle.layer.specs.declared.setting.Setting.{Setting}
use Rattle.layer.specs.Settings.{is_setting, value_under, with_value, without}
use Rattle.layer.specs.SettingsLemmas.{value_with_same, value_with_other}
use Rattle.layer.specs.Stores.{room}
use Rattle.journal.specs.declared.fault.JournalFault.{JournalFault}
use Rattle.journal.specs.declared.fault.JournalFault.TheVariants.{Malformed, Unfit, TooMany}
use Rattle.journal.specs.declared.word.Kind.{Kind}
use Rattle.journal.specs.declared.word.Kind.TheVariants.{Head, Part, Removal, Blank}
use Rattle.journal.specs.Words.{blank, kind_of, key_named, part_carried, parts_under, removal_word, setting_words}
use Rattle.journal.specs.Inspecting.{held_in, Begun, Next, any_record, part_for, only_blanks, Progress, progress, begins, removes, blanks, ends_as, goes_on, with_part, takes_part, word_read, after_words}
use Rattle.journal.specs.Writing.{used_in, Says, Least}
use Rattle.journal.proofs.Records.{read_setting, read_removal}
use Rattle.journal.proofs.Buffers.{length_parts}

-- what a removal leaves
value_gone : (k : ℕ) (ss : List Setting) → value_under k (without k ss) ≡ None
value_gone k [] = refl
value_gone k (s ∷ ss) = let h = value_gone k ss in grind (arith, nat_tests)

value_kept : (k j : ℕ) (ss : List Setting) → k ≢ j → value_under k (without j ss) ≡ value_under k ss
value_kept k j [] ne = refl
value_kept k j (s ∷ ss) ne = let h = value_kept k j ss ne in grind (arith, nat_tests)

none≢some : (v : ℕ) → ◌≡◌ {A = Option ℕ} None (Some v) → ⊥
none≢some v e = cc

err≢ok : (f : JournalFault) (q : Progress) → ◌≡◌ {A = Result Progress JournalFault} (Err f) (Ok q) → ⊥
err≢ok f q e = cc

abbrev held_then : Result Progress JournalFault → List Setting
held_then (Ok p) = p.held
held_then (Err f) = []

-- how many words are needed at least, until another value stands under a key
abbrev needed : ℕ → Next → ℕ
needed k any_record = 1 + parts_under k
needed k (part_for b) = cond (b.key == k) (parts_under k - b.parts) (1 + parts_under k)
needed k only_blanks = 1 + parts_under k

-- one word, where the words behind it are at least as many as are needed after it
module _ (k v at w : ℕ) (ws : List ℕ) (ss : List Setting) (q : Progress) (lacks : value_under k ss ≢ Some v)
    (rest : (hs : List Setting) (n : Next) → after_words (suc at) ws (Ok (progress hs n)) ≡ Ok q → value_under k hs ≢ Some v → needed k n ≤ length ws) where
  begun : (o : Option ℕ) → after_words (suc at) ws (begins at ss o) ≡ Ok q → 1 + parts_under k ≤ suc (length ws)
  unfolding after_words
  begun None e = absurd (err≢ok _ q e)
  begun (Some j) e = let h = rest ss _ e lacks in grind (arith, nat_tests)

  removed : (o : Option ℕ) → after_words (suc at) ws (removes at ss o) ≡ Ok q → 1 + parts_under k ≤ suc (length ws)
  unfolding after_words
  removed None e = absurd (err≢ok _ q e)
  removed (Some j) e = go (k == j) refl
    where
      go : (b : Bool) → (k == j) ≡ b → 1 + parts_under k ≤ suc (length ws)
      go true is = let h = rest (without j ss) any_record e (λ has. none≢some v (sym (value_gone k ss) ∙ ap (λ i. value_under k (without i ss)) (eqb-true k j is) ∙ has)) in omega arith
      go false ne = let h = rest (without j ss) any_record e (λ has. lacks (sym (value_kept k j ss (apart ne)) ∙ has)) in omega arith
        where
          apart : (k == j) ≡ false → k ≢ j
          apart ne = grind (arith, nat_tests)

  blanked : after_words (suc at) ws (blanks at w ss) ≡ Ok q → 1 + parts_under k ≤ suc (length ws)
  unfolding after_words
  blanked e = go (w == blank) e
    where
      go : (b : Bool) → after_words (suc at) ws (cond b (Ok (progress ss only_blanks)) (Err (Malformed at))) ≡ Ok q → 1 + parts_under k ≤ suc (length ws)
      go true e = let h = rest ss only_blanks e lacks in omega arith
      go false e = absurd (err≢ok _ q e)

  -- the last part of a setting under another key
  ended : (head j x : ℕ) → k ≢ j → after_words (suc at) ws (ends_as ss head j x) ≡ Ok q → 1 + parts_under k ≤ suc (length ws)
  unfolding after_words
  ended head j x ne e = go (fits_key j x) (room j ss) e
    where
      go : (f r : Bool) → after_words (suc at) ws (cond f (cond r (Ok (progress (with_value j x ss) any_record)) (Err (TooMany head))) (Err (Unfit head))) ≡ Ok q → 1 + parts_under k ≤ suc (length ws)
      go true true e = let h = rest (with_value j x ss) any_record e (λ has. lacks (sym (value_with_other j x k ss ne) ∙ has)) in omega arith
      go true false e = absurd (err≢ok _ q e)
      go false r e = absurd (err≢ok _ q e)

  went_on : (b : Begun) (p : ℕ) → after_words (suc at) ws (goes_on ss (with_part b p)) ≡ Ok q → needed k (part_for b) ≤ suc (length ws)
  unfolding after_words
  went_on b p e = go (b.parts + 1 == parts_under b.key) (b.key == k) refl refl e
    where
      apart : (b.key == k) ≡ false → k ≢ b.key
      apart ne = grind (arith, nat_tests)

      go : (last same : Bool) → (b.parts + 1 == parts_under b.key) ≡ last → (b.key == k) ≡ same
          → after_words (suc at) ws (cond last (ends_as ss b.head b.key (with_part b p).value) (Ok (progress ss (part_for (with_part b p))))) ≡ Ok q
          → cond same (parts_under k - b.parts) (1 + parts_under k) ≤ suc (length ws)
      go true true is key e = let all = eqb-true (b.parts + 1) (parts_under b.key) is in let one = ap parts_under (eqb-true b.key k key) in omega arith
      go true false is ne e = ended b.head b.key _ (apart ne) e
      go false true more key e = let h = rest ss (part_for (with_part b p)) e lacks in grind (arith, nat_tests)
      go false false more ne e = let h = rest ss (part_for (with_part b p)) e lacks in grind (arith, nat_tests)

  taken : (b : Begun) (o : Option ℕ) → after_words (suc at) ws (takes_part at ss b o) ≡ Ok q → needed k (part_for b) ≤ suc (length ws)
  unfolding after_words
  taken b None e = absurd (err≢ok _ q e)
  taken b (Some p) e = went_on b p e

  word_needs : (n : Next) (kind : Kind) → after_words (suc at) ws (word_read at w ss n kind) ≡ Ok q → needed k n ≤ suc (length ws)
  unfolding after_words
  word_needs any_record Head e = begun (key_named w) e
  word_needs any_record Part e = absurd (err≢ok _ q e)
  word_needs any_record Removal e = removed (key_named w) e
  word_needs any_record Blank e = blanked e
  word_needs (part_for b) Head e = absurd (err≢ok _ q e)
  word_needs (part_for b) Part e = taken b (part_carried w) e
  word_needs (part_for b) Removal e = absurd (err≢ok _ q e)
  word_needs (part_for b) Blank e = absurd (err≢ok _ q e)
  word_needs only_blanks Head e = absurd (err≢ok _ q e)
  word_needs only_blanks Part e = absurd (err≢ok _ q e)
  word_needs only_blanks Removal e = absurd (err≢ok _ q e)
  word_needs only_blanks Blank e = blanked e

words_need : (k v at : ℕ) (ws : List ℕ) (ss : List Setting) (n : Next) (q : Progress) → after_words at ws (Ok (progress ss n)) ≡ Ok q → value_under k ss ≢ Some v → value_under k q.held ≡ Some v
    → needed k n ≤ length ws
unfolding after_words
words_need k v at [] ss n q e lacks has = absurd (lacks (ap (λ r. value_under k (held_then r)) e ∙ has))
words_need k v at (w ∷ ws) ss n q e lacks has = word_needs k v at w ws ss q lacks (λ hs m e2 no2. words_need k v (suc at) ws hs m q e2 no2 has) n (kind_of w) e

put_least : (k v : ℕ) (ss : List Setting) (ws : List ℕ) → Says k (Some v) ss ws → length (setting_words k v) ≤ length ws
put_least k v ss ws says = let h = words_need k v says.at ws ss any_record says.after says.read says.other says.left in omega (arith, length_parts (parts_under k) v)

-- no words at all change nothing
one_least : (k : ℕ) (o : Option ℕ) (ss : List Setting) (ws : List ℕ) → Says k o ss ws → 1 ≤ length ws
unfolding after_words
one_least k o ss [] says = absurd (says.other (ap (λ r. value_under k (held_then r)) says.read ∙ says.left))
one_least k o ss (w ∷ ws) says = omega arith

-- a record that is written uses no more words than it has

pub put_writes_least : (k v : ℕ) (old new rs : List ℕ) (before after : ℕ) → rs ≡ setting_words k v → before ≡ used_in old → after ≡ used_in new → after ≤ before + length rs
    → Least k (Some v) (length (setting_words k v)) old new
put_writes_least k v old new rs before after by was is most = record { words = put_least k v (held_in old); used = omega (arith, ap length by, was, is, most) }

pub removal_writes_least : (k : ℕ) (old new : List ℕ) (before after : ℕ) → before ≡ used_in old → after ≡ used_in new → after ≤ before + 1 → Least k None 1 old new
removal_writes_least k old new before after was is most = record { words = one_least k None (held_in old); used = omega (arith, was, is, most) }

pub nothing_is_least : (k : ℕ) (old : List ℕ) → Least k None 1 old old
nothing_is_least k old = record { words = one_least k None (held_in old); used = omega arith }

-- and what it has says so: wherever it is read, a setting's record sets its value, and a removal takes away what is held

pub setting_says : (k v at : ℕ) (ss : List Setting) → is_setting k v ≡ true → room k ss ≡ true → value_under k ss ≢ Some v → Says k (Some v) ss (setting_words k v)
setting_says k v at ss is can other =
    record { at = at; after = progress (with_value k v ss) any_record; read = read_setting at k v ss is can; other = other; left = value_with_same k v ss }

pub removal_says : (k at : ℕ) (ss : List Setting) → well_formed k ≡ true → value_under k ss ≢ None → Says k None ss (removal_word k ∷ [])
removal_says k at ss is other =
    record { at = at; after = progress (without k ss) any_record; read = read_removal at k ss is; other = other; left = value_gone k ss }
