-- Buffers: records behind one another, blanks behind them, and what inspection finds of a buffer that was written.
use Rattle.std.proofs.Common.{◌≡◌, ℕ, zero, suc, ◌+◌, ◌-◌, ◌*◌, ◌/◌, ◌^◌, ◌<◌, ◌≤◌, Bool, true, false, cond, List, [], ◌∷◌, ◌++◌, length, get_or, take, drop, replicate, Some, None, Ok, Err, Option, Result, unwrap_or, ◌==◌, ◌≢◌, nat_le, ◌&&◌, true≢false, sym, refl, ap, ap₂, ◌∙◌, subst, arith}
use Rattle.std.specs.List.{AllByRecursion}
use Rattle.std.proofs.lemmas.Bool.Decides.{nat_tests}
use Rattle.std.proofs.lemmas.Bool.{cond-true, cond-false, eqb-true, leb-true}
use Rattle.std.proofs.lemmas.List.{append_assoc, append-nil, length-append, length-replicate, drop-drop, drop-replicate, length-take-le}
use Rattle.item.specs.Keys.{fits_key}
use Rattle.frame.specs.Written.{patched}
use Rattle.layer.specs.declared.setting.Setting.{Setting}
use Rattle.layer.specs.Settings.{is_setting, with_value, Above}
use Rattle.layer.specs.Stores.{room}
use Rattle.journal.specs.declared.fault.JournalFault.{JournalFault}
use Rattle.journal.specs.declared.fault.JournalFault.TheVariants.{WordCount, Malformed, Unfit, TooMany}
use Rattle.journal.specs.declared.word.Kind.{Kind}
use Rattle.journal.specs.declared.word.Kind.TheVariants.{Head, Part, Removal, Blank}
use Rattle.journal.specs.Words.{blank, parts_under, removal_word, part_words, setting_words, kind_of, key_named, part_carried}
use Rattle.journal.specs.Inspecting.{Begun, Next, any_record, part_for, only_blanks, Progress, progress, begins, removes, ends_as, goes_on, with_part, takes_part, word_read, after_word, after_words, at_end, if_read, inspected}
use Rattle.journal.specs.Writing.{records_of, used_in, filled, FirstBlank, Written}
use Rattle.journal.proofs.Words.{parts_few, head_small}
use Rattle.journal.proofs.Records.{read_none, read_setting}
use Rattle.journal.proofs.Settings.{with_end, room_end}

-- Words behind words

read_err : (at : ℕ) (ws : List ℕ) (f : JournalFault) → after_words at ws (Err f) ≡ Err f
unfolding after_words
read_err at ws f = refl

pub read_append : (at : ℕ) (xs ys : List ℕ) (r : Result Progress JournalFault) → after_words at (xs ++ ys) r ≡ after_words (at + length xs) ys (after_words at xs r)
unfolding after_words
read_append at xs ys (Err f) = refl
read_append at [] ys (Ok p) = ap (λ k. after_words k ys (Ok p)) {x = at} {y = at + 0} (omega arith)
read_append at (x ∷ xs) ys (Ok p) =
    read_append (suc at) xs ys (after_word at x p) ∙ ap (λ k. after_words k ys (after_words (suc at) xs (after_word at x p))) {x = suc at + length xs} {y = at + suc (length xs)} (omega arith)

pub read_records : (at : ℕ) (xs ys : List Setting) → Above 0 (xs ++ ys) → AllByRecursion (λ s. is_setting s.key s.value ≡ true) ys → length xs + length ys ≤ 128
    → after_words at (records_of ys) (Ok (progress xs any_record)) ≡ Ok (progress (xs ++ ys) any_record)
unfolding records_of
read_records at xs [] a all few = read_none at _ ∙ ap (λ (ss : List Setting). Ok (progress ss any_record)) (sym (append-nil xs))
read_records at xs (y ∷ ys) a all few =
    let can = room_end 0 xs ys y a (omega arith) in
    let more : xs ++ y ∷ ys ≡ (xs ++ y ∷ []) ++ ys = sym (append_assoc xs (y ∷ []) ys) in
    read_append at (setting_words y.key y.value) (records_of ys) _
    ∙ ap (after_words (at + length (setting_words y.key y.value)) (records_of ys)) (read_setting at y.key y.value xs all.0 can ∙ ap (λ (ss : List Setting). Ok (progress ss any_record)) (with_end 0 xs ys y a))
    ∙ read_records (at + length (setting_words y.key y.value)) (xs ++ y ∷ []) ys (subst (Above 0) more a) all.1 (omega (arith, length-append xs (y ∷ [])))
    ∙ ap (λ (ss : List Setting). Ok (progress ss any_record)) (sym more)

-- How many words are used

pub used_le : (ws : List ℕ) → used_in ws ≤ length ws
unfolding used_in
used_le [] = omega arith
used_le (w ∷ ws) = let h = used_le ws in grind (arith, nat_tests)

used_all : (ws : List ℕ) → ((j : ℕ) → j < length ws → get_or ws j 0 ≢ blank) → used_in ws ≡ length ws
unfolding used_in
used_all [] none = refl
used_all (w ∷ ws) none = let here = none 0 (omega arith) in let h = used_all ws (λ j lt. none (suc j) (omega arith)) in grind (arith, nat_tests)

used_at : (i : ℕ) (ws : List ℕ) → i < length ws → get_or ws i 0 ≡ blank → ((j : ℕ) → j < i → get_or ws j 0 ≢ blank) → used_in ws ≡ i
unfolding used_in
used_at i [] lt is none = absurd (omega arith)
used_at zero (w ∷ ws) lt is none = grind (arith, nat_tests)
used_at (suc i) (w ∷ ws) lt is none =
    let here = none 0 (omega arith) in
    let h = used_at i ws (omega arith) is (λ j less. none (suc j) (omega arith)) in grind (arith, nat_tests)

pub used_before : (ws : List ℕ) (place : Option ℕ) → FirstBlank ws place → unwrap_or place (length ws) ≡ used_in ws
used_before ws None first = sym (used_all ws first)
used_before ws (Some i) first = sym (used_at i ws first.0 first.1 first.2)

-- of words none of which is blank, all are used
abbrev pub NoBlank : List ℕ → Type 0
NoBlank ws = used_in ws ≡ length ws

pub used_append : (xs ys : List ℕ) → NoBlank xs → used_in (xs ++ ys) ≡ length xs + used_in ys
unfolding used_in
used_append [] ys none = omega arith
used_append (x ∷ xs) ys none = let h = used_le xs in grind (arith, nat_tests, used_append xs ys)

pub used_blanks : (n : ℕ) → used_in (replicate n blank) ≡ 0
unfolding used_in
used_blanks zero = refl
used_blanks (suc n) = refl

pub none_append : (xs ys : List ℕ) → NoBlank xs → NoBlank ys → NoBlank (xs ++ ys)
none_append xs ys x y = let h = used_append xs ys x in let l = length-append xs ys in omega arith

none_parts : (n v : ℕ) → NoBlank (part_words n v)
unfolding used_in part_words
none_parts zero v = refl
none_parts (suc n) v = let h = none_parts n (v / 2 ^ 16) in grind (arith, nat_tests)

pub none_setting : (k v : ℕ) → NoBlank (setting_words k v)
unfolding used_in
none_setting k v = let small = head_small k in let h = none_parts (parts_under k) v in grind (arith, nat_tests)

pub none_removal : (k : ℕ) → NoBlank (removal_word k ∷ [])
unfolding used_in
none_removal k = let small = head_small k in grind (arith, nat_tests)

pub none_records : (ss : List Setting) → NoBlank (records_of ss)
unfolding records_of used_in
none_records [] = refl
none_records (s ∷ ss) = none_append (setting_words s.key s.value) (records_of ss) (none_setting s.key s.value) (none_records ss)

pub none_front : (ws : List ℕ) → NoBlank (take (used_in ws) ws)
unfolding used_in
none_front [] = refl
none_front (w ∷ ws) = go (w == blank) refl (none_front ws)
  where
    go : (b : Bool) → (w == blank) ≡ b → NoBlank (take (used_in ws) ws) → NoBlank (take (cond b 0 (suc (used_in ws))) (w ∷ ws))
    go true e rest = refl
    go false e rest = cond-false _ _ _ e ∙ ap suc rest

-- A setting takes five words at most

pub length_parts : (n v : ℕ) → length (part_words n v) ≡ n
unfolding part_words
length_parts zero v = refl
length_parts (suc n) v = ap suc (length_parts n (v / 2 ^ 16))

pub setting_few : (k v : ℕ) → length (setting_words k v) ≤ 5
setting_few k v = omega (arith, length_parts (parts_under k) v, parts_few k)

pub records_few : (ss : List Setting) → length (records_of ss) ≤ 5 * length ss
unfolding records_of
records_few [] = omega arith
records_few (s ∷ ss) = omega (arith, length-append (setting_words s.key s.value) (records_of ss), setting_few s.key s.value, records_few ss)

-- Blanks at the end

abbrev held_then : Result Progress JournalFault → List Setting
held_then (Ok p) = p.held
held_then (Err f) = []

abbrev next_then : Result Progress JournalFault → Next
next_then (Ok p) = p.next
next_then (Err f) = any_record

err≢ok : (f : JournalFault) (q : Progress) → ◌≡◌ {A = Result Progress JournalFault} (Err f) (Ok q) → ⊥
err≢ok f q e = cc

-- behind a blank come blanks alone
abbrev Alone : List ℕ → List Setting → Progress → Type 0
Alone ws ss q = (ws ≡ replicate (length ws) blank) × (q.held ≡ ss)

blanks_alone : (at : ℕ) (ws : List ℕ) (ss : List Setting) (q : Progress) → after_words at ws (Ok (progress ss only_blanks)) ≡ Ok q → Alone ws ss q
unfolding after_words
blanks_alone at [] ss q e = (refl, sym (ap held_then e))
blanks_alone at (w ∷ ws) ss q e = by_kind (kind_of w) e (blanks_alone (suc at) ws ss q)
  where
    one : (b : Bool) → (w == blank) ≡ b → after_words (suc at) ws (cond b (Ok (progress ss only_blanks)) (Err (Malformed at))) ≡ Ok q
        → (after_words (suc at) ws (Ok (progress ss only_blanks)) ≡ Ok q → Alone ws ss q) → Alone (w ∷ ws) ss q
    one true is e rest = (ap₂ (λ (x : ℕ) (xs : List ℕ). x ∷ xs) (eqb-true w blank is) (rest e).0, (rest e).1)
    one false is e rest = absurd (err≢ok _ q e)

    by_kind : (k : Kind) → after_words (suc at) ws (word_read at w ss only_blanks k) ≡ Ok q → (after_words (suc at) ws (Ok (progress ss only_blanks)) ≡ Ok q → Alone ws ss q) → Alone (w ∷ ws) ss q
    by_kind Head e rest = absurd (err≢ok _ q e)
    by_kind Part e rest = absurd (err≢ok _ q e)
    by_kind Removal e rest = absurd (err≢ok _ q e)
    by_kind Blank e rest = one (w == blank) refl e rest

read_blanks : (at n : ℕ) (ss : List Setting) → after_words at (replicate n blank) (Ok (progress ss only_blanks)) ≡ Ok (progress ss only_blanks)
unfolding after_words
read_blanks at zero ss = refl
read_blanks at (suc n) ss = read_blanks (suc at) n ss

closed : (count at n : ℕ) (ss : List Setting) → if_read count (after_words at (replicate n blank) (Ok (progress ss any_record))) ≡ Ok ss
unfolding after_words
closed count at zero ss = refl
closed count at (suc n) ss = ap (if_read count) (read_blanks (suc at) n ss)

abbrev start : Result Progress JournalFault
start = Ok (progress [] any_record)

-- words whose records leave settings, and blanks behind them, are accepted and hold these
pub accepted_with : (xs : List ℕ) (n : ℕ) (ss : List Setting) → after_words 0 xs (Ok (progress [] any_record)) ≡ Ok (progress ss any_record)
    → 640 ≤ length xs + n → length xs + n ≤ 16384 → inspected (xs ++ replicate n blank) ≡ Ok ss
accepted_with xs n ss e low high =
    let len : length (xs ++ replicate n blank) ≡ length xs + n = length-append xs (replicate n blank) ∙ ap (λ m. length xs + m) (length-replicate n blank) in
    let count : nat_le 640 (length (xs ++ replicate n blank)) && nat_le (length (xs ++ replicate n blank)) 16384 ≡ true = grind (arith, nat_tests) in
    cond-true _ (if_read (length (xs ++ replicate n blank)) (after_words 0 (xs ++ replicate n blank) start)) (Err WordCount) count
    ∙ ap (if_read (length (xs ++ replicate n blank))) (read_append 0 xs (replicate n blank) start ∙ ap (after_words (0 + length xs) (replicate n blank)) e)
    ∙ closed (length (xs ++ replicate n blank)) (0 + length xs) n ss

-- What an accepted buffer is: records that leave the settings, and blanks

abbrev going : Next → Bool
going any_record = true
going (part_for b) = true
going only_blanks = false

abbrev whole : Next → Bool
whole any_record = true
whole (part_for b) = false
whole only_blanks = true

abbrev goes : Result Progress JournalFault → Bool
goes (Ok p) = going p.next
goes (Err f) = true

goes_ends : (ss : List Setting) (head k v : ℕ) → goes (ends_as ss head k v) ≡ true
goes_ends ss head k v = go (fits_key k v) (room k ss)
  where
    go : (f r : Bool) → goes (cond f (cond r (Ok (progress (with_value k v ss) any_record)) (Err (TooMany head))) (Err (Unfit head))) ≡ true
    go true true = refl
    go true false = refl
    go false r = refl

goes_on_goes : (ss : List Setting) (b : Begun) → goes (goes_on ss b) ≡ true
goes_on_goes ss b = go (b.parts == parts_under b.key)
  where
    go : (last : Bool) → goes (cond last (ends_as ss b.head b.key b.value) (Ok (progress ss (part_for b)))) ≡ true
    go true = goes_ends ss b.head b.key b.value
    go false = refl

-- a word that is not blank goes on
word_goes : (at w : ℕ) (ss : List Setting) (n : Next) (k : Kind) → going n ≡ true → (w == blank) ≡ false → goes (word_read at w ss n k) ≡ true
word_goes at w ss any_record Head g ne = go (key_named w)
  where
    go : (o : Option ℕ) → goes (begins at ss o) ≡ true
    go None = refl
    go (Some k) = refl
word_goes at w ss any_record Part g ne = refl
word_goes at w ss any_record Removal g ne = go (key_named w)
  where
    go : (o : Option ℕ) → goes (removes at ss o) ≡ true
    go None = refl
    go (Some k) = refl
word_goes at w ss any_record Blank g ne = ap goes (cond-false _ _ _ ne)
word_goes at w ss (part_for b) Head g ne = refl
word_goes at w ss (part_for b) Part g ne = go (part_carried w)
  where
    go : (o : Option ℕ) → goes (takes_part at ss b o) ≡ true
    go None = refl
    go (Some p) = goes_on_goes ss (with_part b p)
word_goes at w ss (part_for b) Removal g ne = refl
word_goes at w ss (part_for b) Blank g ne = refl
word_goes at w ss only_blanks k g ne = absurd (true≢false (sym g))

abbrev Front : ℕ → List ℕ → Progress → Progress → Type 0
Front at ws p q = (after_words at (take (used_in ws) ws) (Ok p) ≡ Ok (progress q.held any_record)) × (drop (used_in ws) ws ≡ replicate (length ws - used_in ws) blank)

settled : (n : Next) → going n ≡ true → whole n ≡ true → n ≡ any_record
settled any_record g w = refl
settled (part_for b) g w = absurd (true≢false (sym w))
settled only_blanks g w = absurd (true≢false (sym g))

-- a blank word comes behind a whole record
blank_next : (at : ℕ) (ws : List ℕ) (ss : List Setting) (n : Next) (q : Progress) → going n ≡ true → after_words (suc at) ws (word_read at blank ss n Blank) ≡ Ok q
    → (n ≡ any_record) × (after_words (suc at) ws (Ok (progress ss only_blanks)) ≡ Ok q)
unfolding after_words
blank_next at ws ss any_record q g e = (refl, e)
blank_next at ws ss (part_for b) q g e = absurd (err≢ok _ q e)
blank_next at ws ss only_blanks q g e = absurd (true≢false (sym g))

front_blank : (at x : ℕ) (ws : List ℕ) (p q : Progress) → going p.next ≡ true → x ≡ blank → after_words (suc at) ws (after_word at x p) ≡ Ok q
    → ◌≡◌ {A = Result Progress JournalFault} (Ok p) (Ok (progress q.held any_record)) × (x ∷ ws ≡ replicate (suc (length ws) - 0) blank)
front_blank at x ws p q g is e =
    let at_blank : after_words (suc at) ws (word_read at blank p.held p.next Blank) ≡ Ok q = ap (λ w. after_words (suc at) ws (after_word at w p)) (sym is) ∙ e in
    let next = blank_next at ws p.held p.next q g at_blank in
    let alone = blanks_alone (suc at) ws p.held q next.1 in (
      ap₂ (λ (ss : List Setting) (n : Next). Ok (progress ss n)) (sym alone.1) next.0,
      ap₂ (λ (w : ℕ) (rest : List ℕ). w ∷ rest) is alone.0 ∙ ap (λ n. replicate n blank) {x = suc (length ws)} {y = suc (length ws) - 0} (omega arith),
    )

front_goes : (at : ℕ) (ws : List ℕ) (q : Progress) (r : Result Progress JournalFault) → goes r ≡ true → after_words at ws r ≡ Ok q
    → ((p : Progress) → going p.next ≡ true → after_words at ws (Ok p) ≡ Ok q → Front at ws p q)
    → (after_words at (take (used_in ws) ws) r ≡ Ok (progress q.held any_record)) × (drop (used_in ws) ws ≡ replicate (length ws - used_in ws) blank)
unfolding after_words
front_goes at ws q (Ok p) g e rest = rest p g e
front_goes at ws q (Err f) g e rest = absurd (err≢ok f q e)

front : (at : ℕ) (ws : List ℕ) (p q : Progress) → going p.next ≡ true → whole q.next ≡ true → after_words at ws (Ok p) ≡ Ok q → Front at ws p q
unfolding after_words used_in
front at [] p q g w e =
    let next : p.next ≡ any_record = settled p.next g (ap whole (ap next_then e) ∙ w) in
    (ap₂ (λ (ss : List Setting) (n : Next). Ok (progress ss n)) (ap held_then e) next, refl)
front at (x ∷ ws) p q g w e = go (x == blank) refl (λ p2 g2 e2. front (suc at) ws p2 q g2 w e2)
  where
    go : (b : Bool) → (x == blank) ≡ b → ((p2 : Progress) → going p2.next ≡ true → after_words (suc at) ws (Ok p2) ≡ Ok q → Front (suc at) ws p2 q)
        → (after_words at (take (cond b 0 (suc (used_in ws))) (x ∷ ws)) (Ok p) ≡ Ok (progress q.held any_record))
        × (drop (cond b 0 (suc (used_in ws))) (x ∷ ws) ≡ replicate (suc (length ws) - cond b 0 (suc (used_in ws))) blank)
    go true is rest = front_blank at x ws p q g (eqb-true x blank is) e
    go false ne rest =
        let h = front_goes (suc at) ws q (after_word at x p) (word_goes at x p.held p.next (kind_of x) g ne) e rest in
        (h.0, h.1 ∙ ap (λ n. replicate n blank) {x = length ws - used_in ws} {y = suc (length ws) - suc (used_in ws)} (omega arith))

-- an accepted buffer's records leave what it holds, and all behind them is blank
pub record Accepted (ws : List ℕ) (ss : List Setting) : Type 0 where
  pub many : 640 ≤ length ws
  pub few : length ws ≤ 16384
  pub records : after_words 0 (take (used_in ws) ws) (Ok (progress [] any_record)) ≡ Ok (progress ss any_record)
  pub rest : drop (used_in ws) ws ≡ replicate (length ws - used_in ws) blank

abbrev Ended : List ℕ → Result Progress JournalFault → List Setting → Type 0
Ended ws r ss = (q : Progress) × ((r ≡ Ok q) × (whole q.next ≡ true) × (q.held ≡ ss))

abbrev settings_then : Result (List Setting) JournalFault → List Setting
settings_then (Ok ss) = ss
settings_then (Err f) = []

no_settings : (f : JournalFault) (ss : List Setting) → ◌≡◌ {A = Result (List Setting) JournalFault} (Err f) (Ok ss) → ⊥
no_settings f ss e = cc

end_settled : (count : ℕ) (hs : List Setting) (n : Next) (ss : List Setting) → at_end count hs n ≡ Ok ss → (whole n ≡ true) × (hs ≡ ss)
end_settled count hs any_record ss e = (refl, ap settings_then e)
end_settled count hs (part_for b) ss e = absurd (no_settings _ ss e)
end_settled count hs only_blanks ss e = (refl, ap settings_then e)

ended : (ws : List ℕ) (count : ℕ) (r : Result Progress JournalFault) (ss : List Setting) → if_read count r ≡ Ok ss → Ended ws r ss
ended ws count (Err f) ss e = absurd (no_settings f ss e)
ended ws count (Ok q) ss e = let h = end_settled count q.held q.next ss e in (q, (refl, h.0, h.1))

pub accepted : (ws : List ℕ) (ss : List Setting) → inspected ws ≡ Ok ss → Accepted ws ss
accepted ws ss e = go (nat_le 640 (length ws)) (nat_le (length ws) 16384) refl refl e
  where
    go : (low high : Bool) → nat_le 640 (length ws) ≡ low → nat_le (length ws) 16384 ≡ high → cond (low && high) (if_read (length ws) (after_words 0 ws start)) (Err WordCount) ≡ Ok ss → Accepted ws ss
    go true true low high e =
        let end = ended ws (length ws) (after_words 0 ws start) ss e in
        let f = front 0 ws (progress [] any_record) end.0 refl end.1.1 end.1.0 in
        record { many = leb-true _ _ low; few = leb-true _ _ high; records = f.0 ∙ ap (λ (hs : List Setting). Ok (progress hs any_record)) end.1.2; rest = f.1 }
    go true false low high e = absurd (no_settings _ ss e)
    go false high2 low high e = absurd (no_settings _ ss e)

-- What is written

-- words behind which all is blank
pub settled_with : (xs : List ℕ) (n : ℕ) (ss : List Setting) → after_words 0 xs start ≡ Ok (progress ss any_record) → NoBlank xs
    → 640 ≤ length xs + n → length xs + n ≤ 16384 → Written (xs ++ replicate n blank) ss (length xs)
settled_with xs n ss e none low high =
    record { accepted = accepted_with xs n ss e low high; counted = sym (used_append xs (replicate n blank) none ∙ ap (λ m. length xs + m) (used_blanks n) ∙ add-zero (length xs)) }
  where
    add-zero : (n : ℕ) → n + 0 ≡ n
    add-zero n = omega arith

-- a record behind the used words
pub appended : (ws rs : List ℕ) (ss new : List Setting) → inspected ws ≡ Ok ss → NoBlank rs → ((at : ℕ) → after_words at rs (Ok (progress ss any_record)) ≡ Ok (progress new any_record))
    → used_in ws + length rs ≤ length ws → Written (patched (used_in ws) rs ws) new (used_in ws + length rs)
unfolding patched
appended ws rs ss new e none reads fits =
    let a = accepted ws ss e in
    let u = used_in ws in
    let front = take u ws in
    let rest = length ws - (u + length rs) in
    let front_len : length front ≡ u = length-take-le u ws (omega arith) in
    let behind : drop (u + length rs) ws ≡ replicate rest blank =
    sym (drop-drop (length rs) u ws) ∙ ap (drop (length rs)) a.rest ∙ drop-replicate (length rs) (length ws - u) blank ∙ ap (λ n. replicate n blank) {x = length ws - u - length rs} {y = rest} (omega arith) in
    let same : front ++ (rs ++ drop (u + length rs) ws) ≡ (front ++ rs) ++ replicate rest blank = ap (λ (b : List ℕ). front ++ (rs ++ b)) behind ∙ sym (append_assoc front rs (replicate rest blank)) in
    let read : after_words 0 (front ++ rs) start ≡ Ok (progress new any_record) = read_append 0 front rs start ∙ ap (after_words (0 + length front) rs) a.records ∙ reads (0 + length front) in
    let len : length (front ++ rs) ≡ u + length rs = length-append front rs ∙ ap (λ n. n + length rs) front_len in
    let w = settled_with (front ++ rs) rest new read (none_append front rs (none_front ws) none) (omega (arith, len, a.many)) (omega (arith, len, a.few)) in
    record { accepted = ap inspected same ∙ w.accepted; counted = sym len ∙ w.counted ∙ ap used_in (sym same) }

-- all settings written anew, and a record behind them
pub rewritten : (n : ℕ) (others new : List Setting) (last : List ℕ) → 640 ≤ n → n ≤ 16384 → Above 0 others → AllByRecursion (λ s. is_setting s.key s.value ≡ true) others → length others ≤ 128
    → NoBlank last → ((at : ℕ) → after_words at last (Ok (progress others any_record)) ≡ Ok (progress new any_record)) → length (records_of others ++ last) ≤ n
    → Written (filled n (records_of others ++ last)) new (length (records_of others ++ last))
rewritten n others new last many few a all held none reads fits =
    let xs = records_of others ++ last in
    let read : after_words 0 xs start ≡ Ok (progress new any_record) =
    read_append 0 (records_of others) last start ∙ ap (after_words (0 + length (records_of others)) last) (read_records 0 [] others a all (omega (arith, held))) ∙ reads (0 + length (records_of others)) in
    settled_with xs (n - length xs) new read (none_append (records_of others) last (none_records others) none) (omega arith) (omega arith)
