-- Writing settings one after the other, in ascending key order.
use Rattle.std.proofs.Common.{◌≡◌, ℕ, ◌+◌, ◌-◌, ◌≤◌, List, [], ◌∷◌, ◌++◌, length, take, drop, replicate, Some, None, Option, ◌≢◌, sym, refl, ap, ap₂, ◌∙◌, subst, zero-add, arith}
use Rattle.std.specs.Option.{IsSome}
use Rattle.std.proofs.lemmas.Bool.Decides.{nat_tests}
use Rattle.std.proofs.lemmas.List.{length-append, length-take-le, length-drop, length-replicate, take-append-drop, take_at, drop_all, append-nil}
use borrow.Rule.Slice.PartMut.{put_mid}
use Rattle.frame.specs.Written.{patched, in_front}
use Rattle.frame.proofs.Written.{patched_append, patched_front, patched_part}
use Rattle.layer.specs.declared.setting.Setting.{Setting}
use Rattle.layer.specs.Settings.{setting, value_under, without, key_above, above, Ascends, Sound}
use Rattle.layer.proofs.Walking.{above_zero, above_all, above_next, above_none}
use Rattle.journal.specs.Words.{blank, setting_words}
use Rattle.journal.specs.Writing.{records_of, filled}

-- the settings up to a number are written, but for k's, and what is left goes behind them
pub record Walked (k : ℕ) (ss : List Setting) (number place : ℕ) (words old : List ℕ) : Type 0 where
  pub left : place + length (records_of (without k (above number ss))) ≡ length (records_of (without k ss))
  pub written : patched place (records_of (without k (above number ss))) words ≡ in_front (records_of (without k ss)) old
  pub same : length words ≡ length old

pub walked_none : (k : ℕ) (ss : List Setting) (old : List ℕ) → Ascends ss → Sound ss → Walked k ss 0 0 old old
walked_none k ss old a sound =
    let all = above_all 0 ss (above_zero ss a sound) in
    record {
      left = ap (λ xs. 0 + length (records_of (without k xs))) all ∙ zero-add _;
      written = ap (λ xs. patched 0 (records_of (without k xs)) old) all ∙ patched_front (records_of (without k ss)) old;
      same = refl;
    }

length_patched : (place : ℕ) (xs ws : List ℕ) → place + length xs ≤ length ws → length (patched place xs ws) ≡ length ws
unfolding patched
length_patched place xs ws fits =
    let front = length-take-le place ws (omega arith) in
    let rest = length-drop (place + length xs) ws in
    length-append (take place ws) (xs ++ drop (place + length xs) ws) ∙ ap (λ n. length (take place ws) + n) (length-append xs (drop (place + length xs) ws)) ∙ omega arith

-- the next setting

pub next_held : (ss : List Setting) (number k : ℕ) (held : Option ℕ) → Ascends ss → Sound ss → Some k ≡ key_above number ss → held ≡ value_under k ss → IsSome held
next_held ss number k held a sound e is = let next = above_next 0 number k ss (above_zero ss a sound) e in rw (is ∙ next.1.2) refl

module _ (j : ℕ) (ss : List Setting) (number place k : ℕ) (words old : List ℕ) (a : Ascends ss) (sound : Sound ss)
    (w : Walked j ss number place words old) (e : Some k ≡ key_above number ss) where
  -- it is passed over
  pub walked_past : k ≡ j → Walked j ss k place words old
  walked_past is =
      let next = above_next 0 number k ss (above_zero ss a sound) e in
      let gone : without j (above number ss) ≡ without j (above k ss) = ap (without j) next.1.0 ∙ skips next.0 (above k ss) in
      record {
        left = ap (λ xs. place + length (records_of xs)) (sym gone) ∙ w.left;
        written = ap (λ xs. patched place (records_of xs) words) (sym gone) ∙ w.written;
        same = w.same;
      }
    where
      skips : (v : ℕ) (xs : List Setting) → without j (setting k v ∷ xs) ≡ without j xs
      skips v xs = grind (arith, nat_tests)

  -- or it is written behind those before it
  module _ (v : ℕ) (rs : List ℕ) (ne : k ≢ j) (is : Some v ≡ value_under k ss) (by : rs ≡ setting_words k v) (fits : length (records_of (without j ss)) ≤ length old) where
    next_records : records_of (without j (above number ss)) ≡ setting_words k v ++ records_of (without j (above k ss))
    unfolding records_of
    next_records =
        let next = above_next 0 number k ss (above_zero ss a sound) e in
        let same : next.0 ≡ v = some_same next.0 v (sym next.1.2 ∙ sym is) in
        ap (λ xs. records_of (without j xs)) next.1.0 ∙ ap records_of (stays next.0 (above k ss)) ∙ ap (λ x. setting_words k x ++ records_of (without j (above k ss))) same
      where
        some_same : (x y : ℕ) → Some x ≡ Some y → x ≡ y
        some_same x y e = cc

        stays : (x : ℕ) (xs : List Setting) → without j (setting k x ∷ xs) ≡ setting k x ∷ without j xs
        stays x xs = grind (arith, nat_tests)

    room_for : place + length (setting_words k v) ≤ length words
    room_for = omega (arith, ap length next_records, length-append (setting_words k v) (records_of (without j (above k ss))), w.left, w.same)

    pub walked_room : place + length rs ≤ length words
    walked_room = subst (λ (r : List ℕ). place + length r ≤ length words) (sym by) room_for

    next_walked : Walked j ss k (place + length (setting_words k v)) (patched place (setting_words k v) words) old
    next_walked =
        record {
          left = omega (arith, ap length next_records, length-append (setting_words k v) (records_of (without j (above k ss))), w.left);
          written = patched_append place (setting_words k v) (records_of (without j (above k ss))) words room_for ∙ ap (λ xs. patched place xs words) (sym next_records) ∙ w.written;
          same = length_patched place (setting_words k v) words room_for ∙ w.same;
        }

    pub walked_next : (behind : ℕ) (now : List ℕ) → behind ≡ place + length rs → now ≡ patched place rs words → Walked j ss k behind now old
    walked_next behind now there written = rw (there, written, by) next_walked

-- at the end all are written
pub walked_all : (j : ℕ) (ss : List Setting) (number place : ℕ) (words old : List ℕ) → Walked j ss number place words old → None ≡ key_above number ss
    → (place ≡ length (records_of (without j ss))) × (words ≡ in_front (records_of (without j ss)) old)
unfolding records_of patched
walked_all j ss number place words old w e =
    let none = above_none number ss e in (
      omega (arith, w.left, ap (λ xs. length (records_of (without j xs))) none),
      sym (ap (λ n. take place words ++ drop n words) {x = place + 0} {y = place} (omega arith) ∙ take-append-drop place words) ∙ ap (λ xs. patched place (records_of (without j xs)) words) (sym none)
          ∙ w.written,
    )

-- blanks behind all that was written
module _ (xs last old second third : List ℕ) (place used : ℕ) (fits : length xs + length last ≤ length old) (is : place ≡ length xs) (front : second ≡ in_front xs old)
    (behind : used ≡ place + length last) (written : third ≡ patched place last second) where
  all_written : third ≡ (xs ++ last) ++ drop (length (xs ++ last)) old
  all_written =
      written ∙ ap (λ n. patched n last second) (is ∙ sym (zero-add (length xs))) ∙ ap (patched (0 + length xs) last) (front ∙ sym (patched_front xs old))
      ∙ patched_append 0 xs last old (omega arith) ∙ patched_front (xs ++ last) old

  used_is : used ≡ length (xs ++ last)
  used_is = omega (arith, length-append xs last, behind, is)

  length_all : length third ≡ length old
  length_all = ap length all_written ∙ length-append (xs ++ last) _ ∙ omega (arith, length-append xs last, length-drop (length (xs ++ last)) old)

  pub blanks_behind : (part : List ℕ) → part ≡ replicate (length (take (length third - used) (drop used third))) blank → put_mid used (length third - used) third part ≡ filled (length old) (xs ++ last)
  unfolding patched
  blanks_behind part blanks =
      let n = length third - used in
      let long : length (take n (drop used third)) ≡ n = length-take-le n (drop used third) (omega (arith, length-drop used third)) in
      let part_is : part ≡ replicate n blank = blanks ∙ ap (λ m. replicate m blank) long in
      let w : take used third ≡ xs ++ last = ap (take used) all_written ∙ take_at (xs ++ last) _ used (sym used_is) in
      let end : drop (used + length (replicate n blank)) third ≡ [] = drop_all _ third (omega (arith, length-replicate n blank)) in
      patched_part used n (replicate n blank) third part (sym (length-replicate n blank)) part_is
      ∙ ap₂ (λ (a b : List ℕ). a ++ (replicate n blank ++ b)) w end ∙ ap (λ (b : List ℕ). (xs ++ last) ++ b) (append-nil (replicate n blank))
      ∙ ap (λ m. (xs ++ last) ++ replicate m blank) {x = n} {y = length old - length (xs ++ last)} (omega (arith, length_all, used_is))
