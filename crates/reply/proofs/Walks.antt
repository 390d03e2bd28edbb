-- The pairs of some bytes, one further and at their end, and counted from another place.
use Rattle.std.proofs.Common.{◌≡◌, ℕ, zero, suc, ◌+◌, ◌-◌, ◌<◌, ◌≤◌, true, List, [], ◌∷◌, length, take, drop, Some, None, Ok, Err, Option, Result, sym, refl, ap, ap₂, ◌∙◌, le_of_suc-le-suc, not-suc-le-zero, suc-add, add-suc, add-zero, arith}
use Rattle.std.proofs.lemmas.List.{length-drop, drop-drop, take_rest}
use Rattle.std.specs.Result.{is_ok}
use Rattle.layer.specs.declared.setting.Setting.{Setting}
use Rattle.reply.specs.declared.fault.ReadFault.{ReadFault}
use Rattle.reply.specs.declared.fault.ReadFault.TheVariants.{BadPair}
use Rattle.reply.specs.Pairs.{first_pair, pair_tail, pair_size, in_front_of, pairs_at, pairs_from, pairs_read, settings_of, settings_in}

-- what belongs to a pair that is read already is passed over
pairs_inside : (place k : ℕ) (bs : List ℕ) → k ≤ length bs → pairs_from place k bs ≡ pairs_from (place + k) 0 (drop k bs)
unfolding pairs_from
pairs_inside place zero bs h = rw add-zero refl
pairs_inside place (suc k) [] h = absurd (not-suc-le-zero h)
pairs_inside place (suc k) (x ∷ xs) h =
    pairs_inside (suc place) k xs (le_of_suc-le-suc h) ∙ ap (λ n. pairs_from n 0 (drop k xs)) (suc-add place k ∙ sym (add-suc place k))

pub pairs_step : (place : ℕ) (bs : List ℕ) (s : Setting) → first_pair bs ≡ Some s → pair_size s ≤ length bs
    → pairs_read place bs ≡ in_front_of s (pairs_read (place + pair_size s) (drop (pair_size s) bs))
unfolding pairs_from pairs_at
pairs_step place [] s e h = absurd (not-suc-le-zero h)
pairs_step place (x ∷ xs) s e h =
    let on = pairs_inside (suc place) (pair_tail s) xs (le_of_suc-le-suc h) ∙ ap (λ n. pairs_from n 0 (drop (pair_tail s) xs)) (suc-add place (pair_tail s) ∙ sym (add-suc place (pair_tail s))) in
    ap (λ o. pairs_at o place (λ k. pairs_from (suc place) k xs)) e ∙ ap (in_front_of s) on

pub pairs_bad : (place : ℕ) (bs : List ℕ) → first_pair bs ≡ None → 0 < length bs → pairs_read place bs ≡ Err (BadPair place)
unfolding pairs_from pairs_at
pairs_bad place [] e h = absurd (omega arith)
pairs_bad place (x ∷ xs) e h = ap (λ o. pairs_at o place (λ k. pairs_from (suc place) k xs)) e

pub pairs_end : (place : ℕ) (bs : List ℕ) → length bs ≡ 0 → pairs_read place bs ≡ Ok []
unfolding pairs_from
pairs_end place [] e = refl
pairs_end place (x ∷ xs) e = absurd (omega arith)

-- Counted from another place, the pairs are the same

abbrev pub pairs_only : Result (List Setting) ReadFault → Option (List Setting)
pairs_only (Ok ss) = Some ss
pairs_only (Err f) = None

abbrev pub more_pairs : Setting → Option (List Setting) → Option (List Setting)
more_pairs s None = None
more_pairs s (Some ss) = Some (s ∷ ss)

only_more : (s : Setting) (r : Result (List Setting) ReadFault) → pairs_only (in_front_of s r) ≡ more_pairs s (pairs_only r)
only_more s (Ok ss) = refl
only_more s (Err f) = refl

moved_at : (o : Option Setting) (p q : ℕ) (f g : ℕ → Result (List Setting) ReadFault) → ((k : ℕ) → pairs_only (f k) ≡ pairs_only (g k)) → pairs_only (pairs_at o p f) ≡ pairs_only (pairs_at o q g)
unfolding pairs_at
moved_at None p q f g h = refl
moved_at (Some s) p q f g h = only_more s (f (pair_tail s)) ∙ ap (more_pairs s) (h (pair_tail s)) ∙ sym (only_more s (g (pair_tail s)))

pub pairs_moved : (p q k : ℕ) (bs : List ℕ) → pairs_only (pairs_from p k bs) ≡ pairs_only (pairs_from q k bs)
unfolding pairs_from
pairs_moved p q k [] = refl
pairs_moved p q zero (x ∷ xs) = moved_at (first_pair (x ∷ xs)) p q _ _ (λ k. pairs_moved (suc p) (suc q) k xs)
pairs_moved p q (suc k) (x ∷ xs) = pairs_moved (suc p) (suc q) k xs

-- The fault of what was read, which pairs in front of it do not change

abbrev pub fault_of : Result (List Setting) ReadFault → Option ReadFault
fault_of (Ok ss) = None
fault_of (Err f) = Some f

fault_more : (s : Setting) (r : Result (List Setting) ReadFault) → fault_of (in_front_of s r) ≡ fault_of r
fault_more s (Ok ss) = refl
fault_more s (Err f) = refl

pub fault_step : (place : ℕ) (bs : List ℕ) (s : Setting) → first_pair bs ≡ Some s → pair_size s ≤ length bs
    → fault_of (pairs_read (place + pair_size s) (drop (pair_size s) bs)) ≡ fault_of (pairs_read place bs)
fault_step place bs s e h = sym (ap fault_of (pairs_step place bs s e h) ∙ fault_more s _)

pub err_of_fault : (r : Result (List Setting) ReadFault) (f : ReadFault) → Some f ≡ fault_of r → Err f ≡ r
err_of_fault (Ok ss) f e = absurd (cc)
err_of_fault (Err g) f e = cc

-- with no fault all are read, and wherever they stand
pub ok_of_none : (p q : ℕ) (bs : List ℕ) → None ≡ fault_of (pairs_read p bs) → is_ok (pairs_read q bs) ≡ true
ok_of_none p q bs e = go (pairs_read p bs) (pairs_read q bs) e (pairs_moved p q 0 bs)
  where
    go : (r t : Result (List Setting) ReadFault) → None ≡ fault_of r → pairs_only r ≡ pairs_only t → is_ok t ≡ true
    go (Ok ss) (Ok ts) e m = refl
    go (Ok ss) (Err f) e m = absurd (cc)
    go (Err f) t e m = absurd (cc)

pub all_of_none : (p q : ℕ) (bs : List ℕ) → None ≡ fault_of (pairs_read p bs) → Ok (settings_of (pairs_read q bs)) ≡ pairs_read p bs
all_of_none p q bs e = go (pairs_read p bs) (pairs_read q bs) e (pairs_moved p q 0 bs)
  where
    go : (r t : Result (List Setting) ReadFault) → None ≡ fault_of r → pairs_only r ≡ pairs_only t → Ok (settings_of t) ≡ r
    go (Ok ss) (Ok ts) e m = cc
    go (Ok ss) (Err f) e m = absurd (cc)
    go (Err f) t e m = absurd (cc)

-- The iterator: none is left where none is at the front; else one less

pub none_left : (bs : List ℕ) → first_pair bs ≡ None → settings_in bs ≡ []
unfolding pairs_from settings_in
none_left [] e = refl
none_left (x ∷ xs) e = ap settings_of (pairs_bad 0 (x ∷ xs) e (omega arith))

module _ (bs rest : List ℕ) (s : Setting) (n : ℕ) (e : first_pair bs ≡ Some s) (size : n ≡ pair_size s) (fits : n ≤ length bs) (behind : rest ≡ drop n bs) (whole : is_ok (pairs_read 0 bs) ≡ true) where
  step_is : pairs_read 0 bs ≡ in_front_of s (pairs_read n rest)
  step_is =
      let same : n ≡ 0 + pair_size s = omega arith in
      pairs_step 0 bs s e (omega arith)
      ∙ ap (λ m. in_front_of s (pairs_read m (drop (pair_size s) bs))) (sym same)
      ∙ ap (λ (xs : List ℕ). in_front_of s (pairs_read n xs)) (ap (λ m. drop m bs) (sym size) ∙ sym behind)

  left_whole : (r t : Result (List Setting) ReadFault) → is_ok (in_front_of s r) ≡ true → pairs_only r ≡ pairs_only t → is_ok t ≡ true
  left_whole (Ok ss) (Ok ts) o m = refl
  left_whole (Ok ss) (Err f) o m = absurd (cc)
  left_whole (Err f) t o m = absurd (cc)

  left_less : (r t : Result (List Setting) ReadFault) → is_ok (in_front_of s r) ≡ true → pairs_only r ≡ pairs_only t → settings_of (in_front_of s r) ≡ s ∷ settings_of t
  left_less (Ok ss) (Ok ts) o m = cc
  left_less (Ok ss) (Err f) o m = absurd (cc)
  left_less (Err f) t o m = absurd (cc)

  pub next_whole : is_ok (pairs_read 0 rest) ≡ true
  next_whole = left_whole (pairs_read n rest) (pairs_read 0 rest) (sym (ap is_ok step_is) ∙ whole) (pairs_moved n 0 0 rest)

  pub next_less : settings_in bs ≡ s ∷ settings_in rest
  unfolding settings_in
  next_less = ap settings_of step_is ∙ left_less (pairs_read n rest) (pairs_read 0 rest) (sym (ap is_ok step_is) ∙ whole) (pairs_moved n 0 0 rest)

-- The walk that has come to a place of the bytes: at a bad pair, one pair further, and at the end

module _ (place at : ℕ) (bs : List ℕ) (all : Option ReadFault) (inv : fault_of (pairs_read (place + at) (drop at bs)) ≡ all) where
  pub walk_bad : at < length bs → first_pair (take (length bs - at) (drop at bs)) ≡ None → Some (BadPair (place + at)) ≡ all
  walk_bad lt none =
      let len = length-drop at bs in
      let here : first_pair (drop at bs) ≡ None = sym (ap first_pair (take_rest bs at)) ∙ none in
      sym (ap fault_of (pairs_bad (place + at) (drop at bs) here (omega arith))) ∙ inv

  pub walk_on : (s : Setting) (n : ℕ) → first_pair (take (length bs - at) (drop at bs)) ≡ Some s → n ≡ pair_size s → n ≤ length (take (length bs - at) (drop at bs))
      → (at + n ≤ length bs) × (fault_of (pairs_read (place + (at + n)) (drop (at + n) bs)) ≡ all)
  walk_on s n some size fits =
      let here : first_pair (drop at bs) ≡ Some s = sym (ap first_pair (take_rest bs at)) ∙ some in
      let whole : length (take (length bs - at) (drop at bs)) ≡ length (drop at bs) = ap length (take_rest bs at) in
      let len = length-drop at bs in
      let next : place + (at + n) ≡ place + at + pair_size s = omega arith in
      let behind : drop (at + n) bs ≡ drop (pair_size s) (drop at bs) = sym (ap (λ m. drop m (drop at bs)) (sym size) ∙ drop-drop n at bs) in (
        omega arith,
        ap₂ (λ (m : ℕ) (xs : List ℕ). fault_of (pairs_read m xs)) next behind ∙ fault_step (place + at) (drop at bs) s here (omega arith) ∙ inv,
      )

  pub walk_end : length bs ≤ at → None ≡ all
  walk_end le = let len = length-drop at bs in sym (ap fault_of (pairs_end (place + at) (drop at bs) (omega arith))) ∙ inv
