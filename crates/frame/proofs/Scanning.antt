-- Scanning: behind more bytes, in pieces, in order, with each byte counted once, and with no frame swallowed.
use Rattle.std.proofs.Common.{◌≡◌, ℕ, zero, suc, ◌+◌, ◌<◌, ◌≤◌, List, [], ◌∷◌, ◌++◌, length, get_or, drop, Some, None, Option, sym, refl, ap, ◌∙◌, subst, inl, inr, ⊎_elim, append_assoc, append-nil, le_of_suc-le-suc, not-suc-le-zero, add-zero, add-suc, suc-add, zero-add, arith}
use Rattle.std.proofs.lemmas.List.{length-drop, get_or-drop, drop-drop, drop_at, drop_all}
use Rattle.std.proofs.lemmas.Bool.{cases_lt}
use Rattle.std.specs.List.{AllByRecursion}
use Rattle.frame.specs.Frames.{preamble₁, max_payload, Message, tail_size, size_of, frame_bytes, Standing, noise, undecided, intact, standing}
use Rattle.frame.specs.Scanning.{Finding, behind_noise, finding_at, finding, Hearing, Scanned, with_noise, with_heard, waiting, scanned_at, scan_from, scanned, moved, both, Among, Inside, NoneSwallowed, InOrder, sizes, Promised, HeardAs}
use Rattle.frame.proofs.Frames.{noise_more, intact_more, intact_fits, undecided_short, never_next, standing_none, standing_other, frame_length, frame_is_intact}

-- Scanning at a byte that is decided

pub scan_noise : (at : ℕ) (bs : List ℕ) → standing bs ≡ noise → scan_from at 0 bs ≡ with_noise (scan_from (suc at) 0 (drop 1 bs))
unfolding scanned_at standing
scan_noise at [] e = let z : ◌≡◌ {A = ℕ} 0 1 = cc in absurd (omega arith)
scan_noise at (x ∷ xs) e = ap (λ p. scanned_at p at (x ∷ xs) (λ k. scan_from (suc at) k xs)) e

pub scan_undecided : (at : ℕ) (bs : List ℕ) → standing bs ≡ undecided → scan_from at 0 bs ≡ waiting at bs
unfolding scanned_at standing
scan_undecided at [] e = refl
scan_undecided at (x ∷ xs) e = ap (λ p. scanned_at p at (x ∷ xs) (λ k. scan_from (suc at) k xs)) e

-- what belongs to a heard frame is passed over
pub scan_inside : (at k : ℕ) (bs : List ℕ) → k ≤ length bs → scan_from at k bs ≡ scan_from (at + k) 0 (drop k bs)
scan_inside at zero bs h = rw add-zero refl
scan_inside at (suc k) [] h = absurd (not-suc-le-zero h)
scan_inside at (suc k) (x ∷ xs) h =
    scan_inside (suc at) k xs (le_of_suc-le-suc h) ∙ ap (λ n. scan_from n 0 (drop k xs)) (suc-add at k ∙ sym (add-suc at k))

pub scan_intact : (at : ℕ) (bs : List ℕ) (m : Message) → standing bs ≡ intact m
    → scan_from at 0 bs ≡ with_heard (record { place = at; message = m }) (scan_from (at + size_of m) 0 (drop (size_of m) bs))
unfolding scanned_at standing
scan_intact at [] m e = let z : ◌≡◌ {A = ℕ} 0 1 = cc in absurd (omega arith)
scan_intact at (x ∷ xs) m e =
    let fits : tail_size m ≤ length xs = le_of_suc-le-suc (intact_fits (x ∷ xs) m e) in
    let on = scan_inside (suc at) (tail_size m) xs fits ∙ ap (λ n. scan_from n 0 (drop (tail_size m) xs)) (suc-add at (tail_size m) ∙ sym (add-suc at (tail_size m))) in
    ap (λ p. scanned_at p at (x ∷ xs) (λ k. scan_from (suc at) k xs)) e ∙ ap (with_heard (record { place = at; message = m })) on

-- In pieces

-- a scan with another count of noise
noted : Scanned → ℕ → Scanned
noted s n = record { heard = s.heard; noise = n; rest = s.rest; rest_place = s.rest_place }

pub both_waiting : (at : ℕ) (bs : List ℕ) (s : Scanned) → s ≡ both (waiting at bs) s
unfolding noted
both_waiting at bs s = ap (noted s) (sym (zero-add s.noise))

pub both_noise : (s t : Scanned) → with_noise (both s t) ≡ both (with_noise s) t
unfolding noted
both_noise s t = ap (noted (both s t)) (sym (suc-add s.noise t.noise))

abbrev Pieces : ℕ → ℕ → List ℕ → List ℕ → Type 0
Pieces at k bs more = k ≤ length bs → scan_from at k (bs ++ more) ≡ both (scan_from at k bs) (scan_from (scan_from at k bs).rest_place 0 ((scan_from at k bs).rest ++ more))

pieces : (at k : ℕ) (bs more : List ℕ) → Pieces at k bs more
unfolding scanned_at
pieces at zero [] more = λ le. both_waiting at [] (scan_from at 0 more)
pieces at (suc k) [] more = λ le. absurd (not-suc-le-zero le)
pieces at (suc k) (x ∷ xs) more = λ le. pieces (suc at) k xs more (le_of_suc-le-suc le)
pieces at zero (x ∷ xs) more = go (standing (x ∷ xs)) refl (λ k. pieces (suc at) k xs more)
  where
    go : (p : Standing) → standing (x ∷ xs) ≡ p → ((k : ℕ) → Pieces (suc at) k xs more) → 0 ≤ suc (length xs)
        → scanned_at (standing (x ∷ xs ++ more)) at (x ∷ xs ++ more) (λ k. scan_from (suc at) k (xs ++ more))
        ≡ (let s : Scanned = scanned_at p at (x ∷ xs) (λ k. scan_from (suc at) k xs) in both s (scan_from s.rest_place 0 (s.rest ++ more)))
    go noise e ih le =
        ap (λ p. scanned_at p at (x ∷ xs ++ more) (λ k. scan_from (suc at) k (xs ++ more))) (noise_more (x ∷ xs) more e)
        ∙ ap with_noise (ih 0 (omega arith)) ∙ both_noise (scan_from (suc at) 0 xs) _
    go undecided e ih le = both_waiting at (x ∷ xs) (scan_from at 0 (x ∷ xs ++ more))
    go (intact m) e ih le =
        ap (λ p. scanned_at p at (x ∷ xs ++ more) (λ k. scan_from (suc at) k (xs ++ more))) (intact_more (x ∷ xs) more m e)
        ∙ ap (with_heard (record { place = at; message = m })) (ih (tail_size m) (le_of_suc-le-suc (intact_fits (x ∷ xs) m e)))

-- In order

in_order_from : (bs : List ℕ) (l n : ℕ) (hs : List Hearing) → l ≤ n → InOrder bs n hs → InOrder bs l hs
unfolding InOrder
in_order_from bs l n [] le o = o
in_order_from bs l n (h ∷ hs) le o = (omega (arith, o.0), o.1, o.2)

-- the next byte of a list
drop_next : (n x : ℕ) (xs bs : List ℕ) → drop n bs ≡ x ∷ xs → drop (suc n) bs ≡ xs
drop_next n x xs bs e =
    let same : suc n ≡ n + 1 = omega arith in
    rw same (sym (drop-drop 1 n bs) ∙ ap (drop 1) e)

ordered : (bs : List ℕ) (at k : ℕ) (xs : List ℕ) → drop at bs ≡ xs → InOrder bs (at + k) (scan_from at k xs).heard
unfolding scanned_at InOrder
ordered bs at k [] = λ e. tt
ordered bs at (suc k) (x ∷ xs) =
    λ e. let same : suc at + k ≡ at + suc k = omega arith in
    subst (λ (n : ℕ). InOrder bs n (scan_from (suc at) k xs).heard) same (ordered bs (suc at) k xs (drop_next at x xs bs e))
ordered bs at zero (x ∷ xs) = go (standing (x ∷ xs)) refl (λ k. ordered bs (suc at) k xs)
  where
    go : (p : Standing) → standing (x ∷ xs) ≡ p → ((k : ℕ) → drop (suc at) bs ≡ xs → InOrder bs (suc at + k) (scan_from (suc at) k xs).heard) → drop at bs ≡ x ∷ xs
        → InOrder bs (at + 0) (scanned_at p at (x ∷ xs) (λ k. scan_from (suc at) k xs)).heard
    go noise s ih e = in_order_from bs (at + 0) (suc at + 0) _ (omega arith) (ih 0 (drop_next at x xs bs e))
    go undecided s ih e = tt
    go (intact m) s ih e =
        let same : suc at + tail_size m ≡ at + size_of m = omega arith in
        (omega arith, ap standing e ∙ s, subst (λ (n : ℕ). InOrder bs n (scan_from (suc at) (tail_size m) xs).heard) same (ih (tail_size m) (drop_next at x xs bs e)))

-- what is intact at a place lies within the bytes
order_within : (bs : List ℕ) (n : ℕ) (hs : List Hearing) → InOrder bs n hs → AllByRecursion (λ h. h.place + size_of h.message ≤ length bs) hs
unfolding InOrder
order_within bs n [] o = tt
order_within bs n (h ∷ hs) o =
    let fits = intact_fits (drop h.place bs) h.message o.1 in
    let len = length-drop h.place bs in
    (omega arith, order_within bs (h.place + size_of h.message) hs o.2)

-- Each byte is counted once

abbrev Counted : ℕ → ℕ → List ℕ → Type 0
Counted at k bs =
    k ≤ length bs → (k + ((scan_from at k bs).noise + sizes (scan_from at k bs).heard + length (scan_from at k bs).rest) ≡ length bs) × ((scan_from at k bs).rest_place + length (scan_from at k bs).rest ≡ at + length bs)

counted : (at k : ℕ) (bs : List ℕ) → Counted at k bs
unfolding scanned_at sizes
counted at k [] = λ le. (omega arith, refl)
counted at (suc k) (x ∷ xs) = λ le. let c = counted (suc at) k xs (le_of_suc-le-suc le) in (omega arith, omega arith)
counted at zero (x ∷ xs) = go (standing (x ∷ xs)) refl (λ k. counted (suc at) k xs)
  where
    go : (p : Standing) → standing (x ∷ xs) ≡ p → ((k : ℕ) → Counted (suc at) k xs) → 0 ≤ suc (length xs)
        → (let s : Scanned = scanned_at p at (x ∷ xs) (λ k. scan_from (suc at) k xs) in
        (0 + (s.noise + sizes s.heard + length s.rest) ≡ suc (length xs)) × (s.rest_place + length s.rest ≡ at + suc (length xs)))
    go noise e ih le = let c = ih 0 (omega arith) in (omega arith, omega arith)
    go undecided e ih le = (omega arith, refl)
    go (intact m) e ih le = let c = ih (tail_size m) (le_of_suc-le-suc (intact_fits (x ∷ xs) m e)) in (omega arith, omega arith)

abbrev Ends : List ℕ → Scanned → Type 0
Ends bs s = s.rest ≡ drop s.rest_place bs

ends : (bs : List ℕ) (at k : ℕ) (xs : List ℕ) → drop at bs ≡ xs → Ends bs (scan_from at k xs)
unfolding scanned_at
ends bs at k [] = λ e. sym e
ends bs at (suc k) (x ∷ xs) = λ e. ends bs (suc at) k xs (drop_next at x xs bs e)
ends bs at zero (x ∷ xs) = go (standing (x ∷ xs)) (λ k. ends bs (suc at) k xs)
  where
    go : (p : Standing) → ((k : ℕ) → drop (suc at) bs ≡ xs → Ends bs (scan_from (suc at) k xs)) → drop at bs ≡ x ∷ xs
        → Ends bs (scanned_at p at (x ∷ xs) (λ k. scan_from (suc at) k xs))
    go noise ih e = ih 0 (drop_next at x xs bs e)
    go undecided ih e = sym e
    go (intact m) ih e = ih (tail_size m) (drop_next at x xs bs e)

-- The rest is undecided, so it is short

rest_waits : (at k : ℕ) (bs : List ℕ) → standing (scan_from at k bs).rest ≡ undecided
unfolding scanned_at standing
rest_waits at k [] = refl
rest_waits at (suc k) (x ∷ xs) = rest_waits (suc at) k xs
rest_waits at zero (x ∷ xs) = go (standing (x ∷ xs)) refl (λ k. rest_waits (suc at) k xs)
  where
    go : (p : Standing) → standing (x ∷ xs) ≡ p → ((k : ℕ) → standing (scan_from (suc at) k xs).rest ≡ undecided)
        → standing (scanned_at p at (x ∷ xs) (λ k. scan_from (suc at) k xs)).rest ≡ undecided
    go noise e ih = ih 0
    go undecided e ih = e
    go (intact m) e ih = ih (tail_size m)

-- Nothing is swallowed

abbrev Outside : ℕ → List Hearing → Type 0
Outside p hs = (h : Hearing) → Among h hs → Inside p h → ⊥

abbrev Comes : ℕ → ℕ → List ℕ → ℕ → Message → Type 0
Comes at k bs p m =
    standing (drop p bs) ≡ intact m → p + (size_of m + 770) ≤ length bs → k ≤ p → Outside (at + p) (scan_from at k bs).heard
    → Among (record { place = at + p; message = m }) (scan_from at k bs).heard

-- the same place counted from one byte on
onwards : (at k p : ℕ) (xs : List ℕ) (m : Message) → Comes (suc at) k xs p m
    → standing (drop p xs) ≡ intact m → p + (size_of m + 770) ≤ length xs → k ≤ p → Outside (at + suc p) (scan_from (suc at) k xs).heard
    → Among (record { place = at + suc p; message = m }) (scan_from (suc at) k xs).heard
onwards at k p xs m ih e long le out =
    let same : suc at + p ≡ at + suc p = omega arith in
    subst (λ (n : ℕ). Among (record { place = n; message = m }) (scan_from (suc at) k xs).heard) same
    (ih e long le (subst (λ (n : ℕ). Outside n (scan_from (suc at) k xs).heard) (sym same) out))

-- An undecided place has at most 779 bytes from its first on, so a frame that begins behind it with 770 bytes behind its end begins at the
-- very next byte, and that one it cannot be.
never_waited : (x p : ℕ) (xs : List ℕ) (m : Message) → standing (x ∷ xs) ≡ undecided → standing (drop p xs) ≡ intact m → suc p + (size_of m + 770) ≤ suc (length xs) → ⊥
never_waited x zero xs m u e long = never_next x xs m u e
never_waited x (suc p) xs m u e long = let short = undecided_short (x ∷ xs) u in omega arith

comes : (at k : ℕ) (bs : List ℕ) (p : ℕ) (m : Message) → Comes at k bs p m
unfolding scanned_at Among
comes at k [] p m = λ e long le out. absurd (omega arith)
comes at (suc k) (x ∷ xs) zero m = λ e long le out. absurd (not-suc-le-zero le)
comes at (suc k) (x ∷ xs) (suc p) m =
    let ih = comes (suc at) k xs p m in
    λ e long le out. onwards at k p xs m ih e (omega arith) (le_of_suc-le-suc le) out
comes at zero (x ∷ xs) zero m =
    λ e long le out.
    subst (λ (s : Scanned). Among (record { place = at + 0; message = m }) s.heard)
    (sym (ap (λ p. scanned_at p at (x ∷ xs) (λ k. scan_from (suc at) k xs)) e)) (inl (ap (λ n. record { place = n; message = m }) (add-zero at)))
comes at zero (x ∷ xs) (suc p) m = go (standing (x ∷ xs)) refl (λ k. comes (suc at) k xs p m)
  where
    go : (q : Standing) → standing (x ∷ xs) ≡ q → ((k : ℕ) → Comes (suc at) k xs p m)
        → standing (drop p xs) ≡ intact m → suc p + (size_of m + 770) ≤ suc (length xs) → 0 ≤ suc p
        → Outside (at + suc p) (scanned_at q at (x ∷ xs) (λ k. scan_from (suc at) k xs)).heard
        → Among (record { place = at + suc p; message = m }) (scanned_at q at (x ∷ xs) (λ k. scan_from (suc at) k xs)).heard
    go noise eq ih e long le out = onwards at 0 p xs m (ih 0) e (omega arith) (omega arith) out
    go undecided eq ih e long le out = absurd (never_waited x p xs m eq e long)
    go (intact g) eq ih e long le out =
        ⊎_elim
        (λ in-it. absurd (out (record { place = at; message = g }) (inl refl) (omega arith, omega arith)))
        (λ past. inr (onwards at (tail_size g) p xs m (ih (tail_size g)) e (omega arith) past (λ y among. out y (inr among))))
        (cases_lt p (tail_size g))

pub none_swallowed : (bs : List ℕ) → NoneSwallowed bs (scanned bs).heard
none_swallowed bs p m e long out =
    subst (λ (n : ℕ). Among (record { place = n; message = m }) (scanned bs).heard) (zero-add p)
    (comes 0 0 bs p m e long (omega arith) (subst (λ (n : ℕ). Outside n (scanned bs).heard) (sym (zero-add p)) out))

-- All of it

pub promised : (bs : List ℕ) → Promised bs (scanned bs)
promised bs =
    let c = counted 0 0 bs (omega arith) in
    let short = undecided_short (scanned bs).rest (rest_waits 0 0 bs) in
    record {
      in_pieces = λ more. pieces 0 0 bs more (omega arith);
      none_swallowed = none_swallowed bs;
      in_order = ordered bs 0 0 bs refl;
      within = order_within bs 0 (scanned bs).heard (ordered bs 0 0 bs refl);
      accounted = omega arith;
      rest_is = ends bs 0 0 bs refl;
      rest_ends = omega arith;
      rest_short = omega arith;
    }

-- Heard as written

pub heard_before : (m : Message) (more : List ℕ) → length m.payload ≤ max_payload
    → scanned (frame_bytes m ++ more) ≡ with_heard (record { place = 0; message = m }) (scan_from (length (frame_bytes m)) 0 more)
heard_before m more few =
    let size : length (frame_bytes m) ≡ size_of m = frame_length m in
    scan_intact 0 (frame_bytes m ++ more) m (intact_more (frame_bytes m) more m (frame_is_intact m few))
    ∙ ap (λ (bs : List ℕ). with_heard (record { place = 0; message = m }) (scan_from (0 + size_of m) 0 bs)) (drop_at (frame_bytes m) more (size_of m) size)
    ∙ ap (λ (n : ℕ). with_heard (record { place = 0; message = m }) (scan_from n 0 more)) (omega arith)

pub heard_as_written : (m : Message) → length m.payload ≤ max_payload → HeardAs m (frame_bytes m)
heard_as_written m few = record {
  alone = ap scanned (sym (append-nil (frame_bytes m))) ∙ heard_before m [] few;
  before = λ more. heard_before m more few;
}

-- A search, byte by byte

pub scan_past : (bs : List ℕ) (place : ℕ) → length bs ≤ place → undecided ≡ standing (drop place bs)
scan_past bs place le = sym (standing_none (drop place bs) (ap length (drop_all place bs le)))

finding_noise : (bs : List ℕ) → standing bs ≡ noise → finding bs ≡ behind_noise (finding (drop 1 bs))
unfolding finding finding_at standing
finding_noise [] e = let z : ◌≡◌ {A = ℕ} 0 1 = cc in absurd (omega arith)
finding_noise (x ∷ xs) e = ap (λ p. finding_at p (x ∷ xs) (λ _. finding xs)) e

finding_undecided : (bs : List ℕ) → standing bs ≡ undecided → finding bs ≡ record { skipped = 0; message = None; rest = bs }
unfolding finding finding_at standing
finding_undecided [] e = refl
finding_undecided (x ∷ xs) e = ap (λ p. finding_at p (x ∷ xs) (λ _. finding xs)) e

finding_intact : (bs : List ℕ) (m : Message) → standing bs ≡ intact m → finding bs ≡ record { skipped = 0; message = Some m; rest = drop (size_of m) bs }
unfolding finding finding_at standing
finding_intact [] m e = let z : ◌≡◌ {A = ℕ} 0 1 = cc in absurd (omega arith)
finding_intact (x ∷ xs) m e = ap (λ p. finding_at p (x ∷ xs) (λ _. finding xs)) e

-- what a search finds behind n bytes of noise
abbrev pub behind_all : ℕ → Finding → Finding
behind_all n f = record { skipped = n + f.skipped; message = f.message; rest = f.rest }

counting : Option Message → List ℕ → ℕ → Finding
counting m bs n = record { skipped = n; message = m; rest = bs }

-- the loop of a search that has found noise alone in the first i bytes; rest is what stands from there on
module _ (bs : List ℕ) (i : ℕ) (rest : List ℕ) (is : rest ≡ drop i bs) (inv : behind_all i (finding (drop i bs)) ≡ finding bs) where
  found : (f : Finding) → finding rest ≡ f → behind_all i f ≡ finding bs
  found f e = ap (behind_all i) (sym e ∙ ap finding is) ∙ inv

  pub find_noise : noise ≡ standing rest → behind_all (i + 1) (finding (drop (i + 1) bs)) ≡ finding bs
  unfolding counting
  find_noise e =
      let f = finding (drop (i + 1) bs) in
      let n : i + 1 + f.skipped ≡ i + suc f.skipped = omega arith in
      ap (counting f.message f.rest) n
      ∙ ap (λ (xs : List ℕ). behind_all i (behind_noise (finding xs))) (sym (ap (drop 1) is ∙ drop-drop 1 i bs))
      ∙ found _ (finding_noise rest (sym e))

  pub find_undecided : undecided ≡ standing rest → record { skipped = i; message = None; rest = drop i bs } ≡ finding bs
  unfolding counting
  find_undecided e =
      ap (counting None (drop i bs)) (sym (add-zero i)) ∙ ap (λ (xs : List ℕ). counting None xs (i + 0)) (sym is) ∙ found _ (finding_undecided rest (sym e))

  pub find_intact : (m : Message) (size : ℕ) (behind : List ℕ) → intact m ≡ standing rest → size ≡ size_of m → behind ≡ drop (i + size) bs
      → record { skipped = i; message = Some m; rest = behind } ≡ finding bs
  unfolding counting
  find_intact m size behind e n b =
      let all : behind ≡ drop (size_of m) rest = b ∙ ap (λ k. drop (i + k) bs) n ∙ sym (ap (drop (size_of m)) is ∙ drop-drop (size_of m) i bs) in
      ap (counting (Some m) behind) (sym (add-zero i)) ∙ ap (λ (xs : List ℕ). counting (Some m) xs (i + 0)) all ∙ found _ (finding_intact rest m (sym e))

pub find_none : (bs : List ℕ) → behind_all 0 (finding bs) ≡ finding bs
unfolding counting
find_none bs = ap (counting (finding bs).message (finding bs).rest) (zero-add (finding bs).skipped)

pub find_end : (bs : List ℕ) (i : ℕ) → length bs ≤ i → behind_all i (finding (drop i bs)) ≡ finding bs → record { skipped = i; message = None; rest = drop i bs } ≡ finding bs
find_end bs i le inv = find_undecided bs i (drop i bs) refl inv (scan_past bs i le)

-- bytes that begin no frame are passed over
pub find_passed : (bs : List ℕ) (i n : ℕ) → i + n ≤ length bs → ((k : ℕ) → k < n → get_or (drop i bs) k 0 ≡ preamble₁ → ⊥)
    → behind_all i (finding (drop i bs)) ≡ finding bs → behind_all (i + n) (finding (drop (i + n) bs)) ≡ finding bs
find_passed bs i zero within passed inv = let same : i ≡ i + 0 = omega arith in subst (λ (k : ℕ). behind_all k (finding (drop k bs)) ≡ finding bs) same inv
find_passed bs i (suc n) within passed inv =
    let before = find_passed bs i n (omega arith) (λ k lt. passed k (omega arith)) inv in
    let next : i + n + 1 ≡ i + suc n = omega arith in
    let rest = length-drop (i + n) bs in
    let here : i + n + 0 ≡ i + n = omega arith in
    let byte : get_or (drop (i + n) bs) 0 0 ≡ get_or (drop i bs) n 0 = get_or-drop (i + n) bs 0 0 ∙ ap (λ k. get_or bs k 0) here ∙ sym (get_or-drop i bs n 0) in
    let other = standing_other (drop (i + n) bs) (λ e. absurd (omega arith)) (λ e. passed n (omega arith) (sym byte ∙ e)) in
    subst (λ (k : ℕ). behind_all k (finding (drop k bs)) ≡ finding bs) next (find_noise bs (i + n) (drop (i + n) bs) refl before (sym other))

-- the same of bytes that were lent
pub find_over : (bs view rest : List ℕ) (i n : ℕ) → view ≡ bs → rest ≡ drop i view → i ≤ length bs → n ≤ length rest → ((k : ℕ) → k < n → get_or rest k 0 ≡ preamble₁ → ⊥)
    → behind_all i (finding (drop i bs)) ≡ finding bs → behind_all (i + n) (finding (drop (i + n) bs)) ≡ finding bs
find_over bs view rest i n same is le few passed inv =
    let there : rest ≡ drop i bs = is ∙ ap (drop i) same in
    let size = ap length there in
    let left = length-drop i bs in
    find_passed bs i n (omega arith) (λ k lt e. passed k lt (ap (λ (l : List ℕ). get_or l k 0) there ∙ e)) inv

pub ruleset by_search = (find_none, find_noise, find_undecided, find_end)

-- Scanning whole bytes, place by place

-- what has been scanned so far
abbrev pub so_far : List Hearing → ℕ → Scanned
so_far hs n = record { heard = hs; noise = n; rest = []; rest_place = 0 }

joined : List Hearing → List ℕ → ℕ → ℕ → Scanned
joined hs rest place n = record { heard = hs; noise = n; rest = rest; rest_place = place }

-- the loop that has come to this place
module _ (bs : List ℕ) (place : ℕ) (hs : List Hearing) (n : ℕ) (inv : both (so_far hs n) (scan_from place 0 (drop place bs)) ≡ scanned bs) where
  scan_on : (s : Scanned) → scan_from place 0 (drop place bs) ≡ s → both (so_far hs n) s ≡ scanned bs
  scan_on s e = ap (both (so_far hs n)) (sym e) ∙ inv

  pub scan_noise_on : noise ≡ standing (drop place bs) → both (so_far hs (n + 1)) (scan_from (place + 1) 0 (drop (place + 1) bs)) ≡ scanned bs
  unfolding joined
  scan_noise_on e =
      let next : place + 1 ≡ suc place = omega arith in
      let s = scan_from (suc place) 0 (drop (suc place) bs) in
      let sum : n + 1 + s.noise ≡ n + suc s.noise = omega arith in
      ap (λ k. both (so_far hs (n + 1)) (scan_from k 0 (drop k bs))) next
      ∙ ap (joined (hs ++ s.heard) s.rest s.rest_place) sum
      ∙ ap (λ (xs : List ℕ). both (so_far hs n) (with_noise (scan_from (suc place) 0 xs))) (ap (λ k. drop k bs) (sym next) ∙ sym (drop-drop 1 place bs))
      ∙ scan_on _ (scan_noise place (drop place bs) (sym e))

  pub scan_intact_on : (m : Message) (size : ℕ) (more : List Hearing) → intact m ≡ standing (drop place bs) → size ≡ size_of m → more ≡ hs ++ record { place = place; message = m } ∷ []
      → both (so_far more n) (scan_from (place + size) 0 (drop (place + size) bs)) ≡ scanned bs
  scan_intact_on m size more e is all =
      let h : Hearing = record { place = place; message = m } in
      let s = scan_from (place + size_of m) 0 (drop (place + size_of m) bs) in
      ap (λ k. both (so_far more n) (scan_from (place + k) 0 (drop (place + k) bs))) is
      ∙ ap (λ (l : List Hearing). both (so_far l n) s) all
      ∙ ap (λ (l : List Hearing). record { heard = l; noise = n + s.noise; rest = s.rest; rest_place = s.rest_place }) (append_assoc hs (h ∷ []) s.heard)
      ∙ ap (λ (xs : List ℕ). both (so_far hs n) (with_heard h (scan_from (place + size_of m) 0 xs))) (sym (drop-drop (size_of m) place bs))
      ∙ scan_on _ (scan_intact place (drop place bs) m (sym e))

  pub scan_ends : (rest : List ℕ) → undecided ≡ standing (drop place bs) → rest ≡ drop place bs → record { heard = hs; noise = n; rest = rest; rest_place = place } ≡ scanned bs
  unfolding joined
  scan_ends rest e is =
      ap (λ (l : List Hearing). joined l rest place n) (sym (append-nil hs)) ∙ ap (joined (hs ++ []) rest place) (sym (add-zero n)) ∙ ap (λ (xs : List ℕ). joined (hs ++ []) xs place (n + 0)) is
      ∙ scan_on _ (scan_undecided place (drop place bs) (sym e))

-- Scanning bytes that begin at another place

pub scan_moved : (p at k : ℕ) (bs : List ℕ) → scan_from (p + at) k bs ≡ moved p (scan_from at k bs)
unfolding scanned_at
scan_moved p at k [] = refl
scan_moved p at (suc k) (x ∷ xs) = ap (λ n. scan_from n k xs) (sym (add-suc p at)) ∙ scan_moved p (suc at) k xs
scan_moved p at zero (x ∷ xs) = go (standing (x ∷ xs)) (λ k. ap (λ n. scan_from n k xs) (sym (add-suc p at)) ∙ scan_moved p (suc at) k xs)
  where
    go : (q : Standing) → ((k : ℕ) → scan_from (suc (p + at)) k xs ≡ moved p (scan_from (suc at) k xs))
        → scanned_at q (p + at) (x ∷ xs) (λ k. scan_from (suc (p + at)) k xs) ≡ moved p (scanned_at q at (x ∷ xs) (λ k. scan_from (suc at) k xs))
    go noise ih = ap with_noise (ih 0)
    go undecided ih = refl
    go (intact m) ih = ap (with_heard (record { place = p + at; message = m })) (ih (tail_size m))
