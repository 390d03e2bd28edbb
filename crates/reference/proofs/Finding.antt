-- What one answering finds is the first that scanning finds: the noise, then the frame that is heard.
use Rattle.std.proofs.Common.{◌≡◌, ℕ, suc, ◌+◌, List, [], ◌∷◌, ◌++◌, drop, Some, None, Option, sym, refl, ap, ◌∙◌, ap₂, append_assoc, append-nil, add-zero, add-suc, suc-add, arith}
use Rattle.std.proofs.lemmas.List.{drop-append-le}
use Rattle.frame.specs.Frames.{Message, size_of, Standing, noise, undecided, intact, standing}
use Rattle.frame.specs.Scanning.{Finding, finding_at, finding, Hearing, Scanned, with_noise, with_heard, waiting, scan_from, both}
use Rattle.frame.proofs.Frames.{noise_more, intact_more, intact_fits}
use Rattle.frame.proofs.Scanning.{scan_noise, scan_undecided, scan_intact, both_waiting, both_noise, so_far}

abbrev found_at : ℕ → Option Message → List Hearing
found_at at None = []
found_at at (Some m) = record { place = at; message = m } ∷ []

abbrev found_size : Option Message → ℕ
found_size None = 0
found_size (Some m) = size_of m

-- what scanning finds in bs, and more bytes behind it, where one answering found this in bs
abbrev Finds : ℕ → List ℕ → List ℕ → Finding → Type 0
Finds at bs more r =
    scan_from at 0 (bs ++ more)
    ≡ both (so_far (found_at (at + r.skipped) r.message) r.skipped) (scan_from (at + r.skipped + found_size r.message) 0 (r.rest ++ more))

-- nothing found yet
none_found : (at : ℕ) (bs : List ℕ) → scan_from at 0 bs ≡ both (so_far [] 0) (scan_from (at + 0 + 0) 0 bs)
none_found at bs = both_waiting 0 [] (scan_from at 0 bs) ∙ ap (λ n. both (so_far [] 0) (scan_from n 0 bs)) (sym (add-zero (at + 0) ∙ add-zero at))

finds : (at : ℕ) (bs more : List ℕ) → Finds at bs more (finding bs)
unfolding finding finding_at
finds at [] more = none_found at more
finds at (x ∷ xs) more = go (standing (x ∷ xs)) refl (finds (suc at) xs more)
  where
    go : (p : Standing) → standing (x ∷ xs) ≡ p → Finds (suc at) xs more (finding xs) → Finds at (x ∷ xs) more (finding_at p (x ∷ xs) (λ _. finding xs))
    go noise e ih =
        let r = finding xs in
        scan_noise at (x ∷ xs ++ more) (noise_more (x ∷ xs) more e)
        ∙ ap with_noise ih
        ∙ both_noise (so_far (found_at (suc at + r.skipped) r.message) r.skipped) (scan_from (suc at + r.skipped + found_size r.message) 0 (r.rest ++ more))
        ∙ ap (λ n. both (so_far (found_at n r.message) (suc r.skipped)) (scan_from (n + found_size r.message) 0 (r.rest ++ more))) (suc-add at r.skipped ∙ sym (add-suc at r.skipped))
    go undecided e ih = none_found at (x ∷ xs ++ more)
    go (intact m) e ih =
        scan_intact at (x ∷ xs ++ more) m (intact_more (x ∷ xs) more m e)
        ∙ ap (λ (bs : List ℕ). with_heard (record { place = at; message = m }) (scan_from (at + size_of m) 0 bs)) (drop-append-le (size_of m) (x ∷ xs) more (intact_fits (x ∷ xs) m e))
        ∙ ap (λ n. with_heard (record { place = n; message = m }) (scan_from (n + size_of m) 0 (drop (size_of m) (x ∷ xs) ++ more))) (sym (add-zero at))
        ∙ ap (with_heard (record { place = at + 0; message = m })) (both_waiting 0 [] (scan_from (at + 0 + size_of m) 0 (drop (size_of m) (x ∷ xs) ++ more)))

module _ (at : ℕ) (bs more : List ℕ) where
  finds_as : (o : Option Message) → (finding bs).message ≡ o
      → scan_from at 0 (bs ++ more) ≡ both (so_far (found_at (at + (finding bs).skipped) o) (finding bs).skipped) (scan_from (at + (finding bs).skipped + found_size o) 0 ((finding bs).rest ++ more))
  finds_as o e =
      finds at bs more
      ∙ ap (λ o. both (so_far (found_at (at + (finding bs).skipped) o) (finding bs).skipped) (scan_from (at + (finding bs).skipped + found_size o) 0 ((finding bs).rest ++ more))) e

  -- a frame that an answering found is heard next
  pub found_heard : (m : Message) → (finding bs).message ≡ Some m
      → scan_from at 0 (bs ++ more)
      ≡ both (so_far (record { place = at + (finding bs).skipped; message = m } ∷ []) (finding bs).skipped) (scan_from (at + (finding bs).skipped + size_of m) 0 ((finding bs).rest ++ more))
  found_heard m e = finds_as (Some m) e

  pub none_heard : (finding bs).message ≡ None
      → scan_from at 0 (bs ++ more) ≡ both (so_far [] (finding bs).skipped) (scan_from (at + (finding bs).skipped + 0) 0 ((finding bs).rest ++ more))
  none_heard e = finds_as None e

-- Where an answering found no frame, nothing is decided in what it left

abbrev Quiet : ℕ → Finding → Type 0
Quiet at r = r.message ≡ None → scan_from at 0 r.rest ≡ waiting at r.rest

pub quiet_rest : (at : ℕ) (bs : List ℕ) → Quiet at (finding bs)
unfolding finding finding_at
quiet_rest at [] = λ e. refl
quiet_rest at (x ∷ xs) = go (standing (x ∷ xs)) refl (quiet_rest at xs)
  where
    go : (p : Standing) → standing (x ∷ xs) ≡ p → Quiet at (finding xs) → Quiet at (finding_at p (x ∷ xs) (λ _. finding xs))
    go noise e ih = ih
    go undecided e ih = λ _. scan_undecided at (x ∷ xs) e
    go (intact m) e ih = λ n. cc

-- and where it found one, something is
pub found_loud : (at : ℕ) (bs : List ℕ) (m : Message) → (finding bs).message ≡ Some m → scan_from at 0 bs ≡ waiting at bs → ⊥
found_loud at bs m e q =
    let h : [] ≡ _ ∷ _ = ap (λ (s : Scanned). s.heard) (sym q ∙ ap (scan_from at 0) (sym (append-nil bs)) ∙ found_heard at bs [] m e) in
    cc

-- what was found, then more, then the rest
pub both_more : (xs ys : List Hearing) (i j : ℕ) (s : Scanned) → both (so_far xs i) (both (so_far ys j) s) ≡ both (so_far (xs ++ ys) (i + j)) s
both_more xs ys i j s =
    ap₂ (λ (hs : List Hearing) (n : ℕ). record { heard = hs; noise = n; rest = s.rest; rest_place = s.rest_place }) (sym (append_assoc xs ys s.heard)) (omega arith)
