-- Following a line: what a piece brings, and that the pieces together are the line.
use Rattle.std.proofs.Common.{◌≡◌, ℕ, ◌+◌, ◌^◌, ◌<◌, ◌≤◌, List, [], ◌∷◌, ◌++◌, map, length, vec_items, sym, refl, ap, ◌∙◌, add-zero, arith}
use Rattle.std.specs.List.{AllByRecursion}
use Rattle.std.proofs.lemmas.List.{length-map, length-append, map-append}
use Rattle.std.proofs.lemmas.List.Elements.{All-from_recursion}
use Rattle.frame.specs.Frames.{size_of}
use Rattle.frame.specs.Meaning.{hearing_of, scanned_of}
use Rattle.frame.specs.Scanning.{Hearing, moved_hearing, moved, Scanned, scan_from, scanned, both, sizes, Promised}
use Rattle.frame.specs.declared.scanner.Heard.{Heard}
use Rattle.frame.specs.declared.scanner.Listing.{Listing}
use Rattle.frame.proofs.Scanning.{scan_moved, promised}
use Rattle.monitor.specs.declared.row.Row.{Row}
use Rattle.monitor.specs.declared.state.calls.Brought.{Brought}
use Rattle.monitor.specs.Following.{Progress, reached, scanned_on, progress_on, hearing_row, row_at, rows_of, Placed, Brings, passed}

-- places within the bytes stay below the line's end
each_fits : (p n : ℕ) (hs : List Heard) → AllByRecursion (λ h. h.place + size_of h.message ≤ n) (map hearing_of hs) → p + n < 2 ^ 64 → AllByRecursion (λ h. p + h.place < 2 ^ 64) hs
each_fits p n [] w e = tt
each_fits p n (h ∷ hs) w e = (omega (arith, w.0), each_fits p n hs w.1 e)

pub places_fit : (p n : ℕ) (hs : List Heard) → AllByRecursion (λ h. h.place + size_of h.message ≤ n) (map hearing_of hs) → p + n < 2 ^ 64 → Placed p hs
places_fit p n hs w e = All-from_recursion (λ h. p + h.place < 2 ^ 64) hs (each_fits p n hs w e)

rows_are : (p : ℕ) (hs : List Heard) → map (row_at p) hs ≡ map hearing_row (map (moved_hearing p) (map hearing_of hs))
rows_are p [] = refl
rows_are p (h ∷ hs) = ap (λ (rs : List Row). row_at p h ∷ rs) (rows_are p hs)

-- a heard frame has at least a byte
few : (hs : List Hearing) → length hs ≤ sizes hs
unfolding sizes
few [] = omega arith
few (h ∷ hs) = omega (arith, few hs)

pub brings : (p : ℕ) (bs : List ℕ) (l : Listing) (b : Brought) → scanned_of l ≡ scanned bs → Promised bs (scanned_of l)
    → vec_items b.rows ≡ map (row_at p) (vec_items l.frames) → b.decided ≡ l.rest_place → b.noise ≡ l.noise → vec_items b.rest ≡ l.rest.now
    → Brings p bs b
brings p bs l b e pr rows decided noise rest =
    let on : scan_from p 0 bs ≡ moved p (scanned_of l) = ap (λ n. scan_from n 0 bs) (sym (add-zero p)) ∙ scan_moved p 0 0 bs ∙ ap (moved p) (sym e) in
    let all : vec_items b.rows ≡ rows_of (scan_from p 0 bs) = rows ∙ rows_are p (vec_items l.frames) ∙ sym (ap rows_of on) in
    let len : length (vec_items b.rows) ≡ length (vec_items l.frames) = ap length rows ∙ length-map _ _ in
    let heard : length (vec_items b.rows) ≡ length (scan_from p 0 bs).heard = ap length all ∙ length-map (scan_from p 0 bs).heard hearing_row in
    let items = b.rows.ok.0 in
    let f = few (scanned_of l).heard in
    let g = length-map (vec_items l.frames) hearing_of in
    let acc = pr.accounted in
    let end = pr.rest_ends in
    record {
      rows = all;
      count = items ∙ heard;
      decided = ap (λ n. p + n) decided ∙ sym (ap (λ (x : Scanned). x.rest_place) on);
      noise = noise ∙ sym (ap (λ (x : Scanned). x.noise) on);
      rest = rest ∙ sym (ap (λ (x : Scanned). x.rest) on);
      few_rows = omega arith;
      few_noise = omega arith;
      within = omega arith;
    }

-- one more piece
pub passed_is : (p q : Progress) (piece : List ℕ) (b : Brought) → Brings p.place (p.held ++ piece) b → q ≡ passed p b → q ≡ progress_on p (scanned_on p piece)
passed_is p q piece b h e =
    e ∙ (λ i. record { place = h.decided i; held = h.rest i; frames = p.frames + h.count i; noise = p.noise + h.noise i })

pub follows_on : (p : Progress) (piece bs : List ℕ) (rows : List Row) → p ≡ reached bs → rows ≡ rows_of (scanned_on p piece)
    → (progress_on p (scanned_on p piece) ≡ reached (bs ++ piece)) × (rows_of (scanned (bs ++ piece)) ≡ rows_of (scanned bs) ++ rows)
follows_on p piece bs rows e is =
    let s = scanned bs in
    let t = scanned_on (reached bs) piece in
    let all : scanned (bs ++ piece) ≡ both s t = (promised bs).in_pieces piece in
    let count = length-append s.heard t.heard in (
      ap (λ (x : Progress). progress_on x (scanned_on x piece)) e
          ∙ ap (λ n. record { place = t.rest_place; held = t.rest; frames = n; noise = s.noise + t.noise }) (sym count)
          ∙ sym (ap (λ (x : Scanned). record { place = x.rest_place; held = x.rest; frames = length x.heard; noise = x.noise }) all),
      ap rows_of all ∙ map-append hearing_row s.heard t.heard
          ∙ ap (λ (rs : List Row). rows_of s ++ rs) (sym (is ∙ ap (λ (x : Progress). rows_of (scanned_on x piece)) e)),
    )
