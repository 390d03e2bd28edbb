-- Scanning a run of bytes: which frames are heard in it, where, how many bytes are noise, and what is left undecided.
use Rattle.std.specs.Prelude.{◌≡◌, ℕ, zero, suc, ◌+◌, ◌<◌, ◌≤◌, ◌⊎◌, List, [], ◌∷◌, ◌++◌, map, length, drop, Some, None, Option}
use Rattle.std.specs.List.{AllByRecursion}
use Rattle.frame.specs.Frames.{max_frame, Message, tail_size, size_of, Standing, noise, undecided, intact, standing}

-- What a search finds: the bytes of noise up to the first frame heard or undecided place, the frame's message, and what stands behind it
-- (where no frame is heard: the undecided bytes).
pub record Finding : Type 0 where
  pub skipped : ℕ
  pub message : Option Message
  pub rest : List ℕ

abbrev pub behind_noise : Finding → Finding
behind_noise f = record { skipped = suc f.skipped; message = f.message; rest = f.rest }

unfoldable pub finding_at : Standing → List ℕ → (Unit {0} → Finding) → Finding
finding_at noise bs on = behind_noise (on tt)
finding_at undecided bs on = record { skipped = 0; message = None; rest = bs }
finding_at (intact m) bs on = record { skipped = 0; message = Some m; rest = drop (size_of m) bs }

unfoldable pub finding : List ℕ → Finding
finding [] = record { skipped = 0; message = None; rest = [] }
finding (x ∷ xs) = finding_at (standing (x ∷ xs)) (x ∷ xs) (λ _. finding xs)

-- a heard frame: the place of its first byte, and what it carries
pub record Hearing : Type 0 where
  pub place : ℕ
  pub message : Message

-- What scanning finds: the frames heard, in order; the count of noise bytes; the undecided bytes at the end, and the place of the first of them.
pub record Scanned : Type 0 where
  pub heard : List Hearing
  pub noise : ℕ
  pub rest : List ℕ
  pub rest_place : ℕ

abbrev pub with_noise : Scanned → Scanned
with_noise s = record { heard = s.heard; noise = suc s.noise; rest = s.rest; rest_place = s.rest_place }

abbrev pub with_heard : Hearing → Scanned → Scanned
with_heard h s = record { heard = h ∷ s.heard; noise = s.noise; rest = s.rest; rest_place = s.rest_place }

abbrev pub waiting : ℕ → List ℕ → Scanned
waiting at bs = record { heard = []; noise = 0; rest = bs; rest_place = at }

-- One byte of noise is passed over; a heard frame is passed over whole; at an undecided place scanning ends.
unfoldable pub scanned_at : Standing → ℕ → List ℕ → (ℕ → Scanned) → Scanned
scanned_at noise at bs on = with_noise (on 0)
scanned_at undecided at bs on = waiting at bs
scanned_at (intact m) at bs on = with_heard (record { place = at; message = m }) (on (tail_size m))

-- at: the place of the first byte; inside: how many bytes from here on belong to a frame that is heard already
abbrev pub scan_from : ℕ → ℕ → List ℕ → Scanned
scan_from at inside [] = waiting at []
scan_from at zero (x ∷ xs) = scanned_at (standing (x ∷ xs)) at (x ∷ xs) (λ k. scan_from (suc at) k xs)
scan_from at (suc k) (x ∷ xs) = scan_from (suc at) k xs

abbrev pub scanned : List ℕ → Scanned
scanned bs = scan_from 0 0 bs

-- the same, of bytes that begin at place p
abbrev pub moved_hearing : ℕ → Hearing → Hearing
moved_hearing p h = record { place = p + h.place; message = h.message }

abbrev pub moved : ℕ → Scanned → Scanned
moved p s = record { heard = map (moved_hearing p) s.heard; noise = s.noise; rest = s.rest; rest_place = p + s.rest_place }

-- What scanning promises, in the words of places and frames

-- one scan and another that goes on behind it
abbrev pub both : Scanned → Scanned → Scanned
both s t = record { heard = s.heard ++ t.heard; noise = s.noise + t.noise; rest = t.rest; rest_place = t.rest_place }

-- In pieces: with more bytes, scanning goes on from the undecided rest and finds what it would have found had all come at once.
abbrev pub InPieces : List ℕ → Scanned → Type 0
InPieces bs s = (more : List ℕ) → scanned (bs ++ more) ≡ both s (scan_from s.rest_place 0 (s.rest ++ more))

unfoldable pub Among : {A : Type 0} → A → List A → Type 0
Among x [] = ⊥
Among x (y ∷ ys) = (x ≡ y) ⊎ Among x ys

-- a place inside a heard frame, behind its first byte
abbrev pub Inside : ℕ → Hearing → Type 0
Inside p h = (h.place < p) × (p < h.place + size_of h.message)

-- Nothing is swallowed: an intact frame that does not begin inside a heard one is heard, once 770 bytes behind it are there.
abbrev pub NoneSwallowed : List ℕ → List Hearing → Type 0
NoneSwallowed bs hs =
    (p : ℕ) (m : Message) → standing (drop p bs) ≡ intact m → p + (size_of m + 770) ≤ length bs
    → ((h : Hearing) → Among h hs → Inside p h → ⊥) → Among (record { place = p; message = m }) hs

-- Each frame is intact where it is heard, none before n, and the next one behind its end.
unfoldable pub InOrder : List ℕ → ℕ → List Hearing → Type 0
InOrder bs n [] = Unit {0}
InOrder bs n (h ∷ hs) = (n ≤ h.place) × (standing (drop h.place bs) ≡ intact h.message) × InOrder bs (h.place + size_of h.message) hs

-- how many bytes the heard frames have
unfoldable pub sizes : List Hearing → ℕ
sizes [] = 0
sizes (h ∷ hs) = size_of h.message + sizes hs

pub record Promised (bs : List ℕ) (s : Scanned) : Type 0 where
  pub in_pieces : InPieces bs s
  pub none_swallowed : NoneSwallowed bs s.heard
  pub in_order : InOrder bs 0 s.heard
  pub within : AllByRecursion (λ h. h.place + size_of h.message ≤ length bs) s.heard
  -- each byte is counted once: as noise, in a heard frame, or in the undecided rest
  pub accounted : s.noise + sizes s.heard + length s.rest ≡ length bs
  -- which is the end of the bytes, and shorter than the largest frame
  pub rest_is : s.rest ≡ drop s.rest_place bs
  pub rest_ends : s.rest_place + length s.rest ≡ length bs
  pub rest_short : length s.rest < max_frame

-- The bytes are heard as one frame with this message, at place 0, with no noise and nothing left; and with more bytes behind them scanning
-- goes on behind the frame.
pub record HeardAs (m : Message) (bs : List ℕ) : Type 0 where
  pub alone : scanned bs ≡ with_heard (record { place = 0; message = m }) (waiting (length bs) [])
  pub before : (more : List ℕ) → scanned (bs ++ more) ≡ with_heard (record { place = 0; message = m }) (scan_from (length bs) 0 more)
