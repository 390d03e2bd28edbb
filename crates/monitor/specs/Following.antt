-- Following a line: what is known of it after the bytes so far, and what one more piece adds.
use Rattle.std.specs.Prelude.{◌≡◌, ℕ, ◌+◌, ◌^◌, ◌<◌, ◌≤◌, List, ◌++◌, map, length, IfOk, Ok, Err, vec_items, vec_len, Result, Vec}
use Rattle.std.specs.declared.alloc.Global.{Global}
use Rattle.std.specs.List.{All}
use Rattle.frame.specs.Scanning.{Hearing, moved_hearing, Scanned, scan_from, scanned}
use Rattle.frame.specs.declared.scanner.Heard.{Heard}
use Rattle.frame.specs.Meaning.{hearing_of}
use Rattle.monitor.specs.declared.row.Counts.{Counts}
use Rattle.monitor.specs.declared.row.Row.{Row}
use Rattle.monitor.specs.declared.state.calls.Brought.{Brought}
use Rattle.monitor.specs.declared.state.calls.FeedFault.{FeedFault}
use Rattle.monitor.specs.declared.state.calls.FeedFault.TheVariants.{LineTooLong, NoMemory}

-- the place of the first undecided byte, the undecided bytes, and how many frames and bytes of noise came before
pub record Progress : Type 0 where
  pub place : ℕ
  pub held : List ℕ
  pub frames : ℕ
  pub noise : ℕ

abbrev pub counts_of : Progress → Counts
counts_of p = record { frames = p.frames; noise = p.noise; held = length p.held }

-- what is known of a line on which these bytes have come
abbrev pub reached : List ℕ → Progress
reached bs = record { place = (scanned bs).rest_place; held = (scanned bs).rest; frames = length (scanned bs).heard; noise = (scanned bs).noise }

-- one more piece: scanning goes on from the undecided bytes
abbrev pub scanned_on : Progress → List ℕ → Scanned
scanned_on p piece = scan_from p.place 0 (p.held ++ piece)

abbrev pub progress_on : Progress → Scanned → Progress
progress_on p s = record { place = s.rest_place; held = s.rest; frames = p.frames + length s.heard; noise = p.noise + s.noise }

abbrev pub hearing_row : Hearing → Row
hearing_row h = record { place = h.place; class = h.message.class; id = h.message.id; len = length h.message.payload }

-- of a frame that was heard in bytes which begin at this place of the line
abbrev pub row_at : ℕ → Heard → Row
row_at p h = hearing_row (moved_hearing p (hearing_of h))

-- their places on the line can be told
abbrev pub Placed : ℕ → List Heard → Type 0
Placed p hs = All (λ h. p + h.place < 2 ^ 64) hs

abbrev pub rows_of : Scanned → List Row
rows_of s = map hearing_row s.heard

-- how many bytes the line would have had with this piece
abbrev pub line_length : Progress → List ℕ → ℕ
line_length p piece = p.place + length p.held + length piece

-- what the bytes from this place of the line on bring
pub record Brings (place : ℕ) (bs : List ℕ) (b : Brought) : Type 0 where
  pub rows : vec_items b.rows ≡ rows_of (scan_from place 0 bs)
  pub count : vec_len b.rows ≡ length (scan_from place 0 bs).heard
  pub decided : place + b.decided ≡ (scan_from place 0 bs).rest_place
  pub noise : b.noise ≡ (scan_from place 0 bs).noise
  pub rest : vec_items b.rest ≡ (scan_from place 0 bs).rest
  -- each row and each byte of noise takes a byte that is decided
  pub few_rows : vec_len b.rows ≤ b.decided
  pub few_noise : b.noise ≤ b.decided
  pub within : b.decided ≤ length bs

abbrev pub passed : Progress → Brought → Progress
passed p b = record { place = p.place + b.decided; held = vec_items b.rest; frames = p.frames + vec_len b.rows; noise = p.noise + b.noise }

-- What feeding a piece answers and leaves. It is refused where the line would have 2^64 bytes or more, and where no memory is left; a
-- refusal leaves the monitor as it was.
abbrev pub Refused : Progress → List ℕ → Progress → FeedFault → Type 0
Refused before piece after LineTooLong = (2 ^ 64 ≤ line_length before piece) × (after ≡ before)
Refused before piece after NoMemory = (line_length before piece < 2 ^ 64) × (after ≡ before)

abbrev pub Fed : Progress → List ℕ → Progress → Result (Vec Row Global) FeedFault → Type 0
Fed before piece after (Ok rows) =
    (line_length before piece < 2 ^ 64) × (vec_items rows ≡ rows_of (scanned_on before piece)) × (after ≡ progress_on before (scanned_on before piece))
Fed before piece after (Err fault) = Refused before piece after fault

-- The pieces together are the line: a monitor that was fed these bytes is, with one more piece, where it would be had all come at once,
-- and the rows are those of the frames that are heard only with that piece.
abbrev pub Follows : Progress → List ℕ → Progress → Result (Vec Row Global) FeedFault → Type 0
Follows before piece after r =
    (bs : List ℕ) → before ≡ reached bs → IfOk r (λ rows. (after ≡ reached (bs ++ piece)) × (rows_of (scanned (bs ++ piece)) ≡ rows_of (scanned bs) ++ vec_items rows))
