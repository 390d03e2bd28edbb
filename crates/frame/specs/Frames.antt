-- UBX frames: the bytes of one, and what stands at the first byte of a run of bytes.
use Rattle.std.specs.Prelude.{ℕ, suc, ◌+◌, ◌*◌, ◌/◌, ◌%◌, cond, ◌&&◌, List, [], ◌∷◌, ◌++◌, length, take, drop, ◌==◌, nat_le, slice_index}
use Rattle.frame.specs.declared.sums.CheckBytes.{CheckBytes}
use Rattle.frame.specs.Checksum.{check_bytes}

-- the two bytes that a frame begins with, the most payload bytes that it may have, and so its most bytes
abbrev pub preamble₁ : ℕ
preamble₁ = 0xb5

abbrev pub preamble₂ : ℕ
preamble₂ = 0x62

abbrev pub max_payload : ℕ
max_payload = 772

abbrev pub max_frame : ℕ
max_frame = 780

-- what a frame carries
pub record Message : Type 0 where
  pub class : ℕ
  pub id : ℕ
  pub payload : List ℕ

abbrev pub carrying : ℕ → ℕ → List ℕ → Message
carrying class id payload = record { class = class; id = id; payload = payload }

-- how many bytes of a frame stand behind its first: one of the preamble, class, ID, two of the length, the payload, two check bytes
abbrev pub tail_size : Message → ℕ
tail_size m = 7 + length m.payload

-- how many bytes a frame has
abbrev pub size_of : Message → ℕ
size_of m = suc (tail_size m)

-- what the check bytes are taken over: class, ID, the payload's length (low byte first), payload
abbrev pub body_of : Message → List ℕ
body_of m = m.class ∷ m.id ∷ length m.payload % 256 ∷ length m.payload / 256 ∷ m.payload

-- the bytes of a frame
unfoldable pub frame_bytes : Message → List ℕ
frame_bytes m = let s : CheckBytes = check_bytes (body_of m) in preamble₁ ∷ preamble₂ ∷ body_of m ++ s.a ∷ s.b ∷ []

-- What stands at the first byte of a run of bytes. It begins an intact frame if the preamble, a length of at most 772, that many payload
-- bytes and the two right check bytes follow. It is noise if no further byte could make that so. Else it is undecided.
pub data Standing : Type 0 where
  noise : Standing
  undecided : Standing
  intact : Message → Standing

-- at the two check bytes, of which s are expected
unfoldable pub at_check_bytes : CheckBytes → Message → List ℕ → Standing
at_check_bytes s m [] = undecided
at_check_bytes s m (x ∷ []) = cond (x == s.a) undecided noise
at_check_bytes s m (x ∷ y ∷ rest) = cond (x == s.a && y == s.b) (intact m) noise

-- behind class, ID, the length's low and high byte
unfoldable pub at_payload : ℕ → ℕ → ℕ → ℕ → List ℕ → Standing
at_payload c i l h body =
    let n : ℕ = l + 256 * h in
    let p : List ℕ = take n body in
    let r : Standing = at_check_bytes (check_bytes (c ∷ i ∷ l ∷ h ∷ p)) (record { class = c; id = i; payload = p }) (drop n body) in
    cond (nat_le n max_payload) r noise

unfoldable pub at_header : List ℕ → Standing
at_header [] = undecided
at_header (c ∷ []) = undecided
at_header (c ∷ i ∷ []) = undecided
at_header (c ∷ i ∷ l ∷ []) = undecided
at_header (c ∷ i ∷ l ∷ h ∷ body) = at_payload c i l h body

unfoldable pub at_second : List ℕ → Standing
at_second [] = undecided
at_second (q ∷ xs) = let r : Standing = at_header xs in cond (q == preamble₂) r noise

unfoldable pub standing : List ℕ → Standing
standing [] = undecided
standing (p ∷ xs) = let r : Standing = at_second xs in cond (p == preamble₁) r noise

-- The message of a frame at the first byte whose payload has n bytes, and what stands there if the bytes up to the length are as they should.
abbrev pub message_at : ℕ → List ℕ → Message
message_at n bs = record { class = slice_index bs 2; id = slice_index bs 3; payload = take n (drop 6 bs) }

abbrev pub behind_header : ℕ → List ℕ → Standing
behind_header n bs = at_check_bytes (check_bytes (take (4 + n) (drop 2 bs))) (message_at n bs) (drop (6 + n) bs)
