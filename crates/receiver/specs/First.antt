-- The first frame in bytes, by numbers: where it stands.
use Rattle.std.specs.Prelude.{◌≡◌, ℕ, suc, ◌+◌, ◌≤◌, List, length, take, drop, Some, None, Ok, Err, Result}
use Rattle.frame.specs.Frames.{Message, carrying}
use Rattle.frame.specs.Scanning.{Finding, finding}
use Rattle.receiver.specs.declared.first.HeldFrame.{HeldFrame}

-- the message of a frame that is heard
abbrev pub message_in : List ℕ → HeldFrame → Message
message_in bs h = carrying h.class h.id (take h.length (drop (h.noise + 6) bs))

-- where the frame ends
abbrev pub end_of : HeldFrame → ℕ
end_of h = h.noise + suc (7 + h.length)

-- where the first frame ends, or the noise where there is none
abbrev pub first_end : Result HeldFrame ℕ → ℕ
first_end (Ok h) = end_of h
first_end (Err n) = n

abbrev pub first_finding : List ℕ → Result HeldFrame ℕ → Finding
first_finding bs (Ok h) = record { skipped = h.noise; message = Some (message_in bs h); rest = drop (end_of h) bs }
first_finding bs (Err n) = record { skipped = n; message = None; rest = drop n bs }

-- this is what a search finds, and it stands within the bytes
pub record FirstIs (bs : List ℕ) (r : Result HeldFrame ℕ) : Type 0 where
  pub value : first_finding bs r ≡ finding bs
  pub fits : first_end r ≤ length bs
