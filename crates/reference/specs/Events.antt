-- The calls of a receiver, and events: a call's arguments together with what it answered.
use Rattle.std.specs.Prelude.{ℕ, List, [], take, Some, None, Option}
use Rattle.reference.specs.declared.call.Battery.{Battery}
use Rattle.reference.specs.declared.call.Call.{Call}
use Rattle.reference.specs.declared.call.Call.TheVariants.{Take, Answer, Look, Restart}
use Rattle.reference.specs.declared.refusal.Verdict.{Verdict}
use Rattle.reference.specs.declared.fault.CallFault.{CallFault}
use Rattle.reference.specs.declared.answered.Answered.{Answered}
use Rattle.reference.specs.declared.answered.Telling.{Telling}

-- a call, with bytes in place of the slice that lends them
pub data Asking : Type 0 where
  take_piece : (piece : List ℕ) → Asking
  answer_into : (room : ℕ) → Asking
  look_at : (layer key : ℕ) → Asking
  restart_with : Battery → Asking

abbrev pub asking_of : Call → Asking
asking_of (Take piece) = take_piece piece.now
asking_of (Answer room) = answer_into room
asking_of (Look layer key) = look_at layer key
asking_of (Restart battery) = restart_with battery

pub data Event : Type 0 where
  -- of a piece, so many bytes were taken
  took : (piece : List ℕ) (count : ℕ) → Event
  -- so much noise was dropped, and no frame is whole
  nothing_whole : (noise : ℕ) → Event
  -- noise was dropped, then a frame was told, with the verdict and the bytes written
  told : (noise class id : ℕ) (verdict : Verdict) (written : List ℕ) → Event
  looked : (layer key : ℕ) (value : Option ℕ) → Event
  -- a restart, and the item at fault where the stack was unfit
  restarted : Battery → (fault : Option ℕ) → Event
  -- a call that was refused
  refused : Asking → CallFault → Event

-- the newest event first
abbrev pub History : Type 0
History = List Event

-- how many bytes an answering says that it wrote
abbrev pub told_length : Option Telling → ℕ
told_length None = 0
told_length (Some t) = t.length

abbrev pub answered_length : Answered → ℕ
answered_length a = told_length a.told

-- an answering's event, by the noise dropped, what was told, and the bytes written
abbrev pub event_told : ℕ → Option Telling → List ℕ → Event
event_told noise None written = nothing_whole noise
event_told noise (Some t) written = told noise t.class t.id t.verdict written

-- the same by its answer and what its buffer holds after it
abbrev pub answered_event : List ℕ → Answered → Event
answered_event buffer a = event_told a.noise a.told (take (answered_length a) buffer)

-- what an event wrote
abbrev pub written_by : Event → List ℕ
written_by (took piece count) = []
written_by (nothing_whole noise) = []
written_by (told noise c i v written) = written
written_by (looked layer key value) = []
written_by (restarted b fault) = []
written_by (refused asking fault) = []
