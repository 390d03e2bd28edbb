-- What handling a frame comes to.
use Rattle.std.specs.Prelude.{◌≡◌, ℕ, List, length, drop, Ok, Err, Result}
use Rattle.frame.specs.Written.{in_front}
use Rattle.reference.specs.declared.fault.CallFault.{CallFault}
use Rattle.reference.specs.declared.answered.Answered.{Answered}
use Rattle.frame.specs.Scanning.{finding}
use Rattle.rule.specs.Rules.{Finding as Rule}
use Rattle.reference.specs.Requests.{Catalogue}
use Rattle.reference.specs.Events.{written_by, answered_length, answered_event}
use Rattle.reference.specs.Receiver.{State, Stepped, with_held, handled, answering}
use Rattle.receiver.specs.declared.first.HeldFrame.{HeldFrame}
use Rattle.receiver.specs.First.{message_in, end_of}

-- what handling a frame that is heard comes to
abbrev pub handled_here : Catalogue → Rule → State → HeldFrame → Stepped
handled_here cat rule s h = handled cat rule (with_held s (drop (end_of h) s.held_bytes)) h.noise (message_in s.held_bytes h)

-- how many bytes an answering says that it wrote; none where it was refused
abbrev pub length_of : Result Answered CallFault → ℕ
length_of (Ok a) = answered_length a
length_of (Err f) = 0

-- It was answered as the reference answers it: the state, the event, and the buffer, which is changed in the bytes written alone.
pub record Answering (step : Stepped) (after : State) (old out : List ℕ) (a : Answered) : Type 0 where
  pub state : after ≡ step.state
  pub event : answered_event out a ≡ step.event
  pub count : answered_length a ≡ length (written_by step.event)
  pub buffer : out ≡ in_front (written_by step.event) old

-- what an answering comes to once it is not refused
abbrev pub answering_of : Catalogue → Rule → State → Stepped
answering_of cat rule s = answering cat rule (with_held s (finding s.held_bytes).rest) (finding s.held_bytes).skipped (finding s.held_bytes).message
