-- Reading: which message the first heard frame of the input is, where it stands, and what stands behind it.
use Rattle.std.specs.Prelude.{ℕ, ◌+◌, ◌*◌, cond, ◌&&◌, List, length, drop, Some, None, Ok, Err, Option, Result, ◌==◌, nat_le, slice_index}
use Rattle.frame.specs.Frames.{Message}
use Rattle.frame.specs.Scanning.{Finding, finding}
use Rattle.layer.specs.declared.setting.Setting.{Setting}
use Rattle.reference.specs.Requests.{configuration_class, valget}
use Rattle.reply.specs.declared.fault.ReadFault.{ReadFault}
use Rattle.reply.specs.declared.fault.ReadFault.TheVariants.{NothingWhole}
use Rattle.reply.specs.Pairs.{pairs_read}

-- what a receiver says
pub data Saying : Type 0 where
  -- a verdict on the frame with this class and ID
  ack : (class id : ℕ) → Saying
  nak : (class id : ℕ) → Saying
  -- what a layer holds, from a position on
  values : (layer position : ℕ) → List Setting → Saying
  -- any other frame
  other : Message → Saying

-- The class of verdicts, and the IDs of an ACK and a NAK. Their payload is the class and ID of the frame that they answer.
abbrev pub verdict_class : ℕ
verdict_class = 0x05

abbrev pub ack_id : ℕ
ack_id = 0x01

abbrev pub nak_id : ℕ
nak_id = 0x00

abbrev pub verdict_or : Message → Saying
verdict_or m =
    let class : ℕ = slice_index m.payload 0 in
    let id : ℕ = slice_index m.payload 1 in
    cond (m.id == ack_id) (ack class id) (cond (m.id == nak_id) (nak class id) (other m))

unfoldable pub verdict_said : Message → Saying
verdict_said m = cond (length m.payload == 2) (verdict_or m) (other m)

-- Values are the reply to a get: version 1, the layer, the position in two bytes (low byte first), and from byte 4 on the pairs.

abbrev pub values_version : ℕ
values_version = 1

abbrev pub values_or_fault : ℕ → ℕ → Result (List Setting) ReadFault → Result Saying ReadFault
values_or_fault layer position (Ok ss) = Ok (values layer position ss)
values_or_fault layer position (Err f) = Err f

-- the values in a payload whose first byte stands at a place of the input
abbrev pub values_in : ℕ → List ℕ → Result Saying ReadFault
values_in place p = values_or_fault (slice_index p 1) (slice_index p 2 + 256 * slice_index p 3) (pairs_read (place + 4) (drop 4 p))

unfoldable pub values_said : ℕ → Message → Result Saying ReadFault
values_said place m =
    let v : Result Saying ReadFault = values_in place m.payload in
    cond (nat_le 4 (length m.payload) && slice_index m.payload 0 == values_version) v (Ok (other m))

-- What a frame says whose first byte stands at a place of the input; six bytes stand before its payload.
unfoldable pub said : ℕ → Message → Result Saying ReadFault
said place m =
    let v : Result Saying ReadFault = values_said (place + 6) m in
    cond (m.class == verdict_class) (Ok (verdict_said m)) (cond (m.class == configuration_class && m.id == valget) v (Ok (other m)))

-- what was read: the place of its first byte, what it says, and the bytes behind it
pub record Reading : Type 0 where
  pub place : ℕ
  pub saying : Saying
  pub rest : List ℕ

abbrev pub reading_at : ℕ → Result Saying ReadFault → List ℕ → Result Reading ReadFault
reading_at place (Ok s) rest = Ok (record { place = place; saying = s; rest = rest })
reading_at place (Err f) rest = Err f

abbrev pub heard_at : ℕ → Option Message → List ℕ → Result Reading ReadFault
heard_at place None rest = Err NothingWhole
heard_at place (Some m) rest = reading_at place (said place m) rest

-- The first heard frame counts, whatever it is; noise before it is skipped, and an undecided place ends the search.
unfoldable pub read_message : List ℕ → Result Reading ReadFault
read_message bs = let f : Finding = finding bs in heard_at f.skipped f.message f.rest
