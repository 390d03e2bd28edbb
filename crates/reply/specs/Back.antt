-- What a receiver writes is read back: its verdicts, and its replies to a get with the verdict behind them.
use Rattle.std.specs.Prelude.{◌≡◌, ℕ, ◌≤◌, List, ◌++◌, length, Ok, Result, slice_index}
use Rattle.frame.specs.Frames.{Message, frame_bytes}
use Rattle.layer.specs.declared.setting.Setting.{Setting}
use Rattle.layer.specs.Settings.{Sound}
use Rattle.reference.specs.Receiver.{held_pairs, position_of, page_pairs, page, ack_of, nak_of}
use Rattle.reply.specs.declared.fault.ReadFault.{ReadFault}
use Rattle.reply.specs.Messages.{Saying, ack, nak, values, Reading}

-- at the input's first byte, with these bytes behind
abbrev pub at_start : Saying → List ℕ → Reading
at_start s rest = record { place = 0; saying = s; rest = rest }

-- what the reply to a get says with this payload, under these keys, of a layer with these settings
abbrev pub page_said : List Setting → List ℕ → List ℕ → Saying
page_said ss p ks = values (slice_index p 1) (position_of p) (page_pairs (position_of p) (held_pairs ss ks))

-- By what was read of these bytes: where they begin with what a receiver writes, it was read as what it says, whatever stands behind; so behind
-- a reply its ACK is read next.
pub record ReadsBack (bs : List ℕ) (r : Result Reading ReadFault) : Type 0 where
  -- the verdicts on a frame m
  pub acks : (m : Message) (more : List ℕ) → bs ≡ ack_of m ++ more → r ≡ Ok (at_start (ack m.class m.id) more)
  pub naks : (m : Message) (more : List ℕ) → bs ≡ nak_of m ++ more → r ≡ Ok (at_start (nak m.class m.id) more)
  -- a reply
  pub pages : (ss : List Setting) (p ks more : List ℕ) → Sound ss → 4 ≤ length p → bs ≡ frame_bytes (page ss p ks) ++ more
      → r ≡ Ok (at_start (page_said ss p ks) more)
