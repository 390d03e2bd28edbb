-- What the values of the code mean: the same without addresses.
use Rattle.std.specs.Prelude.{◌≡◌, ℕ, ◌+◌, ◌≤◌, List, length, Some, None, Ok, Err, Option, Result}
use Rattle.frame.specs.Frames.{size_of}
use Rattle.frame.specs.Meaning.{message_of}
use Rattle.layer.specs.declared.setting.Setting.{Setting}
use Rattle.reply.specs.declared.fault.ReadFault.{ReadFault}
use Rattle.reply.specs.declared.fault.ReadFault.TheVariants.{NothingWhole}
use Rattle.reply.specs.declared.pairs.Pairs.{Pairs}
use Rattle.reply.specs.declared.pair.Front.{Front}
use Rattle.reply.specs.declared.message.Message.{Message}
use Rattle.reply.specs.declared.message.Message.TheVariants.{Ack, Nak, Values, Other}
use Rattle.reply.specs.declared.reading.Reading.{Reading as Read}
use Rattle.reply.specs.declared.reading.Heard.{Heard}
use Rattle.reply.specs.Pairs.{first_pair, pair_size, settings_in}
use Rattle.reply.specs.Messages.{Saying, ack, nak, values, other, said, Reading, reading_at, read_message}

-- the pair at the front, and how many bytes it has
abbrev pub IsFront : List ℕ → Option Front → Type 0
IsFront bs None = first_pair bs ≡ None
IsFront bs (Some f) = (first_pair bs ≡ Some f.pair) × (f.size ≡ pair_size f.pair) × (f.size ≤ length bs)

-- the pairs that are still to come
abbrev pub pairs_left : Pairs → List Setting
pairs_left p = settings_in p.bytes.now

abbrev pub pairs_of : Result Pairs ReadFault → Result (List Setting) ReadFault
pairs_of (Ok p) = Ok (pairs_left p)
pairs_of (Err f) = Err f

abbrev pub saying_of : Message → Saying
saying_of (Ack class id) = ack class id
saying_of (Nak class id) = nak class id
saying_of (Values layer position pairs) = values layer position (pairs_left pairs)
saying_of (Other frame) = other (message_of frame)

abbrev pub said_of : Result Message ReadFault → Result Saying ReadFault
said_of (Ok m) = Ok (saying_of m)
said_of (Err f) = Err f

abbrev pub reading_of : Read → Reading
reading_of r = record { place = r.place; saying = saying_of r.message; rest = r.rest.now }

abbrev pub read_of : Result Read ReadFault → Result Reading ReadFault
read_of (Ok r) = Ok (reading_of r)
read_of (Err f) = Err f

-- The first heard frame lies within the input, and what it says is what is read; with none, nothing whole is heard.
abbrev pub FirstHeard : List ℕ → Option Heard → Type 0
FirstHeard bs None = read_message bs ≡ Err NothingWhole
FirstHeard bs (Some h) =
    (h.place + size_of (message_of h.frame) ≤ length bs)
    × (read_message bs ≡ reading_at h.place (said h.place (message_of h.frame)) h.rest.now)
