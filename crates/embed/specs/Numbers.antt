-- What the numbers that cross to C say of the reference receiver.
use Rattle.std.specs.Prelude.{ℕ, Bool, true, false, length, Some, None, Option, Ok, Err, Result}
use Rattle.catalogue.specs.declared.entries.Entry.{Entry}
use Rattle.catalogue.specs.Kinds.{kind_of}
use Rattle.rule.specs.declared.need.Need.{Need}
use Rattle.reference.specs.declared.call.Battery.{Battery}
use Rattle.reference.specs.declared.call.Battery.TheVariants.{Kept, Lost}
use Rattle.reference.specs.declared.refusal.Verdict.{Verdict}
use Rattle.reference.specs.declared.refusal.Verdict.TheVariants.{Outside, Ack, Nak}
use Rattle.reference.specs.declared.answered.Answered.{Answered}
use Rattle.reference.specs.declared.answered.Telling.{Telling}
use Rattle.reference.specs.Answers.{refusal_place, verdict_number, call_fault_number, parts_fault_number}
use Rattle.reference.specs.declared.fault.PartsFault.{PartsFault}
use Rattle.reference.specs.Parts.{Parts, parts_fault}
use Rattle.reference.specs.Stores.{Settings}
use Rattle.journal.specs.declared.fault.JournalFault.{JournalFault}
use Rattle.journal.specs.Faults.{fault_number, fault_word}
use Rattle.reference.specs.Events.{Event, took, nothing_whole, told, looked, restarted, refused}
use Rattle.embed.specs.declared.board.MakeFault.{MakeFault}
use Rattle.embed.specs.declared.board.MakeFault.TheVariants.{NoMemory, Refused}
use Rattle.embed.specs.declared.numbers.UbxEntry.{UbxEntry}
use Rattle.embed.specs.declared.numbers.UbxNeed.{UbxNeed}
use Rattle.embed.specs.declared.numbers.UbxTaken.{UbxTaken}
use Rattle.embed.specs.declared.numbers.UbxAnswered.{UbxAnswered}
use Rattle.embed.specs.declared.numbers.UbxLooked.{UbxLooked}
use Rattle.embed.specs.declared.numbers.UbxRestarted.{UbxRestarted}
use Rattle.embed.specs.declared.numbers.UbxInspected.{UbxInspected}

abbrev pub entry_of : UbxEntry → Entry
entry_of e = record { key = e.key; kind = kind_of e.kind; default = e.default; low = e.low; high = e.high }

abbrev pub need_of : UbxNeed → Need
need_of n = record { first = n.first; second = n.second }

abbrev pub battery_of : Bool → Battery
battery_of true = Lost
battery_of false = Kept

-- how a verdict is told: 1 outside the configuration class, 2 ACK, 3 NAK
abbrev pub told_number : Verdict → ℕ
told_number Outside = 1
told_number Ack = 2
told_number (Nak r) = 3

-- the place or item of a NAK, else 0
abbrev pub verdict_place : Verdict → ℕ
verdict_place Outside = 0
verdict_place Ack = 0
verdict_place (Nak r) = refusal_place r

-- an answering, by its noise, what was told, and how many bytes were written
abbrev pub told_answer : (noise class id : ℕ) → Verdict → (written : ℕ) → UbxAnswered
told_answer noise c i v n =
    record { noise = noise; length = n; place = verdict_place v; told = told_number v; class = c; id = i; number = verdict_number v; refused = 0 }

abbrev pub no_answer : ℕ → ℕ → UbxAnswered
no_answer noise number = record { noise = noise; length = 0; place = 0; told = 0; class = 0; id = 0; number = 0; refused = number }

abbrev pub refused_answer : ℕ → UbxAnswered
refused_answer number = no_answer 0 number

abbrev pub answer_told : ℕ → Option Telling → UbxAnswered
answer_told noise None = no_answer noise 0
answer_told noise (Some t) = told_answer noise t.class t.id t.verdict t.length

abbrev pub answered_of : Answered → UbxAnswered
answered_of a = answer_told a.noise a.told

-- What an event says in numbers. An event of another call says nothing.

abbrev pub taken_in : Event → UbxTaken
taken_in (took piece count) = record { count = count; refused = 0 }
taken_in (nothing_whole noise) = record { count = 0; refused = 0 }
taken_in (told noise c i v written) = record { count = 0; refused = 0 }
taken_in (looked layer key value) = record { count = 0; refused = 0 }
taken_in (restarted b fault) = record { count = 0; refused = 0 }
taken_in (refused call fault) = record { count = 0; refused = call_fault_number fault }

abbrev pub answered_in : Event → UbxAnswered
answered_in (took piece count) = no_answer 0 0
answered_in (nothing_whole noise) = no_answer noise 0
answered_in (told noise c i v written) = told_answer noise c i v (length written)
answered_in (looked layer key value) = no_answer 0 0
answered_in (restarted b fault) = no_answer 0 0
answered_in (refused call fault) = refused_answer (call_fault_number fault)

abbrev pub value_looked : Option ℕ → UbxLooked
value_looked None = record { value = 0; held = false; refused = 0 }
value_looked (Some v) = record { value = v; held = true; refused = 0 }

abbrev pub looked_in : Event → UbxLooked
looked_in (took piece count) = value_looked None
looked_in (nothing_whole noise) = value_looked None
looked_in (told noise c i v written) = value_looked None
looked_in (looked layer key value) = value_looked value
looked_in (restarted b fault) = value_looked None
looked_in (refused call fault) = record { value = 0; held = false; refused = call_fault_number fault }

abbrev pub fault_restarted : Option ℕ → UbxRestarted
fault_restarted None = record { item = 0; unfit = false; refused = 0 }
fault_restarted (Some i) = record { item = i; unfit = true; refused = 0 }

abbrev pub restarted_in : Event → UbxRestarted
restarted_in (took piece count) = fault_restarted None
restarted_in (nothing_whole noise) = fault_restarted None
restarted_in (told noise c i v written) = fault_restarted None
restarted_in (looked layer key value) = fault_restarted None
restarted_in (restarted b fault) = fault_restarted fault
restarted_in (refused call fault) = record { item = 0; unfit = false; refused = call_fault_number fault }

-- why no board is made: 255 for want of memory
abbrev pub make_number : MakeFault → ℕ
make_number NoMemory = 255
make_number (Refused f) = parts_fault_number f

-- the number of what is wrong with the parts, 0 where nothing is
abbrev pub number_of : Option PartsFault → ℕ
number_of None = 0
number_of (Some f) = parts_fault_number f

abbrev pub made_number : Parts → ℕ
made_number p = number_of (parts_fault p)

-- the first wrong word of a buffer, by what inspection finds in it
abbrev pub inspected_as : Result Settings JournalFault → UbxInspected
inspected_as (Ok settings) = record { word = 0; refused = 0 }
inspected_as (Err f) = record { word = fault_word f; refused = fault_number f }
