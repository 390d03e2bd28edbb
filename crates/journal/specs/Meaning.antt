-- What the code's values of a reading mean.
use Rattle.std.specs.Prelude.{List, Ok, Err, Result}
use Rattle.layer.specs.declared.setting.Setting.{Setting}
use Rattle.store.specs.declared.table.SlotTable.{SlotTable}
use Rattle.store.specs.Slots.{settings_of}
use Rattle.journal.specs.declared.fault.JournalFault.{JournalFault}
use Rattle.journal.specs.declared.reading.open.Open.{Open}
use Rattle.journal.specs.declared.reading.Phase.{Phase}
use Rattle.journal.specs.declared.reading.Phase.TheVariants.{Between, Within, Blanks}
use Rattle.journal.specs.declared.reading.Reading.{Reading}
use Rattle.journal.specs.Inspecting.{Begun, Next, any_record, part_for, only_blanks, Progress, progress}

abbrev pub begun_of : Open → Begun
begun_of o = record { head = o.head; key = o.key; value = o.value; parts = o.parts }

abbrev pub next_of : Phase → Next
next_of Between = any_record
next_of (Within o) = part_for (begun_of o)
next_of Blanks = only_blanks

abbrev pub progress_of : Reading → Progress
progress_of r = progress (settings_of r.held.slots) (next_of r.phase)

-- a reading after one word more, or why it is refused
abbrev pub read_to : Reading → Result (Unit {0}) JournalFault → Result Progress JournalFault
read_to r (Ok done) = Ok (progress_of r)
read_to r (Err f) = Err f

abbrev pub reading_of : Result Reading JournalFault → Result Progress JournalFault
reading_of (Ok r) = Ok (progress_of r)
reading_of (Err f) = Err f

-- the settings in a table, if there is one
abbrev pub held_by : Result SlotTable JournalFault → Result (List Setting) JournalFault
held_by (Ok t) = Ok (settings_of t.slots)
held_by (Err f) = Err f
