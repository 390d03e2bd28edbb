-- The number of each refusal, and what it carries.
use Rattle.std.specs.Prelude.{ℕ}
use Rattle.catalogue.specs.Catalogues.{fault_number, fault_entry}
use Rattle.reference.specs.declared.refusal.Refusal.{Refusal}
use Rattle.reference.specs.declared.refusal.Refusal.TheVariants.{OtherId, ShortPayload, UnknownVersion, NoLayer, WrongLayer, NoneOpen, OtherLayers, NothingAdded, TooManyEntries, CutEntry, UnknownKey, Unfit}
use Rattle.reference.specs.declared.refusal.Verdict.{Verdict}
use Rattle.reference.specs.declared.refusal.Verdict.TheVariants.{Outside, Ack, Nak}
use Rattle.reference.specs.declared.fault.CallFault.{CallFault}
use Rattle.reference.specs.declared.fault.CallFault.TheVariants.{Shut, BufferTooShort, WrongLayer as NoSuchLayer, UnknownKey as NoSuchKey}
use Rattle.reference.specs.declared.fault.PartsFault.{PartsFault}
use Rattle.reference.specs.declared.fault.PartsFault.TheVariants.{Catalogue, BbrUnusable, StrayInBbr, StrayInFlash, DefaultsUnfit}

-- of a frame
abbrev pub refusal_number : Refusal → ℕ
refusal_number OtherId = 10
refusal_number ShortPayload = 11
refusal_number UnknownVersion = 12
refusal_number NoLayer = 13
refusal_number WrongLayer = 14
refusal_number NoneOpen = 15
refusal_number OtherLayers = 16
refusal_number NothingAdded = 17
refusal_number (TooManyEntries place) = 18
refusal_number (CutEntry place) = 19
refusal_number (UnknownKey place) = 20
refusal_number (Unfit item) = 21

-- a place in the payload, or the item that is unfit
abbrev pub refusal_place : Refusal → ℕ
refusal_place OtherId = 0
refusal_place ShortPayload = 0
refusal_place UnknownVersion = 0
refusal_place NoLayer = 1
refusal_place WrongLayer = 1
refusal_place NoneOpen = 2
refusal_place OtherLayers = 1
refusal_place NothingAdded = 2
refusal_place (TooManyEntries place) = place
refusal_place (CutEntry place) = place
refusal_place (UnknownKey place) = place
refusal_place (Unfit item) = item

abbrev pub verdict_number : Verdict → ℕ
verdict_number Outside = 0
verdict_number Ack = 0
verdict_number (Nak r) = refusal_number r

-- of a call
abbrev pub call_fault_number : CallFault → ℕ
call_fault_number Shut = 8
call_fault_number BufferTooShort = 9
call_fault_number NoSuchLayer = 14
call_fault_number NoSuchKey = 20

-- of the parts: an entry of the catalogue, a layer and its stray key, an item, else 0
abbrev pub parts_fault_number : PartsFault → ℕ
parts_fault_number (Catalogue f) = fault_number f
parts_fault_number BbrUnusable = 5
parts_fault_number (StrayInBbr key) = 6
parts_fault_number (StrayInFlash key) = 6
parts_fault_number (DefaultsUnfit item) = 7

abbrev pub parts_fault_entry : PartsFault → ℕ
parts_fault_entry (Catalogue f) = fault_entry f
parts_fault_entry BbrUnusable = 0
parts_fault_entry (StrayInBbr key) = 0
parts_fault_entry (StrayInFlash key) = 0
parts_fault_entry (DefaultsUnfit item) = 0

abbrev pub parts_fault_layer : PartsFault → ℕ
parts_fault_layer (Catalogue f) = 0
parts_fault_layer BbrUnusable = 0
parts_fault_layer (StrayInBbr key) = 1
parts_fault_layer (StrayInFlash key) = 2
parts_fault_layer (DefaultsUnfit item) = 0

abbrev pub parts_fault_key : PartsFault → ℕ
parts_fault_key (Catalogue f) = 0
parts_fault_key BbrUnusable = 0
parts_fault_key (StrayInBbr key) = key
parts_fault_key (StrayInFlash key) = key
parts_fault_key (DefaultsUnfit item) = 0

abbrev pub parts_fault_item : PartsFault → ℕ
parts_fault_item (Catalogue f) = 0
parts_fault_item BbrUnusable = 0
parts_fault_item (StrayInBbr key) = 0
parts_fault_item (StrayInFlash key) = 0
parts_fault_item (DefaultsUnfit item) = item
