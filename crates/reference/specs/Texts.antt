-- The texts of refusals and verdicts.
use Rattle.std.specs.Prelude.{ℕ, List, ◌++◌, codes, decimal}
use Rattle.frame.specs.Texts.{hexadecimal}
use Rattle.catalogue.specs.Texts.{catalogue_fault_text}
use Rattle.reference.specs.declared.refusal.Refusal.{Refusal}
use Rattle.reference.specs.declared.refusal.Refusal.TheVariants.{OtherId, ShortPayload, UnknownVersion, NoLayer, WrongLayer, NoneOpen, OtherLayers, NothingAdded, TooManyEntries, CutEntry, UnknownKey, Unfit}
use Rattle.reference.specs.declared.refusal.Verdict.{Verdict}
use Rattle.reference.specs.declared.refusal.Verdict.TheVariants.{Outside, Ack, Nak}
use Rattle.reference.specs.declared.fault.CallFault.{CallFault}
use Rattle.reference.specs.declared.fault.CallFault.TheVariants.{Shut, BufferTooShort, WrongLayer as NoSuchLayer, UnknownKey as NoSuchKey}
use Rattle.reference.specs.declared.fault.PartsFault.{PartsFault}
use Rattle.reference.specs.declared.fault.PartsFault.TheVariants.{Catalogue, BbrUnusable, StrayInBbr, StrayInFlash, DefaultsUnfit}

-- of a frame
abbrev pub refusal_text : Refusal → List ℕ
refusal_text OtherId = codes "the ID is none of the three requests'"
refusal_text ShortPayload = codes "the payload has fewer than 4 bytes"
refusal_text UnknownVersion = codes "the version is unknown"
refusal_text NoLayer = codes "no layer is chosen"
refusal_text WrongLayer = codes "there is no such layer, or it is not usable"
refusal_text NoneOpen = codes "no transaction is open"
refusal_text OtherLayers = codes "the transaction was opened for other layers"
refusal_text NothingAdded = codes "the frame adds nothing to the transaction"
refusal_text (TooManyEntries place) = codes "a 65th entry at place " ++ decimal place
refusal_text (CutEntry place) = codes "the entry at place " ++ decimal place ++ codes " is cut"
refusal_text (UnknownKey place) = codes "the key at place " ++ decimal place ++ codes " is unknown"
refusal_text (Unfit item) = codes "item " ++ decimal item ++ codes " would be unfit"

-- as listings name it
abbrev pub verdict_text : Verdict → List ℕ
verdict_text Outside = codes "out"
verdict_text Ack = codes "ack"
verdict_text (Nak r) = codes "nak"

-- of a call
abbrev pub call_fault_text : CallFault → List ℕ
call_fault_text Shut = codes "the receiver is shut: its parts were refused"
call_fault_text BufferTooShort = codes "the buffer has fewer than 790 bytes"
call_fault_text NoSuchLayer = codes "there is no such layer, or it is not usable"
call_fault_text NoSuchKey = codes "no item has this key"

-- of the parts
abbrev pub parts_fault_text : PartsFault → List ℕ
parts_fault_text (Catalogue fault) = catalogue_fault_text fault
parts_fault_text BbrUnusable = codes "the battery memory is not usable"
parts_fault_text (StrayInBbr key) = codes "the battery memory holds the stray key " ++ hexadecimal 8 key
parts_fault_text (StrayInFlash key) = codes "Flash holds the stray key " ++ hexadecimal 8 key
parts_fault_text (DefaultsUnfit item) = codes "the defaults are unfit at item " ++ decimal item
