-- What slots of changes mean under a catalogue: what changes under each key.
use Rattle.std.specs.Prelude.{ℕ, cond, List, [], ◌∷◌, Some, None, Option, ◌==◌}
use Rattle.catalogue.specs.declared.entries.Entry.{Entry}
use Rattle.reference.specs.Requests.{Changes}
use Rattle.request.specs.declared.change.Change.{Change}
use Rattle.request.specs.declared.change.Change.TheVariants.{Put, Remove}
use Rattle.request.specs.declared.changes.Outcome.{Outcome}
use Rattle.request.specs.declared.changes.Outcome.TheVariants.{Stays, Put as Puts, Remove as Removes}
use Rattle.request.specs.declared.changes.ItemChanges.{ItemChanges}

-- what becomes of one item, by its outcome and the value beside it
abbrev pub slot_of : Outcome → ℕ → Option Change
slot_of Stays v = None
slot_of Puts v = Some (Put v)
slot_of Removes v = Some Remove

abbrev pub slots_in : List Outcome → List ℕ → List (Option Change)
slots_in [] vs = []
slots_in (o ∷ os) [] = []
slots_in (o ∷ os) (v ∷ vs) = slot_of o v ∷ slots_in os vs

-- what becomes of each item, at its place
abbrev pub slots_of : ItemChanges → List (Option Change)
slots_of c = slots_in c.outcomes c.values

abbrev pub change_of : Option Change → Option (Option ℕ)
change_of None = None
change_of (Some (Put v)) = Some (Some v)
change_of (Some Remove) = Some None

-- the change of the first item with the key
abbrev pub changes_by : List Entry → List (Option Change) → Changes
changes_by [] cs k = None
changes_by (e ∷ es) [] k = None
changes_by (e ∷ es) (c ∷ cs) k = cond (e.key == k) (change_of c) (changes_by es cs k)
