use Rattle.std.proofs.Common.{◌≡◌, true, length}
use Rattle.store.specs.declared.table.SlotTable.{SlotTable}
use Rattle.reference.specs.Stores.{store_of}
use Rattle.store.specs.Slots.{settings_of}
use Rattle.request.specs.Changes.{slots_of}
use Rattle.configuration.proofs.Tried.{Steps}
use Rattle.configuration.proofs.trying.values_after.Given as goal

-- so far each value is told, and there is one for each entry
abbrev pub invariant-loop-item : goal.invariant-loop-item
invariant-loop-item l = (length l.values.items ≡ l.item) × Steps (store_of (λ _. true) (λ (t : SlotTable). settings_of t.slots) l.table) l.entry-items (slots_of l.changes) l.values.items l.item
