use Rattle.std.proofs.Common.{◌≡◌, drop}
use Rattle.reference.specs.Stores.{store_of}
use Rattle.configuration.proofs.Written.{written_by}
use Rattle.configuration.proofs.Writes.{Left}
use Rattle.request.specs.Changes.{changes_by, slots_of}
use Rattle.configuration.proofs.applying.apply_changes.Given as goal

abbrev pub invariant-loop-item : goal.invariant-loop-item
invariant-loop-item g l =
    let store = store_of g.S.Store.usable g.S.Layer.settings in
    let entries = l.entry-items in
    (written_by (drop l.item entries) (drop l.item (slots_of l.changes)) (store l.store) ≡ written_by entries (slots_of l.changes) (store l.initial.store))
    × Left (record { words = g.S.Store.memory; put = g.S.Store.memory_put; removed = g.S.Store.memory_removed; cleared = g.S.Store.memory_cleared }) entries (changes_by entries (slots_of l.changes)) l.item l.initial.store l.store
