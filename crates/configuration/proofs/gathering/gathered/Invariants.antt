use Rattle.std.proofs.Common.{◌≡◌, [], drop}
use Rattle.store.specs.Slots.{settings_of}
use Rattle.configuration.proofs.Tables.{gathered_from}
use Rattle.configuration.proofs.gathering.gathered.Given as goal

abbrev pub invariant-loop-entry : goal.invariant-loop-entry
invariant-loop-entry g l =
    let held = g.L.Layer.settings l.layer in
    let entries = l.entry-items in
    gathered_from held (drop l.entry-index entries) (settings_of l.table.slots) ≡ gathered_from held entries []
