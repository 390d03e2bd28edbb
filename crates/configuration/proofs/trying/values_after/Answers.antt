use Rattle.std.proofs.Common.{refl, arith}
use Rattle.request.specs.Changes.{slots_of}
use Rattle.request.proofs.Slots.{slots_long}
use Rattle.configuration.proofs.Tried.{values_told}
use Rattle.configuration.proofs.trying.values_after.Goals as goal

pub returns : goal.returns
returns c =
    let changes = c.args.changes.now in
    let entries = c.entries-entry-items.ensures in
    let few = entries.few in
    let long = slots_long changes.outcomes changes.values changes.outcomes_whole changes.values_whole in
    let inv = c.loop-item.invariant in
    let all = c.loop-item-test.false in
    rw (← entries.value)
    (values_told c.entries-entry-items.result.now (slots_of changes) c.loop-item.values.items _ c.loop-item.item entries.listed (omega arith) inv.0 all (omega arith) refl inv.1)
