use Rattle.std.proofs.Common.{◌<◌, length, arith}
use Rattle.request.specs.Changes.{slots_of}
use Rattle.request.proofs.Slots.{slots_long}
use Rattle.configuration.proofs.Written.{by_step}
use Rattle.configuration.proofs.Writes.{wrote_next, wrote_all}
use Rattle.configuration.proofs.applying.apply_changes.Goals as goal

pub loop-item-preserved : goal.loop-item-preserved
loop-item-preserved g c =
    let changes = c.args.changes.now in
    let entries = c.entries-entry-items.ensures in
    let long = slots_long changes.outcomes changes.values changes.outcomes_whole changes.values_whole in
    let lt = c.loop-item-test.true in
    let few = entries.few in
    let within : c.loop-item.item < length (slots_of changes) = omega arith in (
      by_step c.entries-entry-items.result.now (slots_of changes) c.loop-item.item _ _ _ _ c.loop-item-test.true within c.at.ensures c.apply_one.ensures.after c.loop-item.invariant.0,
      wrote_next _ c.entries-entry-items.result.now changes.outcomes changes.values c.loop-item.item _ _ few changes.outcomes_whole changes.values_whole _ _ entries.listed c.loop-item-test.true c.at.ensures c.apply_one.ensures.wrote c.loop-item.invariant.1,
    )

pub returns-clause-wrote : goal.returns-clause-wrote
returns-clause-wrote g c =
    wrote_all _ c.entries-entry-items.result.now _ (slots_of c.args.changes.now) c.loop-item.item _ _ c.entries-entry-items.ensures.value c.loop-item-test.false c.loop-item.invariant.1
