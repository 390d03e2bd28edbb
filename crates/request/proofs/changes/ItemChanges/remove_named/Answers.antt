use Rattle.request.proofs.Slots.{slots_long}
use Rattle.request.proofs.Removals.{removing_named, removing_past, removing_end, removing_none, taken_places}
use Rattle.request.proofs.changes.ItemChanges.remove_named.Goals as goal
use Rattle.request.proofs.changes.ItemChanges.remove_named.Goals.{then-names, else-names}

pub loop-item-preserved : goal.loop-item-preserved
loop-item-preserved c =
    let items = c.entries-entry-items.ensures in
    let slots = c.loop-item.self in
    let lt = rw items.value at c.loop-item-test.true in
    elim c.if-names.branch [
      | then-names w ↦ rw (w.self-is, w.named-is)
          (removing_named _ _ _ _ _ _ _ c.loop-item.invariant (rw items.value at items.listed) (rw items.value at items.few) (slots_long slots.outcomes slots.values slots.outcomes_whole slots.values_whole) lt
          (rw items.value at w.if-names.ensures) w.set.ensures)
      | else-names w ↦ rw (w.self-is, w.named-is) (removing_past _ _ _ _ _ _ c.loop-item.invariant lt (rw items.value at w.if-names.ensures))
    ]

pub returns-then-named-clause-taken : goal.returns-then-named-clause-taken
returns-then-named-clause-taken c =
    removing_end _ _ _ _ _ _ (rw c.from-selector.ensures.value at c.loop-item.invariant)
    (rw c.entries-entry-items.ensures.value at c.loop-item-test.false) c.if-named.true

pub returns-else-named-clause-taken : goal.returns-else-named-clause-taken
returns-else-named-clause-taken c =
    removing_none _ _ _ _ _ _ (rw c.from-selector.ensures.value at c.loop-item.invariant)
    (rw c.entries-entry-items.ensures.value at c.loop-item-test.false) c.if-named.false

pub returns-then-named-clause-places : goal.returns-then-named-clause-places
returns-then-named-clause-places c = taken_places _ _ _ _ _ (returns-then-named-clause-taken c)

pub returns-else-named-clause-places : goal.returns-else-named-clause-places
returns-else-named-clause-places c = taken_places _ _ _ _ _ (returns-else-named-clause-taken c)
