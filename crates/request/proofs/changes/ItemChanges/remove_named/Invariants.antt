use Rattle.catalogue.specs.Owned.{entries_of}
use Rattle.request.specs.Changes.{slots_of}
use Rattle.request.proofs.Removals.{Removing}
use Rattle.request.proofs.changes.ItemChanges.remove_named.Given as goal

abbrev pub invariant-loop-item : goal.invariant-loop-item
invariant-loop-item l = Removing (entries_of l.catalogue) l.selector (slots_of l.fn.self) (slots_of l.self) l.item l.named
