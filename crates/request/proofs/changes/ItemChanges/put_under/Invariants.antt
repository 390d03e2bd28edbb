use Rattle.request.specs.Changes.{slots_of}
use Rattle.request.proofs.Joined.{Joining}
use Rattle.request.proofs.changes.ItemChanges.put_under.Given as goal

abbrev pub invariant-loop-item : goal.invariant-loop-item
invariant-loop-item l = Joining (slots_of l.earlier) (slots_of l.fn.self) (slots_of l.self) l.item
