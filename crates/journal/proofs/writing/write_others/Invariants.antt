use Rattle.std.proofs.Common.{length}
use Rattle.layer.specs.Settings.{above}
use Rattle.store.specs.Slots.{settings_of}
use Rattle.journal.proofs.Walking.{Walked}
use Rattle.journal.proofs.writing.write_others.Given as goal

abbrev pub invariant-loop-key : goal.invariant-loop-key
invariant-loop-key l = Walked l.except (settings_of l.held.slots) l.number l.place l.words l.initial.words

abbrev pub decreases-loop-key : goal.decreases-loop-key
decreases-loop-key l = length (above l.number (settings_of l.held.slots))
