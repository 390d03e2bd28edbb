use Rattle.std.proofs.Common.{◌≡◌, drop}
use Rattle.catalogue.specs.Catalogues.{entries_checked}
use Rattle.catalogue.proofs.entries.check_entries.Given as goal

abbrev pub invariant-loop-place : goal.invariant-loop-place
invariant-loop-place l = entries_checked l.place l.below (drop l.place l.entries) ≡ entries_checked 0 0 l.entries
