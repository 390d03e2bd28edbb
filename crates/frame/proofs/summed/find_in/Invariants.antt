use Rattle.std.proofs.Common.{◌≡◌, ◌-◌, ◌≤◌, drop, length}
use Rattle.frame.specs.Scanning.{finding}
use Rattle.frame.proofs.Scanning.{behind_all}
use Rattle.frame.proofs.summed.find_in.Given as goal

abbrev pub invariant-places : goal.invariant-places
invariant-places g l =
    (l.noise ≤ length (g.S.Summed.bytes l.summed)) × (behind_all l.noise (finding (drop l.noise (g.S.Summed.bytes l.summed))) ≡ finding (g.S.Summed.bytes l.summed))

abbrev pub decreases-places : goal.decreases-places
decreases-places g l = length (g.S.Summed.bytes l.summed) - l.noise
