use Rattle.std.proofs.Common.{◌≡◌, ◌-◌, ◌≤◌, map, length, drop, vec_items}
use Rattle.frame.specs.Scanning.{both, scan_from, scanned}
use Rattle.frame.specs.Meaning.{hearing_of}
use Rattle.frame.proofs.Scanning.{so_far}
use Rattle.frame.proofs.scanner.scan.Given as goal

abbrev pub invariant-places : goal.invariant-places
invariant-places l =
    (l.place ≤ length l.bytes) × (l.noise ≤ l.place)
    × (both (so_far (map hearing_of (vec_items l.frames)) l.noise) (scan_from l.place 0 (drop l.place l.bytes)) ≡ scanned l.bytes)

abbrev pub decreases-places : goal.decreases-places
decreases-places l = length l.bytes - l.place
