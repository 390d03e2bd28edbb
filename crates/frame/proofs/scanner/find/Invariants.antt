use Rattle.std.proofs.Common.{◌≡◌, drop}
use Rattle.frame.specs.Scanning.{finding}
use Rattle.frame.proofs.Scanning.{behind_all}
use Rattle.frame.proofs.scanner.find.Given as goal

abbrev pub invariant-loop-noise : goal.invariant-loop-noise
invariant-loop-noise l = behind_all l.noise (finding (drop l.noise l.bytes)) ≡ finding l.bytes
