use Rattle.std.proofs.Common.{rules}
use Rattle.frame.proofs.Scanning.{find_intact}
use Rattle.frame.proofs.scanner.find.Goals as goal

pub returns-in-Ok : goal.returns-in-Ok
returns-in-Ok c = let told = c.in-Ok.ensures in search (rules, find_intact)
