use Rattle.std.proofs.Common.{arith}
use Rattle.frame.proofs.Checksum.{between_small}
use Rattle.frame.proofs.sums.CheckBytes.up_to.Goals as goal

pub returns : goal.returns
returns c = between_small c.args.self c.args.end c.args.count (omega arith)
