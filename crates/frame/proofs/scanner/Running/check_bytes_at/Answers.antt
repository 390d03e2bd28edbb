use Rattle.std.proofs.Common.{rules}
use Rattle.frame.proofs.Checksum.{frame_sums}
use Rattle.frame.proofs.scanner.Running.check_bytes_at.Goals as goal

pub returns : goal.returns
returns c = search (rules, frame_sums)
