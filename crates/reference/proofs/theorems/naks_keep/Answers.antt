use Rattle.reference.proofs.Refusals.{nak_keeps}
use Rattle.reference.proofs.theorems.naks_keep.Goals as goal

pub returns : goal.returns
returns c = nak_keeps
