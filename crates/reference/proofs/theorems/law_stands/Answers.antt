use Rattle.reference.proofs.Runs.{law_holds}
use Rattle.reference.proofs.theorems.law_stands.Goals as goal

pub returns : goal.returns
returns c = law_holds
