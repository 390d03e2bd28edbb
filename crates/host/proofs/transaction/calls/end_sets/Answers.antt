use Rattle.host.proofs.Heard.{set_end}
use Rattle.host.proofs.transaction.calls.end_sets.Goals as goal

pub returns-clause-heard : goal.returns-clause-heard
returns-clause-heard c = set_end _ _ _ c.end_frame.ensures.heard
