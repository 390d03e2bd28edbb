use Rattle.host.proofs.Heard.{delete_end}
use Rattle.host.proofs.transaction.calls.end_deletes.Goals as goal

pub returns-clause-heard : goal.returns-clause-heard
returns-clause-heard c = delete_end _ _ _ c.requires c.end_frame.ensures.heard
