use Rattle.std.proofs.Common.{Ok, ap, ◌∙◌}
use Rattle.host.proofs.Heard.{set_heard}
use Rattle.host.proofs.sending.send_set.Goals as goal

pub returns-clause-heard : goal.returns-clause-heard
returns-clause-heard c =
    set_heard _ _ _ c.as_slice.result.now c.send.result c.send.new.out (ap Ok c.as_slice.ensures.value ∙ c.in_ok-payload.ensures) c.send.ensures.heard
