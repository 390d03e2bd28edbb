use Rattle.std.proofs.Common.{ℕ, ◌^◌, ◌<◌, get_or, Ok, ap, ◌∙◌, rules}
use Rattle.host.proofs.Heard.{delete_heard}
use Rattle.host.proofs.sending.send_delete.Goals as goal

pub returns-clause-heard : goal.returns-clause-heard
returns-clause-heard c =
    let fit : (i : ℕ) → get_or c.args.numbers.now i 0 < 2 ^ 32 = λ i. let known = c.type_inv.numbers i in search rules in
    delete_heard _ _ _ c.as_slice.result.now c.send.result c.send.new.out fit (ap Ok c.as_slice.ensures.value ∙ c.in_ok-payload.ensures) c.send.ensures.heard
