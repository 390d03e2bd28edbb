use Rattle.std.proofs.Common.{rules}
use Rattle.std.proofs.lemmas.Result.{err_from_is_err_and}
use Rattle.receiver.proofs.Judged.{got, not_got}
use Rattle.receiver.proofs.state.Receiver.judge_request.Goals as goal

pub returns-in_err-length : goal.returns-in_err-length
returns-in_err-length g c =
    let p = err_from_is_err_and c.from_residual.result c.from_residual.ensures.1 in
    let told = c.in_err-length.ensures in
    rw (p.1, p.2) (search (rules, not_got))

pub returns-in_ok-length : goal.returns-in_ok-length
returns-in_ok-length g c =
    let told = c.in_ok-length.ensures in
    search (rules, got)
