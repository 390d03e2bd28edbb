use Rattle.std.proofs.Common.{rules}
use Rattle.std.proofs.lemmas.Result.{err_from_is_err_and}
use Rattle.receiver.proofs.Planning.{head_refused, head_passed}
use Rattle.receiver.proofs.state.Receiver.judge_change.Goals as goal

pub returns-in_err-check_head : goal.returns-in_err-check_head
returns-in_err-check_head g c =
    let p = err_from_is_err_and c.from_residual.result c.from_residual.ensures.1 in
    let told = c.in_err-check_head.ensures in
    rw (p.1, p.2) (search (rules, head_refused))

pub returns : goal.returns
returns g c =
    let told = c.in_ok-check_head.ensures in
    search (rules, head_passed)
