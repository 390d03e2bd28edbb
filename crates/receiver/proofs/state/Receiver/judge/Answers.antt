use Rattle.std.proofs.Common.{rules}
use Rattle.receiver.proofs.Judged.{judged_request, judged_short, judged_other}
use Rattle.receiver.proofs.state.Receiver.judge.Goals as goal

pub returns-then-not-is_request : goal.returns-then-not-is_request
returns-then-not-is_request g c = search (rules, judged_other)

pub returns-then-request-lt-HEAD : goal.returns-then-request-lt-HEAD
returns-then-request-lt-HEAD g c = search (rules, judged_short)

pub returns : goal.returns
returns g c = search (rules, judged_request)
