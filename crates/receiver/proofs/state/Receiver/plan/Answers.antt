use Rattle.std.proofs.Common.{rules}
use Rattle.receiver.proofs.Planning.{plan_applied}
use Rattle.receiver.proofs.state.Receiver.plan.Goals as goal

pub returns-in-Apply : goal.returns-in-Apply
returns-in-Apply g c =
    let told = c.in_ok-changes_for.ensures in
    search (rules, plan_applied)
