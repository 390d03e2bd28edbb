use Rattle.std.proofs.Common.{◌∙◌}
use Rattle.request.proofs.Slots.{none_at}
use Rattle.request.proofs.head.Request.read_data.Goals as goal

pub returns-then-is_err-clause-behind : goal.returns-then-is_err-clause-behind
returns-then-is_err-clause-behind c i le = none_at _ i c.forget-then-is_err.ensures

pub returns-else-is_err-clause-behind : goal.returns-else-is_err-clause-behind
returns-else-is_err-clause-behind c i le = c.take_entries-taken.ensures.behind i le ∙ none_at _ i c.forget.ensures
