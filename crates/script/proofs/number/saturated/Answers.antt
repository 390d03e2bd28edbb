use Rattle.std.proofs.Common.{Some, ap}
use Rattle.script.proofs.number.saturated.Goals as goal

pub returns : goal.returns
returns g c = rw (← c.in_ok-number_in.ensures) (c.try_from.result, c.try_from.ensures, ap Some c.unwrap_or.ensures)
