use Rattle.script.proofs.number.limited.Goals as goal

pub returns : goal.returns
returns g c = rw (← c.in_ok-number_in.ensures) (c.try_from.result, c.try_from.ensures, c.ok.ensures.value)
