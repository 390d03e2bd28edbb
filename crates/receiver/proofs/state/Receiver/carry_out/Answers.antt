use Rattle.receiver.proofs.state.Receiver.carry_out.Goals as goal

pub returns-in-Apply-clause-stores : goal.returns-in-Apply-clause-stores
returns-in-Apply-clause-stores g c = rw c.in-Apply.is c.apply.ensures.stores
