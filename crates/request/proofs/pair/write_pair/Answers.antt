use Rattle.std.proofs.Common.{arith}
use Rattle.request.proofs.PairBytes.{pair_written}
use Rattle.request.proofs.pair.write_pair.Goals as goal

pub returns-clause-out : goal.returns-clause-out
returns-clause-out c =
    pair_written c.args.setting.key c.args.setting.value c.in-Some.size c.in-Some.ensures _ _ _ _ c.put_value-behind.ensures.next (omega arith)
    c.put_value-behind.ensures.out c.put_value.ensures.out
