use Rattle.std.proofs.Common.{arith, rules}
use Rattle.frame.proofs.Checksum.{running_more, running_all}
use Rattle.frame.proofs.sums.running_sums.Goals as goal

pub loop-byte-preserved : goal.loop-byte-preserved
loop-byte-preserved c = (
  search rules,
  running_more c.loop-byte.so_far c.args.bytes.now c.loop-byte.byte-index c.with-so_far.result _ _ _ (omega arith) c.loop-byte.invariant.1 c.with-so_far.ensures
      c.in_ok-push.ensures.items,
)

pub returns : goal.returns
returns c = search (rules, running_all)
