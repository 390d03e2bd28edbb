use Rattle.std.proofs.Common.{ap, arith, rules}
use Rattle.frame.specs.declared.sums.CheckBytes.{CheckBytes}
use Rattle.held.proofs.Running.{summed_more, so_far_more}
use Rattle.held.proofs.sums.sum_up.Goals as goal

pub loop-place-preserved : goal.loop-place-preserved
loop-place-preserved c =
    let l = c.loop-place in
    let inv = l.invariant in (
      summed_more c.args.bytes.now l.kept l.place l.so_far c.with-so_far.result (omega arith) inv.2 inv.0 inv.1 c.with-so_far.ensures,
      so_far_more c.args.bytes.now l.kept l.place l.so_far c.with-so_far.result (omega arith) inv.2 inv.0 inv.1 c.with-so_far.ensures,
      let b = ap (λ (u : CheckBytes). u.b) c.with-so_far.ensures in omega arith,
      search rules,
    )
