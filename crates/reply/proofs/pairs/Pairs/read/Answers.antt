use Rattle.reply.specs.Pairs.{settings_in}
use Rattle.reply.proofs.Walks.{walk_bad, walk_on, walk_end, err_of_fault, ok_of_none, all_of_none}
use Rattle.reply.proofs.pairs.Pairs.read.Goals as goal

pub returns-in_default : goal.returns-in_default
returns-in_default c =
    err_of_fault _ _ (walk_bad c.args.place c.loop-at.at c.args.bytes.now _ c.loop-at.invariant.1 c.loop-at-test.true c.in_default.ensures)

pub loop-at-preserved : goal.loop-at-preserved
loop-at-preserved c =
    let f = c.in-Some.ensures in
    walk_on c.args.place c.loop-at.at c.args.bytes.now _ c.loop-at.invariant.1 _ _ f.0 f.1 f.2

pub invariant_of-result : goal.invariant_of-result
invariant_of-result c =
    record { whole = ok_of_none c.args.place 0 c.args.bytes.now (walk_end c.args.place c.loop-at.at c.args.bytes.now _ c.loop-at.invariant.1 c.loop-at-test.false) }

pub returns : goal.returns
unfolding settings_in
returns c = all_of_none c.args.place 0 c.args.bytes.now (walk_end c.args.place c.loop-at.at c.args.bytes.now _ c.loop-at.invariant.1 c.loop-at-test.false)
