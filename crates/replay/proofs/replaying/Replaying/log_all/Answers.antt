use Rattle.std.proofs.Common.{rules, refl, ap}
use Rattle.replay.proofs.Runs.{run_more}
use Rattle.replay.proofs.Sights.{seen_more, seen_all}
use Rattle.replay.proofs.Wrote.{wrote_more, wrote_all}
use Rattle.replay.proofs.replaying.Replaying.log_all.Goals as goal

pub loop-call-init : goal.loop-call-init
loop-call-init g c = (search (rules), record { items = refl; rule = refl }, λ last rest. rest, λ last rest. rest)

pub loop-call-preserved : goal.loop-call-preserved
loop-call-preserved g c =
    let kept = c.loop-call.invariant.1 in (
      search (rules, run_more),
      search (rules),
      seen_more g.W.Watch.saw _ _ _ _ _ _ c.loop-call.call-index c.args.calls.now _ _ _ _ kept.items (ap g.R.Rule.finding kept.rule) c.log_call.ensures.after c.in_ok-see-2.ensures c.loop-call.invariant.2 (search (rules)),
      wrote_more _ _ _ _ _ _ _ _ c.loop-call.call-index c.args.calls.now _ _ _ _ kept.items (ap g.R.Rule.finding kept.rule) c.log_call.ensures.after c.log_call.ensures.stores c.loop-call.invariant.3 (search (rules)),
    )

pub returns-clause-seen : goal.returns-clause-seen
returns-clause-seen g c = (c.see.new.self, c.in_ok-see.ensures, seen_all g.W.Watch.saw _ _ _ c.loop-call.call-index c.args.calls.now _ _ c.loop-call.invariant.2 (search (rules)))

pub returns-clause-stores : goal.returns-clause-stores
returns-clause-stores g c = wrote_all _ _ _ _ _ c.loop-call.call-index c.args.calls.now _ _ c.loop-call.invariant.3 (search (rules))
