use Rattle.std.proofs.Common.{ap, ◌∙◌}
use Rattle.std.proofs.lemmas.Result.{IfOk-weaker}
use Rattle.replay.proofs.Runs.{replays}
use Rattle.replay.proofs.Sights.{sees_run}
use Rattle.replay.proofs.Wrote.{wrote_run}
use Rattle.replay.proofs.replaying.replay_watched.Goals as goal

pub returns-clause-log : goal.returns-clause-log
returns-clause-log g c =
    let told = c.make-receiver.ensures in
    IfOk-weaker c.log_all.result _ _ (λ x e. replays _ _ _ _ told.items (ap g.R.Rule.finding told.rule) _ told.state told.law _ _ e) c.log_all.ensures.log

pub returns-clause-seen : goal.returns-clause-seen
returns-clause-seen g c =
    let told = c.make-receiver.ensures in
    IfOk-weaker c.log_all.result _ _ (λ x e. sees_run g.W.Watch.saw _ _ _ _ told.items (ap g.R.Rule.finding told.rule) _ told.state _ _ e) c.log_all.ensures.seen

pub returns-clause-parts : goal.returns-clause-parts
returns-clause-parts g c =
    let told = c.make-receiver.ensures in
    IfOk-weaker c.log_all.result _ _ (λ x kept. record { items = λ ok. kept.items ∙ told.items ok; same_rule = kept.rule ∙ told.rule }) c.log_all.ensures.kept

pub returns-clause-stores : goal.returns-clause-stores
returns-clause-stores g c =
    let told = c.make-receiver.ensures in
    IfOk-weaker c.log_all.result _ _ (λ x e. wrote_run _ _ _ _ _ _ told.items (ap g.R.Rule.finding told.rule) _ told.state _ _ _ _ told.stores.0 told.stores.1 e) c.log_all.ensures.stores
