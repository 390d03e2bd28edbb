use Rattle.std.proofs.Common.{sym, refl, ◌∙◌, ap}
use Rattle.std.proofs.lemmas.Bool.{eqb-true}
use Rattle.reference.specs.Requests.{configuration_class}
use Rattle.held.specs.Meaning.{bytes_held}
use Rattle.request.specs.Changes.{slots_of}
use Rattle.receiver.specs.State.{items_of, state_of}
use Rattle.receiver.proofs.Handled.{request_handled, outside_handled}
use Rattle.receiver.proofs.Stores.{request_wrote, outside_wrote}
use Rattle.receiver.proofs.state.Receiver.handle.Goals as goal

pub returns-then-not-is_configuration-clause-handling : goal.returns-then-not-is_configuration-clause-handling
returns-then-not-is_configuration-clause-handling g c =
    let before = c.args.self.now in
    outside_handled (items_of before) (g.R.Rule.finding before.rule) (state_of g.B.Store.usable g.B.Layer.settings g.F.Store.usable g.F.Layer.settings before) c.args.frame
    (bytes_held c.skip.new.self) c.args.out.now c.told.result c.end.result (c.is_configuration.result, c.is_configuration.ensures, c.if-not-is_configuration.true) c.told.ensures c.skip.ensures.after c.end.ensures

pub returns-clause-handling : goal.returns-clause-handling
returns-clause-handling g c =
    let before = c.args.self.now in
    let cancelled = c.cancel_other_kind.new.self in
    let concluded = c.conclude-telling.new.self in
    let cancelling = c.cancel_other_kind.ensures in
    let concluding = c.conclude-telling.ensures in
    request_handled (items_of before) (g.R.Rule.finding before.rule) (state_of g.B.Store.usable g.B.Layer.settings g.F.Store.usable g.F.Layer.settings before) c.args.frame
    (slots_of c.judge_held-judged.new.items) (items_of cancelled) (g.R.Rule.finding cancelled.rule)
    (state_of g.B.Store.usable g.B.Layer.settings g.F.Store.usable g.F.Layer.settings cancelled)
    (state_of g.B.Store.usable g.B.Layer.settings g.F.Store.usable g.F.Layer.settings concluded) (bytes_held c.skip-2.new.self) c.args.out.now
    c.judge_held-judged.new.out c.conclude-telling.new.out c.judge_held-judged.result c.conclude-telling.result c.end-2.result (eqb-true c.args.frame.class configuration_class (sym c.is_configuration.ensures ∙ c.if-not-is_configuration.false))
    cancelling.kept.items (ap g.R.Rule.finding cancelling.kept.rule) cancelling.after c.judge_held-judged.ensures concluding.value concluding.out concluding.after
    c.skip-2.ensures.after c.end-2.ensures

pub returns-then-not-is_configuration-clause-stores : goal.returns-then-not-is_configuration-clause-stores
returns-then-not-is_configuration-clause-stores g c =
    let before = c.args.self.now in
    outside_wrote _ _ (items_of before) (g.R.Rule.finding before.rule) (state_of g.B.Store.usable g.B.Layer.settings g.F.Store.usable g.F.Layer.settings before) _ _ c.args.frame
    (sym c.is_configuration.ensures ∙ c.if-not-is_configuration.true) refl

pub returns-clause-stores : goal.returns-clause-stores
returns-clause-stores g c =
    let before = c.args.self.now in
    let cancelled = c.cancel_other_kind.new.self in
    let cancelling = c.cancel_other_kind.ensures in
    request_wrote _ _ (items_of before) (g.R.Rule.finding before.rule) (state_of g.B.Store.usable g.B.Layer.settings g.F.Store.usable g.F.Layer.settings before) _ _ c.args.frame
    (slots_of c.judge_held-judged.new.items) (items_of cancelled) (g.R.Rule.finding cancelled.rule)
    (state_of g.B.Store.usable g.B.Layer.settings g.F.Store.usable g.F.Layer.settings cancelled) c.args.out.now c.judge_held-judged.new.out c.judge_held-judged.result
    cancelled.layers (sym c.is_configuration.ensures ∙ c.if-not-is_configuration.false) cancelling.kept.items (ap g.R.Rule.finding cancelling.kept.rule) cancelling.after
    c.judge_held-judged.ensures cancelling.stores c.conclude-telling.ensures.stores
