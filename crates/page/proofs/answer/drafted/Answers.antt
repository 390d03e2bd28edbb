use Rattle.std.proofs.Common.{◌≡◌, ◌-◌, length, length-drop, drop, rules, ap, ◌∙◌, arith}
use Rattle.item.specs.Values.{number}
use Rattle.std.proofs.lemmas.List.{take_all}
use Rattle.catalogue.specs.Owned.{entries_of}
use Rattle.page.proofs.Drafted.{head_sent, position_sent, frames_start, frame_end}
use Rattle.page.proofs.Walks.{keys_end}
use Rattle.page.proofs.answer.drafted.Goals as goal

pub loop-before-init : goal.loop-before-init
loop-before-init g c =
    let none : c.into_iter-before-iterator.result.count ≡ 0 = cc in
    let four : c.into_iter-before-iterator.result.iter.size ≡ 4 = cc in
    let p = c.args.payload.now in
    let all = take_all (length p - 4) (drop 4 p) (simp length-drop (omega arith)) in
    let rest : c.into_iter-before-iterator.result.iter.rest.now ≡ drop 4 p = search rules in
    let head = c.new-draft.ensures.head ∙ head_sent p c.in-len4-up.len_at_least in
    let skip = c.new-draft.ensures.skip ∙ ap number (position_sent p c.in-len4-up.len_at_least) in
    (omega arith, four, frames_start _ _ _ _ _ _ head skip c.new-draft.ensures.left none rest)

pub returns : goal.returns
returns g c =
    let step = c.in-None.ensures.steps in
    let end = keys_end (entries_of c.args.catalogue.now) c.loop-before.before-iterator.count c.loop-before.before-iterator.iter.rest.now step.0.1.0 in
    let frame = frame_end (g.L.Layer.settings c.args.layer.now) c.loop-before.draft in
    search rules
