use Rattle.std.proofs.Common.{◌+◌, set, sym, ap, ◌∙◌, subst, arith}
use Rattle.request.specs.Changes.{slots_of}
use Rattle.request.specs.declared.changes.ItemChanges.{ItemChanges}
use Rattle.request.proofs.Slots.{slots_long}
use Rattle.request.proofs.Joined.{Joining, joining_stays, joining_set, joined_all}
use Rattle.request.proofs.changes.ItemChanges.put_under.Goals as goal
use Rattle.request.proofs.changes.ItemChanges.put_under.Goals.{then-is_none, else-is_none}

pub loop-item-preserved : goal.loop-item-preserved
loop-item-preserved c =
    let now = c.loop-item.self in
    let xs = slots_of c.args.earlier.now in
    let ys = slots_of c.args.self.now in
    let zs = slots_of now in
    let n = c.loop-item.item in
    let inv = c.loop-item.invariant in
    let long = slots_long now.outcomes now.values now.outcomes_whole now.values_whole in
    elim c.if-is_none.branch [
      | then-is_none w ↦
          joining_set xs ys zs n (omega arith) inv c.at.result c.at.ensures (slots_of c.if-is_none.self) w.if-is_none.ensures
          (ap slots_of w.self-is ∙ w.set.ensures ∙ ap (set zs n) w.at-then-is_none.ensures)
      | else-is_none w ↦
          subst (λ (b : ItemChanges). Joining xs ys (slots_of b) (n + 1)) (sym w.self-is)
          (joining_stays xs ys zs n (omega arith) inv c.at.result c.at.ensures w.if-is_none.ensures)
    ]

pub returns-clause-joined : goal.returns-clause-joined
returns-clause-joined c es le few =
    let earlier = c.args.earlier.now in
    let later = c.args.self.now in
    let both = c.loop-item.self in
    let end = c.min-item-end.ensures in
    let stop = c.loop-item-test.false in
    joined_all (slots_of earlier) (slots_of later) (slots_of both) c.loop-item.item es (slots_long earlier.outcomes earlier.values earlier.outcomes_whole earlier.values_whole)
    (slots_long later.outcomes later.values later.outcomes_whole later.values_whole) (slots_long both.outcomes both.values both.outcomes_whole both.values_whole)
    (omega arith) few c.loop-item.invariant
