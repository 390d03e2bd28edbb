use Rattle.std.proofs.Common.{of_calls, refl, arith}
use Rattle.options.proofs.Handing.{none_handed, one_handed, kept_handed, read_gives, read_keeps}
use Rattle.options.proofs.input.for_each_piece.Goals as goal
use Rattle.options.proofs.input.for_each_piece.Goals.{in-Ok+in_ok-each-in-Ok, in-Err}

pub loop-init : goal.loop-init
loop-init g c = (c.requires, none_handed _ _ _)

pub loop-preserved : goal.loop-preserved
loop-preserved g c =
    elim c.match-read.branch [
      | in-Ok+in_ok-each-in-Ok w ↦
          let handed = one_handed _ _ _ _ _ _ c.loop.invariant.1 w.each.new.self _ (record { shown = _; shows = refl; called = w.in_ok-each-in-Ok.ensures }) (read_gives _ _ _ _ _ _ w.in-Ok.is (omega arith) c.read.ensures.bytes) in
          (search of_calls, rw w.each-is handed)
      | in-Err w ↦ (search of_calls, kept_handed _ _ _ _ _ _ (rw w.each-is c.loop.invariant.1) (read_keeps _ _ _ _ _ w.in-Err.is c.read.ensures.bytes))
    ]
