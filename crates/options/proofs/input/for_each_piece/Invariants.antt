use Rattle.options.specs.Pieces.{Handed}
use Rattle.options.proofs.input.for_each_piece.Given as goal

abbrev pub invariant-loop : goal.invariant-loop
invariant-loop g l = goal.F-IsAlwaysCallable g l.each × Handed g.F.FnMut l.initial.each l.each (g.R.Read.remaining l.initial.input) (g.R.Read.remaining l.input)
