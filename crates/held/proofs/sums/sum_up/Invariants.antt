use Rattle.std.proofs.Common.{◌≡◌, ◌<◌, length}
use Rattle.held.specs.Sums.{sums_before, SummedTo}
use Rattle.held.proofs.sums.sum_up.Given as goal

abbrev pub invariant-loop-place : goal.invariant-loop-place
invariant-loop-place l = SummedTo l.bytes l.kept l.place × (l.so_far ≡ sums_before l.kept l.place) × (l.so_far.b < 256) × (length l.kept ≡ length l.initial.kept)
