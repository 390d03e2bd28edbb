use Rattle.std.proofs.Common.{◌≡◌, ◌+◌, ◌-◌, ◌≤◌, length, drop}
use Rattle.reply.specs.Pairs.{pairs_read}
use Rattle.reply.proofs.Walks.{fault_of}
use Rattle.reply.proofs.pairs.Pairs.read.Given as goal

abbrev pub invariant-loop-at : goal.invariant-loop-at
invariant-loop-at l =
    (l.at ≤ length l.bytes)
    × (fault_of (pairs_read (l.place + l.at) (drop l.at l.bytes)) ≡ fault_of (pairs_read l.place l.bytes))

abbrev pub decreases-loop-at : goal.decreases-loop-at
decreases-loop-at l = length l.bytes - l.at
