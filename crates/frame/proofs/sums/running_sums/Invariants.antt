use Rattle.std.proofs.Common.{◌≡◌, ◌++◌, drop, vec_items, vec_len}
use Rattle.frame.specs.Checksum.{no_sums, running_sums}
use Rattle.frame.proofs.sums.running_sums.Given as goal

abbrev pub invariant-loop-byte : goal.invariant-loop-byte
invariant-loop-byte l =
    (vec_len l.running ≡ l.byte-index)
    × (vec_items l.running ++ running_sums l.so_far (drop l.byte-index l.bytes) ≡ running_sums no_sums l.bytes)
