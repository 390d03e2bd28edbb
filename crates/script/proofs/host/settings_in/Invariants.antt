use Rattle.std.proofs.Common.{◌≡◌, ◌*◌, ◌≤◌, length, drop, vec_items}
use Rattle.script.specs.Hosts.{ArePairs}
use Rattle.script.proofs.host.settings_in.Given as goal

-- the settings so far are those of the first pairs, and the others are left
abbrev pub invariant-loop-pair : goal.invariant-loop-pair
invariant-loop-pair l =
    let n = length (vec_items l.settings) in
    (l.pair-iterator.size ≡ 2) × (l.pair-iterator.rest.now ≡ drop (2 * n) l.words) × (2 * n ≤ length l.words) × ArePairs l.words (vec_items l.settings)
