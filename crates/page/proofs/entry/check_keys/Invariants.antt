use Rattle.std.proofs.Common.{◌≡◌, ◌≤◌}
use Rattle.catalogue.specs.Owned.{entries_of}
use Rattle.reference.specs.Requests.{ok_map, keys_of}
use Rattle.page.specs.Walks.{nothing, keys_behind}
use Rattle.page.proofs.entry.check_keys.Given as goal

abbrev pub invariant-loop-before : goal.invariant-loop-before
invariant-loop-before l =
    let it = l.before-iterator in
    let es = entries_of l.catalogue in
    (it.count ≤ 64) × (it.iter.size ≡ 4) × (ok_map nothing (keys_behind es it.count it.iter.rest.now) ≡ ok_map nothing (keys_of es l.payload))
