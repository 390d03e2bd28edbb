use Rattle.std.proofs.Common.{◌≡◌, ◌≤◌}
use Rattle.catalogue.specs.Owned.{entries_of}
use Rattle.reference.specs.Requests.{ok_map, keys_of}
use Rattle.page.specs.Pages.{page_frame}
use Rattle.page.specs.Walks.{keys_behind}
use Rattle.page.proofs.Drafted.{frame_by}
use Rattle.page.proofs.answer.drafted.Given as goal

abbrev pub invariant-loop-before : goal.invariant-loop-before
invariant-loop-before g l =
    let it = l.before-iterator in
    let es = entries_of l.catalogue in
    let ss = g.L.Layer.settings l.layer in
    (it.count ≤ 64) × (it.iter.size ≡ 4) × (ok_map (frame_by ss l.draft) (keys_behind es it.count it.iter.rest.now) ≡ ok_map (page_frame ss l.payload) (keys_of es l.payload))
