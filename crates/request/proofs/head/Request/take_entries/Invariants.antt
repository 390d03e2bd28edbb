use Rattle.std.proofs.Common.{◌≡◌, ◌-◌, length}
use Rattle.catalogue.specs.Owned.{entries_of}
use Rattle.reference.specs.Requests.{latest, ok_map, data_of}
use Rattle.request.specs.Changes.{slots_of}
use Rattle.request.specs.Reading.{SameBehind}
use Rattle.request.proofs.Walks.{left_over}
use Rattle.request.proofs.head.Request.take_entries.Given as goal

abbrev pub invariant-loop-entry : goal.invariant-loop-entry
invariant-loop-entry l =
    (left_over (entries_of l.catalogue) l.self.id (slots_of l.changes) (64 - l._entry) l.place l.self.payload.now ≡ ok_map latest (data_of (entries_of l.catalogue) l.self.id l.self.payload.now))
    × SameBehind (length (entries_of l.catalogue)) (slots_of l.fn.changes) (slots_of l.changes)
