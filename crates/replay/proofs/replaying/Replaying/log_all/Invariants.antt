use Rattle.std.proofs.Common.{◌≡◌, [], map, drop, vec_items}
use Rattle.reference.specs.Events.{asking_of}
use Rattle.reference.specs.Receiver.{run_from}
use Rattle.receiver.specs.State.{items_of, state_of, Kept}
use Rattle.replay.specs.Logs.{run_of}
use Rattle.replay.specs.Seen.{SeesAfter}
use Rattle.configuration.specs.Writes.{Memory}
use Rattle.replay.specs.Wrote.{WroteFrom}
use Rattle.replay.proofs.Sights.{Goes}
use Rattle.replay.proofs.Wrote.{Goes as Writes}
use Rattle.replay.proofs.replaying.Replaying.log_all.Given as goal

abbrev pub invariant-loop-call : goal.invariant-loop-call
invariant-loop-call g l =
    let first = l.initial.self.receiver in
    let cat = items_of first in
    let rule = g.R.Rule.finding first.rule in
    let before = state_of g.B.Store.usable g.B.Layer.settings g.F.Store.usable g.F.Layer.settings first in
    let now = state_of g.B.Store.usable g.B.Layer.settings g.F.Store.usable g.F.Layer.settings l.self.receiver in
    let bbr : Memory _ = record { words = g.B.Store.memory; put = g.B.Store.memory_put; removed = g.B.Store.memory_removed; cleared = g.B.Store.memory_cleared } in
    let flash : Memory _ = record { words = g.F.Store.memory; put = g.F.Store.memory_put; removed = g.F.Store.memory_removed; cleared = g.F.Store.memory_cleared } in
    (run_from cat rule (run_of (vec_items l.log) now) (map asking_of (drop l.call-index l.calls))
    ≡ run_from cat rule (record { state = before; history = [] }) (map asking_of l.calls))
    × Kept first l.self.receiver
    × Goes g.W.Watch.saw cat rule now (map asking_of (drop l.call-index l.calls)) l.watch (SeesAfter g.W.Watch.saw cat rule before (map asking_of l.calls) l.initial.watch)
    × Writes bbr flash cat rule now (map asking_of (drop l.call-index l.calls)) l.self.receiver.layers (WroteFrom bbr flash cat rule before (map asking_of l.calls) first.layers)
