use Rattle.std.proofs.Common.{rules, is_none}
use Rattle.store.specs.Slots.{FirstSlot}
use Rattle.store.specs.SlotsLemmas.{free_told}
use Rattle.store.proofs.table.SlotTable.free_place.Goals as goal

pub returns : goal.returns
returns c =
    let slots = c.args.self.now.slots in
    let first : FirstSlot is_none slots c.position.result = search rules in search (rules, free_told)
