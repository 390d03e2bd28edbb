use Rattle.std.proofs.Common.{rules}
use Rattle.store.specs.Slots.{names, FirstSlot}
use Rattle.store.specs.SlotsLemmas.{place_told}
use Rattle.store.proofs.table.SlotTable.place_of.Goals as goal

pub returns : goal.returns
returns c =
    let slots = c.args.self.now.slots in
    let first : FirstSlot (names c.args.key) slots c.position.result = search rules in search (rules, place_told)
