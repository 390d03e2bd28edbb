use Rattle.std.proofs.Common.{rules}
use Rattle.store.specs.SlotsLemmas.{place_chosen}
use Rattle.store.proofs.table.SlotTable.place_for.Goals as goal

pub returns : goal.returns
returns c =
    let table = c.args.self.now in
    place_chosen c.args.key table.slots c.place_of.result c.or_else.result table.whole table.distinct (λ asked. search rules) c.place_of.ensures c.or_else.ensures
