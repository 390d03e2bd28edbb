use Rattle.std.proofs.Common.{sym}
use Rattle.store.specs.SlotsLemmas.{value_sound}
use Rattle.configuration.proofs.Tried.{stepped}
use Rattle.configuration.proofs.trying.item_after.Goals as goal

pub returns : goal.returns
returns c =
    let table = c.args.table.now in
    let at = sym c.in_ok-value.ensures in
    stepped _ _ _ _ _ at (value_sound c.args.key _ table.slots table.fit at) c.value_after.ensures
