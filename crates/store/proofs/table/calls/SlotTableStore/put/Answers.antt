use Rattle.std.proofs.Common.{rules}
use Rattle.layer.proofs.Stores.{setting_from}
use Rattle.store.proofs.table.calls.SlotTableStore.put.Goals as goal

pub hold-requires : goal.hold-requires
hold-requires c = search (rules, setting_from)
