use Rattle.std.proofs.Common.{rules}
use Rattle.store.specs.SlotsLemmas.{table_shows}
use Rattle.store.proofs.table.calls.SlotTableStore.is_usable.Goals as goal

pub returns-clause-shows : goal.returns-clause-shows
returns-clause-shows c = search (rules, table_shows)
