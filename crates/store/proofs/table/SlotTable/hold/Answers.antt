use Rattle.std.proofs.Common.{rules}
use Rattle.store.specs.SlotsLemmas.{apart_set, sound_set, put_settings}
use Rattle.store.proofs.table.SlotTable.hold.Goals as goal

pub invariant_of-self : goal.invariant_of-self
invariant_of-self c = search (rules, apart_set, sound_set)

pub returns-clause-after : goal.returns-clause-after
returns-clause-after c = search (rules, put_settings)
