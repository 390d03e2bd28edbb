use Rattle.std.proofs.Common.{◌≡◌, map, take}
use Rattle.reference.specs.Stores.{store_of}
use Rattle.configuration.specs.Meaning.{item_value}
use Rattle.configuration.proofs.judging.values_in.Given as goal

-- so far there is a value for each entry
abbrev pub invariant-loop-entry : goal.invariant-loop-entry
invariant-loop-entry g l = l.values.items ≡ map (item_value (store_of g.S.Store.usable g.S.Layer.settings l.store)) (take l.entry-index l.entry-items)
