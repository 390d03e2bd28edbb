use Rattle.layer.specs.SettingsLemmas.{merged_nil}
use Rattle.layer.proofs.stack.over_nothing.Goals as goal

pub returns : goal.returns
returns g c = merged_nil (g.L.Layer.settings c.args.layer) (g.met.L.Layer.ascends c.args.layer)
