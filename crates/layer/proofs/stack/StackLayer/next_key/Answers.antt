use Rattle.std.proofs.Common.{rules}
use Rattle.layer.specs.SettingsLemmas.{key_above_merged}
use Rattle.layer.proofs.stack.StackLayer.next_key.Goals as goal

pub returns : goal.returns
returns g c = let up = g.met.U.Layer.ascends c.args.self.now.upper in search (rules, key_above_merged)
