use Rattle.std.proofs.Common.{rules}
use Rattle.layer.specs.SettingsLemmas.{value_chosen}
use Rattle.layer.proofs.stack.StackLayer.value.Goals as goal

pub returns : goal.returns
returns g c =
    let stack = c.args.self.now in
    value_chosen c.args.key (g.U.Layer.settings stack.upper) (g.L.Layer.settings stack.lower) c.value.result c.or_else.result
    (λ asked. search rules) c.value.ensures c.or_else.ensures
