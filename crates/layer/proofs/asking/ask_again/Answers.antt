use Rattle.std.proofs.Common.{ap, ◌∙◌}
use Rattle.layer.specs.Settings.{value_under}
use Rattle.layer.specs.SettingsLemmas.{value_with_same}
use Rattle.layer.proofs.asking.ask_again.Goals as goal

pub returns : goal.returns
returns g c = c.value.ensures ∙ ap (value_under c.args.key) c.requires.put ∙ value_with_same c.args.key c.args.value c.requires.before
