use Rattle.rule.specs.RulesLemmas.{outside_is, defaults_fit}
use Rattle.rule.proofs.ranges.RangesRule.find.Goals as goal

pub returns : goal.returns
returns c = record { found = outside_is c.args.configuration.entries.now c.args.configuration.values.now _ c.first_outside.ensures; defaults = defaults_fit _ _ }
