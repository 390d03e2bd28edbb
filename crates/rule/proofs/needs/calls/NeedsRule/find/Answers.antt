use Rattle.std.proofs.Common.{rules}
use Rattle.rule.specs.RulesLemmas.{broken_is, eases}
use Rattle.rule.proofs.needs.calls.NeedsRule.find.Goals as goal

pub returns : goal.returns
returns c = record { found = search (rules, broken_is); eases = eases _ _ _ }
