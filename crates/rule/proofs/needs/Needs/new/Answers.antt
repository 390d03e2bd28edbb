use Rattle.std.proofs.Common.{rules}
use Rattle.std.proofs.lemmas.List.{take_min}
use Rattle.rule.proofs.needs.Needs.new.Goals as goal

pub returns : goal.returns
returns c = let taken = take_min 64 c.args.pairs.now in search rules
