use Rattle.std.proofs.Common.{ap, ◌∙◌, ◌+◌, ◌*◌, ◌^◌, rules}
use Rattle.journal.proofs.Words.{part_adds}
use Rattle.journal.proofs.reading.open.Open.value_with.Goals as goal

pub overflow_add-result : goal.overflow_add-result
overflow_add-result c = let fits = (part_adds c.args.self.key _ _ _ _ c.args.self.waiting c.args.self.small c.requires c.from.ensures).fits in search rules

pub returns-clause-value : goal.returns-clause-value
returns-clause-value c =
    (part_adds c.args.self.key _ _ _ _ c.args.self.waiting c.args.self.small c.requires c.from.ensures).value
    ∙ ap (λ p. c.args.self.value + p * 2 ^ (16 * c.args.self.parts)) c.from.ensures

pub returns-clause-small : goal.returns-clause-small
returns-clause-small c = (part_adds c.args.self.key _ _ _ _ c.args.self.waiting c.args.self.small c.requires c.from.ensures).small
