use Rattle.script.specs.declared.command.OwnCall.TheVariants.{Take}
use Rattle.script.specs.Words.{ReadsBytes}
use Rattle.script.proofs.Words.{made}
use Rattle.script.proofs.reading.taking.Goals as goal

pub returns : goal.returns
returns c = made Take (ReadsBytes c.args.words.now) c.bytes_in.result c.map.result c.bytes_in.ensures c.map.ensures.cases
