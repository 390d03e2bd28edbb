use Rattle.script.specs.declared.command.Medium.TheVariants.{Words as Journal}
use Rattle.script.specs.declared.reading.TheConstants.{STORE}
use Rattle.script.specs.Parts.{ReadsBuffer}
use Rattle.script.proofs.Words.{made}
use Rattle.script.proofs.reading.journal_in.Goals as goal

pub returns : goal.returns
returns c = made Journal (ReadsBuffer STORE.now c.args.words.now) c.buffer_in.result c.map.result c.buffer_in.ensures c.map.ensures.cases
