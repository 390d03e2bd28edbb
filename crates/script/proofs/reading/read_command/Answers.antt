use Rattle.std.proofs.Common.{rules, arith}
use Rattle.script.specs.declared.command.Command.TheVariants.{Inspect, Read}
use Rattle.script.specs.declared.reading.TheConstants.{INSPECT}
use Rattle.script.specs.Words.{OneOf, ReadsBytes}
use Rattle.script.specs.Hosts.{host_names}
use Rattle.script.specs.Parts.{ReadsBuffer}
use Rattle.script.proofs.Words.{made}
use Rattle.script.proofs.reading.read_command.Goals as goal

pub returns-in-inspect : goal.returns-in-inspect
returns-in-inspect c =
    let buffer = made Inspect (ReadsBuffer INSPECT.now c.args.words.now) c.buffer_in.result c.map-in-inspect.result c.buffer_in.ensures c.map-in-inspect.ensures.cases in
    search rules

pub returns-in-read : goal.returns-in-read
returns-in-read c =
    let bytes = made Read (ReadsBytes c.args.words.now) c.bytes_in.result c.map-in-read.result c.bytes_in.ensures c.map-in-read.ensures.cases in
    search rules

pub returns-in_default : goal.returns-in_default
returns-in_default c =
    let none : ¬ OneOf host_names c.args.name.now = λ h. grind arith in
    search rules
