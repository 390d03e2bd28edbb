use Rattle.std.proofs.Common.{rules}
use Rattle.script.specs.declared.host.HostCommand.TheVariants.{Set, Delete}
use Rattle.script.specs.declared.host.TheConstants.{SET, DELETE}
use Rattle.script.specs.Words.{ReadsKeys}
use Rattle.script.specs.Hosts.{ReadsSettings, ReadsAsked}
use Rattle.script.proofs.Words.{made}
use Rattle.script.proofs.host.read_host.Goals as goal

pub returns-in-hostset : goal.returns-in-hostset
returns-in-hostset c =
    let set = made Set (ReadsAsked (ReadsSettings SET.now) SET.now c.args.words.now) c.set_in.result c.map.result c.set_in.ensures c.map.ensures.cases in
    search rules

pub returns-in-hostdel : goal.returns-in-hostdel
returns-in-hostdel c =
    let delete = made Delete (ReadsAsked ReadsKeys DELETE.now c.args.words.now) c.delete_in.result c.map-in-hostdel.result c.delete_in.ensures c.map-in-hostdel.ensures.cases in
    search rules
