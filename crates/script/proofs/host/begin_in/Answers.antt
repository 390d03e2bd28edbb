use Rattle.std.proofs.Common.{drop, rules}
use Rattle.script.specs.declared.host.HostCommand.TheVariants.{BeginSets, BeginDeletes}
use Rattle.script.specs.declared.host.TheConstants.{BEGIN}
use Rattle.script.specs.Words.{ReadsKeys}
use Rattle.script.specs.Hosts.{ReadsSettings, ReadsAsked}
use Rattle.script.proofs.Words.{made, behind}
use Rattle.script.proofs.host.begin_in.Goals as goal

pub returns-in-set : goal.returns-in-set
returns-in-set c =
    let words = c.args.words.now in
    let asked = behind 1 words (λ ws. ReadsAsked (ReadsSettings BEGIN.now) BEGIN.now ws c.set_in.result) c.set_in.ensures in
    let sets = made BeginSets (ReadsAsked (ReadsSettings BEGIN.now) BEGIN.now (drop 1 words)) c.set_in.result c.map.result asked c.map.ensures.cases in
    search rules

pub returns-in-del : goal.returns-in-del
returns-in-del c =
    let words = c.args.words.now in
    let asked = behind 1 words (λ ws. ReadsAsked ReadsKeys BEGIN.now ws c.delete_in.result) c.delete_in.ensures in
    let deletes = made BeginDeletes (ReadsAsked ReadsKeys BEGIN.now (drop 1 words)) c.delete_in.result c.map-in-del.result asked c.map-in-del.ensures.cases in
    search rules
