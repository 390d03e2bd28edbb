use Rattle.reference.proofs.Runs.{law_follows}
use Rattle.reference.proofs.theorems.law_follows.Goals as goal

pub returns : goal.returns
returns g c =
    let bbr = c.args.bbr.now in
    let flash = c.args.flash.now in
    law_follows c.args.catalogue.now (g.R.Rule.finding c.args.rule.now) (g.B.Store.usable bbr) (g.F.Store.usable flash) (g.B.Layer.settings bbr) (g.F.Layer.settings flash)
    (g.met.B.Layer.ascends bbr) (g.met.B.Layer.sound bbr) (g.met.B.Store.shows bbr)
    (g.met.F.Layer.ascends flash) (g.met.F.Layer.sound flash) (g.met.F.Store.shows flash)
