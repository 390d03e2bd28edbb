use Rattle.std.proofs.Common.{refl, rules}
use Rattle.catalogue.specs.Owned.{entries_of}
use Rattle.reference.specs.Stores.{store_of}
use Rattle.reference.specs.Parts.{parts_of}
use Rattle.reference.proofs.Runs.{law_follows}
use Rattle.receiver.proofs.Made.{items_are, made_is}
use Rattle.receiver.proofs.state.Receiver.make.Goals as goal

pub returns : goal.returns
returns g c =
    let parts = c.args.parts in
    let bbr = parts.bbr in
    let flash = parts.flash in
    record {
      state = search (rules, made_is);
      items =
          items_are
          (parts_of c.args.entries.now (g.R.Rule.finding parts.rule) (store_of g.B.Store.usable g.B.Layer.settings bbr) (store_of g.F.Store.usable g.F.Layer.settings flash))
          (entries_of c.new.result.catalogue) c.new.ensures.entries;
      rule = refl;
      stores = search rules;
      law =
          law_follows c.args.entries.now (g.R.Rule.finding parts.rule) (g.B.Store.usable bbr) (g.F.Store.usable flash) (g.B.Layer.settings bbr) (g.F.Layer.settings flash)
          (g.met.B.Layer.ascends bbr) (g.met.B.Layer.sound bbr) (g.met.B.Store.shows bbr)
          (g.met.F.Layer.ascends flash) (g.met.F.Layer.sound flash) (g.met.F.Store.shows flash);
    }
