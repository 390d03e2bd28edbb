use Rattle.std.proofs.Common.{◌≡◌, Some, sym, rules}
use Rattle.layer.specs.Settings.{value_under}
use Rattle.layer.specs.SettingsLemmas.{with_held_lem}
use Rattle.layer.proofs.Stores.{put_held}
use Rattle.layer.proofs.saver.SaverStore.put.Goals as goal

pub returns-then-eq-clause-answer : goal.returns-then-eq-clause-answer
returns-then-eq-clause-answer g c =
    let s = c.args.self.now.store in
    let held : value_under c.args.key (g.S.Layer.settings s) ≡ Some c.args.value = search rules in
    put_held _ _ _ _ (g.met.S.Store.shows s).idle (g.met.S.Layer.sound s _ _ held) held

pub returns-then-eq-clause-after : goal.returns-then-eq-clause-after
returns-then-eq-clause-after g c =
    let s = c.args.self.now.store in
    let held : value_under c.args.key (g.S.Layer.settings s) ≡ Some c.args.value = search rules in
    sym (with_held_lem _ _ _ (g.met.S.Layer.ascends s) held)
