use Rattle.std.proofs.Common.{◌∙◌, arith}
use Rattle.layer.specs.Settings.{setting}
use Rattle.host.specs.Refusals.{setting_fault}
use Rattle.host.proofs.Building.{fault_past, pairs_past}
use Rattle.host.proofs.payload.add_settings.Goals as goal

pub loop-setting-preserved : goal.loop-setting-preserved
loop-setting-preserved c =
    let told = c.in_ok-add_setting.ensures in
    let it = c.loop-setting in
    let ss = c.args.settings.now in
    record {
      room = omega arith;
      fault = fault_past setting_fault ss it.setting-index (setting 0 0) c.loop-setting-test.true told.answer ∙ it.invariant.fault;
      bytes = pairs_past ss it.setting-index (setting 0 0) _ _ c.loop-setting-test.true told.after ∙ it.invariant.bytes;
    }
