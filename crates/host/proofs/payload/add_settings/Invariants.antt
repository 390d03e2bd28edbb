use Rattle.std.proofs.Common.{◌≡◌, ◌+◌, ◌*◌, ◌≤◌, ◌++◌, drop}
use Rattle.arrayvec.specs.ArrayVec.{array_vec_len}
use Rattle.reference.specs.Receiver.{pairs_bytes}
use Rattle.host.specs.Refusals.{first_fault, setting_fault}
use Rattle.host.proofs.payload.add_settings.Given as goal

abbrev pub invariant-loop-setting : goal.invariant-loop-setting
invariant-loop-setting l = record {
  room : array_vec_len l.bytes ≤ 4 + 12 * l.setting-index;
  fault : first_fault setting_fault (drop l.setting-index l.settings) ≡ first_fault setting_fault l.settings;
  bytes : l.bytes.items ++ pairs_bytes (drop l.setting-index l.settings) ≡ l.initial.bytes.items ++ pairs_bytes l.settings;
}
