use Rattle.std.proofs.Common.{◌∙◌, arith}
use Rattle.host.specs.Refusals.{number_fault}
use Rattle.host.proofs.Building.{fault_past, numbers_past}
use Rattle.host.proofs.payload.add_numbers.Goals as goal

pub loop-number-preserved : goal.loop-number-preserved
loop-number-preserved c =
    let told = c.in_ok-add_number.ensures in
    let it = c.loop-number in
    let ns = c.args.numbers.now in
    record {
      room = omega arith;
      fault = fault_past number_fault ns it.number-index 0 c.loop-number-test.true told.answer ∙ it.invariant.fault;
      bytes = numbers_past ns it.number-index 0 _ _ c.loop-number-test.true told.after ∙ it.invariant.bytes;
    }
