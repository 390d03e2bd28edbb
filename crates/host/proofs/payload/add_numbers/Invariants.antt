use Rattle.std.proofs.Common.{◌≡◌, ◌+◌, ◌*◌, ◌≤◌, ◌++◌, drop}
use Rattle.arrayvec.specs.ArrayVec.{array_vec_len}
use Rattle.host.specs.Refusals.{first_fault, number_fault}
use Rattle.host.specs.Requests.{numbers_bytes}
use Rattle.host.proofs.payload.add_numbers.Given as goal

abbrev pub invariant-loop-number : goal.invariant-loop-number
invariant-loop-number l = record {
  room : array_vec_len l.bytes ≤ 4 + 4 * l.number-index;
  fault : first_fault number_fault (drop l.number-index l.numbers) ≡ first_fault number_fault l.numbers;
  bytes : l.bytes.items ++ numbers_bytes (drop l.number-index l.numbers) ≡ l.initial.bytes.items ++ numbers_bytes l.numbers;
}
