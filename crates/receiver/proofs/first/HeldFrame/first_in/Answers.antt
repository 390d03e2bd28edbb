use Rattle.std.proofs.Common.{◌-◌, ◌≤◌, drop, length, arith, rules}
use Rattle.std.proofs.lemmas.List.{length-take}
use Rattle.std.proofs.lemmas.Result.{err_from_is_err_and}
use Rattle.held.specs.Meaning.{bytes_held}
use Rattle.receiver.proofs.Found.{found_frame, found_few, found_err}
use Rattle.receiver.proofs.first.HeldFrame.first_in.Goals as goal

pub returns-in_err-frame : goal.returns-in_err-frame
returns-in_err-frame c =
    let p = err_from_is_err_and c.from_residual.result c.from_residual.ensures.1 in
    let told = c.in_err-frame.ensures in
    rw (p.1, p.2) (search (rules, found_err))

pub invariant_of-result : goal.invariant_of-result
invariant_of-result c =
    let told = c.in_ok-frame.ensures in
    let held = c.args.held.now in
    let taken = length-take (held.end - held.start) (drop held.start held.bytes) in
    let most : length (bytes_held held) ≤ 780 = omega arith in
    record { few = search (rules, found_few) }

pub returns : goal.returns
returns c =
    let told = c.in_ok-frame.ensures in
    search (rules, found_frame)
