use Rattle.std.proofs.Common.{◌+◌, ◌-◌, drop, ap₂, ◌∙◌, arith}
use Rattle.std.proofs.lemmas.List.{length-drop, length-take-le}
use Rattle.frame.specs.declared.sums.CheckBytes.{CheckBytes}
use Rattle.frame.specs.Checksum.{sums_between}
use Rattle.held.proofs.Running.{part_sums}
use Rattle.held.proofs.held.calls.HeldSummed.check_bytes_at.Goals as goal

pub returns : goal.returns
returns c =
    let h = c.args.self.now in
    let rest = length-drop h.start h.bytes in
    let held = length-take-le (h.end - h.start) (drop h.start h.bytes) (omega arith) in
    let within = c.requires.within in
    part_sums h.bytes h.sums h.start h.end c.args.place (4 + c.args.count) _ h.summed (omega arith) (omega arith)
    (c.up_to.ensures ∙ ap₂ (λ (u v : CheckBytes). sums_between u v (4 + c.args.count)) c.sums_before.ensures.value c.sums_before-end.ensures.value)
