use Rattle.std.proofs.Common.{◌≡◌, Some, None, arith}
use Rattle.reply.proofs.Hearing.{frame_fits, heard_is}
use Rattle.reply.proofs.reading.first_heard.Goals as goal

pub returns-in_err-frame : goal.returns-in_err-frame
returns-in_err-frame c =
    let none : c.find-found.result.frame ≡ None = grind arith in
    rw c.from_residual.ensures (heard_is c.args.bytes.now c.find-found.result c.find-found.ensures None none)

pub returns : goal.returns
returns c =
    let some : c.find-found.result.frame ≡ Some c.in_ok-frame.frame = grind arith in (
      frame_fits c.args.bytes.now c.find-found.result c.find-found.ensures _ some,
      heard_is c.args.bytes.now c.find-found.result c.find-found.ensures (Some c.in_ok-frame.frame) some,
    )
