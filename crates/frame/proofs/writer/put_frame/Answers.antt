use Rattle.std.proofs.Common.{arith}
use Rattle.frame.specs.Meaning.{message_of}
use Rattle.frame.proofs.Written.{parts_written, heard_in_front}
use Rattle.frame.proofs.writer.put_frame.Goals as goal

pub returns : goal.returns
returns c =
    let m = message_of c.args.frame.now in
    let out = parts_written m c.args.out.now _ _ _ _ _ _ _ _ _ (omega arith) c.to_le_bytes.ensures c.requires.few c.copy_from_slice.ensures.after c.copy_from_slice-2.ensures.after (omega arith)
    (omega arith) c.check_bytes-sums.ensures (omega arith) (omega arith) c.copy_from_slice-3.ensures.after in
    record {
      value = omega arith;
      out = out;
      heard = heard_in_front m _ c.args.out.now _ c.requires.few out (omega arith);
    }
