use Rattle.std.proofs.Common.{◌+◌, ◌*◌, get_or, refl, sym, ap, ◌∙◌, arith}
use Rattle.std.proofs.lemmas.Result.{err_from_is_err_and}
use Rattle.frame.specs.Meaning.{message_of}
use Rattle.reply.specs.Meaning.{pairs_of}
use Rattle.reply.proofs.Sayings.{values_by}
use Rattle.reply.proofs.message.values_in.Goals as goal

pub returns-in_err-pairs : goal.returns-in_err-pairs
returns-in_err-pairs c =
    let p = err_from_is_err_and c.from_residual.result c.from_residual.ensures.1 in
    let m = message_of c.args.frame in
    rw (p.1, p.2)
    (values_by c.args.place m (omega arith) (omega arith) _ (ap pairs_of (sym (c.in_err-pairs.was {u = tt})) ∙ c.read.ensures) (get_or m.payload 2 0 + get_or m.payload 3 0 * 256) refl)
