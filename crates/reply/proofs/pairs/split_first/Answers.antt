use Rattle.std.proofs.lemmas.List.{take_rest}
use Rattle.reply.proofs.Walks.{none_left, next_whole, next_less}
use Rattle.reply.proofs.pairs.split_first.Goals as goal

pub returns-in_err-front : goal.returns-in_err-front
returns-in_err-front c = rw c.from_residual.ensures (none_left c.args.bytes.now c.in_err-front.ensures)

pub returns : goal.returns
returns c =
    let f = c.in_ok-front.ensures in
    let bs = c.args.bytes.now in
    (next_whole bs _ _ _ f.0 f.1 f.2 (take_rest bs c.in_ok-front.front.size) c.requires, next_less bs _ _ _ f.0 f.1 f.2 (take_rest bs c.in_ok-front.front.size) c.requires)
