use Rattle.std.proofs.Common.{rules}
use Rattle.std.proofs.lemmas.Result.{err_from_is_err_and}
use Rattle.journal.proofs.Inspecting.{read_more, read_fault, read_all}
use Rattle.journal.proofs.reading.read_all.Goals as goal

pub returns-in_err-read : goal.returns-in_err-read
returns-in_err-read c =
    let told = c.in_err-read.ensures in
    let p = err_from_is_err_and c.from_residual.result c.from_residual.ensures.1 in
    rw (p.1, p.2) (search (rules, read_fault))

pub loop-place-preserved : goal.loop-place-preserved
loop-place-preserved c = let told = c.in_ok-read.ensures in search (rules, read_more)

pub returns : goal.returns
returns c = search (rules, read_all)
