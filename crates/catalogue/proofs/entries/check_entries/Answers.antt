use Rattle.std.proofs.Common.{rules}
use Rattle.std.proofs.lemmas.Result.{err_from_is_err_and}
use Rattle.catalogue.proofs.Catalogues.{checked_fault, checked_more, checked_all, only_once}
use Rattle.catalogue.proofs.entries.check_entries.Goals as goal

pub returns-in_err-check-clause-value : goal.returns-in_err-check-clause-value
returns-in_err-check-clause-value c =
    let told = c.in_err-check.ensures in
    let p = err_from_is_err_and c.from_residual.result c.from_residual.ensures.1 in
    rw (p.1, p.2) (search (rules, checked_fault))

pub loop-place-preserved : goal.loop-place-preserved
loop-place-preserved c = let told = c.in_ok-check.ensures in search (rules, checked_more)

pub returns-clause-listed : goal.returns-clause-listed
returns-clause-listed c = search (rules, checked_all, only_once)
