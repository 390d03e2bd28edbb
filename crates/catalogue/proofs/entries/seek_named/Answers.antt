use Rattle.catalogue.proofs.Catalogues.{seek_none, seek_some}
use Rattle.catalogue.proofs.entries.seek_named.Goals as goal

pub returns-in_err-passed : goal.returns-in_err-passed
returns-in_err-passed c =
    let none = seek_none c.args.selector c.args.from c.args.entries.now c.in_ok-get.field-0.now c.in_ok-get.ensures.lookup.0.2 c.in_err-passed.ensures.first in
    rw c.from_residual-in_err-passed.ensures (record { next = none.0; first = none.1 })

pub returns : goal.returns
returns c =
    let some = seek_some c.args.selector c.args.from c.args.entries.now c.in_ok-get.field-0.now c.in_ok-get.ensures.lookup.0.2 c.in_ok-passed.passed c.in_ok-passed.ensures.within c.in_ok-passed.ensures.first in
    record { next = some.0; first = some.1 }
