use Rattle.std.proofs.Common.{◌≡◌, Some, rules, arith}
use Rattle.item.specs.Selectors.{selector_of}
use Rattle.catalogue.specs.Owned.{entries_of}
use Rattle.catalogue.specs.Catalogues.{NextNamed}
use Rattle.request.specs.Keys.{key_in}
use Rattle.page.proofs.Walks.{entry_known}
use Rattle.page.proofs.entry.number_in.Goals as goal

pub returns : goal.returns
returns c =
    let next : NextNamed (selector_of c.in_ok-number.number) 0 (entries_of c.args.catalogue.now) (Some c.in_ok-ok_or.field-0) = search rules in
    let key : Some c.in_ok-number.number ≡ key_in c.args.entry.now = search rules in
    (omega arith, λ rest some whole. entry_known _ _ _ rest c.requires c.if-before-eq-MAX_ENTRIES.false some _ key _ _ whole next.2)
