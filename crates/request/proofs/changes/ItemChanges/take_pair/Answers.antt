use Rattle.std.proofs.Common.{sym, ◌∙◌}
use Rattle.catalogue.specs.Owned.{entries_of}
use Rattle.catalogue.proofs.Catalogues.{checked_listed}
use Rattle.request.proofs.Faults.{faulted}
use Rattle.request.proofs.Slots.{slots_long}
use Rattle.request.proofs.Pairs.{pair_cut, pair_unknown, pair_taken}
use Rattle.request.proofs.changes.ItemChanges.take_pair.Goals as goal

pub returns-in_err-pair : goal.returns-in_err-pair
returns-in_err-pair c =
    let cut = c.in_err-pair.ensures in
    rw (faulted _ _ _ _ c.from_residual.ensures.1 cut.value cut.ok_part) (pair_cut _ _ _ (sym cut.ok_part ∙ c.read_pair.ensures))

pub returns-in_err-item : goal.returns-in_err-item
returns-in_err-item c =
    let none = c.in_err-item.ensures in
    let pair = c.in_ok-pair.ensures in
    rw (faulted _ _ _ _ c.from_residual-in_err-item.ensures.1 none.value none.ok_part)
    (pair_unknown _ _ _ _ (sym pair.ok_part ∙ c.read_pair.ensures) (rw none.ok_part at c.find.ensures))

pub returns : goal.returns
returns c =
    let pair = c.in_ok-pair.ensures in
    let some = c.in_ok-item.ensures in
    let catalogue = c.args.catalogue.now in
    let before = c.args.self.now in
    pair_taken _ _ _ _ _ _ (sym pair.ok_part ∙ c.read_pair.ensures) (rw some.ok_part at c.find.ensures) (checked_listed (entries_of catalogue) catalogue.checked) catalogue.few
    (slots_long before.outcomes before.values before.outcomes_whole before.values_whole) c.set.ensures
