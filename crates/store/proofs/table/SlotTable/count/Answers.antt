use Rattle.std.proofs.Common.{◌∙◌}
use Rattle.std.specs.Option.{option_to_list}
use Rattle.std.proofs.lemmas.Iterator.{YieldsList-from_slice}
use Rattle.std.proofs.lemmas.Iterator.Consumers.{YieldsList-at, YieldsList-from_copied, count_from_yields_List}
use Rattle.std.proofs.lemmas.Iterator.Adapters.{YieldsList-from_flatten, YieldsList-from_once}
use Rattle.store.specs.SlotsLemmas.{count_found}
use Rattle.store.proofs.table.SlotTable.count.Goals as goal

pub returns : goal.returns
returns c =
    let slots = c.args.self.now.slots in
    count_from_yields_List _ c.count.result c.count.ensures.ran
    (YieldsList-from_flatten _ _ (λ x. x) option_to_list (λ x j b. YieldsList-from_once x b.0)
    (YieldsList-at c.flatten.ensures.source (YieldsList-from_copied (YieldsList-at c.copied.ensures.source (YieldsList-from_slice slots cc))))
    c.flatten.ensures.front c.flatten.ensures.back c.flatten.ensures.done)
    ∙ count_found slots c.args.self.now.distinct
