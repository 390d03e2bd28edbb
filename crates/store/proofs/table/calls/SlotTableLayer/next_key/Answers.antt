use Rattle.std.proofs.Common.{nat_lt, sym, ◌∙◌, rules}
use borrow.Author.Tests.{tests}
use Rattle.std.specs.Option.{option_to_list}
use Rattle.std.proofs.lemmas.Iterator.{YieldsList-from_slice, YieldsList-from_map}
use Rattle.std.proofs.lemmas.Iterator.Consumers.{YieldsList-at, YieldsList-from_copied, YieldsList-from_filter, min_from_yields_List}
use Rattle.std.proofs.lemmas.Iterator.Adapters.{YieldsList-from_flatten, YieldsList-from_once, option_map_id}
use Rattle.store.specs.SlotsLemmas.{key_found}
use Rattle.store.proofs.table.calls.SlotTableLayer.next_key.Goals as goal

pub returns : goal.returns
returns c =
    let slots = c.args.self.now.slots in
    sym (option_map_id c.min.result)
    ∙ min_from_yields_List _ c.min.result c.min.ensures.ran
    (YieldsList-from_filter _ (λ k. nat_lt c.args.number k)
    (YieldsList-at c.filter.ensures.source
    (YieldsList-from_map _ (λ s. s.key)
    (YieldsList-at c.map.ensures.source
    (YieldsList-from_flatten _ _ (λ x. x) option_to_list (λ x j b. YieldsList-from_once x b.0)
    (YieldsList-at c.flatten.ensures.source (YieldsList-from_copied (YieldsList-at c.copied.ensures.source (YieldsList-from_slice slots cc))))
    c.flatten.ensures.front c.flatten.ensures.back c.flatten.ensures.done))
    c.map.ensures.closure (λ x r q k. search rules)))
    c.filter.ensures.closure (λ x b q k. search (rules, tests)))
    ∙ key_found c.args.number slots
