use Rattle.std.proofs.Common.{◌≡◌, ◌==◌, sym, ◌∙◌, rules}
use borrow.Author.Tests.{tests}
use Rattle.std.specs.Option.{option_map, option_to_list}
use Rattle.std.proofs.lemmas.Iterator.{YieldsList-from_slice}
use Rattle.std.proofs.lemmas.Iterator.Consumers.{YieldsList-at, YieldsList-from_copied}
use Rattle.std.proofs.lemmas.Iterator.Adapters.{YieldsList-from_flatten, YieldsList-from_once}
use Rattle.std.proofs.lemmas.Iterator.Search.{find_from_yields_List}
use Rattle.store.proofs.Found.{found_then}
use Rattle.store.specs.SlotsLemmas.{value_found}
use Rattle.store.proofs.table.calls.SlotTableLayer.value.Goals as goal

pub returns : goal.returns
returns c =
    let slots = c.args.self.now.slots in
    let found = find_from_yields_List (λ s. s.key == c.args.key) _ _ c.find.result c.find.ensures.ran
    (YieldsList-from_flatten _ _ (λ x. x) option_to_list (λ x j b. YieldsList-from_once x b.0)
    (YieldsList-at c.flatten.ensures.source (YieldsList-from_copied (YieldsList-at c.copied.ensures.source (YieldsList-from_slice slots cc))))
    c.flatten.ensures.front c.flatten.ensures.back c.flatten.ensures.done)
    (λ x b q k. search (rules, tests)) in
    let told : c.map.result ≡ option_map (λ s. s.value) c.find.result = search rules in
    found_then (λ s. s) (λ s. s.value) c.find.result c.map.result _ told found ∙ sym (value_found c.args.key slots)
