use Rattle.std.proofs.Common.{◌≡◌, ◌==◌, ◌∙◌, rules}
use borrow.Author.Tests.{tests}
use Rattle.std.specs.Option.{option_map}
use Rattle.std.proofs.lemmas.Iterator.{YieldsList-from_slice}
use Rattle.std.proofs.lemmas.Iterator.Search.{find_from_yields_List}
use Rattle.catalogue.specs.Owned.{entries_of}
use Rattle.store.specs.CataloguedLemmas.{value_found}
use Rattle.store.proofs.Found.{found_then}
use Rattle.store.proofs.defaults.DefaultsLayer.value.Goals as goal

pub returns : goal.returns
returns c =
    let entries = entries_of c.args.self.now.catalogue in
    let found = find_from_yields_List (λ e. e.key == c.args.key) _ _ c.find.result c.find.ensures.ran (YieldsList-from_slice entries cc) (λ x b q k. search (rules, tests)) in
    let told : c.map.result ≡ option_map (λ e. e.now.default) c.find.result = search rules in
    found_then (λ e. e.now) (λ e. e.default) c.find.result c.map.result _ told found ∙ value_found _ entries
