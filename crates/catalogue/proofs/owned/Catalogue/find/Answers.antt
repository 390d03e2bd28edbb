use Rattle.std.proofs.Common.{rules}
use Rattle.std.proofs.lemmas.List.Sorted.{answers_always}
use Rattle.catalogue.specs.declared.entries.Entry.{Entry}
use Rattle.catalogue.proofs.Catalogues.{searched}
use Rattle.catalogue.proofs.owned.Catalogue.find.Goals as goal

-- the closure gives an entry's key
pub returns : goal.returns
returns c =
    let facts = c.binary_search_by_key.ensures in
    let by_key = facts.position (λ (e : Entry). e.key) (answers_always _ _ _ (λ f a r g called. search rules)) in
    let found = searched c.entries.result.now c.entries.ensures.listed c.args.key _ facts.bound by_key in
    rw (c.ok.ensures.value, ← c.entries.ensures.value) found
