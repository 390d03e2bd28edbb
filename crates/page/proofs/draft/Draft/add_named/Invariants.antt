use Rattle.std.proofs.Common.{◌≡◌, ℕ, ◌-◌, List, ◌++◌, length, drop}
use Rattle.item.specs.Selectors.{selector_of}
use Rattle.reference.specs.Requests.{keys_named}
use Rattle.page.specs.Drafts.{finished_by}
use Rattle.page.proofs.draft.Draft.add_named.Given as goal

abbrev pub invariant-loop-item : goal.invariant-loop-item
invariant-loop-item g l =
    let ss = g.L.Layer.settings l.layer in
    let s = selector_of l.number in
    (ks : List ℕ) → finished_by ss l.self (keys_named s (drop l.from l.entries) ++ ks) ≡ finished_by ss l.initial.self (keys_named s l.entries ++ ks)

abbrev pub decreases-loop-item : goal.decreases-loop-item
decreases-loop-item g l = length l.entries - l.from
