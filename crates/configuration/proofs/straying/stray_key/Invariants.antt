use Rattle.std.proofs.Common.{◌≡◌, length}
use Rattle.catalogue.specs.Owned.{entries_of}
use Rattle.reference.specs.Parts.{stray_key}
use Rattle.layer.specs.Settings.{above}
use Rattle.configuration.proofs.straying.stray_key.Given as goal

abbrev pub invariant-loop-key : goal.invariant-loop-key
invariant-loop-key g l =
    let all = g.L.Layer.settings l.layer in stray_key (entries_of l.catalogue) (above l.number all) ≡ stray_key (entries_of l.catalogue) all

abbrev pub decreases-loop-key : goal.decreases-loop-key
decreases-loop-key g l = length (above l.number (g.L.Layer.settings l.layer))
