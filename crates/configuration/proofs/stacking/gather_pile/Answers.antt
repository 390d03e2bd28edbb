use Rattle.configuration.proofs.Piled.{pile_settings}
use Rattle.configuration.proofs.stacking.gather_pile.Goals as goal

pub returns : goal.returns
returns g c = pile_settings _ _ _ _ c.args.pile.now.lower.catalogue.checked c.gathered.ensures
