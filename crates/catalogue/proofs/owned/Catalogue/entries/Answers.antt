use Rattle.std.proofs.Common.{rules}
use Rattle.catalogue.proofs.Catalogues.{checked_listed}
use Rattle.catalogue.proofs.owned.Catalogue.entries.Goals as goal

pub returns-clause-listed : goal.returns-clause-listed
returns-clause-listed c = search (rules, checked_listed)
