use Rattle.std.proofs.Common.{rules}
use Rattle.std.proofs.lemmas.List.{drop-replicate}
use Rattle.std.proofs.lemmas.Slice.{overwrites}
use Rattle.item.proofs.arrays.padded.Goals as goal

pub returns-clause-rest : goal.returns-clause-rest
returns-clause-rest g c = search (rules, overwrites, drop-replicate)
