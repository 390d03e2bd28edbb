use Rattle.std.proofs.Common.{rules}
use Rattle.std.proofs.lemmas.Iterator.{YieldsList-from_slice}
use Rattle.std.proofs.lemmas.Iterator.Consumers.{fold_from_yields_List}
use Rattle.frame.specs.Checksum.{with_byte}
use Rattle.frame.proofs.Checksum.{folded}
use Rattle.frame.proofs.sums.check_bytes.Goals as goal

pub returns : goal.returns
returns c =
    folded c.args.bytes.now _ _ c.new.ensures
    (fold_from_yields_List _ with_byte _ _ c.fold.ensures.ran (YieldsList-from_slice c.args.bytes.now cc) (λ a x b q k. search rules))
