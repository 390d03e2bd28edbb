-- What it says that a count of words is the least.
use Rattle.std.proofs.Common.{ℕ, ◌+◌, ◌≤◌, List, Option}
use Rattle.journal.specs.Writing.{used_in, Least}

-- no more words than so many are used anew
pub least_says : (k : ℕ) (o : Option ℕ) (count : ℕ) (old new : List ℕ) → Least k o count old new → used_in new ≤ used_in old + count
least_says k o count old new h = h.used
