-- Pieces that are handed on one after the other, the last of them at the front of their list.
use Rattle.std.specs.Prelude.{◌≡◌, ℕ, List, [], ◌∷◌, ◌++◌, Ok, Option, Result}
use Rattle.std.specs.Borrow.{Bor}
use Rattle.std.specs.Fn.{Mut, CalledAt}
use Rattle.std.specs.Io.KnownBytes.{Consumes}

-- the bytes of all of them, in order
unfoldable pub joined : List (List ℕ) → List ℕ
joined [] = []
joined (p ∷ ps) = joined ps ++ p

module _ {F E : Type 0} (g : Mut F (Bor (List ℕ) × Unit {0}) (Result (Unit {0}) E)) where
  -- f was called at each of them in turn, each call succeeded, and the last left f'
  unfoldable pub Called : F → List (List ℕ) → F → Type 0
  Called f [] f' = f' ≡ f
  Called f (p ∷ ps) f' = (h : F) × Called f ps h × CalledAt g h p (Ok tt) f'

  -- and they are what a reader gave, of which this was left before and after
  abbrev pub Handed : F → F → Option (List ℕ) → Option (List ℕ) → Type 0
  Handed f f' old new = (ps : List (List ℕ)) × Called f ps f' × Consumes old new (joined ps)
