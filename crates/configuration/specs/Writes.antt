-- Writing to a store for one item after the other: the words after each change are those that one write leaves, and without a change the store
-- is the same. The stores in between are known by their words alone.
use Rattle.std.specs.Prelude.{◌≡◌, ℕ, Bool, true, false, List, [], ◌∷◌, Some, None, Option}
use Rattle.reference.specs.Requests.{Catalogue, Changes}
use Rattle.reference.specs.declared.call.Battery.{Battery}
use Rattle.reference.specs.declared.call.Battery.TheVariants.{Kept, Lost}

-- the words of a store's memory, and those that each write leaves there
pub record Memory (S : Type 0) : Type 0 where
  pub words : S → Option (List ℕ)
  pub put : ℕ → ℕ → S → Option (List ℕ)
  pub removed : ℕ → S → Option (List ℕ)
  pub cleared : S → Option (List ℕ)

module _ {S : Type 0} (m : Memory S) where
  -- what becomes of one item is one write; where it stays, the store is the same
  abbrev pub WroteOne : Option (Option ℕ) → ℕ → S → S → Type 0
  WroteOne None k before after = after ≡ before
  WroteOne (Some None) k before after = m.words after ≡ m.removed k before
  WroteOne (Some (Some v)) k before after = m.words after ≡ m.put k v before

  -- the same for each item, in their order
  unfoldable pub Wrote : Catalogue → Changes → S → S → Type 0
  Wrote [] d before after = after ≡ before
  Wrote (e ∷ es) d before after = (s : S) × WroteOne (d e.key) e.key before s × Wrote es d s after

  -- where the store is chosen; else it is the same
  abbrev pub WroteIf : Bool → Catalogue → Changes → S → S → Type 0
  WroteIf true cat d before after = Wrote cat d before after
  WroteIf false cat d before after = after ≡ before

  -- a store that the battery kept is the same, and one that it lost has the words that one clearing leaves
  abbrev pub WroteByBattery : Battery → S → S → Type 0
  WroteByBattery Kept before after = after ≡ before
  WroteByBattery Lost before after = m.words after ≡ m.cleared before
