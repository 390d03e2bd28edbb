-- What becomes of an item's value by a change that a store grants.
use Rattle.std.specs.Prelude.{◌≡◌, ℕ, true, Some, None, Option}
use Rattle.item.specs.Keys.{fits_key}
use Rattle.layer.specs.Settings.{is_setting}
use Rattle.reference.specs.Stores.{Store, held}
use Rattle.request.specs.declared.change.Change.{Change}
use Rattle.request.specs.declared.change.Change.TheVariants.{Put, Remove}

-- a value h that is held under k becomes v; a removal leaves none
abbrev pub Becomes : ℕ → ℕ → Option Change → ℕ → Type 0
Becomes k h None v = v ≡ h
Becomes k h (Some (Put w)) v = (v ≡ w) × (fits_key k w ≡ true)
Becomes k h (Some Remove) v = ⊥

-- the store holds a value under k, and it becomes v
pub record StepTo (s : Store) (k : ℕ) (c : Option Change) (v : ℕ) : Type 0 where
  pub before : ℕ
  pub is_held : held s k ≡ Some before
  pub fits : is_setting k before ≡ true
  pub becomes : Becomes k before c v
