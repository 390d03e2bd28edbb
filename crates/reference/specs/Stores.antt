-- A store as what it means: a mark, usable or not, and its settings; what putting, removing and clearing leave of it.
use Rattle.std.specs.Prelude.{ℕ, Bool, List, Option}
use Rattle.layer.specs.declared.setting.Setting.{Setting}
use Rattle.layer.specs.Settings.{value_under, Ascends, Sound}
use Rattle.layer.specs.Stores.{put_answer, remove_answer, clear_answer, after_put, after_remove, after_clear, Shows}

abbrev pub Settings : Type 0
Settings = List Setting

pub record Store : Type 0 where
  pub usable : Bool
  pub settings : Settings

-- what a store of the code means, by its mark and its settings
abbrev pub store_of : {S : Type 0} → (S → Bool) → (S → Settings) → S → Store
store_of usable settings s = record { usable = usable s; settings = settings s }

-- the same mark over other settings
abbrev pub holding : Store → Settings → Store
holding s ss = record { usable = s.usable; settings = ss }

-- the value that it holds under a key
abbrev pub held : Store → ℕ → Option ℕ
held s k = value_under k s.settings

-- a store after a put, a removal and a clearing: changed where that is granted, else as it was
unfoldable pub put : Store → ℕ → ℕ → Store
put s k v = holding s (after_put (put_answer s.usable k v s.settings) k v s.settings)

unfoldable pub removed : Store → ℕ → Store
removed s k = holding s (after_remove (remove_answer s.usable k) k s.settings)

unfoldable pub cleared : Store → Store
cleared s = holding s (after_clear (clear_answer s.usable) s.settings)

-- what every store shows: ascending well-formed keys with values that fit, at most 128, none where it is not usable
pub record IsStore (s : Store) : Type 0 where
  pub ascends : Ascends s.settings
  pub sound : Sound s.settings
  pub shows : Shows s.usable s.settings
