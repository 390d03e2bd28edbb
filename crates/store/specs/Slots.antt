-- What a table of slots holds, and where a key stands in it.
use Rattle.std.specs.Prelude.{◌≡◌, ℕ, suc, ◌<◌, Bool, true, false, cond, ◌&&◌, List, [], ◌∷◌, length, take, Some, None, Option, MatchOption, ◌==◌, slice_index_or, slice_set}
use Rattle.layer.specs.Settings.{setting, is_setting, with_value, without}
use Rattle.layer.specs.declared.setting.Setting.{Setting}
use Rattle.layer.specs.Stores.{room}

-- the settings in the slots; of two slots with one key the first would count
abbrev pub settings_of : List (Option Setting) → List Setting
settings_of [] = []
settings_of (None ∷ ss) = settings_of ss
settings_of (Some s ∷ ss) = with_value s.key s.value (settings_of ss)

-- whether a slot is used for the key k
abbrev pub names : ℕ → Option Setting → Bool
names k None = false
names k (Some s) = s.key == k

-- no used slot has the key k
abbrev pub lacks : ℕ → List (Option Setting) → Bool
lacks k [] = true
lacks k (s ∷ ss) = cond (names k s) false (lacks k ss)

-- no two used slots have one key
abbrev pub apart : List (Option Setting) → Bool
apart [] = true
apart (None ∷ ss) = apart ss
apart (Some s ∷ ss) = lacks s.key ss && apart ss

-- a slot that holds v under k
abbrev pub holding : ℕ → ℕ → Option Setting
holding k v = Some (setting k v)

-- how many slots are used
abbrev pub used_in : List (Option Setting) → ℕ
used_in [] = 0
used_in (None ∷ ss) = used_in ss
used_in (Some s ∷ ss) = suc (used_in ss)

-- the slot at i is the one to be written for k
pub record Place (k : ℕ) (ss : List (Option Setting)) (i : ℕ) : Type 0 where
  pub within : i < 128
  pub alone : lacks k (slice_set ss i None) ≡ true
  pub rest : (v : ℕ) → with_value k v (settings_of (slice_set ss i None)) ≡ with_value k v (settings_of ss)
  pub can : room k (settings_of ss) ≡ true

-- each used slot's value may stand under its key
abbrev pub sound : List (Option Setting) → Bool
sound [] = true
sound (None ∷ ss) = sound ss
sound (Some s ∷ ss) = is_setting s.key s.value && sound ss

-- the first slot that passes a test, or that none does
abbrev pub FirstSlot : (Option Setting → Bool) → List (Option Setting) → Option ℕ → Type 0
FirstSlot test ss o =
    MatchOption o ((j : ℕ) → j < length ss → test (slice_index_or ss j None) ≡ false)
    (λ i. (i < length ss) × (test (slice_index_or ss i None) ≡ true) × ((j : ℕ) → j < i → test (slice_index_or ss j None) ≡ false))

-- the slot at i is the one that holds k
pub record Found (k : ℕ) (ss : List (Option Setting)) (i : ℕ) : Type 0 where
  pub within : i < 128
  pub before : lacks k (take i ss) ≡ true
  pub here : names k (slice_index_or ss i None) ≡ true
  pub gone : settings_of (slice_set ss i None) ≡ without k (settings_of ss)
  pub kept : apart (slice_set ss i None) ≡ true
  pub fit : sound (slice_set ss i None) ≡ true

-- no slot holds k
pub record Missing (k : ℕ) (ss : List (Option Setting)) : Type 0 where
  pub lacking : lacks k ss ≡ true
  pub gone : settings_of ss ≡ without k (settings_of ss)
