-- Settings: values under keys, in ascending key order, at most one under each key. This is what a layer means.
use Rattle.std.specs.Prelude.{◌≡◌, ℕ, ◌<◌, Bool, true, cond, ◌&&◌, List, [], ◌∷◌, Some, None, Option, ◌==◌, nat_lt}
use Rattle.item.specs.Keys.{well_formed, fits_key}
use Rattle.layer.specs.declared.setting.Setting.{Setting}

abbrev pub setting : ℕ → ℕ → Setting
setting k v = record { key = k; value = v }

-- a value that may stand under a key: the key is well formed, and the value fits its size
unfoldable pub is_setting : ℕ → ℕ → Bool
is_setting k v = well_formed k && fits_key k v

-- the value under a key
abbrev pub value_under : ℕ → List Setting → Option ℕ
value_under k [] = None
value_under k (s ∷ ss) = cond (s.key == k) (Some s.value) (value_under k ss)

-- with one value set
abbrev pub with_value : ℕ → ℕ → List Setting → List Setting
with_value k v [] = setting k v ∷ []
with_value k v (s ∷ ss) =
    cond (nat_lt k s.key) (setting k v ∷ s ∷ ss) (cond (s.key == k) (setting k v ∷ ss) (s ∷ with_value k v ss))

-- with one taken away
abbrev pub without : ℕ → List Setting → List Setting
without k [] = []
without k (s ∷ ss) = cond (s.key == k) (without k ss) (s ∷ without k ss)

-- the upper's value, else the lower's
abbrev pub merged : List Setting → List Setting → List Setting
merged [] ys = ys
merged (x ∷ xs) ys = with_value x.key x.value (merged xs ys)

-- the lesser of k and the key that there may be
abbrev pub least : ℕ → Option ℕ → Option ℕ
least k None = Some k
least k (Some m) = Some (cond (nat_lt m k) m k)

-- the lesser of two keys, where there are any
abbrev pub lesser : Option ℕ → Option ℕ → Option ℕ
lesser None o = o
lesser (Some k) o = least k o

-- the least key above a number
abbrev pub key_above : ℕ → List Setting → Option ℕ
key_above n [] = None
key_above n (s ∷ ss) = cond (nat_lt n s.key) (Some s.key) (key_above n ss)

-- the settings from the first key above n on
abbrev pub above : ℕ → List Setting → List Setting
above n [] = []
above n (s ∷ ss) = cond (nat_lt n s.key) (s ∷ ss) (above n ss)

-- each key is above n and above those before it
abbrev pub Above : ℕ → List Setting → Type 0
Above n [] = Unit {0}
Above n (s ∷ ss) = (n < s.key) × Above s.key ss

-- keys ascend
abbrev pub Ascends : List Setting → Type 0
Ascends [] = Unit {0}
Ascends (s ∷ ss) = Above s.key ss

-- each value may stand under its key
abbrev pub Sound : List Setting → Type 0
Sound ss = (k v : ℕ) → value_under k ss ≡ Some v → is_setting k v ≡ true
