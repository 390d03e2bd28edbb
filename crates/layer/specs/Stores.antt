-- What a store answers, and what it holds after.
use Rattle.std.specs.Prelude.{◌≡◌, ℕ, ◌≤◌, Bool, true, false, cond, List, [], length, is_some, is_ok, Some, None, Ok, Err, Option, Result, ◌==◌, nat_lt}
use Rattle.item.specs.Keys.{well_formed, fits_key}
use Rattle.layer.specs.declared.setting.Setting.{Setting}
use Rattle.layer.specs.declared.fault.StoreFault.{StoreFault}
use Rattle.layer.specs.declared.fault.StoreFault.TheVariants.{Unusable, IllFormedKey, Unfit, Full}
use Rattle.layer.specs.Settings.{value_under, with_value, without}

-- each refusal's number
abbrev pub refusal_number : StoreFault → ℕ
refusal_number Unusable = 27
refusal_number IllFormedKey = 28
refusal_number Unfit = 29
refusal_number Full = 30

-- whether a value can be put under k: one is held there already, or fewer than 128 are held
abbrev pub room : ℕ → List Setting → Bool
room k ss = cond (is_some (value_under k ss)) true (nat_lt (length ss) 128)

-- what writing answers, with the refusals in their order
abbrev pub put_answer : Bool → ℕ → ℕ → List Setting → Result (Unit {0}) StoreFault
put_answer usable k v ss =
    cond usable (cond (well_formed k) (cond (fits_key k v) (cond (room k ss) (Ok tt) (Err Full)) (Err Unfit)) (Err IllFormedKey)) (Err Unusable)

abbrev pub remove_answer : Bool → ℕ → Result (Unit {0}) StoreFault
remove_answer usable k = cond usable (cond (well_formed k) (Ok tt) (Err IllFormedKey)) (Err Unusable)

abbrev pub clear_answer : Bool → Result (Unit {0}) StoreFault
clear_answer usable = cond usable (Ok tt) (Err Unusable)

-- what is held after: the change where it is granted, else what was held before
abbrev pub after_put : Result (Unit {0}) StoreFault → ℕ → ℕ → List Setting → List Setting
after_put r k v ss = cond (is_ok r) (with_value k v ss) ss

abbrev pub after_remove : Result (Unit {0}) StoreFault → ℕ → List Setting → List Setting
after_remove r k ss = cond (is_ok r) (without k ss) ss

abbrev pub after_clear : Result (Unit {0}) StoreFault → List Setting → List Setting
after_clear r ss = cond (is_ok r) [] ss

-- whether v is what is held
abbrev pub is_held : ℕ → Option ℕ → Bool
is_held v None = false
is_held v (Some w) = w == v

-- a mark shows at most 128 settings, and none where it is not usable
pub record Shows (usable : Bool) (ss : List Setting) : Type 0 where
  pub few : length ss ≤ 128
  pub idle : usable ≡ false → ss ≡ []

-- these settings are some others with v put under k
pub record WasPut (k v : ℕ) (ss : List Setting) : Type 0 where
  pub before : List Setting
  pub put : ss ≡ with_value k v before

-- what putting v and asking for it answers: the value where putting is granted, else its refusal
abbrev pub AskedAs : ℕ → Result (Unit {0}) StoreFault → Result (Option ℕ) StoreFault → Type 0
AskedAs v granted (Ok o) = (o ≡ Some v) × (Ok tt ≡ granted)
AskedAs v granted (Err e) = Err e ≡ granted
