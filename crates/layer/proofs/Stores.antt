-- What a store answers.
use Rattle.std.proofs.Common.{◌≡◌, ℕ, Bool, true, false, cond, ltb, List, [], length, is_some, Some, None, Ok, Option, sym, refl, ap, ◌∙◌, arith}
use Rattle.std.proofs.lemmas.Bool.{and_parts, and_from, cond-true}
use Rattle.item.specs.Keys.{well_formed, fits_key}
use Rattle.layer.specs.declared.setting.Setting.{Setting}
use Rattle.layer.specs.Settings.{is_setting, value_under}
use Rattle.layer.specs.Stores.{room, put_answer, Shows}

-- a key and a value that make a setting
pub setting_key : (k v : ℕ) → is_setting k v ≡ true → well_formed k ≡ true
unfolding is_setting
setting_key k v h = (and_parts (well_formed k) (fits_key k v) h).0

pub setting_fits : (k v : ℕ) → is_setting k v ≡ true → fits_key k v ≡ true
unfolding is_setting
setting_fits k v h = (and_parts (well_formed k) (fits_key k v) h).1

pub setting_from : (k v : ℕ) → well_formed k ≡ true → fits_key k v ≡ true → is_setting k v ≡ true
unfolding is_setting
setting_from k v w f = and_from (well_formed k) (fits_key k v) w f

-- what is held already can be put
pub held_room : (k v : ℕ) (ss : List Setting) → value_under k ss ≡ Some v → room k ss ≡ true
held_room k v ss e = ap (λ (o : Option ℕ). cond (is_some o) true (ltb (length ss) 128)) e

pub put_held : (usable : Bool) (k v : ℕ) (ss : List Setting) → (usable ≡ false → ss ≡ []) → is_setting k v ≡ true → value_under k ss ≡ Some v → Ok tt ≡ put_answer usable k v ss
put_held false k v ss idle sound e =
    let n : None ≡ Some v = sym (ap (value_under k) (idle refl)) ∙ e in
    let z : ◌≡◌ {A = ℕ} 0 1 = cc in absurd (omega arith)
put_held true k v ss idle sound e =
    sym (cond-true _ _ _ (setting_key k v sound) ∙ cond-true _ _ _ (setting_fits k v sound) ∙ cond-true _ _ _ (held_room k v ss e))

-- what is not usable and holds nothing
pub nothing_shows : Shows false []
nothing_shows = record { few = omega arith; idle = λ e. refl }
