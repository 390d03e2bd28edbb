-- The defaults of a catalogue: a lawful layer, and what it answers.
use Rattle.std.specs.Prelude.{◌≡◌, ℕ, Bool, true, false, cond, List, [], ◌∷◌, is_ok, Some, ◌==◌, nat_lt, find, refl}
use Rattle.std.specs.Option.{option_map}
use Rattle.std.proofs.lemmas.Bool.Decides.{nat_tests}
use Rattle.std.proofs.Common.{subst, arith}
use Rattle.std.proofs.lemmas.Bool.{and_parts, eqb-true}
use Rattle.item.specs.Keys.{well_formed, fits_key}
use Rattle.catalogue.specs.Catalogues.{kind_suits, read_fits, allows, is_sound, entries_checked, Listed}
use Rattle.catalogue.specs.declared.entries.Entry.{Entry}
use Rattle.catalogue.proofs.Catalogues.{checked_listed}
use Rattle.layer.specs.Settings.{is_setting, value_under, key_above, Above, Ascends, Sound}
use Rattle.store.specs.Catalogued.{defaults_of}
use Rattle.layer.specs.SettingsLemmas.{none_sound, ascends_tail}
use Rattle.layer.proofs.Stores.{setting_from}

-- The laws

default_setting : (e : Entry) → well_formed e.key ≡ true → is_sound e ≡ true → is_setting e.key e.default ≡ true
default_setting e w s =
    let read = (and_parts (read_fits e) (allows e e.default) (and_parts (kind_suits e) _ s).1).0 in
    setting_from e.key e.default w (and_parts (fits_key e.key e.default) _ read).0

listed_above : (n : ℕ) (es : List Entry) → Listed n es → Above n (defaults_of es)
unfolding Listed
listed_above n [] l = tt
listed_above n (e ∷ es) l = (l.0, listed_above e.key es l.3)

listed_sound : (n : ℕ) (es : List Entry) → Listed n es → Sound (defaults_of es)
unfolding Listed
listed_sound n [] l k v = none_sound k v
listed_sound n (e ∷ es) l k v = go (e.key == k) refl (listed_sound e.key es l.3 k v)
  where
    go : (b : Bool) → (e.key == k) ≡ b → (value_under k (defaults_of es) ≡ Some v → is_setting k v ≡ true)
        → cond b (Some e.default) (value_under k (defaults_of es)) ≡ Some v → is_setting k v ≡ true
    go false is ih h = ih h
    go true is ih h =
        let same : e.key ≡ k = eqb-true e.key k is in
        let value : e.default ≡ v = cc in
        subst (λ x. is_setting k x ≡ true) value (subst (λ x. is_setting x e.default ≡ true) same (default_setting e l.1 l.2))

pub defaults_ascend : (es : List Entry) → is_ok (entries_checked 0 0 es) ≡ true → Ascends (defaults_of es)
defaults_ascend es e = ascends_tail 0 (defaults_of es) (listed_above 0 es (checked_listed es e))

pub defaults_sound : (es : List Entry) → is_ok (entries_checked 0 0 es) ≡ true → Sound (defaults_of es)
defaults_sound es e = listed_sound 0 es (checked_listed es e)

-- What the first entry that passes a test gives

pub value_found : (k : ℕ) (es : List Entry) → option_map (λ e. e.default) (find (λ e. e.key == k) es) ≡ value_under k (defaults_of es)
value_found k [] = refl
value_found k (e ∷ es) = grind (arith, nat_tests, value_found k es)

pub key_found : (n : ℕ) (es : List Entry) → option_map (λ e. e.key) (find (λ e. nat_lt n e.key) es) ≡ key_above n (defaults_of es)
key_found n [] = refl
key_found n (e ∷ es) = grind (arith, nat_tests, key_found n es)
