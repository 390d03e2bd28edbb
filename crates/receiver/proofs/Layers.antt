-- What the layers hold, by their numbers.
use Rattle.std.proofs.Common.{◌≡◌, ℕ, Bool, true, false, List, [], ◌∷◌, Some, None, Option, sym, refl, ap, ◌∙◌, arith}
use Rattle.std.proofs.lemmas.Bool.Decides.{nat_tests}
use Rattle.layer.specs.declared.setting.Setting.{Setting}
use Rattle.std.specs.Bool.{then_some}
use Rattle.std.specs.Option.{option_map}
use Rattle.layer.specs.Settings.{setting}
use Rattle.catalogue.specs.declared.entries.Entry.{Entry}
use Rattle.store.specs.Catalogued.{defaults_of}
use Rattle.reference.specs.Stores.{Settings}
use Rattle.reference.specs.Parts.{settings_by, default_of}
use Rattle.reference.specs.Requests.{Catalogue}
use Rattle.reference.specs.Receiver.{State, layer_of}

defaults_by : (es : List Entry) → defaults_of es ≡ settings_by default_of es
unfolding settings_by
defaults_by [] = refl
defaults_by (e ∷ es) = ap (λ (l : List Setting). setting e.key e.default ∷ l) (defaults_by es)

module _ (cat : Catalogue) (s : State) (n : ℕ) where
  pub layer_ram : n ≡ 0 → Some s.ram.settings ≡ layer_of cat s n
  unfolding layer_of
  layer_ram e = grind (arith, nat_tests)

  pub layer_bbr : n ≡ 1 → Some s.bbr.settings ≡ layer_of cat s n
  unfolding layer_of
  layer_bbr e = grind (arith, nat_tests)

  pub layer_flash : {A : Type 0} (f : A → Settings) (x : A) (b : Bool) → n ≡ 2 → b ≡ s.flash.usable → f x ≡ s.flash.settings → option_map f (then_some b x) ≡ layer_of cat s n
  unfolding layer_of
  layer_flash f x true e u is = grind (arith, nat_tests)
  layer_flash f x false e u is = grind (arith, nat_tests)

  pub layer_defaults : n ≡ 7 → Some (defaults_of cat) ≡ layer_of cat s n
  unfolding layer_of
  layer_defaults e = let d = defaults_by cat in grind (arith, nat_tests)

  pub layer_none : (n ≡ 0 → ⊥) → (n ≡ 1 → ⊥) → (n ≡ 2 → ⊥) → (n ≡ 7 → ⊥) → None ≡ layer_of cat s n
  unfolding layer_of
  layer_none a b c d = grind (arith, nat_tests)

-- a layer that there is, and none

pub named_some : {A : Type 0} (f : A → Settings) (o : Option A) (l : Option Settings) (x : A) → option_map f o ≡ l → o ≡ Some x → Some (f x) ≡ l
named_some f o l x e is = ap (option_map f) (sym is) ∙ e

pub named_none : {A : Type 0} (f : A → Settings) (o : Option A) (l : Option Settings) → option_map f o ≡ l → o ≡ None → None ≡ l
named_none f o l e is = ap (option_map f) (sym is) ∙ e

pub ruleset by_number = (layer_ram, layer_bbr, layer_flash, layer_defaults, layer_none)
