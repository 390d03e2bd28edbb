-- A value that may stand under its key fits it.
use Rattle.std.proofs.Common.{◌≡◌, ℕ, true, arith}
use Rattle.std.proofs.lemmas.Bool.Decides.{nat_tests}
use Rattle.item.specs.Keys.{fits_key}
use Rattle.layer.specs.Settings.{is_setting}

pub setting_fits : (k v : ℕ) → is_setting k v ≡ true → fits_key k v ≡ true
unfolding is_setting
setting_fits k v h = grind (arith, nat_tests)
