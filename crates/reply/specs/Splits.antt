-- One pair taken off the front of bytes that hold pairs alone.
use Rattle.std.specs.Prelude.{◌≡◌, ℕ, true, List, [], ◌∷◌, Some, None, Option}
use Rattle.std.specs.Result.{is_ok}
use Rattle.std.specs.Borrow.{Bor}
use Rattle.layer.specs.declared.setting.Setting.{Setting}
use Rattle.reply.specs.Pairs.{pairs_read, settings_in}

-- the pair is the first of those that the bytes hold, and the bytes behind it hold the others; none where they hold none
abbrev pub IsSplit : List ℕ → Option (Setting × Bor (List ℕ)) → Type 0
IsSplit bs None = settings_in bs ≡ []
IsSplit bs (Some (s, rest)) = (is_ok (pairs_read 0 rest.now) ≡ true) × (settings_in bs ≡ s ∷ settings_in rest.now)
