-- One write to a store, from what the store answers and holds after.
use Rattle.std.proofs.Common.{◌≡◌, ℕ, Bool, List, Result, ap, ◌∙◌}
use Rattle.layer.specs.declared.setting.Setting.{Setting}
use Rattle.layer.specs.declared.fault.StoreFault.{StoreFault}
use Rattle.layer.specs.Stores.{put_answer, remove_answer, clear_answer, after_put, after_remove, after_clear}
use Rattle.reference.specs.Stores.{put, removed, cleared}

module _ (u w : Bool) (ss ts : List Setting) (r : Result (Unit {0}) StoreFault) (mark : w ≡ u) where
  pub put_is : (k v : ℕ) → r ≡ put_answer u k v ss → ts ≡ after_put r k v ss
      → record { usable = w; settings = ts } ≡ put (record { usable = u; settings = ss }) k v
  unfolding put
  put_is k v answer after = λ i. record { usable = mark i; settings = (after ∙ ap (λ a. after_put a k v ss) answer) i }

  pub removed_is : (k : ℕ) → r ≡ remove_answer u k → ts ≡ after_remove r k ss
      → record { usable = w; settings = ts } ≡ removed (record { usable = u; settings = ss }) k
  unfolding removed
  removed_is k answer after = λ i. record { usable = mark i; settings = (after ∙ ap (λ a. after_remove a k ss) answer) i }

  pub cleared_is : r ≡ clear_answer u → ts ≡ after_clear r ss → record { usable = w; settings = ts } ≡ cleared (record { usable = u; settings = ss })
  unfolding cleared
  cleared_is answer after = λ i. record { usable = mark i; settings = (after ∙ ap (λ a. after_clear a ss) answer) i }
