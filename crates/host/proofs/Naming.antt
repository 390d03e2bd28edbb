-- When the premises of what is heard hold: each key of a set is in the catalogue, each number of a delete or get names a key of it.
use Rattle.std.proofs.Common.{◌≡◌, ℕ, suc, ◌<◌, true, ◌&&◌, List, [], ◌∷◌, length, get_or, refl, ap₂, arith}
use Rattle.std.specs.Prelude.{◌≢◌}
use Rattle.item.specs.Selectors.{selector_of}
use Rattle.layer.specs.declared.setting.Setting.{Setting}
use Rattle.reference.specs.Requests.{Catalogue, is_known, keys_named}
use Rattle.host.specs.Heard.{all_known, some_key, all_name}

pub each_known : (cat : Catalogue) (d : Setting) (ss : List Setting) → ((i : ℕ) → i < length ss → is_known cat (get_or ss i d).key ≡ true) → all_known cat ss ≡ true
each_known cat d [] each = refl
each_known cat d (s ∷ ss) each = ap₂ (◌&&◌) (each 0 (omega arith)) (each_known cat d ss (λ i lt. each (suc i) (omega (arith, lt))))

some : (ks : List ℕ) → ks ≢ [] → some_key ks ≡ true
some [] ne = absurd (ne refl)
some (k ∷ ks) ne = refl

pub each_names : (cat : Catalogue) (ns : List ℕ) → ((i : ℕ) → i < length ns → keys_named (selector_of (get_or ns i 0)) cat ≢ []) → all_name cat ns ≡ true
each_names cat [] each = refl
each_names cat (n ∷ ns) each = ap₂ (◌&&◌) (some (keys_named (selector_of n) cat) (each 0 (omega arith))) (each_names cat ns (λ i lt. each (suc i) (omega (arith, lt))))
