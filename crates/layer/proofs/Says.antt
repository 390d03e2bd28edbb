-- What is said of a value that was put and asked for, and of what a store shows.
use Rattle.std.proofs.Common.{◌≡◌, ℕ, ◌≤◌, Bool, false, List, [], length, Some, Ok, Err, Option, Result, refl}
use Rattle.layer.specs.declared.fault.StoreFault.{StoreFault}
use Rattle.layer.specs.declared.setting.Setting.{Setting}
use Rattle.layer.specs.Stores.{Shows, AskedAs}

-- the value is answered, and putting it was granted
pub asked_says : (v : ℕ) (granted : Result (Unit {0}) StoreFault) (o : Option ℕ) → AskedAs v granted (Ok o) → (o ≡ Some v) × (Ok tt ≡ granted)
asked_says v granted o h = h

pub not_put_says : (v : ℕ) (granted : Result (Unit {0}) StoreFault) (e : StoreFault) → AskedAs v granted (Err e) → Err e ≡ granted
not_put_says v granted e h = h

-- a store shows at most 128 settings, and none where it is not usable
pub few_says : (usable : Bool) (ss : List Setting) → Shows usable ss → length ss ≤ 128
few_says usable ss h = h.few

pub idle_says : (ss : List Setting) → Shows false ss → ss ≡ []
idle_says ss h = h.idle refl
