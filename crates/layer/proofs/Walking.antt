-- The walk over the keys that a layer holds, in ascending order.
use Rattle.std.proofs.Common.{◌≡◌, ℕ, zero, suc, ◌<◌, true, List, [], ◌∷◌, length, Some, None, refl, ap, ⊎_elim, arith}
use Rattle.std.proofs.lemmas.Bool.Decides.{nat_tests}
use Rattle.std.proofs.lemmas.Bool.{cases_lt, eq-eqb, cond-true}
use Rattle.item.specs.Keys.{well_formed}
use Rattle.layer.specs.declared.setting.Setting.{Setting}
use Rattle.layer.specs.Settings.{setting, value_under, key_above, above, Above, Ascends, Sound}
use Rattle.layer.proofs.Stores.{setting_key}

-- a key that is held is above 0

formed_positive : (k : ℕ) → well_formed k ≡ true → 0 < k
formed_positive zero w = absurd (let z : ◌≡◌ {A = ℕ} 0 1 = cc in omega arith)
formed_positive (suc k) w = omega arith

pub above_zero : (ss : List Setting) → Ascends ss → Sound ss → Above 0 ss
above_zero [] a sound = tt
above_zero (s ∷ ss) a sound =
    let is = setting_key s.key s.value (sound s.key s.value (cond-true _ _ _ (eq-eqb s.key s.key refl))) in
    (formed_positive s.key is, a)

-- the next key

pub above_all : (n : ℕ) (ss : List Setting) → Above n ss → above n ss ≡ ss
above_all n [] a = refl
above_all n (s ∷ ss) a = grind (arith, nat_tests)

-- k with v is the first setting above n
abbrev pub Next : ℕ → ℕ → ℕ → List Setting → Type 0
Next n k v ss = (above n ss ≡ setting k v ∷ above k ss) × (n < k) × (value_under k ss ≡ Some v)

pub above_next : (m n k : ℕ) (ss : List Setting) → Above m ss → Some k ≡ key_above n ss → (v : ℕ) × Next n k v ss
above_next m n k [] a e = absurd (let z : ◌≡◌ {A = ℕ} 0 1 = cc in omega arith)
above_next m n k (s ∷ ss) a e =
    ⊎_elim
    (λ lt.
    let is : s.key ≡ k = grind (arith, nat_tests) in
    let all = above_all s.key ss a.1 in
    let next : Next n k s.value (s ∷ ss) = (grind (arith, nat_tests), omega arith, grind (arith, nat_tests)) in (s.value, next))
    (λ le.
    let rest : Some k ≡ key_above n ss = grind (arith, nat_tests) in
    let h = above_next s.key n k ss a.1 rest in
    let v = h.0 in
    let p = h.1.0 in
    let lt = h.1.1 in
    let held = h.1.2 in
    let next : Next n k v (s ∷ ss) = (grind (arith, nat_tests), lt, grind (arith, nat_tests)) in (v, next))
    (cases_lt n s.key)

pub above_shorter : (n k : ℕ) (ss : List Setting) → Ascends ss → Sound ss → Some k ≡ key_above n ss → length (above k ss) < length (above n ss)
above_shorter n k ss a sound e =
    let next = above_next 0 n k ss (above_zero ss a sound) e in
    let longer = ap length next.1.0 in omega arith

-- or there is none
pub above_none : (n : ℕ) (ss : List Setting) → None ≡ key_above n ss → above n ss ≡ []
above_none n [] e = refl
above_none n (s ∷ ss) e = grind (arith, nat_tests, above_none n ss)
