-- Settings in ascending order: what is put behind the last, and what is taken away.
use Rattle.std.proofs.Common.{◌≡◌, ℕ, ◌+◌, ◌<◌, ◌≤◌, Bool, true, false, cond, ◌==◌, List, [], ◌∷◌, ◌++◌, length, Some, None, Option, sym, refl, ap, ◌∙◌, ⊎_elim, arith}
use Rattle.std.specs.List.{AllByRecursion}
use Rattle.std.proofs.lemmas.Bool.Decides.{nat_tests}
use Rattle.std.proofs.lemmas.Bool.{cases_order, cond-true, eq-eqb}
use Rattle.layer.specs.declared.setting.Setting.{Setting}
use Rattle.layer.specs.Settings.{is_setting, setting, value_under, with_value, without, Above, Sound}
use Rattle.layer.specs.SettingsLemmas.{with_below, with_at, with_past, without_none, above_lower}
use Rattle.layer.specs.Stores.{room}

pub value_below : (n k : ℕ) (ss : List Setting) → Above n ss → k ≤ n → value_under k ss ≡ None
value_below n k [] a le = refl
value_below n k (s ∷ ss) a le = grind (arith, nat_tests, value_below s.key k ss a.1)

-- a setting behind the last
pub above_end : (n : ℕ) (xs ys : List Setting) (y : Setting) → Above n (xs ++ y ∷ ys) → n < y.key
above_end n [] ys y a = a.0
above_end n (x ∷ xs) ys y a = let rest = above_end x.key xs ys y a.1 in omega (arith, a.0)

pub with_end : (n : ℕ) (xs ys : List Setting) (y : Setting) → Above n (xs ++ y ∷ ys) → with_value y.key y.value xs ≡ xs ++ y ∷ []
with_end n [] ys y a = refl
with_end n (x ∷ xs) ys y a = with_past y.key y.value x xs (above_end x.key xs ys y a.1) ∙ ap (λ (zs : List Setting). x ∷ zs) (with_end x.key xs ys y a.1)

pub none_end : (n : ℕ) (xs ys : List Setting) (y : Setting) → Above n (xs ++ y ∷ ys) → value_under y.key xs ≡ None
none_end n [] ys y a = refl
none_end n (x ∷ xs) ys y a = let rest = none_end x.key xs ys y a.1 in let lt = above_end x.key xs ys y a.1 in grind (arith, nat_tests)

pub room_end : (n : ℕ) (xs ys : List Setting) (y : Setting) → Above n (xs ++ y ∷ ys) → length xs < 128 → room y.key xs ≡ true
room_end n xs ys y a few = let none = none_end n xs ys y a in grind (arith, nat_tests)

-- what is taken away
pub above_without : (n k : ℕ) (ss : List Setting) → Above n ss → Above n (without k ss)
above_without n k [] a = tt
above_without n k (s ∷ ss) a =
    ⊎_elim
    (λ e.
    let gone : without k (s ∷ ss) ≡ without k ss = grind (arith, nat_tests) in
    rw gone (above_lower n s.key _ (omega (arith, a.0)) (above_without s.key k ss a.1)))
    (λ ne.
    let kept : without k (s ∷ ss) ≡ s ∷ without k ss = ⊎_elim (λ lt. grind (arith, nat_tests)) (λ gt. grind (arith, nat_tests)) ne in
    rw kept (a.0, above_without s.key k ss a.1))
    (cases_order s.key k)

pub all_without : (k : ℕ) (ss : List Setting) → AllByRecursion (λ s. is_setting s.key s.value ≡ true) ss → AllByRecursion (λ s. is_setting s.key s.value ≡ true) (without k ss)
all_without k [] all = tt
all_without k (s ∷ ss) all = go (s.key == k) (all_without k ss all.1)
  where
    go : (b : Bool) → AllByRecursion (λ s. is_setting s.key s.value ≡ true) (without k ss) → AllByRecursion (λ s. is_setting s.key s.value ≡ true) (cond b (without k ss) (s ∷ without k ss))
    go true rest = rest
    go false rest = (all.0, rest)

pub length_without : (k : ℕ) (ss : List Setting) → length (without k ss) ≤ length ss
length_without k [] = omega arith
length_without k (s ∷ ss) = let h = length_without k ss in grind (arith, nat_tests)

pub length_without_held : (k v : ℕ) (ss : List Setting) → value_under k ss ≡ Some v → length (without k ss) + 1 ≤ length ss
length_without_held k v [] e = absurd (let z : ◌≡◌ {A = ℕ} 0 1 = cc in omega arith)
length_without_held k v (s ∷ ss) e = let h = length_without k ss in grind (arith, nat_tests, length_without_held k v ss)

pub without_twice : (k : ℕ) (ss : List Setting) → without k (without k ss) ≡ without k ss
without_twice k [] = refl
without_twice k (s ∷ ss) = let h = without_twice k ss in grind (arith, nat_tests)

-- where there is room for a value, at most 127 others are held
pub few_others : (k : ℕ) (ss : List Setting) → length ss ≤ 128 → room k ss ≡ true → length (without k ss) ≤ 127
few_others k ss few can = go (value_under k ss) refl
  where
    go : (o : Option ℕ) → value_under k ss ≡ o → length (without k ss) ≤ 127
    go None e = let fewer : length ss < 128 = grind (arith, nat_tests) in omega (arith, length_without k ss)
    go (Some v) e = omega (arith, length_without_held k v ss e)

-- what is put again after it was taken away
with_above : (k v : ℕ) (ss : List Setting) → Above k ss → with_value k v ss ≡ setting k v ∷ ss
with_above k v [] a = refl
with_above k v (s ∷ ss) a = with_below k v s ss a.0

pub with_without : (n k v : ℕ) (ss : List Setting) → Above n ss → with_value k v (without k ss) ≡ with_value k v ss
with_without n k v [] a = refl
with_without n k v (s ∷ ss) a =
    ⊎_elim
    (λ e.
    let none = without_none k ss (value_below s.key k ss a.1 (omega arith)) in
    let gone : without k (s ∷ ss) ≡ without k ss = grind (arith, nat_tests) in
    ap (with_value k v) (gone ∙ none) ∙ with_above k v ss (above_lower k s.key ss (omega arith) a.1) ∙ sym (with_at k v s ss (sym e)))
    (⊎_elim
    (λ lt. ap (with_value k v) (without_none k (s ∷ ss) (value_below k k (s ∷ ss) (lt, a.1) (omega arith))))
    (λ gt. let h = with_without s.key k v ss a.1 in grind (arith, nat_tests)))
    (cases_order k s.key)

-- each setting that is held may stand
pub all_settings : (n : ℕ) (ss : List Setting) → Above n ss → Sound ss → AllByRecursion (λ s. is_setting s.key s.value ≡ true) ss
all_settings n [] a sound = tt
all_settings n (s ∷ ss) a sound = (
  sound s.key s.value (cond-true _ _ _ (eq-eqb s.key s.key refl)),
  all_settings s.key ss a.1 (λ k v e. sound k v (later k v e)),
)
  where
    later : (k v : ℕ) → value_under k ss ≡ Some v → value_under k (s ∷ ss) ≡ Some v
    later k v e = grind (arith, nat_tests, value_below s.key k ss a.1)
