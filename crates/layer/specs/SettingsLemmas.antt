-- Laws of settings.
use Rattle.std.specs.Prelude.{◌≡◌, ℕ, ◌+◌, ◌<◌, ◌≤◌, true, cond, ◌⊎◌, List, [], ◌∷◌, length, Some, None, Option, ◌≢◌, nat_lt, refl, MatchOption}
use Rattle.std.specs.Option.{option_or}
use Rattle.std.proofs.Common.{sym, ap, ◌∙◌, inr, ⊎_elim, arith}
use Rattle.std.proofs.lemmas.Bool.Decides.{nat_tests}
use Rattle.std.proofs.lemmas.Bool.{cases_order}
use Rattle.layer.specs.declared.setting.Setting.{Setting}
use Rattle.layer.specs.Settings.{is_setting, setting, value_under, with_value, without, merged, least, lesser, key_above, Above, Ascends}

pub with_below : (k v : ℕ) (s : Setting) (ss : List Setting) → k < s.key → with_value k v (s ∷ ss) ≡ setting k v ∷ s ∷ ss
with_below k v s ss h = grind (arith, nat_tests)

pub with_at : (k v : ℕ) (s : Setting) (ss : List Setting) → s.key ≡ k → with_value k v (s ∷ ss) ≡ setting k v ∷ ss
with_at k v s ss h = grind (arith, nat_tests)

pub with_past : (k v : ℕ) (s : Setting) (ss : List Setting) → s.key < k → with_value k v (s ∷ ss) ≡ s ∷ with_value k v ss
with_past k v s ss h = grind (arith, nat_tests)

pub value_with_same : (k v : ℕ) (ss : List Setting) → value_under k (with_value k v ss) ≡ Some v
value_with_same k v [] = grind (arith, nat_tests)
value_with_same k v (s ∷ ss) = let h = value_with_same k v ss in grind (arith, nat_tests)

pub value_with_other : (k v j : ℕ) (ss : List Setting) → (j ≢ k) → value_under j (with_value k v ss) ≡ value_under j ss
value_with_other k v j [] ne = grind (arith, nat_tests)
value_with_other k v j (s ∷ ss) ne = let h = value_with_other k v j ss ne in grind (arith, nat_tests)

pub with_twice : (k v w : ℕ) (ss : List Setting) → with_value k v (with_value k w ss) ≡ with_value k v ss
with_twice k v w [] = grind (arith, nat_tests)
with_twice k v w (s ∷ ss) = let h = with_twice k v w ss in grind (arith, nat_tests)

pub with_swap : (k v j w : ℕ) (ss : List Setting) → (j ≢ k) → with_value k v (with_value j w ss) ≡ with_value j w (with_value k v ss)
with_swap k v j w [] ne = grind (arith, nat_tests)
with_swap k v j w (s ∷ ss) ne = let h = with_swap k v j w ss ne in grind (arith, nat_tests)

pub above_with : (n k v : ℕ) (ss : List Setting) → Above n ss → n < k → Above n (with_value k v ss)
above_with n k v [] a h = (h, tt)
above_with n k v (s ∷ ss) a h =
    ⊎_elim
    (λ e. rw (with_at k v s ss (sym e)) (h, rw e a.1))
    (⊎_elim
    (λ lt. rw (with_below k v s ss lt) (h, (lt, a.1)))
    (λ gt. rw (with_past k v s ss gt) (a.0, above_with s.key k v ss a.1 gt)))
    (cases_order k s.key)

pub without_with_same : (k v : ℕ) (ss : List Setting) → without k (with_value k v ss) ≡ without k ss
without_with_same k v [] = grind (arith, nat_tests)
without_with_same k v (s ∷ ss) = let h = without_with_same k v ss in grind (arith, nat_tests)

pub without_none : (k : ℕ) (ss : List Setting) → value_under k ss ≡ None → without k ss ≡ ss
without_none k [] e = refl
without_none k (s ∷ ss) e = grind (arith, nat_tests, without_none k ss)

pub above_lower : (n m : ℕ) (ss : List Setting) → n ≤ m → Above m ss → Above n ss
above_lower n m [] h a = tt
above_lower n m (s ∷ ss) h a = (omega arith, a.1)

pub key_above_with : (n k v : ℕ) (ss : List Setting) → key_above n (with_value k v ss) ≡ cond (nat_lt n k) (least k (key_above n ss)) (key_above n ss)
key_above_with n k v [] = grind (arith, nat_tests)
key_above_with n k v (s ∷ ss) = let h = key_above_with n k v ss in grind (arith, nat_tests)

pub length_with_new : (k v : ℕ) (ss : List Setting) → value_under k ss ≡ None → length (with_value k v ss) ≡ length ss + 1
length_with_new k v [] e = refl
length_with_new k v (s ∷ ss) e = grind (arith, nat_tests, length_with_new k v ss)

pub ascends_with : (k v : ℕ) (ss : List Setting) → Ascends ss → Ascends (with_value k v ss)
ascends_with k v [] a = tt
ascends_with k v (s ∷ ss) a =
    ⊎_elim
    (λ e. rw (with_at k v s ss (sym e)) (rw e a))
    (⊎_elim
    (λ lt. rw (with_below k v s ss lt) (lt, a))
    (λ gt. rw (with_past k v s ss gt) (above_with s.key k v ss a gt)))
    (cases_order k s.key)

pub value_merged_some : (k v : ℕ) (xs ys : List Setting) → value_under k xs ≡ Some v → value_under k (merged xs ys) ≡ Some v
value_merged_some k v [] ys e = absurd (let z : ◌≡◌ {A = ℕ} 0 1 = cc in omega arith)
value_merged_some k v (x ∷ xs) ys e =
    grind (arith, nat_tests, value_merged_some k v xs ys, value_with_same x.key x.value (merged xs ys), value_with_other x.key x.value k (merged xs ys))

pub value_merged_none : (k : ℕ) (xs ys : List Setting) → value_under k xs ≡ None → value_under k (merged xs ys) ≡ value_under k ys
value_merged_none k [] ys e = refl
value_merged_none k (x ∷ xs) ys e = grind (arith, nat_tests, value_merged_none k xs ys, value_with_other x.key x.value k (merged xs ys))

-- the same of each key at once, and where a choice between the two was made
pub value_merged : (k : ℕ) (xs ys : List Setting) → value_under k (merged xs ys) ≡ option_or (value_under k xs) (value_under k ys)
value_merged k xs ys = go (value_under k xs) refl
  where
    go : (o : Option ℕ) → value_under k xs ≡ o → value_under k (merged xs ys) ≡ option_or o (value_under k ys)
    go None is = value_merged_none k xs ys is
    go (Some v) is = value_merged_some k v xs ys is

pub value_chosen : {P : Type 0} (k : ℕ) (xs ys : List Setting) (o r : Option ℕ) → (P → r ≡ value_under k ys) → o ≡ value_under k xs → MatchOption o P (λ x. r ≡ Some x)
    → r ≡ value_under k (merged xs ys)
value_chosen k xs ys None r lower is m = lower m ∙ ap (λ o. option_or o (value_under k ys)) is ∙ sym (value_merged k xs ys)
value_chosen k xs ys (Some v) r lower is m = m ∙ ap (λ o. option_or o (value_under k ys)) is ∙ sym (value_merged k xs ys)

pub ascends_merged : (xs ys : List Setting) → Ascends ys → Ascends (merged xs ys)
ascends_merged [] ys a = a
ascends_merged (x ∷ xs) ys a = ascends_with x.key x.value (merged xs ys) (ascends_merged xs ys a)

pub value_merged_cases : (k v : ℕ) (xs ys : List Setting) → value_under k (merged xs ys) ≡ Some v → (value_under k xs ≡ Some v) ⊎ (value_under k ys ≡ Some v)
value_merged_cases k v [] ys e = inr e
value_merged_cases k v (x ∷ xs) ys e =
    grind (arith, nat_tests, value_merged_cases k v xs ys, value_with_same x.key x.value (merged xs ys), value_with_other x.key x.value k (merged xs ys))

pub ascends_tail : (n : ℕ) (xs : List Setting) → Above n xs → Ascends xs
ascends_tail n [] a = tt
ascends_tail n (x ∷ xs) a = a.1

-- a value that is held already
held_above : (n k v : ℕ) (ss : List Setting) → Above n ss → value_under k ss ≡ Some v → (n < k) × (with_value k v ss ≡ ss)
held_above n k v [] a e = absurd (let z : ◌≡◌ {A = ℕ} 0 1 = cc in omega arith)
held_above n k v (s ∷ ss) a e = let h = held_above s.key k v ss a.1 in grind (arith, nat_tests)

pub with_held_lem : (k v : ℕ) (ss : List Setting) → Ascends ss → value_under k ss ≡ Some v → with_value k v ss ≡ ss
with_held_lem k v [] a e = absurd (let z : ◌≡◌ {A = ℕ} 0 1 = cc in omega arith)
with_held_lem k v (s ∷ ss) a e = let h = held_above s.key k v ss a in grind (arith, nat_tests)

least_least : (m k : ℕ) (o : Option ℕ) → m < k → least m (least k o) ≡ least m o
least_least m k None lt = grind (arith, nat_tests)
least_least m k (Some j) lt = grind (arith, nat_tests)

least_low : (m n : ℕ) (xs : List Setting) (o : Option ℕ) → Above m xs → least m (lesser (key_above n xs) o) ≡ least m o
least_low m n [] o a = refl
least_low m n (x ∷ xs) o a =
    let h = least_low m n xs o (above_lower m x.key xs (omega arith) a.1) in
    let e = least_least m x.key o a.0 in
    grind (arith, nat_tests)

pub key_above_merged : (n : ℕ) (xs ys : List Setting) → Ascends xs → key_above n (merged xs ys) ≡ lesser (key_above n xs) (key_above n ys)
key_above_merged n [] ys a = refl
key_above_merged n (x ∷ xs) ys a =
    let w = key_above_with n x.key x.value (merged xs ys) in
    let h = key_above_merged n xs ys (ascends_tail x.key xs a) in
    let e = least_low x.key n xs (key_above n ys) a in
    grind (arith, nat_tests)

pub merged_with : (k v : ℕ) (xs ys : List Setting) → merged (with_value k v xs) ys ≡ with_value k v (merged xs ys)
merged_with k v [] ys = refl
merged_with k v (x ∷ xs) ys =
    let h = merged_with k v xs ys in
    grind (arith, nat_tests, with_twice k v x.value (merged xs ys), with_swap k v x.key x.value (merged xs ys))

pub merged_assoc : (xs ys zs : List Setting) → merged (merged xs ys) zs ≡ merged xs (merged ys zs)
merged_assoc [] ys zs = refl
merged_assoc (x ∷ xs) ys zs = merged_with x.key x.value (merged xs ys) zs ∙ ap (with_value x.key x.value) (merged_assoc xs ys zs)

with_front : (x : Setting) (xs : List Setting) → Above x.key xs → with_value x.key x.value xs ≡ x ∷ xs
with_front x [] a = refl
with_front x (y ∷ ys) a = with_below x.key x.value y ys a.0

pub merged_nil : (xs : List Setting) → Ascends xs → merged xs [] ≡ xs
merged_nil [] a = refl
merged_nil (x ∷ xs) a = ap (with_value x.key x.value) (merged_nil xs (ascends_tail x.key xs a)) ∙ with_front x xs a

-- no setting at all
pub none_sound : (k v : ℕ) → value_under k [] ≡ Some v → is_setting k v ≡ true
none_sound k v e = let z : ◌≡◌ {A = ℕ} 0 1 = cc in absurd (omega arith)
