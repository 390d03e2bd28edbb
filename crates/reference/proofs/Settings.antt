-- What putting and removing leave under each key, and how many settings ascending keys of a catalogue can be.
use Rattle.std.proofs.Common.{◌≡◌, ℕ, ◌<◌, ◌≤◌, true, cond, eqb, ltb, ◌⊎◌, [], ◌∷◌, length, Some, None, refl, subst, inl, inr, ⊎_elim, arith}
use Rattle.std.specs.List.{AllByRecursion}
use Rattle.std.proofs.lemmas.Bool.{eqb-true, eq-eqb, cond_both, or_left, or_right, or_cases}
use Rattle.std.proofs.lemmas.Bool.Decides.{nat_tests}
use Rattle.item.specs.Keys.{well_formed}
use Rattle.layer.specs.declared.setting.Setting.{Setting}
use Rattle.layer.specs.Settings.{setting, value_under, with_value, without, Above, Ascends}
use Rattle.layer.specs.SettingsLemmas.{value_with_same, value_with_other, above_lower}
use Rattle.catalogue.specs.declared.entries.Entry.{Entry}
use Rattle.catalogue.specs.Catalogues.{Listed}
use Rattle.reference.specs.Stores.{Settings}
use Rattle.reference.specs.Requests.{Catalogue, is_known}

-- Under each key

pub value_with : (k v j : ℕ) (ss : Settings) → value_under j (with_value k v ss) ≡ cond (eqb k j) (Some v) (value_under j ss)
value_with k v j ss = grind (arith, nat_tests, value_with_same, value_with_other)

pub value_without : (k j : ℕ) (ss : Settings) → value_under j (without k ss) ≡ cond (eqb k j) None (value_under j ss)
value_without k j [] = grind (arith, nat_tests)
value_without k j (s ∷ ss) = let h = value_without k j ss in grind (arith, nat_tests)

-- Ascending keys of a catalogue

abbrev pub KnownIn : Catalogue → Setting → Type 0
KnownIn cat s = is_known cat s.key ≡ true

pub above_without : (n k : ℕ) (ss : Settings) → Above n ss → Above n (without k ss)
above_without n k [] h = tt
above_without n k (s ∷ ss) h =
    cond_both (eqb s.key k) _ _ (Above n)
    (λ same. above_without n k ss (above_lower n s.key ss (omega arith) h.1))
    (λ other. (h.0, above_without s.key k ss h.1))

pub all_with : (P : Setting → Type 0) (k v : ℕ) (ss : Settings) → P (setting k v) → AllByRecursion P ss → AllByRecursion P (with_value k v ss)
all_with P k v [] p h = (p, tt)
all_with P k v (s ∷ ss) p h =
    cond_both (ltb k s.key) _ _ (AllByRecursion P) (λ less. (p, h))
    (λ more. cond_both (eqb s.key k) _ _ (AllByRecursion P) (λ same. (p, h.1)) (λ other. (h.0, all_with P k v ss p h.1)))

pub all_without : (P : Setting → Type 0) (k : ℕ) (ss : Settings) → AllByRecursion P ss → AllByRecursion P (without k ss)
all_without P k [] h = tt
all_without P k (s ∷ ss) h = cond_both (eqb s.key k) _ _ (AllByRecursion P) (λ same. all_without P k ss h.1) (λ other. (h.0, all_without P k ss h.1))

-- the first entry's key is known, and so are those of the entries behind it
pub known_first : (x : Entry) (es : Catalogue) → is_known (x ∷ es) x.key ≡ true
unfolding is_known
known_first x es = or_left _ _ (eq-eqb x.key x.key refl)

pub known_behind : (x : Entry) (es : Catalogue) (k : ℕ) → is_known es k ≡ true → is_known (x ∷ es) k ≡ true
unfolding is_known
known_behind x es k is = or_right _ _ is

pub known_ways : (x : Entry) (es : Catalogue) (k : ℕ) → is_known (x ∷ es) k ≡ true → (x.key ≡ k) ⊎ (is_known es k ≡ true)
unfolding is_known
known_ways x es k is = ⊎_elim (λ same. inl (eqb-true x.key k same)) (λ other. inr other) (or_cases (eqb x.key k) (is_known es k) is)

-- a known key is above what the catalogue ascends from, and well formed
pub known_above : (es : Catalogue) (n k : ℕ) → Listed n es → is_known es k ≡ true → n < k
unfolding is_known Listed
known_above [] n k l e = cc
known_above (x ∷ es) n k l e = ⊎_elim (λ same. omega (arith, l.0)) (λ is. let above = known_above es x.key k l.3 is in omega (arith, l.0)) (known_ways x es k e)

pub known_formed : (es : Catalogue) (n k : ℕ) → Listed n es → is_known es k ≡ true → well_formed k ≡ true
unfolding is_known Listed
known_formed [] n k l e = cc
known_formed (x ∷ es) n k l e = ⊎_elim (λ same. subst (λ n. well_formed n ≡ true) same l.1) (known_formed es x.key k l.3) (known_ways x es k e)

-- so ascending known keys ascend from above 0
pub above_none : (cat : Catalogue) (ss : Settings) → Listed 0 cat → Ascends ss → AllByRecursion (KnownIn cat) ss → Above 0 ss
above_none cat [] l a h = tt
above_none cat (s ∷ ss) l a h = (known_above cat 0 s.key l h.0, a)

known_rest : (x : Entry) (es : Catalogue) (k : ℕ) → x.key < k → is_known (x ∷ es) k ≡ true → is_known es k ≡ true
known_rest x es k lt e = ⊎_elim (λ same. absurd (omega arith)) (λ is. is) (known_ways x es k e)

all_rest : (x : Entry) (es : Catalogue) (ss : Settings) (n : ℕ) → x.key ≤ n → Above n ss → AllByRecursion (KnownIn (x ∷ es)) ss → AllByRecursion (KnownIn es) ss
all_rest x es [] n le h k = tt
all_rest x es (s ∷ ss) n le h k = (known_rest x es s.key (omega arith) k.0, all_rest x es ss s.key (omega arith) h.1 k.1)

-- they are at most as many as the entries
pub few : (cat : Catalogue) (ss : Settings) (a b : ℕ) → Listed a cat → Above b ss → AllByRecursion (KnownIn cat) ss → length ss ≤ length cat
unfolding is_known Listed
few cat [] a b c h k = omega arith
few [] (s ∷ ss) a b c h k = let known = k.0 in cc
few (x ∷ es) (s ∷ ss) a b c h k =
    ⊎_elim
    (λ same. omega (arith, few es ss x.key s.key c.3 h.1 (all_rest x es ss s.key (omega arith) h.1 k.1)))
    (λ is.
    let above = known_above es x.key s.key c.3 is in
    let n : length (s ∷ ss) ≤ length es = few es (s ∷ ss) x.key x.key c.3 (above, h.1) (is, all_rest x es ss s.key (omega arith) h.1 k.1) in
    omega arith)
    (known_ways x es s.key k.0)
