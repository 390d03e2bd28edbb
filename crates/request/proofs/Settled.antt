-- Changes of data, and changes of items in their slots.
use Rattle.std.proofs.Common.{◌≡◌, ℕ, zero, suc, ◌<◌, ◌≤◌, cond, eqb, List, [], ◌∷◌, ◌++◌, length, get_or, set, replicate, Some, None, Option, sym, refl, ap, ◌∙◌, ap₂, arith}
use mathlib.Core.Path.{fun_ext}
use Rattle.std.specs.Option.{option_or}
use Rattle.std.proofs.lemmas.Bool.Decides.{nat_tests}
use Rattle.catalogue.specs.declared.entries.Entry.{Entry}
use Rattle.catalogue.specs.Catalogues.{Listed, blank}
use Rattle.reference.specs.Requests.{Data, Changes, latest, and_later}
use Rattle.request.specs.declared.change.Change.{Change}
use Rattle.request.specs.Changes.{change_of, changes_by}
use Rattle.request.specs.Reading.{over}

pub or_none_lem : {A : Type 0} (x : Option A) → option_or x None ≡ x
or_none_lem None = refl
or_none_lem (Some a) = refl

or_assoc : {A : Type 0} (x y z : Option A) → option_or (option_or x y) z ≡ option_or x (option_or y z)
or_assoc None y z = refl
or_assoc (Some a) y z = refl

-- Data behind data: the later stand over the earlier

latest_at : (a b : Data) (k : ℕ) → latest (a ++ b) k ≡ option_or (latest b k) (latest a k)
unfolding latest
latest_at [] b k = sym (or_none_lem (latest b k))
latest_at (c ∷ a) b k =
    let own : Option (Option ℕ) = cond (eqb c.key k) (Some c.value) None in
    ap (λ (x : Option (Option ℕ)). option_or x own) (latest_at a b k) ∙ or_assoc (latest b k) (latest a k) own

pub over_append : (before : Changes) (a b : Data) → and_later before (latest (a ++ b)) ≡ and_later (and_later before (latest a)) (latest b)
over_append before a b =
    fun_ext (λ k. ap (λ (x : Option (Option ℕ)). option_or x (before k)) (latest_at a b k) ∙ or_assoc (latest b k) (latest a k) (before k))

pub over_nil : (before : Changes) → and_later before (latest []) ≡ before
unfolding latest
over_nil before = refl

-- One item's slot

pub key_above_lem : (n : ℕ) (es : List Entry) (i : ℕ) → Listed n es → i < length es → n < (get_or es i blank).key
unfolding Listed
key_above_lem n [] i l lt = absurd (omega arith)
key_above_lem n (e ∷ es) zero l lt = l.0
key_above_lem n (e ∷ es) (suc i) l lt = let a = key_above_lem e.key es i l.3 (omega arith) in omega (arith, l.0)

set_at : (n : ℕ) (es : List Entry) (cs : List (Option Change)) (i : ℕ) (c : Option Change) (k : ℕ) → Listed n es → i < length es → length es ≤ length cs
    → changes_by es (set cs i c) k ≡ cond (eqb (get_or es i blank).key k) (change_of c) (changes_by es cs k)
unfolding Listed
set_at n [] cs i c k l lt le = absurd (omega arith)
set_at n (e ∷ es) [] i c k l lt le = absurd (omega arith)
set_at n (e ∷ es) (x ∷ cs) zero c k l lt le = grind (arith, nat_tests)
set_at n (e ∷ es) (x ∷ cs) (suc i) c k l lt le =
    let h = set_at e.key es cs i c k l.3 (omega arith) (omega arith) in
    let a = key_above_lem e.key es i l.3 (omega arith) in
    grind (arith, nat_tests)

one_latest : (k : ℕ) (v : Option ℕ) (j : ℕ) (before : Option (Option ℕ))
    → cond (eqb k j) (Some v) before ≡ option_or (latest (record { key = k; value = v } ∷ []) j) before
unfolding latest
one_latest k v j before = grind (arith, nat_tests)

-- a change in the slot of an item is one datum more
pub over_one : (es : List Entry) (cs : List (Option Change)) (i : ℕ) (c : Option Change) (k : ℕ) (v : Option ℕ) → Listed 0 es → length es ≤ 128 → length cs ≡ 128 → i < length es
    → (get_or es i blank).key ≡ k → change_of c ≡ Some v → changes_by es (set cs i c) ≡ over es cs (record { key = k; value = v } ∷ [])
over_one es cs i c k v l few whole lt e is =
    fun_ext (λ j.
    set_at 0 es cs i c j l lt (omega arith)
    ∙ ap₂ (λ (x : ℕ) (y : Option (Option ℕ)). cond (eqb x j) y (changes_by es cs j)) e is
    ∙ one_latest k v j (changes_by es cs j))

-- at first no item changes

pub none_at : (es : List Entry) (n k : ℕ) → changes_by es (replicate n None) k ≡ None
none_at [] n k = refl
none_at (e ∷ es) zero k = refl
none_at (e ∷ es) (suc n) k = let h = none_at es n k in grind (arith, nat_tests)

pub over_none : (es : List Entry) (n : ℕ) → over es (replicate n None) ≡ latest
over_none es n =
    fun_ext (λ d. fun_ext (λ k. ap (λ (x : Option (Option ℕ)). option_or (latest d k) x) (none_at es n k) ∙ or_none_lem (latest d k)))
