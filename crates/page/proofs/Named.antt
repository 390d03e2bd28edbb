-- The keys that a selector names: there are some where it names an item's place.
use Rattle.std.proofs.Common.{◌≡◌, ℕ, suc, Bool, true, false, cond, List, [], ◌∷◌, refl}
use Rattle.item.specs.declared.selector.Selector.{Selector}
use Rattle.item.specs.Selectors.{names}
use Rattle.catalogue.specs.declared.entries.Entry.{Entry}
use Rattle.catalogue.specs.Catalogues.{named}
use Rattle.reference.specs.Requests.{keys_named}

pub named_none : (s : Selector) (place : ℕ) (es : List Entry) → named s place es ≡ [] → keys_named s es ≡ []
unfolding keys_named
named_none s place [] e = refl
named_none s place (x ∷ xs) e = go (names s x.key) (named_none s (suc place) xs) e
  where
    go : (b : Bool) → (named s (suc place) xs ≡ [] → keys_named s xs ≡ []) → cond b (place ∷ named s (suc place) xs) (named s (suc place) xs) ≡ [] → cond b (x.key ∷ keys_named s xs) (keys_named s xs) ≡ []
    go true ih h = absurd (cc)
    go false ih h = ih h

pub named_some : (s : Selector) (place i : ℕ) (es : List Entry) (is : List ℕ) → named s place es ≡ i ∷ is → (k : ℕ) × (ks : List ℕ) × (keys_named s es ≡ k ∷ ks)
unfolding keys_named
named_some s place i [] is e = absurd (cc)
named_some s place i (x ∷ xs) is e = go (names s x.key) (named_some s (suc place) i xs is) e
  where
    go : (b : Bool) → (named s (suc place) xs ≡ i ∷ is → (k : ℕ) × (ks : List ℕ) × (keys_named s xs ≡ k ∷ ks)) → cond b (place ∷ named s (suc place) xs) (named s (suc place) xs) ≡ i ∷ is
        → (k : ℕ) × (ks : List ℕ) × (cond b (x.key ∷ keys_named s xs) (keys_named s xs) ≡ k ∷ ks)
    go true ih h = (x.key, keys_named s xs, refl)
    go false ih h = ih h
