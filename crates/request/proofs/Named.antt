-- The keys that a selector names, by the places of their items.
use Rattle.std.proofs.Common.{◌≡◌, ℕ, suc, ◌+◌, ◌-◌, Bool, true, false, cond, List, [], ◌∷◌, map, length, get_or, drop, sym, refl, ap, ◌∙◌, ap₂, arith}
use Rattle.std.proofs.lemmas.List.{drop_more, length-drop}
use Rattle.item.specs.declared.selector.Selector.{Selector}
use Rattle.item.specs.Selectors.{names}
use Rattle.catalogue.specs.declared.entries.Entry.{Entry}
use Rattle.catalogue.specs.Catalogues.{blank, key_at, named, named_from}
use Rattle.reference.specs.Requests.{keys_named}

map_if : (f : ℕ → ℕ) (b : Bool) (k i : ℕ) (ks is : List ℕ) → f i ≡ k → ks ≡ map f is → cond b (k ∷ ks) ks ≡ map f (cond b (i ∷ is) is)
map_if f true k i ks is e h = ap₂ (λ (x : ℕ) (xs : List ℕ). x ∷ xs) (sym e) h
map_if f false k i ks is e h = h

keys_from_lem : (s : Selector) (es xs : List Entry) (from : ℕ) → drop from es ≡ xs → keys_named s xs ≡ map (key_at es) (named s from xs)
unfolding keys_named
keys_from_lem s es [] from e = refl
keys_from_lem s es (x ∷ xs) from e =
    let long : length es - from ≡ suc (length xs) = sym (length-drop from es) ∙ ap length e in
    let both : get_or es from blank ∷ drop (from + 1) es ≡ x ∷ xs = sym (drop_more es from blank (omega arith)) ∙ e in
    let head : get_or es from blank ≡ x = cc in
    let tail : drop (from + 1) es ≡ xs = cc in
    let next : from + 1 ≡ suc from = omega arith in
    map_if (key_at es) (names s x.key) x.key from _ _ (ap (λ (y : Entry). y.key) head) (keys_from_lem s es xs (suc from) (rw next at tail))

-- the keys that a selector names from a place on are those at the places that it names there
pub keys_named_lem : (s : Selector) (es : List Entry) (from : ℕ) → keys_named s (drop from es) ≡ map (key_at es) (named_from s from es)
keys_named_lem s es from = keys_from_lem s es (drop from es) from refl
