-- Later changes over earlier ones, slot by slot and under each key.
use Rattle.std.proofs.Common.{◌≡◌, ℕ, suc, ◌+◌, ◌<◌, ◌≤◌, List, [], ◌∷◌, length, get_or, set, get_or-set_other, get_or-set_same, below_more, true, false, is_some, Some, None, Option, refl, sym, ap, subst, ◌∙◌, arith}
use mathlib.Core.Path.{fun_ext}
use Rattle.std.specs.Option.{option_or}
use Rattle.std.proofs.lemmas.Bool.Decides.{nat_tests}
use Rattle.catalogue.specs.declared.entries.Entry.{Entry}
use Rattle.reference.specs.Requests.{and_later}
use Rattle.request.specs.declared.change.Change.{Change}
use Rattle.request.specs.declared.change.Change.TheVariants.{Put, Remove}
use Rattle.request.specs.Changes.{change_of, changes_by}

later_change : (x y : Option Change) → change_of (option_or y x) ≡ option_or (change_of y) (change_of x)
later_change x None = refl
later_change x (Some (Put v)) = refl
later_change x (Some Remove) = refl

over_at : (es : List Entry) (xs ys zs : List (Option Change)) (k : ℕ) → length es ≤ length xs → length es ≤ length ys → length es ≤ length zs
    → ((i : ℕ) → i < length es → get_or zs i None ≡ option_or (get_or ys i None) (get_or xs i None))
    → changes_by es zs k ≡ and_later (changes_by es xs) (changes_by es ys) k
over_at [] xs ys zs k lx ly lz at = refl
over_at (e ∷ es) [] ys zs k lx ly lz at = absurd (omega arith)
over_at (e ∷ es) (x ∷ xs) [] zs k lx ly lz at = absurd (omega arith)
over_at (e ∷ es) (x ∷ xs) (y ∷ ys) [] k lx ly lz at = absurd (omega arith)
over_at (e ∷ es) (x ∷ xs) (y ∷ ys) (z ∷ zs) k lx ly lz at =
    let rest = over_at es xs ys zs k (omega arith) (omega arith) (omega arith) (λ i lt. at (suc i) (omega arith)) in
    let first : z ≡ option_or y x = at 0 (omega arith) in
    let means = later_change x y in
    grind (arith, nat_tests)

-- The loop that puts earlier changes under later ones: slots before n are joined, the others are the later ones
pub record Joining (xs ys zs : List (Option Change)) (n : ℕ) : Type 0 where
  pub done : (i : ℕ) → i < n → get_or zs i None ≡ option_or (get_or ys i None) (get_or xs i None)
  pub left : (i : ℕ) → n ≤ i → get_or zs i None ≡ get_or ys i None

some_or : (o x : Option Change) → is_some o ≡ true → option_or o x ≡ o
some_or None x e = absurd (cc)
some_or (Some c) x e = refl

none_or : (o x : Option Change) → is_some o ≡ false → option_or o x ≡ x
none_or None x e = refl
none_or (Some c) x e = absurd (cc)

module _ (xs ys zs : List (Option Change)) (n : ℕ) (long : n < length zs) (inv : Joining xs ys zs n) (o : Option Change) (is : o ≡ get_or zs n None) where
  abbrev earlier : Option Change
  earlier = get_or xs n None

  own : get_or zs n None ≡ get_or ys n None
  own = inv.left n (omega arith)

  pub joining_stays : is_some o ≡ true → Joining xs ys zs (n + 1)
  joining_stays e = record {
    done = below_more _ _ (λ i lt. inv.done i lt) (own ∙ sym (some_or (get_or ys n None) earlier (sym (ap is_some (is ∙ own)) ∙ e)));
    left = λ i le. inv.left i (omega arith);
  }

  pub joining_set : (zs₂ : List (Option Change)) → is_some o ≡ false → zs₂ ≡ set zs n earlier → Joining xs ys zs₂ (n + 1)
  joining_set zs₂ e same =
      subst (λ l. Joining xs ys l (n + 1)) (sym same) (record {
        done = below_more _ _ (λ i lt. get_or-set_other zs n i earlier None (omega arith) ∙ inv.done i lt)
            (get_or-set_same zs n earlier None long ∙ sym (none_or (get_or ys n None) earlier (sym (ap is_some (is ∙ own)) ∙ e)));
        left = λ i le. get_or-set_other zs n i earlier None (omega arith) ∙ inv.left i (omega arith);
      })

pub joined_all : (xs ys zs : List (Option Change)) (n : ℕ) (es : List Entry) → length xs ≡ 128 → length ys ≡ 128 → length zs ≡ 128 → length es ≤ n → length es ≤ 128 → Joining xs ys zs n
    → changes_by es zs ≡ and_later (changes_by es xs) (changes_by es ys)
joined_all xs ys zs n es lx ly lz le few inv = fun_ext (λ k. over_at es xs ys zs k (omega arith) (omega arith) (omega arith) (λ i lt. inv.done i (omega arith)))
