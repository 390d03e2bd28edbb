-- The slots that outcomes and values make up: one slot is read and set by its outcome and its value.
use Rattle.std.proofs.Common.{◌≡◌, ℕ, zero, suc, ◌<◌, ◌≤◌, List, [], ◌∷◌, length, get_or, set, replicate, None, Some, Option, refl, ap, sym, ◌∙◌, arith}
use Rattle.std.proofs.lemmas.List.{set_past, get_or_past}
use Rattle.request.specs.declared.change.Change.{Change}
use Rattle.request.specs.declared.changes.Outcome.{Outcome}
use Rattle.request.specs.declared.change.Change.TheVariants.{Put, Remove}
use Rattle.request.specs.declared.changes.Outcome.TheVariants.{Stays, Put as Puts, Remove as Removes}
use Rattle.request.specs.Changes.{slot_of, slots_in}

none_in : (n : ℕ) (vs : List ℕ) → length vs ≡ n → slots_in (replicate n Stays) vs ≡ replicate n None
none_in zero vs long = refl
none_in (suc n) [] long = absurd (omega arith)
none_in (suc n) (v ∷ vs) long = ap (λ (l : List (Option Change)). None ∷ l) (none_in n vs (omega arith))

pub none_stay : (vs : List ℕ) → length vs ≡ 128 → slots_in (replicate 128 Stays) vs ≡ replicate 128 None
none_stay vs long = none_in 128 vs long

length_in : (os : List Outcome) (vs : List ℕ) (n : ℕ) → length os ≡ n → length vs ≡ n → length (slots_in os vs) ≡ n
length_in [] vs n a b = a
length_in (o ∷ os) [] n a b = absurd (omega arith)
length_in (o ∷ os) (v ∷ vs) zero a b = absurd (omega arith)
length_in (o ∷ os) (v ∷ vs) (suc n) a b = ap suc (length_in os vs n (omega arith) (omega arith))

pub slots_long : (os : List Outcome) (vs : List ℕ) → length os ≡ 128 → length vs ≡ 128 → length (slots_in os vs) ≡ 128
slots_long os vs a b = length_in os vs 128 a b

slot_at : (os : List Outcome) (vs : List ℕ) (i : ℕ) → length os ≡ length vs → i < length os → get_or (slots_in os vs) i None ≡ slot_of (get_or os i Stays) (get_or vs i 0)
slot_at [] vs i e lt = absurd (omega arith)
slot_at (o ∷ os) [] i e lt = absurd (omega arith)
slot_at (o ∷ os) (v ∷ vs) zero e lt = refl
slot_at (o ∷ os) (v ∷ vs) (suc i) e lt = slot_at os vs i (omega arith) (omega arith)

set_both : (os : List Outcome) (vs : List ℕ) (i v : ℕ) (o : Outcome) → length os ≡ length vs → slots_in (set os i o) (set vs i v) ≡ set (slots_in os vs) i (slot_of o v)
set_both [] vs i v o e = refl
set_both (x ∷ os) [] i v o e = absurd (omega arith)
set_both (x ∷ os) (y ∷ vs) zero v o e = refl
set_both (x ∷ os) (y ∷ vs) (suc i) v o e = ap (λ (l : List (Option Change)). slot_of x y ∷ l) (set_both os vs i v o (omega arith))

set_outcome : (os : List Outcome) (vs : List ℕ) (i : ℕ) (o : Outcome) → length os ≡ length vs → slots_in (set os i o) vs ≡ set (slots_in os vs) i (slot_of o (get_or vs i 0))
set_outcome [] vs i o e = refl
set_outcome (x ∷ os) [] i o e = absurd (omega arith)
set_outcome (x ∷ os) (y ∷ vs) zero o e = refl
set_outcome (x ∷ os) (y ∷ vs) (suc i) o e = ap (λ (l : List (Option Change)). slot_of x y ∷ l) (set_outcome os vs i o (omega arith))

-- one item's slot, as it is read

module _ (os : List Outcome) (vs : List ℕ) (i : ℕ) (whole : length os ≡ 128) (beside : length vs ≡ 128) where
  read_at : (o : Outcome) → i < 128 → get_or os i Stays ≡ o → slot_of o (get_or vs i 0) ≡ get_or (slots_in os vs) i None
  read_at o lt e = ap (λ (o : Outcome). slot_of o (get_or vs i 0)) (sym e) ∙ sym (slot_at os vs i (whole ∙ sym beside) (omega arith))

  pub at_none : i < 128 → get_or os i Stays ≡ Stays → None ≡ get_or (slots_in os vs) i None
  at_none lt e = read_at Stays lt e

  pub at_put : (v : ℕ) → i < 128 → get_or os i Stays ≡ Puts → v ≡ get_or vs i 0 → Some (Put v) ≡ get_or (slots_in os vs) i None
  at_put v lt e is = ap (λ (n : ℕ). Some (Put n)) is ∙ read_at Puts lt e

  pub at_remove : i < 128 → get_or os i Stays ≡ Removes → Some Remove ≡ get_or (slots_in os vs) i None
  at_remove lt e = read_at Removes lt e

  pub at_beyond : 128 ≤ i → None ≡ get_or (slots_in os vs) i None
  at_beyond le = let long = slots_long os vs whole beside in sym (get_or_past (slots_in os vs) i None (omega arith))

-- one item's slot, set or left

module _ (os : List Outcome) (vs : List ℕ) (i : ℕ) (c : Option Change) (whole : length os ≡ 128) (beside : length vs ≡ 128) where
  pub set_none : c ≡ None → slots_in (set os i Stays) vs ≡ set (slots_in os vs) i c
  set_none e = set_outcome os vs i Stays (whole ∙ sym beside) ∙ ap (set (slots_in os vs) i) (sym e)

  pub set_remove : c ≡ Some Remove → slots_in (set os i Removes) vs ≡ set (slots_in os vs) i c
  set_remove e = set_outcome os vs i Removes (whole ∙ sym beside) ∙ ap (set (slots_in os vs) i) (sym e)

  pub set_put : (v : ℕ) → c ≡ Some (Put v) → slots_in (set os i Puts) (set vs i v) ≡ set (slots_in os vs) i c
  set_put v e = set_both os vs i v Puts (whole ∙ sym beside) ∙ ap (set (slots_in os vs) i) (sym e)

  pub set_beyond : 128 ≤ i → slots_in os vs ≡ set (slots_in os vs) i c
  set_beyond le = let long = slots_long os vs whole beside in sym (set_past (slots_in os vs) i c (omega arith))

-- where no item changes, none does at any place
none_anywhere : (n i : ℕ) → ◌≡◌ {A = Option Change} (get_or (replicate n None) i None) None
none_anywhere zero i = refl
none_anywhere (suc n) zero = refl
none_anywhere (suc n) (suc i) = none_anywhere n i

pub none_at : (cs : List (Option Change)) (i : ℕ) → cs ≡ replicate 128 None → get_or cs i None ≡ None
none_at cs i e = ap (λ (l : List (Option Change)). get_or l i None) e ∙ none_anywhere 128 i
