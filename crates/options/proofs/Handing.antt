-- Laws of pieces that are handed on.
use Rattle.std.proofs.Common.{◌≡◌, ℕ, List, [], ◌∷◌, ◌++◌, take, Some, None, Ok, Err, Option, Result, sym, refl, ap, subst, ◌∙◌, append_assoc}
use Rattle.std.specs.Borrow.{Bor}
use Rattle.std.specs.Fn.{Mut, CalledAt}
use Rattle.std.specs.Io.KnownBytes.{Consumes, Keeps, ReadConsumes}
use Rattle.options.specs.Pieces.{joined, Called, Handed}

consumes_none : (o : Option (List ℕ)) → Consumes o o []
consumes_none None = tt
consumes_none (Some xs) = refl

consumes_more : (a b c : Option (List ℕ)) (xs ys : List ℕ) → Consumes a b xs → Consumes b c ys → Consumes a c (xs ++ ys)
consumes_more None b c xs ys f s = tt
consumes_more (Some os) None c xs ys f s = absurd f
consumes_more (Some os) (Some bs) None xs ys f s = absurd s
consumes_more (Some os) (Some bs) (Some cs) xs ys f s = f ∙ ap (λ (l : List ℕ). xs ++ l) s ∙ sym (append_assoc xs ys cs)

keeps_consumed : (a b c : Option (List ℕ)) (xs : List ℕ) → Consumes a b xs → Keeps b c → Consumes a c xs
keeps_consumed None b c xs f k = tt
keeps_consumed (Some os) None c xs f k = absurd f
keeps_consumed (Some os) (Some bs) None xs f k = absurd k
keeps_consumed (Some os) (Some bs) (Some cs) xs f k = f ∙ ap (λ (l : List ℕ). xs ++ l) (sym k)

module _ {F E : Type 0} (g : Mut F (Bor (List ℕ) × Unit {0}) (Result (Unit {0}) E)) (f : F) where
  pub none_handed : (o : Option (List ℕ)) → Handed g f f o o
  unfolding Called joined
  none_handed o = ([], refl, consumes_none o)

  module _ (h : F) (a b c : Option (List ℕ)) (met : Handed g f h a b) where
    pub one_handed : (f' : F) (p : List ℕ) → CalledAt g h p (Ok tt) f' → Consumes b c p → Handed g f f' a c
    unfolding Called joined
    one_handed f' p called read = (p ∷ met.0, (h, met.1, called), consumes_more a b c (joined met.0) p met.2 read)

    pub kept_handed : Keeps b c → Handed g f h a c
    kept_handed k = (met.0, met.1, keeps_consumed a b c (joined met.0) met.2 k)

-- what a read gave, by its answer
pub read_gives : {E : Type 0} → (old new : Option (List ℕ)) (r : Result ℕ E) (n k : ℕ) (buf : List ℕ) → r ≡ Ok n → k ≡ n → ReadConsumes old new r buf → Consumes old new (take k buf)
read_gives old new r n k buf e same m = subst (λ i. Consumes old new (take i buf)) (sym same) (subst (λ x. ReadConsumes old new x buf) e m).0

pub read_keeps : {E : Type 0} → (old new : Option (List ℕ)) (r : Result ℕ E) (fault : E) (buf : List ℕ) → r ≡ Err fault → ReadConsumes old new r buf → Keeps old new
read_keeps old new r fault buf e m = subst (λ x. ReadConsumes old new x buf) e m
