-- Laws of the words behind a command.
use Rattle.std.proofs.Common.{◌≡◌, Ok, Err, Result, MatchResult, IsOkAnd, subst, sym, ℕ, ◌-◌, length, take, drop, length-drop, arith}
use Rattle.script.specs.declared.fault.LineFault.{LineFault}
use Rattle.std.proofs.lemmas.List.{take_all}
use Rattle.script.specs.Words.{Words, IsMade, ReadsOn}

-- what `map` makes of something that is read so
pub made : {A B : Type 0} (make : A → B) (Reads : Result A LineFault → Type 0) (q : Result A LineFault) (r : Result B LineFault)
    → Reads q → MatchResult q (λ a. IsOkAnd r (λ b. b ≡ make a)) (λ f. r ≡ Err f) → IsMade make Reads r
made make Reads (Ok a) (Ok b) h is = (a, is, h)
made make Reads (Ok a) (Err f) h is = absurd is
made make Reads (Err e) (Ok b) h is = cc
made make Reads (Err e) (Err f) h is = let same : e ≡ f = cc in let P : LineFault → Type 0 = λ x. Reads (Err x) in subst P same h

-- what is read goes on
pub on : {A X : Type 0} (q : Result A LineFault) (a : A) (Reads : A → Result X LineFault → Type 0) (r : Result X LineFault) → q ≡ Ok a → Reads a r → ReadsOn q Reads r
on {A} q a Reads r is h = let P : Result A LineFault → Type 0 = λ x. ReadsOn x Reads r in subst P (sym is) h

-- the words behind the first ones, as a slice has them
pub behind : (n : ℕ) (words : Words) (Reads : Words → Type 0) → Reads (take (length words - n) (drop n words)) → Reads (drop n words)
behind n words Reads h = subst Reads (take_all (length words - n) (drop n words) (simp length-drop (omega arith))) h
