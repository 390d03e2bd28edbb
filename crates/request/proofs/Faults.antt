-- Why an entry is refused, where an absent value or its place says so.
use Rattle.std.proofs.Common.{◌≡◌, ℕ, true, false, Some, None, Ok, Err, Option, Result, refl, ap, ◌∙◌}
use Rattle.std.specs.Option.{ok_or}
use Rattle.std.specs.Result.{MatchResult, IsErrAnd, is_ok}
use Rattle.std.proofs.lemmas.Result.{err_from_is_err_and}
use Rattle.reference.specs.declared.refusal.Refusal.{Refusal}
use Rattle.request.specs.declared.data.EntryFault.{EntryFault}
use Rattle.request.specs.Reading.{fault_at}

fault_is : {A : Type 0} (o : Option A) (d e : EntryFault) → ◌≡◌ {A = Result A EntryFault} (Err d) (ok_or o e) → o ≡ None → d ≡ e
fault_is None d e told none = cc
fault_is (Some a) d e told none = absurd (cc)

-- what the exit of a `?` over an absent value returns
pub faulted : {A : Type 0} (o : Option A) (r : Result ℕ EntryFault) (d e : EntryFault) → IsErrAnd r (λ y. y ≡ d)
    → ◌≡◌ {A = Result A EntryFault} (Err d) (ok_or o e) → o ≡ None → r ≡ Err e
faulted o r d e gave told none =
    let p = err_from_is_err_and r gave in
    p.1 ∙ ap (λ f. Err f) (p.2 ∙ fault_is o d e told none)

pub taken_is : (r : Result ℕ EntryFault) (n : ℕ) (Q : EntryFault → Type 0) → true ≡ is_ok r
    → MatchResult r (λ (x : ℕ). ◌≡◌ {A = Result ℕ Refusal} (Ok n) (Ok x)) Q → r ≡ Ok n
taken_is (Ok x) n Q ok told = cc
taken_is (Err e) n Q ok told = absurd (cc)

pub refused_is : (r : Result ℕ EntryFault) (d : Refusal) (P : ℕ → Type 0) (Q : EntryFault → Type 0) (place : ℕ) → false ≡ is_ok r
    → MatchResult r P Q → ((e : EntryFault) → Q e → d ≡ fault_at place e) → (e : EntryFault) × (r ≡ Err e) × (d ≡ fault_at place e)
refused_is (Ok x) d P Q place err told at = absurd (cc)
refused_is (Err e) d P Q place err told at = (e, refl, at e told)
