-- An answering into the part of a buffer that was lent is one into the whole buffer.
use Rattle.std.proofs.Common.{◌≡◌, ℕ, ◌<◌, ◌≤◌, List, ◌++◌, length, take, drop, Some, None, Ok, Err, Option, ok_or, sym, ap, ◌∙◌, subst, append_assoc, arith}
use Rattle.std.proofs.lemmas.List.{length-append, length-take-le, take-append-le, drop-append-le, take-append-drop}
use Rattle.std.specs.Prelude.{MatchOption}
use Rattle.std.specs.Array.{IsFirstChunk}
use Rattle.std.specs.Borrow.{MutBor}
use Rattle.frame.specs.Written.{in_front}
use Rattle.reference.specs.declared.answered.Answered.{Answered}
use Rattle.reference.specs.Events.{event_told, written_by, answered_length, answered_event}
use Rattle.reference.specs.Receiver.{State, Stepped}
use Rattle.receiver.specs.Handled.{Answering}

-- what was lent, and why nothing was

module _ {E : Type 0} (old : List ℕ) (n : ℕ) (o : Option (MutBor (List ℕ))) (e : E) (lent : MatchOption o (length old < n) (λ y. IsFirstChunk old y.now n)) where
  pub lent_ok : (y : MutBor (List ℕ)) → Ok y ≡ ok_or o e → IsFirstChunk old y.now n
  lent_ok y is = go o is lent
    where
      go : (o : Option (MutBor (List ℕ))) → Ok y ≡ ok_or o e → MatchOption o (length old < n) (λ y. IsFirstChunk old y.now n) → IsFirstChunk old y.now n
      go None is m = let z : ◌≡◌ {A = ℕ} 0 1 = cc in absurd (omega arith)
      go (Some x) is m = let same : x ≡ y = cc in subst (λ (z : MutBor (List ℕ)). IsFirstChunk old z.now n) same m

  pub lent_err : (f : E) → Err f ≡ ok_or o e → (f ≡ e) × (length old < n)
  lent_err f is = go o is lent
    where
      go : (o : Option (MutBor (List ℕ))) → Err f ≡ ok_or o e → MatchOption o (length old < n) (λ y. IsFirstChunk old y.now n) → (f ≡ e) × (length old < n)
      go None is m = (cc, m)
      go (Some x) is m = let z : ◌≡◌ {A = ℕ} 0 1 = cc in absurd (omega arith)

same_event : (a : Answered) (out behind : List ℕ) → answered_length a ≤ length out → answered_event (out ++ behind) a ≡ answered_event out a
same_event a out behind le = ap (event_told a.noise a.told) (take-append-le (answered_length a) out behind le)

front_of : (w old : List ℕ) (n : ℕ) → n ≤ length old → length w ≤ n → in_front w (take n old) ++ drop n old ≡ in_front w old
front_of w old n enough le =
    let within : length w ≤ length (take n old) = let len = length-take-le n old enough in omega arith in
    append_assoc w (drop (length w) (take n old)) (drop n old)
    ∙ ap (λ l. w ++ l) (sym (drop-append-le (length w) (take n old) (drop n old) within) ∙ ap (drop (length w)) (take-append-drop n old))

pub answered_in : (step : Stepped) (after : State) (a : Answered) (old room out : List ℕ) (n : ℕ) → n ≤ length old → room ≡ take n old → length (written_by step.event) ≤ n → Answering step after room out a
    → Answering step after old (out ++ drop n old) a
answered_in step after a old room out n enough front fits h =
    let w : List ℕ = written_by step.event in
    let within : length w ≤ length out =
    let len = length-append w (drop (length w) room) in let same : length out ≡ length (w ++ drop (length w) room) = ap length h.buffer in omega arith in
    record {
      state = h.state;
      event = same_event a out (drop n old) (let c = h.count in omega arith) ∙ h.event;
      count = h.count;
      buffer = ap (λ x. x ++ drop n old) (h.buffer ∙ ap (in_front w) front) ∙ front_of w old n enough fits;
    }
