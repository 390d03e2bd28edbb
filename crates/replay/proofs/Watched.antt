-- What a watch saw of a run: without calls the state before them, of one call that and the state behind it, and nothing further.
use Rattle.std.proofs.Common.{[], ◌∷◌, subst}
use Rattle.reference.specs.Events.{Asking}
use Rattle.reference.specs.Parts.{Parts}
use Rattle.reference.specs.Receiver.{State, step, made}
use Rattle.replay.specs.Seen.{SeesAfter, SeesRun}

module _ {W : Type 0} (saw : W → State → W → Type 0) (p : Parts) (w last : W) where
  pub sees_none : SeesRun saw p [] w last → saw w (made p) last
  unfolding SeesAfter
  sees_none (next, seen, is) = subst (λ (x : W). saw w (made p) x) is seen

  pub sees_one : (c : Asking) → SeesRun saw p (c ∷ []) w last → (next : W) × saw w (made p) next × saw next (step p.catalogue p.rule (made p) c).state last
  unfolding SeesAfter
  sees_one c (next, seen, (behind, after, is)) = (next, seen, subst (λ (x : W). saw next (step p.catalogue p.rule (made p) c).state x) is after)
