-- The small promises follow from the reference's step.
use Rattle.std.proofs.Common.{◌≡◌, ℕ, List, take, Some, None, Ok, Err, Option, Result, sym, refl, subst, inl, inr}
use Rattle.std.proofs.lemmas.Bool.{cond_both}
use Rattle.frame.specs.Frames.{Message}
use Rattle.rule.specs.Rules.{Finding}
use Rattle.reference.specs.declared.refusal.Refusal.{Refusal}
use Rattle.reference.specs.declared.refusal.Verdict.{Verdict}
use Rattle.reference.specs.declared.refusal.Verdict.TheVariants.{Outside, Ack, Nak}
use Rattle.reference.specs.declared.fault.CallFault.{CallFault}
use Rattle.reference.specs.declared.answered.Answered.{Answered}
use Rattle.reference.specs.declared.answered.Telling.{Telling}
use Rattle.reference.specs.Requests.{Catalogue}
use Rattle.reference.specs.Events.{answer_into, told, event_told, told_length}
use Rattle.reference.specs.Receiver.{State, Stepped, Plan, apply, queue, reply, applied, carried_out, step}
use Rattle.reference.proofs.Steps.{answer_ways, judged_in}
use Rattle.reference.proofs.Refusals.{nak_keeps}
use Rattle.receiver.specs.State.{answer_event}
use Rattle.receiver.specs.Small.{NakedBy, NakTold, NakLeaves, AllOrNone}

module _ (cat : Catalogue) (rule : Finding) (s : State) (room : ℕ) (after : State) (out : List ℕ) (r : Result Answered CallFault) (is : after ≡ (step cat rule s (answer_into room)).state)
    (event : answer_event room out r ≡ (step cat rule s (answer_into room)).event) where
  pub nak_leaves : NakLeaves r s after out
  nak_leaves = go r event
    where
      by : (n : ℕ) (t : Telling) (v : Verdict) → told n t.class t.id v (take t.length out) ≡ (step cat rule s (answer_into room)).event → NakedBy v s after t.class t.id (take t.length out)
      by n t Outside e = tt
      by n t Ack e = tt
      by n t (Nak x) e =
          subst (λ (u : State). NakedBy (Nak x) s u t.class t.id (take t.length out)) (sym is)
          (nak_keeps cat rule s (answer_into room) n t.class t.id x (take t.length out) (sym e))

      of_told : (n : ℕ) (o : Option Telling) → event_told n o (take (told_length o) out) ≡ (step cat rule s (answer_into room)).event → NakTold o s after out
      of_told n None e = tt
      of_told n (Some t) e = by n t t.verdict e

      go : (r : Result Answered CallFault) → answer_event room out r ≡ (step cat rule s (answer_into room)).event → NakLeaves r s after out
      go (Ok a) e = of_told a.noise a.told e
      go (Err f) e = tt

  carried_all : (m : Message) (n : ℕ) (j : Result Plan Refusal) → AllOrNone cat s (carried_out cat (judged_in cat rule s m) n m j).state
  unfolding applied
  carried_all m n (Err x) = inl (record { ram = refl; bbr = refl; flash = refl })
  carried_all m n (Ok (apply l d)) = inr (record { layers = l; changes = d; ram = refl; bbr = refl; flash = refl })
  carried_all m n (Ok (queue t)) = inl (record { ram = refl; bbr = refl; flash = refl })
  carried_all m n (Ok (reply bs)) = inl (record { ram = refl; bbr = refl; flash = refl })

  stepped : AllOrNone cat s (step cat rule s (answer_into room)).state
  unfolding step
  stepped =
      cond_both s.shut _ _ (λ (x : Stepped). AllOrNone cat s x.state) (λ _. inl (record { ram = refl; bbr = refl; flash = refl }))
      (λ _. answer_ways cat rule s (λ (x : Stepped). AllOrNone cat s x.state) room (λ short. inl (record { ram = refl; bbr = refl; flash = refl })) (λ none. inl (record { ram = refl; bbr = refl; flash = refl })) (λ m first other. inl (record { ram = refl; bbr = refl; flash = refl })) (λ m first of-class j e. carried_all m _ j))

  pub all_or_none : AllOrNone cat s after
  all_or_none = subst (AllOrNone cat s) (sym is) stepped
