-- Which writes the stores get while a frame is handled: those of its judgement.
use Rattle.std.proofs.Common.{◌≡◌, ℕ, eqb, true, false, List, Some, None, Option, Result, sym, ◌∙◌, subst}
use Rattle.std.proofs.lemmas.Bool.{cond-true, cond-false}
use Rattle.frame.specs.Frames.{Message}
use Rattle.rule.specs.Rules.{Finding}
use Rattle.request.specs.declared.change.Change.{Change as Slot}
use Rattle.reference.specs.declared.refusal.Refusal.{Refusal}
use Rattle.reference.specs.Requests.{Catalogue, configuration_class}
use Rattle.reference.specs.Receiver.{State, Plan, with_transaction, of_kind, judged}
use Rattle.configuration.specs.Writes.{Memory}
use Rattle.receiver.specs.declared.first.HeldFrame.{HeldFrame}
use Rattle.receiver.specs.declared.transaction.Granted.{Granted}
use Rattle.receiver.specs.First.{message_in}
use Rattle.receiver.specs.Plans.{verdicted_of, Judged}
use Rattle.receiver.specs.Stores.{judgement_on, Layered, WroteJudged, WroteFor}

module _ {B F : Type 0} (bbr : Memory B) (flash : Memory F) (cat : Catalogue) (rule : Finding) (s : State) (before after : Layered bbr flash) (h : HeldFrame) where
  abbrev message : Message
  message = message_in s.held_bytes h

  abbrev cancelled : State
  cancelled = with_transaction s (of_kind h.id s.transaction)

  abbrev judgement : Result Plan Refusal
  judgement = judged cat rule cancelled message

  pub request_wrote : (slots : List (Option Slot)) (cat₁ : Catalogue) (rule₁ : Finding) (s₁ : State) (old out : List ℕ) (j : Result Granted Refusal) (mid : Layered bbr flash)
      → eqb h.class configuration_class ≡ true → cat₁ ≡ cat → rule₁ ≡ rule → s₁ ≡ cancelled → Judged cat₁ slots old out (judged cat₁ rule₁ s₁ (message_in s₁.held_bytes h)) j
      → mid ≡ before → WroteJudged bbr flash cat₁ (verdicted_of cat₁ slots out j) mid after → WroteFor bbr flash cat (judgement_on cat rule s (Some message)) before after
  request_wrote slots cat₁ rule₁ s₁ old out j mid of-class same-cat same-rule is-cancelled found same wrote =
      let is : verdicted_of cat₁ slots out j ≡ judgement = found.value ∙ (λ i. judged (same-cat i) (same-rule i) (is-cancelled i) (message_in (is-cancelled i).held_bytes h)) in
      let by_judgement = subst (λ x. WroteJudged bbr flash cat₁ x mid after) is wrote in
      let by_cat = subst (λ x. WroteJudged bbr flash x judgement mid after) same-cat by_judgement in
      let at_once = subst (λ x. WroteJudged bbr flash cat judgement x after) same by_cat in
      subst (λ o. WroteFor bbr flash cat o before after) (sym (cond-true (eqb h.class configuration_class) (Some judgement) None of-class)) at_once

  pub outside_wrote : eqb h.class configuration_class ≡ false → after ≡ before → WroteFor bbr flash cat (judgement_on cat rule s (Some message)) before after
  outside_wrote other same =
      subst (λ o. WroteFor bbr flash cat o before after) (sym (cond-false (eqb h.class configuration_class) (Some judgement) None other)) same
