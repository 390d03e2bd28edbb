-- What the writes of a run say: without calls none were made, and a call makes those of what happened alone.
use Rattle.std.proofs.Common.{◌≡◌, ℕ, List, [], ◌∷◌, Option, sym, ◌∙◌, ap, subst}
use Rattle.frame.specs.Scanning.{finding}
use Rattle.rule.specs.Rules.{Finding}
use Rattle.reference.specs.declared.fault.CallFault.{CallFault}
use Rattle.reference.specs.declared.call.Battery.TheVariants.{Kept}
use Rattle.reference.specs.declared.refusal.Verdict.{Verdict}
use Rattle.reference.specs.Requests.{Catalogue}
use Rattle.reference.specs.Events.{Asking, took, nothing_whole, told, looked, restarted, refused}
use Rattle.reference.specs.Parts.{Parts}
use Rattle.reference.specs.Receiver.{State, step, made}
use Rattle.configuration.specs.Writes.{Memory}
use Rattle.receiver.specs.Stores.{judgement_on, Layered, WroteFor}
use Rattle.replay.specs.Wrote.{WroteOn, WroteFrom, WroteRun}

module _ {B F : Type 0} (bbr : Memory B) (flash : Memory F) where
  module _ (p : Parts) (b : B) (f : F) (last : Layered bbr flash) where
    pub wrote_none : WroteRun bbr flash p [] b f last → (last.upper.upper ≡ b) × (last.upper.lower ≡ f)
    unfolding WroteFrom
    wrote_none h = (ap (λ (x : Layered bbr flash). x.upper.upper) h.wrote ∙ h.on_bbr, ap (λ (x : Layered bbr flash). x.upper.lower) h.wrote ∙ h.on_flash)

    pub wrote_one : (c : Asking) → WroteRun bbr flash p (c ∷ []) b f last
        → (first : Layered bbr flash) × (first.upper.upper ≡ b) × (first.upper.lower ≡ f) × WroteOn bbr flash p.catalogue p.rule (made p) (step p.catalogue p.rule (made p) c).event first last
    unfolding WroteFrom
    wrote_one c h =
        let next = h.wrote in
        (h.first, h.on_bbr, h.on_flash, subst (λ (x : Layered bbr flash). WroteOn bbr flash p.catalogue p.rule (made p) (step p.catalogue p.rule (made p) c).event h.first x) (sym next.2) next.1)

  module _ (cat : Catalogue) (rule : Finding) (s : State) (before after : Layered bbr flash) where
    pub took_says : (piece : List ℕ) (n : ℕ) → WroteOn bbr flash cat rule s (took piece n) before after → after ≡ before
    took_says piece n h = h

    pub waits_says : (noise : ℕ) → WroteOn bbr flash cat rule s (nothing_whole noise) before after → WroteFor bbr flash cat (judgement_on cat rule s (finding s.held_bytes).message) before after
    waits_says noise h = h

    pub told_says : (noise c i : ℕ) (v : Verdict) (w : List ℕ) → WroteOn bbr flash cat rule s (told noise c i v w) before after
        → WroteFor bbr flash cat (judgement_on cat rule s (finding s.held_bytes).message) before after
    told_says noise c i v w h = h

    pub looked_says : (layer k : ℕ) (v : Option ℕ) → WroteOn bbr flash cat rule s (looked layer k v) before after → after ≡ before
    looked_says layer k v h = h

    pub kept_says : (fault : Option ℕ) → WroteOn bbr flash cat rule s (restarted Kept fault) before after → (after.upper.upper ≡ before.upper.upper) × (after.upper.lower ≡ before.upper.lower)
    kept_says fault h = h

    pub refused_says : (c : Asking) (f : CallFault) → WroteOn bbr flash cat rule s (refused c f) before after → after ≡ before
    refused_says c f h = h
