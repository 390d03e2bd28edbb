-- What the small promises say, each in full.
use Rattle.std.proofs.Common.{◌≡◌, ℕ, List, [], ◌∷◌, ◌++◌, take, true, false, cond, ◌==◌, Some, None, Ok, Err, Option, Result, refl, ap, ◌∙◌}
use Rattle.frame.specs.Frames.{Message, carrying}
use Rattle.rule.specs.Rules.{Finding}
use Rattle.catalogue.specs.Bench.{entry}
use Rattle.catalogue.specs.declared.kind.Kind.TheVariants.{Bits, Unsigned}
use Rattle.reference.specs.declared.refusal.Refusal.{Refusal}
use Rattle.reference.specs.declared.refusal.Verdict.TheVariants.{Nak}
use Rattle.reference.specs.declared.fault.CallFault.{CallFault}
use Rattle.reference.specs.declared.layers.Layers.{Layers}
use Rattle.reference.specs.declared.call.Battery.{Battery}
use Rattle.reference.specs.declared.call.Battery.TheVariants.{Kept, Lost}
use Rattle.reference.specs.Requests.{Catalogue, Changes, configuration_class}
use Rattle.reference.specs.Receiver.{State, Transaction, Plan, apply, queue, reply, with_transaction, of_kind, judged, written_if}
use Rattle.reference.specs.Promise.{NakOnly}
use Rattle.configuration.specs.Writes.{Memory, Wrote}
use Rattle.receiver.specs.Small.{RefusedLeaves, NakLeaves, Changed}
use Rattle.receiver.specs.Stores.{judgement_on, Layered, WrotePlan, WroteFor, WroteAnswer, WroteRestart}

-- a refused call leaves the state, and the buffer
pub refused_says : (f : CallFault) (before after : State) (old out : List ℕ) → RefusedLeaves (Err f) before after old out → (after ≡ before) × (out ≡ old)
refused_says f before after old out h = h

-- a NAK cancels, changes no layer, and is all that is written
pub nak_says : (noise class id length : ℕ) (r : Refusal) (before after : State) (out : List ℕ)
    → NakLeaves (Ok (record { noise = noise; told = Some (record { class = class; id = id; verdict = Nak r; length = length }) })) before after out
    → NakOnly before after class id (take length out)
nak_says noise class id length r before after out h = h

-- each layer changes by the same changes, or is not chosen
pub changed_says : (cat : Catalogue) (before after : State) → Changed cat before after
    → (l : Layers) × (d : Changes) × (after.ram ≡ written_if l.ram cat d before.ram) × (after.bbr ≡ written_if l.bbr cat d before.bbr) × (after.flash ≡ written_if l.flash cat d before.flash)
changed_says cat before after h = (h.layers, h.changes, h.ram, h.bbr, h.flash)

-- which writes the stores get, by a memory that keeps each write
abbrev pub log : Memory (List ℕ)
log = record { words = λ s. Some s; put = λ k v s. Some (s ++ k ∷ v ∷ []); removed = λ k s. Some (s ++ k ∷ []); cleared = λ s. Some [] }

-- a value for the first item, the second stays, and the third is deleted
abbrev pub changes : Changes
changes k = cond (k == 0x10510002) (Some (Some 1)) (cond (k == 0x20510001) (Some None) None)

abbrev pub items : Catalogue
items = entry 0x10510002 Bits 0 0 1 ∷ entry 0x10510003 Bits 0 0 1 ∷ entry 0x20510001 Unsigned 0 0 9 ∷ []

same_some : (xs ys : List ℕ) → Some xs ≡ Some ys → xs ≡ ys
same_some xs ys e = cc

-- each changed item is written once, in their order
pub wrote_says : (before after : List ℕ) → Wrote log items changes before after → after ≡ (before ++ 0x10510002 ∷ 1 ∷ []) ++ 0x20510001 ∷ []
unfolding Wrote
wrote_says before after h =
    let first : h.0 ≡ before ++ 0x10510002 ∷ 1 ∷ [] = same_some _ _ h.1 in
    let third : h.2.2.0 ≡ h.2.0 ++ 0x20510001 ∷ [] = same_some _ _ h.2.2.1 in
    h.2.2.2 ∙ third ∙ ap (λ l. l ++ 0x20510001 ∷ []) (h.2.1 ∙ first)

module _ (before after : Layered log log) where
  pub applied_says : WrotePlan log log items (apply (record { ram = true; bbr = false; flash = true }) changes) before after
      → (after.upper.upper ≡ before.upper.upper) × (after.upper.lower ≡ (before.upper.lower ++ 0x10510002 ∷ 1 ∷ []) ++ 0x20510001 ∷ [])
  applied_says h = (h.0, wrote_says before.upper.lower after.upper.lower h.1)

  pub bbr_says : WrotePlan log log items (apply (record { ram = false; bbr = true; flash = false }) changes) before after
      → (after.upper.upper ≡ (before.upper.upper ++ 0x10510002 ∷ 1 ∷ []) ++ 0x20510001 ∷ []) × (after.upper.lower ≡ before.upper.lower)
  bbr_says h = (wrote_says before.upper.upper after.upper.upper h.0, h.1)

  pub queued_says : (t : Transaction) → WroteAnswer log log items (Some (Ok (queue t))) (Ok (record { noise = 0; told = None })) before after → after ≡ before
  queued_says t h = h

  pub replied_says : (bs : List ℕ) → WroteFor log log items (Some (Ok (reply bs))) before after → after ≡ before
  replied_says bs h = h

  pub naked_says : (r : Refusal) → WroteFor log log items (Some (Err r)) before after → after ≡ before
  naked_says r h = h

  pub unheard_says : WroteFor log log items None before after → after ≡ before
  unheard_says h = h

  pub unanswered_says : (j : Option (Result Plan Refusal)) (f : CallFault) → WroteAnswer log log items j (Err f) before after → after ≡ before
  unanswered_says j f h = h

  pub kept_says : (fault : Option ℕ) → WroteRestart {F = List ℕ} log Kept (Ok fault) before after → (after.upper.upper ≡ before.upper.upper) × (after.upper.lower ≡ before.upper.lower)
  kept_says fault h = h

  pub lost_says : (fault : Option ℕ) → WroteRestart {F = List ℕ} log Lost (Ok fault) before after → (after.upper.upper ≡ []) × (after.upper.lower ≡ before.upper.lower)
  lost_says fault h = (same_some _ _ h.0, h.1)

  pub unrestarted_says : (battery : Battery) (f : CallFault) → WroteRestart {F = List ℕ} log battery (Err f) before after → after ≡ before
  unrestarted_says battery f h = h

-- a frame of another class is judged to do nothing, and one of ours is judged once a transaction of another kind is cancelled
pub other_says : (cat : Catalogue) (rule : Finding) (s : State) (id : ℕ) (p : List ℕ) → judgement_on cat rule s (Some (carrying 5 id p)) ≡ None
other_says cat rule s id p = refl

pub ours_says : (cat : Catalogue) (rule : Finding) (s : State) (id : ℕ) (p : List ℕ) (m : Message) → m ≡ carrying configuration_class id p
    → judgement_on cat rule s (Some m) ≡ Some (judged cat rule (with_transaction s (of_kind id s.transaction)) m)
ours_says cat rule s id p m e = rw e refl
