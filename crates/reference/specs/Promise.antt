-- What is promised of the reference receiver.
use Rattle.std.specs.Prelude.{◌≡◌, ℕ, ◌≤◌, List, [], length, None}
use Rattle.rule.specs.Rules.{Finding}
use Rattle.reference.specs.declared.refusal.Refusal.{Refusal}
use Rattle.reference.specs.declared.refusal.Verdict.TheVariants.{Nak}
use Rattle.reference.specs.declared.fault.CallFault.{CallFault}
use Rattle.reference.specs.Stores.{IsStore}
use Rattle.reference.specs.Parts.{Parts, parts_fault}
use Rattle.reference.specs.Requests.{Catalogue}
use Rattle.reference.specs.Events.{Asking, told, refused, written_by}
use Rattle.reference.specs.Receiver.{State, step, nak_of, Run, run}
use Rattle.reference.specs.Law.{Law}

-- The law holds: for parts that the check accepts, after every list of calls.
abbrev pub LawAfter : Parts → Run → Type 0
LawAfter p r = Law p r.history r.state.ram.settings r.state.bbr.settings r.state.flash.settings

abbrev pub LawOf : Parts → Type 0
LawOf p = parts_fault p ≡ None → (cs : List Asking) → LawAfter p (run p cs)

abbrev pub LawHolds : Type 0
LawHolds = (p : Parts) → IsStore p.bbr → IsStore p.flash → LawOf p

-- Every answer fits into 790 bytes, the longest reply with its verdict too.
abbrev pub WritesFit : Type 0
WritesFit = (cat : Catalogue) (rule : Finding) (s : State) (c : Asking) → length (written_by (step cat rule s c).event) ≤ 790

-- A refused call leaves the state as it was.
abbrev pub RefusedKeeps : Type 0
RefusedKeeps = (cat : Catalogue) (rule : Finding) (s : State) (c d : Asking) (f : CallFault) → (step cat rule s c).event ≡ refused d f → (step cat rule s c).state ≡ s

-- these states have the same layers
pub record SameLayers (s t : State) : Type 0 where
  pub ram : s.ram ≡ t.ram
  pub bbr : s.bbr ≡ t.bbr
  pub flash : s.flash ≡ t.flash

-- A configuration frame that gets a NAK leaves the layers as they were and no transaction open, and what is written is that NAK alone.
pub record NakOnly (s t : State) (c i : ℕ) (w : List ℕ) : Type 0 where
  pub layers : SameLayers t s
  pub cancelled : t.transaction ≡ None
  pub written : w ≡ nak_of (record { class = c; id = i; payload = [] })

abbrev pub NakKeeps : Type 0
NakKeeps =
    (cat : Catalogue) (rule : Finding) (s : State) (a : Asking) (n c i : ℕ) (r : Refusal) (w : List ℕ) → (step cat rule s a).event ≡ told n c i (Nak r) w
    → NakOnly s (step cat rule s a).state c i w
