-- Small promises of an answering: a refused call changes nothing, a NAK is all that is written, all chosen layers change or none.
use Rattle.std.specs.Prelude.{◌≡◌, ℕ, ◌⊎◌, List, take, Some, None, Ok, Err, Option, Result}
use Rattle.reference.specs.declared.refusal.Verdict.{Verdict}
use Rattle.reference.specs.declared.refusal.Verdict.TheVariants.{Outside, Ack, Nak}
use Rattle.reference.specs.declared.fault.CallFault.{CallFault}
use Rattle.reference.specs.declared.layers.Layers.{Layers}
use Rattle.reference.specs.declared.answered.Answered.{Answered}
use Rattle.reference.specs.declared.answered.Telling.{Telling}
use Rattle.reference.specs.Requests.{Catalogue, Changes}
use Rattle.reference.specs.Receiver.{State, written_if}
use Rattle.reference.specs.Promise.{SameLayers, NakOnly}

-- a refused call leaves the state and the buffer as they were
abbrev pub RefusedLeaves : Result Answered CallFault → State → State → List ℕ → List ℕ → Type 0
RefusedLeaves (Ok a) before after old out = Unit {0}
RefusedLeaves (Err f) before after old out = (after ≡ before) × (out ≡ old)

abbrev pub NakedBy : Verdict → State → State → ℕ → ℕ → List ℕ → Type 0
NakedBy Outside before after c i w = Unit {0}
NakedBy Ack before after c i w = Unit {0}
NakedBy (Nak r) before after c i w = NakOnly before after c i w

abbrev pub NakTold : Option Telling → State → State → List ℕ → Type 0
NakTold None before after out = Unit {0}
NakTold (Some t) before after out = NakedBy t.verdict before after t.class t.id (take t.length out)

-- a frame that gets a NAK leaves the layers as they were and no transaction open, and one NAK is all that is written
abbrev pub NakLeaves : Result Answered CallFault → State → State → List ℕ → Type 0
NakLeaves (Ok a) before after out = NakTold a.told before after out
NakLeaves (Err f) before after out = Unit {0}

-- one change of the chosen layers
pub record Changed (cat : Catalogue) (before after : State) : Type 0 where
  pub layers : Layers
  pub changes : Changes
  pub ram : after.ram ≡ written_if layers.ram cat changes before.ram
  pub bbr : after.bbr ≡ written_if layers.bbr cat changes before.bbr
  pub flash : after.flash ≡ written_if layers.flash cat changes before.flash

-- no layer changes, or all that are chosen do
abbrev pub AllOrNone : Catalogue → State → State → Type 0
AllOrNone cat before after = SameLayers after before ⊎ Changed cat before after
