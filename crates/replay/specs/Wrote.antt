-- Which writes BBR and Flash get in a run: those of its calls, one call after the other, and no other.
use Rattle.std.specs.Prelude.{◌≡◌, List, [], ◌∷◌}
use Rattle.frame.specs.Scanning.{finding}
use Rattle.rule.specs.Rules.{Finding}
use Rattle.reference.specs.Requests.{Catalogue}
use Rattle.reference.specs.Events.{Asking, Event, took, nothing_whole, told, looked, restarted, refused}
use Rattle.reference.specs.Parts.{Parts}
use Rattle.reference.specs.Receiver.{State, step, made}
use Rattle.configuration.specs.Writes.{Memory, WroteByBattery}
use Rattle.receiver.specs.Stores.{judgement_on, Layered, WroteFor}

module _ {B F : Type 0} (bbr : Memory B) (flash : Memory F) where
  -- By what happened in a state: an answering writes what its first frame is judged to do, a restart what its battery asks; nothing else writes.
  abbrev pub WroteOn : Catalogue → Finding → State → Event → Layered bbr flash → Layered bbr flash → Type 0
  WroteOn cat rule s (took piece n) before after = after ≡ before
  WroteOn cat rule s (nothing_whole noise) before after = WroteFor bbr flash cat (judgement_on cat rule s (finding s.held_bytes).message) before after
  WroteOn cat rule s (told noise c i v w) before after = WroteFor bbr flash cat (judgement_on cat rule s (finding s.held_bytes).message) before after
  WroteOn cat rule s (looked layer k v) before after = after ≡ before
  WroteOn cat rule s (restarted b fault) before after = WroteByBattery bbr b before.upper.upper after.upper.upper × (after.upper.lower ≡ before.upper.lower)
  WroteOn cat rule s (refused c f) before after = after ≡ before

  -- from a state on, by each call in their order
  unfoldable pub WroteFrom : Catalogue → Finding → State → List Asking → Layered bbr flash → Layered bbr flash → Type 0
  WroteFrom cat rule s [] before after = after ≡ before
  WroteFrom cat rule s (c ∷ cs) before after =
      (next : Layered bbr flash) × WroteOn cat rule s (step cat rule s c).event before next × WroteFrom cat rule (step cat rule s c).state cs next after

  -- a whole run, from the stores of its parts
  pub record WroteRun (p : Parts) (cs : List Asking) (b : B) (f : F) (after : Layered bbr flash) : Type 0 where
    pub first : Layered bbr flash
    pub on_bbr : first.upper.upper ≡ b
    pub on_flash : first.upper.lower ≡ f
    pub wrote : WroteFrom p.catalogue p.rule (made p) cs first after
