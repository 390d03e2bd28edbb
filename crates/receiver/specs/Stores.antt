-- Which writes BBR and Flash get: one for each item that the changes name, in a layer that is chosen; and else none.
use Rattle.std.specs.Prelude.{◌≡◌, ℕ, cond, Some, None, Ok, Err, Option, Result, ◌==◌}
use Rattle.frame.specs.Frames.{Message}
use Rattle.layer.specs.declared.stack.Stack.{Stack}
use Rattle.store.specs.declared.defaults.Defaults.{Defaults}
use Rattle.rule.specs.Rules.{Finding}
use Rattle.reference.specs.declared.refusal.Refusal.{Refusal}
use Rattle.reference.specs.declared.fault.CallFault.{CallFault}
use Rattle.reference.specs.declared.call.Battery.{Battery}
use Rattle.reference.specs.declared.answered.Answered.{Answered}
use Rattle.reference.specs.Requests.{Catalogue, configuration_class}
use Rattle.reference.specs.Receiver.{State, Plan, apply, queue, reply, with_transaction, of_kind, judged}
use Rattle.configuration.specs.Writes.{Memory, WroteIf, WroteByBattery}

-- what the first frame is judged to do; nothing where none is heard, or it is of another class
abbrev pub judgement_on : Catalogue → Finding → State → Option Message → Option (Result Plan Refusal)
judgement_on cat rule s None = None
judgement_on cat rule s (Some m) = cond (m.class == configuration_class) (Some (judged cat rule (with_transaction s (of_kind m.id s.transaction)) m)) None

module _ {B F : Type 0} (bbr : Memory B) (flash : Memory F) where
  -- BBR over Flash over the defaults
  abbrev pub Layered : Type 0
  Layered = Stack (Stack B F) Defaults

  -- a plan that applies changes writes each change to the chosen stores; one that queues or replies writes to none
  abbrev pub WrotePlan : Catalogue → Plan → Layered → Layered → Type 0
  WrotePlan cat (apply l d) before after = WroteIf bbr l.bbr cat d before.upper.upper after.upper.upper × WroteIf flash l.flash cat d before.upper.lower after.upper.lower
  WrotePlan cat (queue t) before after = after ≡ before
  WrotePlan cat (reply bs) before after = after ≡ before

  abbrev pub WroteJudged : Catalogue → Result Plan Refusal → Layered → Layered → Type 0
  WroteJudged cat (Ok p) before after = WrotePlan cat p before after
  WroteJudged cat (Err r) before after = after ≡ before

  abbrev pub WroteFor : Catalogue → Option (Result Plan Refusal) → Layered → Layered → Type 0
  WroteFor cat None before after = after ≡ before
  WroteFor cat (Some j) before after = WroteJudged cat j before after

  -- an answering by its judgement; a refused one writes to none
  abbrev pub WroteAnswer : Catalogue → Option (Result Plan Refusal) → Result Answered CallFault → Layered → Layered → Type 0
  WroteAnswer cat j (Ok a) before after = WroteFor cat j before after
  WroteAnswer cat j (Err f) before after = after ≡ before

-- a restart writes to no Flash, nor to a BBR that the battery kept, and clears one that it lost once; a refused one writes to none
abbrev pub WroteRestart : {B F : Type 0} → Memory B → Battery → Result (Option ℕ) CallFault → Stack (Stack B F) Defaults → Stack (Stack B F) Defaults → Type 0
WroteRestart bbr battery (Ok fault) before after = WroteByBattery bbr battery before.upper.upper after.upper.upper × (after.upper.lower ≡ before.upper.lower)
WroteRestart bbr battery (Err f) before after = after ≡ before
