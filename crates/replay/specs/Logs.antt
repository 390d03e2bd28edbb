-- What a log of the code means, and what a replay promises of it.
use Rattle.std.specs.Prelude.{◌≡◌, List, map, reverse, None, Ok, Err, Result, vec_items}
use Rattle.reference.specs.Events.{Asking, asking_of, History, took, event_told, looked, restarted, refused}
use Rattle.reference.specs.Events.{Event as Happened}
use Rattle.reference.specs.Parts.{Parts, parts_fault}
use Rattle.reference.specs.Receiver.{State, Run, run}
use Rattle.reference.specs.Law.{Law}
use Rattle.receiver.specs.declared.state.Receiver.{Receiver}
use Rattle.receiver.specs.State.{items_of}
use Rattle.replay.specs.declared.event.Event.{Event}
use Rattle.replay.specs.declared.event.Event.TheVariants.{Took, Answered, Looked, Restarted, Refused}
use Rattle.replay.specs.declared.unlogged.Unlogged.{Unlogged}
use Rattle.replay.specs.declared.unlogged.Unlogged.TheVariants.{Refused as WasRefused, NoMemory}

abbrev pub event_of : Event → Happened
event_of (Took piece n) = took piece.now n
event_of (Answered a) = event_told a.answered.noise a.answered.told (vec_items a.written)
event_of (Looked layer key value) = looked layer key value
event_of (Restarted battery fault) = restarted battery fault
event_of (Refused call fault) = refused (asking_of call) fault

-- what happened was this event, or this refusal of the call
abbrev pub LoggedAs : Asking → Result Event Unlogged → Happened → Type 0
LoggedAs asking (Ok e) happened = event_of e ≡ happened
LoggedAs asking (Err (WasRefused fault)) happened = refused asking fault ≡ happened
LoggedAs asking (Err (NoMemory error)) happened = Unit {0}

-- a log has its oldest event first, a history its newest
abbrev pub history_of : List Event → History
history_of es = reverse (map event_of es)

-- a log and the state that is left, as a run
abbrev pub run_of : List Event → State → Run
run_of log left = record { state = left; history = history_of log }

-- The log is that of the reference receiver's run, and so is the state that is left; and where the check accepts the parts, the law holds of
-- the log and of the layers that are left.
pub record Replays (p : Parts) (calls : List Asking) (log : List Event) (left : State) : Type 0 where
  pub history : history_of log ≡ (run p calls).history
  pub state : left ≡ (run p calls).state
  pub law : parts_fault p ≡ None → Law p (history_of log) left.ram.settings left.bbr.settings left.flash.settings

-- The receiver that is left has the catalogue and the rule of which it was made.
pub record StandsOn {B F R : Type 0} (p : Parts) (rule : R) (r : Receiver B F R) : Type 0 where
  pub items : parts_fault p ≡ None → items_of r ≡ p.catalogue
  pub same_rule : r.rule ≡ rule
