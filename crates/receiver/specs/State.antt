-- A receiver as the reference has it.
use Rattle.std.specs.Prelude.{◌≡◌, ℕ, Bool, List, Ok, Err, Option, Result}
use Rattle.std.specs.Option.{option_map}
use Rattle.catalogue.specs.declared.entries.Entry.{Entry}
use Rattle.catalogue.specs.Owned.{entries_of}
use Rattle.held.specs.Meaning.{bytes_held}
use Rattle.store.specs.Slots.{settings_of}
use Rattle.rule.specs.Rules.{Finding}
use Rattle.request.specs.Changes.{changes_by, slots_of}
use Rattle.request.specs.declared.change.Change.{Change}
use Rattle.reference.specs.declared.fault.CallFault.{CallFault}
use Rattle.reference.specs.declared.call.Battery.{Battery}
use Rattle.reference.specs.declared.answered.Answered.{Answered}
use Rattle.reference.specs.Stores.{Settings}
use Rattle.reference.specs.Stores.{store_of}
use Rattle.reference.specs.Events.{Asking, take_piece, answer_into, look_at, restart_with, Event, took, looked, restarted, refused, answered_event}
use Rattle.reference.specs.Receiver.{State, Stepped, step, ram_of}
use Rattle.reference.specs.Receiver.{Transaction as Opened}
use Rattle.receiver.specs.declared.state.Receiver.{Receiver}
use Rattle.receiver.specs.declared.transaction.Transaction.{Transaction}

-- an open transaction, with its queue in these slots
abbrev pub opened_of : List Entry → List (Option Change) → Transaction → Opened
opened_of es slots t = record { kind = t.id; layers = t.layers; queue = changes_by es slots }

-- the entries of the catalogue that was copied
abbrev pub items_of : {B F R : Type 0} → Receiver B F R → List Entry
items_of r = entries_of r.layers.lower.catalogue

-- the state, by the marks and settings of BBR and Flash
abbrev pub state_of : {B F R : Type 0} → (B → Bool) → (B → Settings) → (F → Bool) → (F → Settings) → Receiver B F R → State
state_of bu bs fu fs r =
    record {
      shut = r.shut;
      ram = ram_of (settings_of r.ram.slots);
      bbr = store_of bu bs r.layers.upper.upper;
      flash = store_of fu fs r.layers.upper.lower;
      held_bytes = bytes_held r.held;
      transaction = option_map (opened_of (items_of r) (slots_of r.queue)) r.transaction;
    }

-- the reference's step from there, by what the rule finds
abbrev pub step_of : {B F R : Type 0} → (B → Bool) → (B → Settings) → (F → Bool) → (F → Settings) → (R → Finding) → Receiver B F R → Asking → Stepped
step_of bu bs fu fs finding r c = step (items_of r) (finding r.rule) (state_of bu bs fu fs r) c

-- what never changes
pub record Kept {B F R : Type 0} (before after : Receiver B F R) : Type 0 where
  pub items : items_of after ≡ items_of before
  pub rule : after.rule ≡ before.rule

-- a call's event, by its arguments and its answer
abbrev pub took_event : List ℕ → Result ℕ CallFault → Event
took_event piece (Ok n) = took piece n
took_event piece (Err f) = refused (take_piece piece) f

abbrev pub looked_event : ℕ → ℕ → Result (Option ℕ) CallFault → Event
looked_event layer k (Ok v) = looked layer k v
looked_event layer k (Err f) = refused (look_at layer k) f

abbrev pub restarted_event : Battery → Result (Option ℕ) CallFault → Event
restarted_event b (Ok fault) = restarted b fault
restarted_event b (Err f) = refused (restart_with b) f

-- an answering's, with what its buffer holds after it
abbrev pub answer_event : ℕ → List ℕ → Result Answered CallFault → Event
answer_event room buffer (Ok a) = answered_event buffer a
answer_event room buffer (Err f) = refused (answer_into room) f
