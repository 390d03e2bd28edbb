-- What each call comes to in the reference, in the direction of the code's contracts.
use Rattle.std.proofs.Common.{◌≡◌, ℕ, ◌-◌, ◌<◌, ◌≤◌, min, Bool, true, false, cond, ltb, List, [], ◌++◌, length, take, Some, None, Ok, Err, Option, Result, sym, refl, ap, ◌∙◌, subst}
use Rattle.std.proofs.lemmas.Bool.{cond-true, cond-false, lt-ltb, le-ltb}
use Rattle.rule.specs.Rules.{Finding}
use Rattle.reference.specs.declared.fault.CallFault.{CallFault}
use Rattle.reference.specs.declared.fault.CallFault.TheVariants.{Shut, BufferTooShort, WrongLayer as NoSuchLayer, UnknownKey as NoSuchKey}
use Rattle.reference.specs.declared.answered.Answered.{Answered}
use Rattle.frame.specs.Written.{in_front}
use Rattle.layer.specs.Settings.{value_under}
use Rattle.reference.specs.declared.call.Battery.{Battery}
use Rattle.reference.specs.Stores.{Settings, Store, held, holding}
use Rattle.reference.specs.Parts.{stack_fault, stacked}
use Rattle.reference.specs.Requests.{Catalogue, is_known}
use Rattle.reference.specs.Events.{Asking, take_piece, answer_into, look_at, restart_with, Event, took, looked, restarted, refused, written_by, answered_length, answered_event}
use Rattle.reference.specs.Receiver.{State, Stepped, with_held, step, served, taking, layer_of, looking, after_battery, restarting}
use Rattle.reference.proofs.Verdicts.{writes_fit}
use Rattle.receiver.proofs.Layers.{named_some, named_none}
use Rattle.receiver.specs.Handled.{Answering, answering_of}

-- a receiver that the check of being open passed
pub not_shut : (shut : Bool) → ◌≡◌ {A = Result (Unit {0}) CallFault} (Ok tt) (cond shut (Err Shut) (Ok tt)) → shut ≡ false
not_shut true e = absurd (cc)
not_shut false e = refl

module _ (cat : Catalogue) (rule : Finding) (s : State) where
  -- a shut receiver
  pub shut_state : (c : Asking) → s.shut ≡ true → s ≡ (step cat rule s c).state
  unfolding step
  shut_state c e = ap (λ (r : Stepped). r.state) (sym (cond-true s.shut _ _ e))

  pub shut_event : (c : Asking) → s.shut ≡ true → refused c Shut ≡ (step cat rule s c).event
  unfolding step
  shut_event c e = ap (λ (r : Stepped). r.event) (sym (cond-true s.shut _ _ e))

  on : (c : Asking) → s.shut ≡ false → served cat rule s c ≡ step cat rule s c
  unfolding step
  on c e = sym (cond-false s.shut _ _ e)

  -- taking
  pub take_state : (piece bs : List ℕ) (n : ℕ) → s.shut ≡ false → n ≡ min (length piece) (780 - length s.held_bytes) → bs ≡ s.held_bytes ++ take n piece
      → with_held s bs ≡ (step cat rule s (take_piece piece)).state
  unfolding served taking
  take_state piece bs n off count e =
      ap (with_held s) (e ∙ ap (λ k. s.held_bytes ++ take k piece) count) ∙ ap (λ (r : Stepped). r.state) (on (take_piece piece) off)

  pub take_event : (piece : List ℕ) (n : ℕ) → s.shut ≡ false → n ≡ min (length piece) (780 - length s.held_bytes) → took piece n ≡ (step cat rule s (take_piece piece)).event
  unfolding served taking
  take_event piece n off count = ap (took piece) count ∙ ap (λ (r : Stepped). r.event) (on (take_piece piece) off)

  -- answering
  pub short_state : (room : ℕ) → s.shut ≡ false → room < 790 → s ≡ (step cat rule s (answer_into room)).state
  unfolding served
  short_state room off lt = ap (λ (r : Stepped). r.state) (sym (cond-true (ltb room 790) _ _ (lt-ltb room 790 lt)) ∙ on (answer_into room) off)

  pub short_event : (room : ℕ) → s.shut ≡ false → room < 790 → refused (answer_into room) BufferTooShort ≡ (step cat rule s (answer_into room)).event
  unfolding served
  short_event room off lt = ap (λ (r : Stepped). r.event) (sym (cond-true (ltb room 790) _ _ (lt-ltb room 790 lt)) ∙ on (answer_into room) off)

  answer_is : (room : ℕ) → s.shut ≡ false → 790 ≤ room → answering_of cat rule s ≡ step cat rule s (answer_into room)
  unfolding served
  answer_is room off le = sym (cond-false (ltb room 790) _ _ (le-ltb room 790 le)) ∙ on (answer_into room) off

  pub answer_fits : (room : ℕ) → s.shut ≡ false → 790 ≤ room → length (written_by (answering_of cat rule s).event) ≤ 790
  answer_fits room off le = subst (λ (r : Stepped). length (written_by r.event) ≤ 790) (sym (answer_is room off le)) (writes_fit cat rule s (answer_into room))

  -- a refusal writes nothing
  pub refused_buffer : (c : Asking) (f : CallFault) (old : List ℕ) → refused c f ≡ (step cat rule s c).event → old ≡ in_front (written_by (step cat rule s c).event) old
  refused_buffer c f old e = ap (λ (x : Event). in_front (written_by x) old) e

  pub refused_count : (c : Asking) (f : CallFault) → refused c f ≡ (step cat rule s c).event → 0 ≡ length (written_by (step cat rule s c).event)
  refused_count c f e = ap (λ (x : Event). length (written_by x)) e

  module _ (room : ℕ) (s₁ : State) (old out : List ℕ) (a : Answered) (off : s.shut ≡ false) (le : 790 ≤ room) (h : Answering (answering_of cat rule s) s₁ old out a) where
    pub answer_state : s₁ ≡ (step cat rule s (answer_into room)).state
    answer_state = h.state ∙ ap (λ (r : Stepped). r.state) (answer_is room off le)

    pub answer_event_lem : answered_event out a ≡ (step cat rule s (answer_into room)).event
    answer_event_lem = h.event ∙ ap (λ (r : Stepped). r.event) (answer_is room off le)

    pub answer_count : answered_length a ≡ length (written_by (step cat rule s (answer_into room)).event)
    answer_count = h.count ∙ ap (λ (r : Stepped). length (written_by r.event)) (answer_is room off le)

    pub answer_buffer : out ≡ in_front (written_by (step cat rule s (answer_into room)).event) old
    answer_buffer = h.buffer ∙ ap (λ (r : Stepped). in_front (written_by r.event) old) (answer_is room off le)

  -- looking
  look_is : (layer k : ℕ) → s.shut ≡ false → looking cat layer k (layer_of cat s layer) ≡ (step cat rule s (look_at layer k)).event
  unfolding served
  look_is layer k off = ap (λ (r : Stepped). r.event) (on (look_at layer k) off)

  pub look_none : (layer k : ℕ) → s.shut ≡ false → None ≡ layer_of cat s layer → refused (look_at layer k) NoSuchLayer ≡ (step cat rule s (look_at layer k)).event
  look_none layer k off e = ap (looking cat layer k) e ∙ look_is layer k off

  module _ (layer k : ℕ) (ss : Settings) (b : Bool) (off : s.shut ≡ false) (e : Some ss ≡ layer_of cat s layer) (known : b ≡ is_known cat k) where
    seen : cond b (looked layer k (value_under k ss)) (refused (look_at layer k) NoSuchKey) ≡ (step cat rule s (look_at layer k)).event
    seen = ap (λ (c : Bool). cond c (looked layer k (value_under k ss)) (refused (look_at layer k) NoSuchKey)) known ∙ ap (looking cat layer k) e ∙ look_is layer k off

    pub look_some : (v : Option ℕ) → b ≡ true → v ≡ value_under k ss → looked layer k v ≡ (step cat rule s (look_at layer k)).event
    look_some v is value = ap (looked layer k) value ∙ sym (cond-true b _ _ is) ∙ seen

    pub look_unknown : b ≡ false → refused (look_at layer k) NoSuchKey ≡ (step cat rule s (look_at layer k)).event
    look_unknown is = sym (cond-false b _ _ is) ∙ seen

  -- restarting
  module _ (battery : Battery) (bbr : Store) (off : s.shut ≡ false) (after : bbr ≡ after_battery battery s.bbr) where
    pub restart_state : (ss : Settings) (bs : List ℕ) → ss ≡ stacked cat rule (held bbr) (held s.flash) → bs ≡ []
        → record { shut = s.shut; ram = holding s.ram ss; bbr = bbr; flash = s.flash; held_bytes = bs; transaction = None } ≡ (step cat rule s (restart_with battery)).state
    unfolding served restarting
    restart_state ss bs is none =
        (λ i. record { shut = s.shut; ram = holding s.ram ((is ∙ ap (λ (b : Store). stacked cat rule (held b) (held s.flash)) after) i); bbr = after i; flash = s.flash; held_bytes = none i; transaction = None })
        ∙ ap (λ (r : Stepped). r.state) (on (restart_with battery) off)

    pub restart_event : (fault : Option ℕ) → fault ≡ stack_fault cat rule (held bbr) (held s.flash) → restarted battery fault ≡ (step cat rule s (restart_with battery)).event
    unfolding served restarting
    restart_event fault is =
        ap (restarted battery) (is ∙ ap (λ (b : Store). stack_fault cat rule (held b) (held s.flash)) after) ∙ ap (λ (r : Stepped). r.event) (on (restart_with battery) off)

pub ruleset by_taking = (shut_state, shut_event, take_state, take_event)

pub ruleset by_looking = (shut_event, look_some, look_unknown, look_none, named_some, named_none)

pub ruleset by_restarting = (shut_state, shut_event, restart_state, restart_event)
