-- Runs of calls, one call further; and answerings whose buffer is larger than any answer.
use Rattle.std.proofs.Common.{◌≡◌, ℕ, ◌+◌, ◌<◌, ◌≤◌, min, Bool, true, false, cond, eqb, ltb, List, [], ◌∷◌, ◌++◌, map, reverse, length, get_or, take, drop, Some, None, Ok, Err, Option, Result, sym, refl, ap, ◌∙◌, subst, ap₂, arith}
use Rattle.std.proofs.lemmas.Bool.{cond_both, cond-true}
use Rattle.std.proofs.lemmas.Bool.Decides.{nat_tests}
use Rattle.std.proofs.lemmas.List.{drop_more, drop_all, map_push, reverse-append}
use Rattle.frame.specs.Frames.{Message}
use Rattle.frame.specs.Scanning.{finding}
use Rattle.rule.specs.Rules.{Finding}
use Rattle.reference.specs.declared.refusal.Refusal.{Refusal}
use Rattle.reference.specs.declared.fault.CallFault.{CallFault}
use Rattle.reference.specs.declared.fault.CallFault.TheVariants.{Shut, BufferTooShort}
use Rattle.reference.specs.declared.answered.Answered.{Answered}
use Rattle.reference.specs.declared.answered.Telling.{Telling}
use Rattle.reference.specs.Requests.{Catalogue, configuration_class}
use Rattle.reference.specs.Events.{Asking, asking_of, answer_into, look_at, Event, took, nothing_whole, told, looked, restarted, refused, event_told, answered_length}
use Rattle.reference.specs.Receiver.{State, Stepped, with_held, with_transaction, of_kind, judged, Plan, apply, queue, reply, carried_out, handled, answering, served, step, made_by, Run, run_from, run}
use Rattle.reference.specs.Receiver.{made as made_of}
use Rattle.reference.specs.declared.fault.PartsFault.{PartsFault}
use Rattle.reference.specs.Parts.{Parts, parts_fault}
use Rattle.reference.specs.Law.{Law}
use Rattle.reference.specs.Promise.{LawOf}
use Rattle.receiver.specs.State.{answer_event}
use Rattle.replay.specs.declared.event.Event.{Event as Logged}
use Rattle.reference.specs.declared.call.Call.{Call}
use Rattle.replay.specs.Logs.{event_of, history_of, run_of, Replays}

-- looking changes nothing
pub look_keeps : (cat : Catalogue) (rule : Finding) (s : State) (layer key : ℕ) → s ≡ (step cat rule s (look_at layer key)).state
unfolding step served
look_keeps cat rule s layer key = cond_both s.shut _ _ (λ (r : Stepped). s ≡ r.state) (λ _. refl) (λ _. refl)

-- an answering's event, with another room where it was refused
abbrev for_room : ℕ → Event → Event
for_room room (took piece n) = took piece n
for_room room (nothing_whole n) = nothing_whole n
for_room room (told n c i v w) = told n c i v w
for_room room (looked l k v) = looked l k v
for_room room (restarted b f) = restarted b f
for_room room (refused c f) = refused (answer_into room) f

told_for : (room noise : ℕ) (o : Option Telling) (w : List ℕ) → event_told noise o w ≡ for_room room (event_told noise o w)
told_for room noise None w = refl
told_for room noise (Some t) w = refl

answered_for : (room count : ℕ) (out : List ℕ) (r : Result Answered CallFault) → answer_event room out r ≡ for_room room (answer_event count out r)
answered_for room count out (Ok a) = told_for room a.noise a.told (take (answered_length a) out)
answered_for room count out (Err f) = refl

module _ (cat : Catalogue) (rule : Finding) (room : ℕ) where
  carried_for : (s : State) (n : ℕ) (m : Message) (r : Result Plan Refusal) → for_room room (carried_out cat s n m r).event ≡ (carried_out cat s n m r).event
  carried_for s n m (Err r) = refl
  carried_for s n m (Ok (apply l d)) = refl
  carried_for s n m (Ok (queue t)) = refl
  carried_for s n m (Ok (reply bs)) = refl

  answering_for : (s : State) (n : ℕ) (o : Option Message) → for_room room (answering cat rule s n o).event ≡ (answering cat rule s n o).event
  unfolding handled
  answering_for s n None = refl
  answering_for s n (Some m) = cond_both (eqb m.class configuration_class) _ _ (λ (r : Stepped). for_room room r.event ≡ r.event)
      (λ _. carried_for (with_transaction s (of_kind m.id s.transaction)) n m (judged cat rule (with_transaction s (of_kind m.id s.transaction)) m)) (λ _. refl)

  -- a shut receiver, a short buffer, else an answering for which the room is nothing
  asked : State → ℕ → Bool → Bool → Stepped
  asked s k shut short =
      cond shut (record { state = s; event = refused (answer_into k) Shut })
      (cond short (record { state = s; event = refused (answer_into k) BufferTooShort }) (answering cat rule (with_held s (finding s.held_bytes).rest) (finding s.held_bytes).skipped (finding s.held_bytes).message))

  same_state : (s : State) (k : ℕ) (shut short : Bool) → (asked s k shut short).state ≡ (asked s room shut short).state
  unfolding asked
  same_state s k true short = refl
  same_state s k false true = refl
  same_state s k false false = refl

  same_event : (s : State) (k : ℕ) (shut short : Bool) → for_room room (asked s k shut short).event ≡ (asked s room shut short).event
  unfolding asked
  same_event s k true short = refl
  same_event s k false true = refl
  same_event s k false false = answering_for (with_held s (finding s.held_bytes).rest) (finding s.held_bytes).skipped (finding s.held_bytes).message

  -- 790 bytes are too few where more are, and else none
  as_short : (count : ℕ) → count ≡ min room 790 → ltb count 790 ≡ ltb room 790
  as_short count is = grind (arith, nat_tests)

  pub any_state : (s s₁ : State) (count : ℕ) → count ≡ min room 790 → s₁ ≡ (step cat rule s (answer_into count)).state → s₁ ≡ (step cat rule s (answer_into room)).state
  unfolding step served asked
  any_state s s₁ count is e = e ∙ same_state s count s.shut (ltb count 790) ∙ ap (λ b. (asked s room s.shut b).state) (as_short count is)

  pub any_event : (s : State) (count : ℕ) (out : List ℕ) (r : Result Answered CallFault) → count ≡ min room 790 → answer_event count out r ≡ (step cat rule s (answer_into count)).event
      → answer_event room out r ≡ (step cat rule s (answer_into room)).event
  unfolding step served asked
  any_event s count out r is e =
      answered_for room count out r ∙ ap (for_room room) e ∙ same_event s count s.shut (ltb count 790) ∙ ap (λ b. (asked s room s.shut b).event) (as_short count is)

  pub any_told : (s : State) (count : ℕ) (out w : List ℕ) (a : Answered) → count ≡ min room 790 → answer_event count out (Ok a) ≡ (step cat rule s (answer_into count)).event
      → w ≡ take (answered_length a) out → event_told a.noise a.told w ≡ (step cat rule s (answer_into room)).event
  any_told s count out w a is e written = ap (event_told a.noise a.told) written ∙ any_event s count out (Ok a) is e

  pub any_refused : (s : State) (count : ℕ) (f : CallFault) → refused (answer_into count) f ≡ (step cat rule s (answer_into count)).event → count ≡ min room 790
      → refused (answer_into room) f ≡ (step cat rule s (answer_into room)).event
  any_refused s count f e is = any_event s count [] (Err f) is e

-- One call further

module _ (cat : Catalogue) (rule : Finding) where
  -- s before the call, t after it; log and more the events before and after
  pub run_more : (cat₁ : Catalogue) (rule₁ : Finding) (s t : State) (i : ℕ) (cs : List Call) (d : Call) (e : Logged) (log more : List Logged) → i < length cs → cat₁ ≡ cat → rule₁ ≡ rule
      → t ≡ (step cat₁ rule₁ s (asking_of (get_or cs i d))).state → event_of e ≡ (step cat₁ rule₁ s (asking_of (get_or cs i d))).event → more ≡ log ++ e ∷ []
      → run_from cat rule (record { state = t; history = history_of more }) (map asking_of (drop (i + 1) cs)) ≡ run_from cat rule (record { state = s; history = history_of log }) (map asking_of (drop i cs))
  unfolding run_from
  run_more cat₁ rule₁ s t i cs d e log more lt same-cat same-rule after event pushed =
      let left = drop_more cs i d lt in
      let c : Asking = asking_of (get_or cs i d) in
      let to-here = ap₂ (λ (x : Catalogue) (y : Finding). step x y s c) same-cat same-rule in
      let grown : history_of more ≡ event_of e ∷ history_of log = ap history_of pushed ∙ ap reverse (map_push event_of log e) ∙ reverse-append (map event_of log) (event_of e ∷ []) in
      ap₂ (λ (x : State) (h : List Event). run_from cat rule (record { state = x; history = h }) (map asking_of (drop (i + 1) cs)))
      (after ∙ ap (λ (r : Stepped). r.state) to-here)
      (grown ∙ ap (λ (x : Event). x ∷ history_of log) (event ∙ ap (λ (r : Stepped). r.event) to-here))
      ∙ sym (ap (λ (l : List Call). run_from cat rule (record { state = s; history = history_of log }) (map asking_of l)) left)

  pub run_all : (s : State) (i : ℕ) (cs : List Call) (log : List Logged) → length cs ≤ i → run_from cat rule (record { state = s; history = history_of log }) (map asking_of (drop i cs)) ≡ record { state = s; history = history_of log }
  unfolding run_from
  run_all s i cs log le = ap (λ (l : List Call). run_from cat rule (record { state = s; history = history_of log }) (map asking_of l)) (drop_all i cs le)

-- A shut receiver refuses every call, whatever its catalogue and rule

pub shut_step : (cat : Catalogue) (rule : Finding) (s : State) (c : Asking) → s.shut ≡ true → step cat rule s c ≡ record { state = s; event = refused c Shut }
unfolding step
shut_step cat rule s c on = cond-true s.shut _ _ on

run_shut : (cat cat₁ : Catalogue) (rule rule₁ : Finding) (s : State) (h : List Event) (cs : List Asking) → s.shut ≡ true
    → run_from cat rule (record { state = s; history = h }) cs ≡ run_from cat₁ rule₁ (record { state = s; history = h }) cs
unfolding run_from
run_shut cat cat₁ rule rule₁ s h [] on = refl
run_shut cat cat₁ rule rule₁ s h (c ∷ cs) on =
    ap (λ (n : Stepped). run_from cat rule (record { state = n.state; history = n.event ∷ h }) cs) (shut_step cat rule s c on)
    ∙ run_shut cat cat₁ rule rule₁ s (refused c Shut ∷ h) cs on
    ∙ sym (ap (λ (n : Stepped). run_from cat₁ rule₁ (record { state = n.state; history = n.event ∷ h }) cs) (shut_step cat₁ rule₁ s c on))

-- So a receiver that was made of parts runs as the reference's does

module _ (p : Parts) (cat : Catalogue) (rule : Finding) (cs : List Asking) (items : parts_fault p ≡ None → cat ≡ p.catalogue) (same-rule : rule ≡ p.rule) where
  run_is : run_from cat rule (record { state = made_of p; history = [] }) cs ≡ run p cs
  unfolding made_of
  run_is = go (parts_fault p) refl
    where
      go : (o : Option PartsFault) → parts_fault p ≡ o → run_from cat rule (record { state = made_of p; history = [] }) cs ≡ run p cs
      go None e = ap₂ (λ (x : Catalogue) (y : Finding). run_from x y (record { state = made_of p; history = [] }) cs) (items e) same-rule
      go (Some f) e = run_shut cat p.catalogue rule p.rule (made_of p) [] cs (ap (λ (o : Option PartsFault). (made_by o p).shut) e)

  pub replays : (s : State) → s ≡ made_of p → LawOf p → (log : List Logged) (left : State) → run_of log left ≡ run_from cat rule (record { state = s; history = [] }) cs → Replays p cs log left
  replays s is law log left e =
      let whole : run_of log left ≡ run p cs = e ∙ ap (λ (x : State). run_from cat rule (record { state = x; history = [] }) cs) is ∙ run_is in
      record {
        history = ap (λ (r : Run). r.history) whole;
        state = ap (λ (r : Run). r.state) whole;
        law = λ ok. subst (λ (r : Run). Law p r.history r.state.ram.settings r.state.bbr.settings r.state.flash.settings) (sym whole) (law ok cs);
      }
