-- Which writes BBR and Flash get, one call further; and from the stores of a receiver's parts.
use Rattle.std.proofs.Common.{◌≡◌, ℕ, ◌+◌, ◌<◌, ◌≤◌, min, true, List, [], ◌∷◌, map, length, get_or, drop, Some, None, Ok, Err, Option, Result, sym, refl, ap, ap₂, ◌∙◌, subst}
use Rattle.std.proofs.lemmas.List.{drop_more, drop_all}
use Rattle.frame.specs.Scanning.{finding}
use Rattle.rule.specs.Rules.{Finding}
use Rattle.reference.specs.declared.fault.PartsFault.{PartsFault}
use Rattle.reference.specs.declared.fault.CallFault.{CallFault}
use Rattle.reference.specs.declared.call.Call.{Call}
use Rattle.reference.specs.declared.call.Battery.{Battery}
use Rattle.reference.specs.declared.answered.Answered.{Answered}
use Rattle.reference.specs.declared.answered.Telling.{Telling}
use Rattle.reference.specs.Requests.{Catalogue}
use Rattle.reference.specs.Events.{Asking, asking_of, take_piece, answer_into, look_at, restart_with, Event, event_told}
use Rattle.reference.specs.Parts.{Parts, parts_fault}
use Rattle.reference.specs.Receiver.{State, Stepped, step, made_by}
use Rattle.reference.specs.Receiver.{made as made_of}
use Rattle.configuration.specs.Writes.{Memory}
use Rattle.receiver.specs.State.{took_event, looked_event, restarted_event, answer_event}
use Rattle.receiver.specs.Stores.{judgement_on, Layered, WroteFor, WroteAnswer, WroteRestart}
use Rattle.replay.specs.Wrote.{WroteOn, WroteFrom, WroteRun}
use Rattle.replay.proofs.Runs.{any_event, shut_step}

module _ {B F : Type 0} (bbr : Memory B) (flash : Memory F) where
  module _ (cat : Catalogue) (rule : Finding) (s : State) (before after : Layered bbr flash) where
    -- what happened at a call
    abbrev pub At : Asking → Type 0
    At c = WroteOn bbr flash cat rule s (step cat rule s c).event before after

    by_event : (e f : Event) → e ≡ f → WroteOn bbr flash cat rule s e before after → WroteOn bbr flash cat rule s f before after
    by_event e f is wrote = subst (λ x. WroteOn bbr flash cat rule s x before after) is wrote

    pub take_wrote : (piece : List ℕ) (r : Result ℕ CallFault) → took_event piece r ≡ (step cat rule s (take_piece piece)).event → after ≡ before → At (take_piece piece)
    take_wrote piece (Ok n) is same = by_event _ _ is same
    take_wrote piece (Err f) is same = by_event _ _ is same

    pub look_wrote : (layer k : ℕ) (r : Result (Option ℕ) CallFault) → looked_event layer k r ≡ (step cat rule s (look_at layer k)).event → after ≡ before → At (look_at layer k)
    look_wrote layer k (Ok v) is same = by_event _ _ is same
    look_wrote layer k (Err f) is same = by_event _ _ is same

    pub restart_wrote : (b : Battery) (r : Result (Option ℕ) CallFault) → restarted_event b r ≡ (step cat rule s (restart_with b)).event → WroteRestart bbr b r before after
        → At (restart_with b)
    restart_wrote b (Ok fault) is wrote = by_event _ _ is wrote
    restart_wrote b (Err f) is wrote = by_event _ _ is wrote

    told_wrote : (noise : ℕ) (o : Option Telling) (w : List ℕ) → WroteFor bbr flash cat (judgement_on cat rule s (finding s.held_bytes).message) before after
        → WroteOn bbr flash cat rule s (event_told noise o w) before after
    told_wrote noise None w wrote = wrote
    told_wrote noise (Some t) w wrote = wrote

    answered_wrote : (room : ℕ) (out : List ℕ) (r : Result Answered CallFault) → WroteAnswer bbr flash cat (judgement_on cat rule s (finding s.held_bytes).message) r before after
        → WroteOn bbr flash cat rule s (answer_event room out r) before after
    answered_wrote room out (Ok a) wrote = told_wrote a.noise a.told _ wrote
    answered_wrote room out (Err f) wrote = wrote

    -- whatever the room is that is asked for
    pub answer_wrote : (room count : ℕ) (out : List ℕ) (r : Result Answered CallFault) → count ≡ min room 790 → answer_event count out r ≡ (step cat rule s (answer_into count)).event
        → WroteAnswer bbr flash cat (judgement_on cat rule s (finding s.held_bytes).message) r before after → At (answer_into room)
    answer_wrote room count out r is e wrote = by_event _ _ (any_event cat rule room s count out r is e) (answered_wrote room out r wrote)

  -- what was written so far, with what is still to be written, makes the whole
  abbrev pub Goes : Catalogue → Finding → State → List Asking → Layered bbr flash → (Layered bbr flash → Type 0) → Type 0
  Goes cat rule s cs now Whole = (last : Layered bbr flash) → WroteFrom bbr flash cat rule s cs now last → Whole last

  pub wrote_more : (cat cat₁ : Catalogue) (rule rule₁ : Finding) (s t : State) (i : ℕ) (cs : List Call) (d : Call) (now next : Layered bbr flash) (Whole : Layered bbr flash → Type 0)
      → cat₁ ≡ cat → rule₁ ≡ rule → t ≡ (step cat₁ rule₁ s (asking_of (get_or cs i d))).state → At cat₁ rule₁ s now next (asking_of (get_or cs i d))
      → Goes cat rule s (map asking_of (drop i cs)) now Whole → i < length cs → Goes cat rule t (map asking_of (drop (i + 1) cs)) next Whole
  unfolding WroteFrom
  wrote_more cat cat₁ rule rule₁ s t i cs d now next Whole same-cat same-rule after at goes lt last rest =
      let c : Asking = asking_of (get_or cs i d) in
      let to : t ≡ (step cat rule s c).state = after ∙ ap₂ (λ (x : Catalogue) (y : Finding). (step x y s c).state) same-cat same-rule in
      let by_cat : At cat rule₁ s now next c = subst (λ (x : Catalogue). At x rule₁ s now next c) same-cat at in
      goes last
      (subst (λ (l : List Call). WroteFrom bbr flash cat rule s (map asking_of l) now last) (sym (drop_more cs i d lt))
      (next, subst (λ (y : Finding). At cat y s now next c) same-rule by_cat, subst (λ (x : State). WroteFrom bbr flash cat rule x (map asking_of (drop (i + 1) cs)) next last) to rest))

  pub wrote_all : (cat : Catalogue) (rule : Finding) (s : State) (i : ℕ) (cs : List Call) (now : Layered bbr flash) (Whole : Layered bbr flash → Type 0)
      → Goes cat rule s (map asking_of (drop i cs)) now Whole → length cs ≤ i → Whole now
  unfolding WroteFrom
  wrote_all cat rule s i cs now Whole goes le = goes now (subst (λ (l : List Call). WroteFrom bbr flash cat rule s (map asking_of l) now now) (sym (drop_all i cs le)) refl)

  -- a shut receiver writes nothing, whatever its catalogue and rule
  wrote_shut : (cat cat₁ : Catalogue) (rule rule₁ : Finding) (s : State) (cs : List Asking) (now last : Layered bbr flash) → s.shut ≡ true → WroteFrom bbr flash cat rule s cs now last
      → WroteFrom bbr flash cat₁ rule₁ s cs now last
  unfolding WroteFrom
  wrote_shut cat cat₁ rule rule₁ s [] now last on e = e
  wrote_shut cat cat₁ rule rule₁ s (c ∷ cs) now last on (next, at, rest) =
      let is = shut_step cat rule s c on in
      let is₁ = sym (shut_step cat₁ rule₁ s c on) in
      let same : next ≡ now = subst (λ (n : Stepped). WroteOn bbr flash cat rule s n.event now next) is at in (
        next,
        subst (λ (n : Stepped). WroteOn bbr flash cat₁ rule₁ s n.event now next) is₁ same,
        subst (λ (n : Stepped). WroteFrom bbr flash cat₁ rule₁ n.state cs next last) is₁
            (wrote_shut cat cat₁ rule rule₁ s cs next last on (subst (λ (n : Stepped). WroteFrom bbr flash cat rule n.state cs next last) is rest)),
      )

  -- so the writes are those of the reference's run
  pub wrote_run : (p : Parts) (cat : Catalogue) (rule : Finding) (cs : List Asking) → (parts_fault p ≡ None → cat ≡ p.catalogue) → rule ≡ p.rule
      → (s : State) → s ≡ made_of p → (b : B) (f : F) (now last : Layered bbr flash) → now.upper.upper ≡ b → now.upper.lower ≡ f
      → WroteFrom bbr flash cat rule s cs now last → WroteRun bbr flash p cs b f last
  unfolding made_of
  wrote_run p cat rule cs items same-rule s is b f now last of-bbr of-flash wrote =
      record { first = now; on_bbr = of-bbr; on_flash = of-flash; wrote = go (parts_fault p) refl }
    where
      here : WroteFrom bbr flash cat rule (made_of p) cs now last
      here = subst (λ (x : State). WroteFrom bbr flash cat rule x cs now last) is wrote

      go : (o : Option PartsFault) → parts_fault p ≡ o → WroteFrom bbr flash p.catalogue p.rule (made_of p) cs now last
      go None e =
          subst (λ (y : Finding). WroteFrom bbr flash p.catalogue y (made_of p) cs now last) same-rule
          (subst (λ (x : Catalogue). WroteFrom bbr flash x rule (made_of p) cs now last) (items e) here)
      go (Some f) e = wrote_shut cat p.catalogue rule p.rule (made_of p) cs now last (ap (λ (o : Option PartsFault). (made_by o p).shut) e) here
