-- From what the code did with a frame to how the reference handles it.
use Rattle.std.proofs.Common.{◌≡◌, ℕ, zero, suc, ◌+◌, cond, not, ◌||◌, eqb, ltb, List, [], ◌++◌, length, take, drop, Some, Ok, Err, Option, Result, sym, refl, ap, ◌∙◌, subst, ap₂, append_assoc, Bool, false}
use Rattle.std.proofs.lemmas.Bool.{cond-false}
use Rattle.std.proofs.lemmas.List.{take_at, drop_at, drop-drop, length-append}
use Rattle.frame.specs.Frames.{Message, carrying, frame_bytes}
use Rattle.frame.specs.Written.{patched, in_front}
use Rattle.frame.proofs.Frames.{frame_length}
use Rattle.rule.specs.Rules.{Finding}
use Rattle.request.specs.declared.change.Change.{Change as Slot}
use Rattle.reference.specs.declared.refusal.Refusal.{Refusal}
use Rattle.reference.specs.declared.refusal.Refusal.TheVariants.{OtherId, ShortPayload}
use Rattle.request.specs.Head.{head_refusal, opened_layers, after_head}
use Rattle.request.proofs.Heads.{judged_change_lem}
use Rattle.reference.specs.declared.refusal.Verdict.TheVariants.{Outside}
use Rattle.reference.specs.declared.answered.Telling.{Telling}
use Rattle.reference.specs.declared.layers.Layers.{Layers}
use Rattle.reference.specs.Requests.{Catalogue, configuration_class, valset, valget, valdel, layers_of, action_of}
use Rattle.reference.specs.Events.{told, written_by}
use Rattle.reference.specs.Receiver.{State, Stepped, with_held, with_transaction, of_kind, planned, unless, judged_change, layer_of, judged_get, judged, apply_fault, applied, carried_out, handled}
use Rattle.reference.specs.Receiver.{Plan as Planned}
use Rattle.receiver.specs.declared.first.HeldFrame.{HeldFrame}
use Rattle.receiver.specs.declared.transaction.Plan.TheVariants.{Apply, Queue}
use Rattle.receiver.specs.declared.transaction.Granted.{Granted}
use Rattle.receiver.specs.declared.transaction.Granted.TheVariants.{Change, Reply}
use Rattle.receiver.specs.First.{message_in, end_of}
use Rattle.receiver.specs.Written.{verdict_on}
use Rattle.receiver.specs.Handled.{handled_here, Answering}
use Rattle.receiver.specs.Plans.{verdicted_of, reply_of, reply_length, verdict_of, verdict_id, after_verdict, told_by, Judged}

-- Judging does not read the held bytes

planned_held : (cat : Catalogue) (rule : Finding) (s : State) (bs : List ℕ) (m : Message) (l : Layers) (a : ℕ) → planned cat rule (with_held s bs) m l a ≡ planned cat rule s m l a
unfolding apply_fault
planned_held cat rule s bs m l zero = refl
planned_held cat rule s bs m l (suc zero) = refl
planned_held cat rule s bs m l (suc (suc zero)) = refl
planned_held cat rule s bs m l (suc (suc (suc n))) = refl

change_held : (cat : Catalogue) (rule : Finding) (s : State) (bs : List ℕ) (m : Message) → judged_change cat rule (with_held s bs) m ≡ judged_change cat rule s m
change_held cat rule s bs m =
    judged_change_lem cat rule (with_held s bs) m
    ∙ ap (after_head (head_refusal m.id m.payload s.flash.usable (opened_layers s.transaction))) (planned_held cat rule s bs m (layers_of m.id m.payload) (action_of m.payload))
    ∙ sym (judged_change_lem cat rule s m)

get_held : (cat : Catalogue) (s : State) (bs : List ℕ) (m : Message) → judged_get cat (with_held s bs) m ≡ judged_get cat s m
unfolding judged_get layer_of
get_held cat s bs m = refl

judged_held : (cat : Catalogue) (rule : Finding) (s : State) (bs : List ℕ) (m : Message) → judged cat rule (with_held s bs) m ≡ judged cat rule s m
unfolding judged
judged_held cat rule s bs m =
    ap₂
    (λ (g c : Result Planned Refusal). unless (not (eqb m.id valset || (eqb m.id valget || eqb m.id valdel))) OtherId (unless (ltb (length m.payload) 4) ShortPayload (cond (eqb m.id valget) g c)))
    (get_held cat s bs m) (change_held cat rule s bs m)

-- What a judgement leaves: the held bytes are what they were

after_held : (cat : Catalogue) (s : State) (slots : List (Option Slot)) (j : Result Granted Refusal) → (after_verdict cat s slots j).held_bytes ≡ s.held_bytes
unfolding applied
after_held cat s slots (Ok (Change (Apply c))) = refl
after_held cat s slots (Ok (Change (Queue t))) = refl
after_held cat s slots (Ok (Reply n)) = refl
after_held cat s slots (Err r) = refl

-- and else what the reference carries out, whose verdict is told

carried_state : (cat : Catalogue) (s : State) (slots : List (Option Slot)) (bs out : List ℕ) (n : ℕ) (m : Message) (j : Result Granted Refusal) → with_held (after_verdict cat s slots j) bs ≡ (carried_out cat (with_held s bs) n m (verdicted_of cat slots out j)).state
unfolding applied
carried_state cat s slots bs out n m (Ok (Change (Apply c))) = refl
carried_state cat s slots bs out n m (Ok (Change (Queue t))) = refl
carried_state cat s slots bs out n m (Ok (Reply k)) = refl
carried_state cat s slots bs out n m (Err r) = refl

carried_event : (cat : Catalogue) (s : State) (slots : List (Option Slot)) (out : List ℕ) (n id : ℕ) (p : List ℕ) (j : Result Granted Refusal)
    → told n configuration_class id (verdict_of j) (reply_of (verdicted_of cat slots out j) ++ frame_bytes (verdict_on (verdict_id j) id)) ≡ (carried_out cat s n (carrying configuration_class id p) (verdicted_of cat slots out j)).event
carried_event cat s slots out n id p (Ok (Change (Apply c))) = refl
carried_event cat s slots out n id p (Ok (Change (Queue t))) = refl
carried_event cat s slots out n id p (Ok (Reply k)) = refl
carried_event cat s slots out n id p (Err r) = refl

-- The buffer: a verdict behind a reply

verdict_length : (v id : ℕ) → length (frame_bytes (verdict_on v id)) ≡ 10
verdict_length v id = frame_length (verdict_on v id)

behind_reply : (w v old out after : List ℕ) (n : ℕ) → out ≡ in_front w old → n ≡ length w → after ≡ patched n v out → after ≡ in_front (w ++ v) old
unfolding patched
behind_reply w v old out after n is len e =
    let front : take n out ≡ w = ap (take n) is ∙ take_at w (drop (length w) old) n (sym len) in
    let rest : drop (n + length v) out ≡ drop (length (w ++ v)) old =
    ap (drop (n + length v)) is ∙ sym (drop-drop (length v) n (in_front w old))
    ∙ ap (drop (length v)) (drop_at w (drop (length w) old) n (sym len)) ∙ drop-drop (length v) (length w) old ∙ ap (λ k. drop k old) (sym (length-append w v)) in
    e ∙ ap₂ (λ (x y : List ℕ). x ++ (v ++ y)) front rest ∙ sym (append_assoc w v (drop (length (w ++ v)) old))

-- A frame of the configuration class

module _ (cat : Catalogue) (rule : Finding) (s : State) (slots : List (Option Slot)) (n id count end : ℕ) where
  abbrev payload : List ℕ
  payload = take count (drop (n + 6) s.held_bytes)

  abbrev request : Message
  request = carrying configuration_class id payload

  abbrev rest : List ℕ
  rest = drop end s.held_bytes

  abbrev cancelled : State
  cancelled = with_transaction s (of_kind id s.transaction)

  abbrev step : Stepped
  step = handled cat rule (with_held s rest) n request

  step_is : (J : Result Planned Refusal) → judged cat rule cancelled request ≡ J → step ≡ carried_out cat (with_held cancelled rest) n request J
  unfolding handled
  step_is J e = ap (carried_out cat (with_held cancelled rest) n request) (judged_held cat rule cancelled rest request ∙ e)

  abbrev told_at : Result Granted Refusal → Telling
  told_at j = record { class = configuration_class; id = id; verdict = verdict_of j; length = reply_length j + 10 }

  core : (old out after bs : List ℕ) (j : Result Granted Refusal) (t : Telling) → Judged cat slots old out (judged cat rule cancelled request) j
      → t ≡ told_at j → after ≡ patched (reply_length j) (frame_bytes (verdict_on (verdict_id j) id)) out → bs ≡ drop end (after_verdict cat cancelled slots j).held_bytes
      → Answering step (with_held (after_verdict cat cancelled slots j) bs) old after (record { noise = n; told = Some t })
  core old out after bs j t judgement told_is out_is held-is =
      let J : Result Planned Refusal = verdicted_of cat slots out j in
      let same : judged cat rule cancelled request ≡ J = sym judgement.value in
      let w : List ℕ = reply_of J in
      let v : List ℕ = frame_bytes (verdict_on (verdict_id j) id) in
      let is : step ≡ carried_out cat (with_held cancelled rest) n request J = step_is J same in
      let event : told n configuration_class id (verdict_of j) (w ++ v) ≡ step.event = carried_event cat (with_held cancelled rest) slots out n id payload j ∙ sym (ap (λ (x : Stepped). x.event) is) in
      let written : w ++ v ≡ written_by step.event = ap written_by event in
      let front : out ≡ in_front w old = judgement.out_is ∙ ap (λ x. in_front (reply_of x) old) same in
      let len : reply_length j ≡ length w = judgement.length_is ∙ ap (λ x. length (reply_of x)) same in
      let buffer : after ≡ in_front (w ++ v) old = behind_reply w v old out after (reply_length j) front len out_is in
      let all : length (w ++ v) ≡ reply_length j + 10 = length-append w v ∙ ap₂ ◌+◌ (sym len) (verdict_length (verdict_id j) id) in
      record {
        state = ap (with_held (after_verdict cat cancelled slots j)) (held-is ∙ ap (drop end) (after_held cat cancelled slots j)) ∙ carried_state cat cancelled slots rest out n request j ∙ sym (ap (λ (x : Stepped). x.state) is);
        event =
            ap (λ (x : Telling). told n x.class x.id x.verdict (take x.length after)) told_is
            ∙ ap (told n configuration_class id (verdict_of j)) (ap (take (reply_length j + 10)) buffer ∙ take_at (w ++ v) (drop (length (w ++ v)) old) (reply_length j + 10) all) ∙ event;
        count = ap (λ (x : Telling). x.length) told_is ∙ sym all ∙ ap length written;
        buffer = buffer ∙ ap (λ l. in_front l old) written;
      }

  request_at : (cat₁ : Catalogue) (rule₁ : Finding) (s₁ s₂ s₃ : State) (old out after : List ℕ) (j : Result Granted Refusal) (t : Telling) → cat₁ ≡ cat → rule₁ ≡ rule → s₁ ≡ cancelled
      → Judged cat₁ slots old out (judged cat₁ rule₁ s₁ (carrying configuration_class id (take count (drop (n + 6) s₁.held_bytes)))) j
      → t ≡ told_at j → after ≡ patched (reply_length j) (frame_bytes (verdict_on (verdict_id j) id)) out → s₂ ≡ after_verdict cat₁ s₁ slots j → s₃ ≡ with_held s₂ (drop end s₂.held_bytes)
      → Answering step s₃ old after (record { noise = n; told = Some t })
  request_at cat₁ rule₁ s₁ s₂ s₃ old out after j t same-cat same-rule is-cancelled judgement told_is out_is left dropped =
      let by-cat = subst (λ (x : Catalogue). Judged x slots old out (judged x rule₁ s₁ (carrying configuration_class id (take count (drop (n + 6) s₁.held_bytes)))) j) same-cat judgement in
      let by-rule = subst (λ (x : Finding). Judged cat slots old out (judged cat x s₁ (carrying configuration_class id (take count (drop (n + 6) s₁.held_bytes)))) j) same-rule by-cat in
      let by_state = subst (λ (x : State). Judged cat slots old out (judged cat rule x (carrying configuration_class id (take count (drop (n + 6) x.held_bytes)))) j) is-cancelled by-rule in
      let after_is : s₂ ≡ after_verdict cat cancelled slots j = left ∙ ap₂ (λ (x : Catalogue) (y : State). after_verdict x y slots j) same-cat is-cancelled in
      subst (λ (x : State). Answering step x old after (record { noise = n; told = Some t })) (sym (dropped ∙ ap (λ (x : State). with_held x (drop end x.held_bytes)) after_is))
      (core old out after (drop end (after_verdict cat cancelled slots j).held_bytes) j t by_state told_is out_is refl)

module _ (cat : Catalogue) (rule : Finding) (s : State) (h : HeldFrame) where
  abbrev as_class : ℕ → List ℕ → Message
  as_class c bs = carrying c h.id (take h.length (drop (h.noise + 6) bs))

  pub request_handled : (slots : List (Option Slot)) (cat₁ : Catalogue) (rule₁ : Finding) (s₁ s₂ : State) (bs old out after : List ℕ) (j : Result Granted Refusal) (t : Telling) (end : ℕ) → h.class ≡ configuration_class → cat₁ ≡ cat → rule₁ ≡ rule
      → s₁ ≡ with_transaction s (of_kind h.id s.transaction) → Judged cat₁ slots old out (judged cat₁ rule₁ s₁ (message_in s₁.held_bytes h)) j
      → t ≡ told_by h j → after ≡ patched (reply_length j) (frame_bytes (verdict_on (verdict_id j) h.id)) out → s₂ ≡ after_verdict cat₁ s₁ slots j → bs ≡ drop end s₂.held_bytes → end ≡ end_of h
      → Answering (handled_here cat rule s h) (with_held s₂ bs) old after (record { noise = h.noise; told = Some t })
  request_handled slots cat₁ rule₁ s₁ s₂ bs old out after j t end of-class same-cat same-rule is-cancelled judgement told_is out_is left dropped end_is =
      subst (λ c. Answering (handled cat rule (with_held s (drop (end_of h) s.held_bytes)) h.noise (as_class c s.held_bytes)) (with_held s₂ bs) old after (record { noise = h.noise; told = Some t })) (sym of-class)
      (request_at cat rule s slots h.noise h.id h.length (end_of h) cat₁ rule₁ s₁ s₂ (with_held s₂ bs) old out after j t same-cat same-rule is-cancelled
      (subst (λ c. Judged cat₁ slots old out (judged cat₁ rule₁ s₁ (as_class c s₁.held_bytes)) j) of-class judgement)
      (told_is ∙ ap (λ (c : ℕ). record { class = c; id = h.id; verdict = verdict_of j; length = reply_length j + 10 }) of-class) out_is left
      (ap (with_held s₂) (dropped ∙ ap (λ k. drop k s₂.held_bytes) end_is)))

  -- A frame of another class

  pub outside_handled : (bs old : List ℕ) (t : Telling) (end : ℕ) → ((b : Bool) × (b ≡ eqb h.class configuration_class) × (b ≡ false)) → t ≡ record { class = h.class; id = h.id; verdict = Outside; length = 0 }
      → bs ≡ drop end s.held_bytes → end ≡ end_of h → Answering (handled_here cat rule s h) (with_held s bs) old old (record { noise = h.noise; told = Some t })
  unfolding handled
  outside_handled bs old t end other told_is dropped end_is =
      let m : Message = message_in s.held_bytes h in
      let left : with_held s bs ≡ with_held s (drop (end_of h) s.held_bytes) = ap (with_held s) (dropped ∙ ap (λ k. drop k s.held_bytes) end_is) in
      let there : State = with_held s (drop (end_of h) s.held_bytes) in
      let is = cond-false (eqb m.class configuration_class) (carried_out cat (with_transaction there (of_kind m.id s.transaction)) h.noise m (judged cat rule (with_transaction there (of_kind m.id s.transaction)) m)) (record { state = there; event = told h.noise m.class m.id Outside [] }) (sym other.1 ∙ other.2) in
      subst (λ (x : Telling). Answering (handled_here cat rule s h) (with_held s bs) old old (record { noise = h.noise; told = Some x })) (sym told_is)
      (subst (λ (x : Stepped). Answering x (with_held s bs) old old (record { noise = h.noise; told = Some (record { class = h.class; id = h.id; verdict = Outside; length = 0 }) })) (sym is)
      (record { state = left; event = refl; count = refl; buffer = refl }))
