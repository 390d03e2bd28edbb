-- The ways that one step of the reference receiver can go, so that what holds after each is proved way by way.
use Rattle.std.proofs.Common.{◌≡◌, ℕ, ◌<◌, eqb, ltb, [], Some, None, Option, Result, refl}
use Rattle.std.proofs.lemmas.Bool.{ltb-true, eqb-true, eqb-false, cond_both}
use Rattle.frame.specs.Frames.{Message}
use Rattle.frame.specs.Scanning.{finding}
use Rattle.layer.specs.Settings.{value_under}
use Rattle.reference.specs.Stores.{Settings}
use Rattle.rule.specs.Rules.{Finding}
use Rattle.reference.specs.declared.refusal.Refusal.{Refusal}
use Rattle.reference.specs.declared.refusal.Verdict.TheVariants.{Outside}
use Rattle.reference.specs.declared.fault.CallFault.{CallFault}
use Rattle.reference.specs.declared.fault.CallFault.TheVariants.{BufferTooShort, WrongLayer as NoSuchLayer, UnknownKey as NoSuchKey}
use Rattle.reference.specs.Requests.{Catalogue, configuration_class, is_known}
use Rattle.reference.specs.Receiver.{State, Plan, with_held, with_transaction, of_kind, judged, carried_out, handled, answering, answer_room, Stepped, tell, looking, layer_of, served}
use Rattle.reference.specs.Events.{answer_into, look_at, Event, nothing_whole, looked, refused}

module _ (cat : Catalogue) (rule : Finding) (s : State) where
  -- the state in which a frame is judged: its bytes are dropped, and a transaction of another kind is cancelled
  abbrev pub judged_in : Message → State
  judged_in m = with_transaction (with_held s (finding s.held_bytes).rest) (of_kind m.id s.transaction)

  -- a frame is the first heard in the held bytes
  abbrev pub IsFirst : Message → Type 0
  IsFirst m = (finding s.held_bytes).message ≡ Some m

  pub answer_ways :
      (P : Stepped → Type 0) (room : ℕ)
      → (room < answer_room → P (record { state = s; event = refused (answer_into room) BufferTooShort }))
      → ((finding s.held_bytes).message ≡ None → P (record { state = with_held s (finding s.held_bytes).rest; event = nothing_whole (finding s.held_bytes).skipped }))
      → ((m : Message) → IsFirst m → (m.class ≡ configuration_class → ⊥) → P (record { state = with_held s (finding s.held_bytes).rest; event = tell (finding s.held_bytes).skipped m Outside [] }))
      → ((m : Message) → IsFirst m → m.class ≡ configuration_class → (r : Result Plan Refusal) → judged cat rule (judged_in m) m ≡ r → P (carried_out cat (judged_in m) (finding s.held_bytes).skipped m r))
      → P (served cat rule s (answer_into room))
  unfolding served handled
  answer_ways P room short none other config = cond_both (ltb room answer_room) _ _ P (λ e. short (ltb-true room answer_room e)) (λ e. go (finding s.held_bytes).message refl)
    where
      go : (o : Option Message) → (finding s.held_bytes).message ≡ o → P (answering cat rule (with_held s (finding s.held_bytes).rest) (finding s.held_bytes).skipped o)
      go None e = none e
      go (Some m) e = cond_both (eqb m.class configuration_class) _ _ P (λ c. config m e (eqb-true m.class configuration_class c) _ refl) (λ c. other m e (eqb-false m.class configuration_class c))

  -- looking changes nothing, and shows what the layer holds
  pub look_ways :
      (P : Stepped → Type 0) (layer k : ℕ)
      → ((ss : Settings) → layer_of cat s layer ≡ Some ss → P (record { state = s; event = looked layer k (value_under k ss) }))
      → ((f : CallFault) → P (record { state = s; event = refused (look_at layer k) f }))
      → P (served cat rule s (look_at layer k))
  unfolding served
  look_ways P layer k shown not-shown = go (layer_of cat s layer) refl
    where
      go : (o : Option Settings) → layer_of cat s layer ≡ o → P (record { state = s; event = looking cat layer k o })
      go None e = not-shown NoSuchLayer
      go (Some ss) e =
          cond_both (is_known cat k) _ _ (λ (e : Event). P (record { state = s; event = e })) (λ _. shown ss e) (λ _. not-shown NoSuchKey)
