-- A refused call leaves the state as it was; a NAK leaves the layers as they were, and no transaction open.
use Rattle.std.proofs.Common.{◌≡◌, ℕ, List, [], ◌∷◌, Ok, Err, Result, sym, refl, ◌∙◌, ap₂}
use Rattle.std.proofs.lemmas.Bool.{cond_both}
use Rattle.frame.specs.Frames.{Message, frame_bytes, carrying}
use Rattle.rule.specs.Rules.{Finding}
use Rattle.reference.specs.declared.refusal.Refusal.{Refusal}
use Rattle.reference.specs.declared.refusal.Verdict.TheVariants.{Nak}
use Rattle.reference.specs.declared.fault.CallFault.{CallFault}
use Rattle.reference.specs.Requests.{Catalogue}
use Rattle.reference.specs.Receiver.{State, Plan, apply, queue, reply, carried_out, nak_of, Stepped, taking, restarting, served, step}
use Rattle.reference.specs.Events.{Asking, take_piece, answer_into, look_at, restart_with, told, refused}
use Rattle.reference.specs.Promise.{RefusedKeeps, NakOnly, NakKeeps}
use Rattle.reference.proofs.Steps.{answer_ways, look_ways, judged_in}

module _ (cat : Catalogue) (rule : Finding) (s : State) (c : Asking) (f : CallFault) where
  abbrev Keeps : Stepped → Type 0
  Keeps r = r.event ≡ refused c f → r.state ≡ s

  carried_refuses : (t : State) (n : ℕ) (m : Message) (r : Result Plan Refusal) → Keeps (carried_out cat t n m r)
  carried_refuses t n m (Err x) e = cc
  carried_refuses t n m (Ok (apply l d)) e = cc
  carried_refuses t n m (Ok (queue q)) e = cc
  carried_refuses t n m (Ok (reply bs)) e = cc

  served_refuses : (a : Asking) → Keeps (served cat rule s a)
  unfolding served taking restarting
  served_refuses (take_piece piece) = λ e. cc
  served_refuses (answer_into room) =
      answer_ways cat rule s Keeps room (λ short e. refl) (λ none e. cc) (λ m is other e. cc) (λ m is of-class r j. carried_refuses _ _ m r)
  served_refuses (look_at layer k) = look_ways cat rule s Keeps layer k (λ ss is e. refl) (λ f e. refl)
  served_refuses (restart_with b) = λ e. cc

pub refused_keeps : RefusedKeeps
unfolding step
refused_keeps cat rule s c d f = cond_both s.shut _ _ (Keeps cat rule s d f) (λ _ _. refl) (λ _. served_refuses cat rule s d f c)

module _ (cat : Catalogue) (rule : Finding) (s : State) (n c i : ℕ) (x : Refusal) (w : List ℕ) where
  abbrev Cancels : Stepped → Type 0
  Cancels r = r.event ≡ told n c i (Nak x) w → NakOnly s r.state c i w

  carried_naks : (k : ℕ) (m : Message) (r : Result Plan Refusal) → Cancels (carried_out cat (judged_in cat rule s m) k m r)
  carried_naks k m (Err y) e =
      let class-is : m.class ≡ c = cc in
      let id-is : m.id ≡ i = cc in
      let bytes-are : nak_of m ≡ w = cc in
      record {
        layers = record { ram = refl; bbr = refl; flash = refl };
        cancelled = refl;
        written = sym bytes-are ∙ ap₂ (λ (a b : ℕ). frame_bytes (carrying 5 0 (a ∷ b ∷ []))) class-is id-is;
      }
  carried_naks k m (Ok (apply l d)) e = cc
  carried_naks k m (Ok (queue q)) e = cc
  carried_naks k m (Ok (reply bs)) e = cc

  served_naks : (a : Asking) → Cancels (served cat rule s a)
  unfolding served taking restarting
  served_naks (take_piece piece) = λ e. cc
  served_naks (answer_into room) =
      answer_ways cat rule s Cancels room
      (λ short e. cc) (λ none e. cc)
      (λ m is other e. cc) (λ m is of-class r j. carried_naks _ m r)
  served_naks (look_at layer k) =
      look_ways cat rule s Cancels layer k
      (λ ss is e. cc) (λ f e. cc)
  served_naks (restart_with b) = λ e. cc

pub nak_keeps : NakKeeps
unfolding step
nak_keeps cat rule s a n c i x w =
    cond_both s.shut _ _ (Cancels cat rule s n c i x w) (λ _ e. cc) (λ _. served_naks cat rule s n c i x w a)
