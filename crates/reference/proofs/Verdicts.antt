-- A told frame of the configuration class has one verdict, which the written bytes hold once.
use Rattle.std.proofs.Common.{◌≡◌, ℕ, ◌+◌, ◌*◌, ◌≤◌, List, [], ◌∷◌, ◌++◌, length, Some, None, Ok, Err, Option, Result, refl, ap, ◌∙◌, arith, length-append, length-take}
use Rattle.std.proofs.lemmas.List.{drop_all}
use Rattle.std.proofs.lemmas.Bool.{cond_both}
use Rattle.frame.specs.Frames.{max_payload, Message, size_of, frame_bytes, carrying}
use Rattle.frame.specs.Scanning.{Scanned, with_heard, waiting, scan_from}
use Rattle.frame.proofs.Frames.{frame_length, frame_is_intact}
use Rattle.frame.proofs.Scanning.{scan_intact, heard_before}
use Rattle.item.specs.declared.key.Size.{Size}
use Rattle.item.specs.declared.key.Size.TheVariants.{Bit, One, Two, Four, Eight}
use Rattle.item.specs.Keys.{size_of as sizeOfKey}
use Rattle.item.proofs.Values.{length_bytes}
use Rattle.layer.specs.declared.setting.Setting.{Setting}
use Rattle.reference.specs.Stores.{Settings}
use Rattle.rule.specs.Rules.{Finding}
use Rattle.reference.specs.declared.refusal.Refusal.{Refusal}
use Rattle.reference.specs.declared.refusal.Verdict.{Verdict}
use Rattle.reference.specs.declared.refusal.Verdict.TheVariants.{Ack, Nak}
use Rattle.reference.specs.Requests.{Catalogue, configuration_class, bytes_at}
use Rattle.reference.specs.Receiver.{State, Plan, apply, queue, reply, pairs_bytes, position_of, page_pairs, page, held_pairs, judged, carried_out, verdict_frame, ack_of, Stepped, tell, served, step, taking, restarting}
use Rattle.reference.specs.Events.{Asking, take_piece, answer_into, look_at, restart_with, written_by}
use Rattle.reference.specs.Law.{heard, verdicts_in, HasVerdict, OneVerdict}
use Rattle.reference.specs.Promise.{WritesFit}
use Rattle.reference.proofs.Judging.{reply_shows}
use Rattle.reference.proofs.Steps.{answer_ways, look_ways, judged_in}

-- A page fits a frame: at most 64 pairs of at most 12 bytes

width_few : (o : Option Size) → bytes_at o ≤ 8
width_few None = omega arith
width_few (Some Bit) = omega arith
width_few (Some One) = omega arith
width_few (Some Two) = omega arith
width_few (Some Four) = omega arith
width_few (Some Eight) = omega arith

pairs_length : (ss : List Setting) → length (pairs_bytes ss) ≤ 12 * length ss
unfolding pairs_bytes
pairs_length [] = omega arith
pairs_length (s ∷ ss) =
    let ih = pairs_length ss in
    let w = width_few (sizeOfKey s.key) in
    simp (length-append, length_bytes) (omega arith)

pub page_length : (ss : Settings) (p ks : List ℕ) → length (page ss p ks).payload ≤ max_payload
unfolding page
page_length ss p ks =
    let pairs = page_pairs (position_of p) (held_pairs ss ks) in
    let few : length pairs ≤ 64 = simp length-take (omega arith) in
    let long = pairs_length pairs in
    simp (length-append, length-take) (omega arith)

-- The verdict in what is written

-- a written frame alone, at any place
frame_heard : (k : Message) (at : ℕ) → length k.payload ≤ max_payload → scan_from at 0 (frame_bytes k) ≡ with_heard (record { place = at; message = k }) (waiting (at + size_of k) [])
frame_heard k at few =
    scan_intact at (frame_bytes k) k (frame_is_intact k few)
    ∙ ap (λ (bs : List ℕ). with_heard (record { place = at; message = k }) (scan_from (at + size_of k) 0 bs)) (drop_all (size_of k) (frame_bytes k) (let n = frame_length k in omega arith))

module _ (m : Message) where
  verdict_heard : (at id : ℕ) → verdicts_in (scan_from at 0 (frame_bytes (verdict_frame id m))).heard ≡ carrying 5 id (m.class ∷ m.id ∷ []) ∷ []
  unfolding verdicts_in
  verdict_heard at id = ap (λ (s : Scanned). verdicts_in s.heard) (frame_heard (verdict_frame id m) at (omega arith))

  reply_heard : (ss : Settings) (p ks : List ℕ) → verdicts_in (heard (frame_bytes (page ss p ks) ++ ack_of m)) ≡ carrying 5 1 (m.class ∷ m.id ∷ []) ∷ []
  unfolding verdicts_in page
  reply_heard ss p ks =
      ap (λ (s : Scanned). verdicts_in s.heard) (heard_before (page ss p ks) (ack_of m) (page_length ss p ks)) ∙ verdict_heard (length (frame_bytes (page ss p ks))) 1

  told_once : (n : ℕ) (v : Verdict) (w : List ℕ) → m.class ≡ configuration_class → HasVerdict v m.class m.id (verdicts_in (heard w)) → OneVerdict (tell n m v w)
  unfolding OneVerdict
  told_once n v w of-class h = (λ _. h, λ other. absurd (other of-class))

module _ (cat : Catalogue) (rule : Finding) where
  carried_once : (s : State) (n : ℕ) (m : Message) → m.class ≡ configuration_class → (r : Result Plan Refusal) → judged cat rule s m ≡ r → OneVerdict (carried_out cat s n m r).event
  carried_once s n m of-class (Err r) e = told_once m n (Nak r) _ of-class (verdict_heard m 0 0)
  carried_once s n m of-class (Ok (apply l d)) e = told_once m n Ack _ of-class (verdict_heard m 0 1)
  carried_once s n m of-class (Ok (queue t)) e = told_once m n Ack _ of-class (verdict_heard m 0 1)
  carried_once s n m of-class (Ok (reply bs)) e =
      let g = reply_shows cat rule s m bs e in
      let is : bs ≡ frame_bytes (page g.settings m.payload g.keys) = cc in
      told_once m n Ack _ of-class (rw is (reply_heard m g.settings m.payload g.keys))

  served_once : (s : State) (c : Asking) → OneVerdict (served cat rule s c).event
  unfolding OneVerdict served taking restarting
  served_once s (take_piece piece) = tt
  served_once s (answer_into room) =
      answer_ways cat rule s (λ r. OneVerdict r.event) room
      (λ short. tt) (λ none. tt) (λ m is other. (λ of-class. absurd (other of-class), λ _. (refl, refl)))
      (λ m is of-class r e. carried_once (judged_in cat rule s m) _ m of-class r e)
  served_once s (look_at layer k) = look_ways cat rule s (λ r. OneVerdict r.event) layer k (λ ss e. tt) (λ f. tt)
  served_once s (restart_with b) = tt

  pub step_once : (s : State) (c : Asking) → OneVerdict (step cat rule s c).event
  unfolding step OneVerdict
  step_once s c = cond_both s.shut _ _ (λ (r : Stepped). OneVerdict r.event) (λ _. tt) (λ _. served_once s c)

  -- Room for what is written

  carried_fits : (s : State) (n : ℕ) (m : Message) (r : Result Plan Refusal) → judged cat rule s m ≡ r → length (written_by (carried_out cat s n m r).event) ≤ 790
  carried_fits s n m (Err r) e = rw (frame_length (verdict_frame 0 m)) (omega arith)
  carried_fits s n m (Ok (apply l d)) e = rw (frame_length (verdict_frame 1 m)) (omega arith)
  carried_fits s n m (Ok (queue t)) e = rw (frame_length (verdict_frame 1 m)) (omega arith)
  carried_fits s n m (Ok (reply bs)) e =
      let g = reply_shows cat rule s m bs e in
      let is : bs ≡ frame_bytes (page g.settings m.payload g.keys) = cc in
      let few = page_length g.settings m.payload g.keys in
      rw is (simp (length-append, frame_length) (omega arith))

  served_fits : (s : State) (c : Asking) → length (written_by (served cat rule s c).event) ≤ 790
  unfolding served taking restarting
  served_fits s (take_piece piece) = omega arith
  served_fits s (answer_into room) =
      answer_ways cat rule s (λ (r : Stepped). length (written_by r.event) ≤ 790) room (λ short. omega arith) (λ none. omega arith) (λ m is other. omega arith) (λ m is of-class r e. carried_fits (judged_in cat rule s m) _ m r e)
  served_fits s (look_at layer k) = look_ways cat rule s (λ (r : Stepped). length (written_by r.event) ≤ 790) layer k (λ ss e. omega arith) (λ f. omega arith)
  served_fits s (restart_with b) = omega arith

pub writes_fit : WritesFit
unfolding step
writes_fit cat rule s c = cond_both s.shut _ _ (λ (r : Stepped). length (written_by r.event) ≤ 790) (λ _. omega arith) (λ _. served_fits cat rule s c)
