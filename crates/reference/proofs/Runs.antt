-- The law holds of every run of the reference receiver from accepted parts.
use Rattle.std.proofs.Common.{◌≡◌, ℕ, Bool, true, false, cond, ◌&&◌, eqb, List, [], ◌∷◌, Some, None, Ok, Err, Option, Result, sym, refl, ap, ◌∙◌, subst, ap₂, ⊎_elim, arith}
use mathlib.Core.Path.{fun_ext}
use Rattle.std.specs.List.{AllByRecursion}
use Rattle.std.proofs.lemmas.Bool.{eqb-true, ne_eqb, and_parts, cond_both}
use Rattle.std.proofs.lemmas.Option.{cond_some}
use Rattle.frame.specs.Frames.{Message}
use Rattle.frame.specs.Scanning.{finding}
use Rattle.frame.proofs.Scanning.{none_swallowed}
use Rattle.layer.specs.Settings.{value_under, Ascends, Sound}
use Rattle.layer.specs.Stores.{Shows}
use Rattle.rule.specs.Rules.{Finding}
use Rattle.reference.specs.Stores.{Settings, IsStore}
use Rattle.reference.specs.declared.refusal.Refusal.{Refusal}
use Rattle.reference.specs.declared.refusal.Verdict.{Verdict}
use Rattle.reference.specs.declared.refusal.Verdict.TheVariants.{Ack}
use Rattle.reference.specs.declared.layers.Layers.{Layers}
use Rattle.reference.specs.declared.fault.PartsFault.{PartsFault}
use Rattle.reference.specs.Requests.{Catalogue, configuration_class, layers_of, Changes, valset, valget}
use Rattle.reference.specs.Parts.{Parts, parts_of, parts_fault, stack_fault, settings_by, default_of}
use Rattle.reference.specs.Events.{Asking, take_piece, answer_into, look_at, restart_with, History}
use Rattle.reference.specs.Receiver.{State, Transaction, Plan, apply, queue, reply, with_transaction, of_kind, layer_of, apply_fault, judged, applied, carried_out, Stepped, tell, taking, restarting, served, step, made_by, made, Run, run_from, run}
use Rattle.reference.specs.Law.{granted, is_loss, is_restart, queued, bbr_back, flash_back, ram_back, ToldAsHeard, Throughout, OneVerdict, layer_back, ShownAsFound}
use Rattle.reference.specs.Noise.{NoiseIsTold, NoiseCounted}
use Rattle.reference.specs.Promise.{LawAfter, LawOf, LawHolds}
use Rattle.reference.proofs.Hearing.{Tracked, tracked_made, tracked_took, tracked_nothing, tracked_told, tracked_looked, tracked_refused, tracked_restarted, in_order, all_told, noise_told_lem, next_is}
use Rattle.reference.proofs.Judging.{GrantedChange, judged_shows, reply_shows, applies, queues}
use Rattle.reference.proofs.Verdicts.{step_once}
use Rattle.reference.proofs.Settings.{above_none}
use Rattle.reference.proofs.Stores.{GoodChanges, later_good}
use Rattle.reference.proofs.Reading.{data_good}
use Rattle.reference.proofs.Stacking.{stacked_tidy, stacked_full, stacked_fit, all_there}
use Rattle.reference.proofs.Accepted.{Accepted, accepted_shows}
use Rattle.reference.proofs.Steps.{answer_ways, look_ways, judged_in, IsFirst}
use Rattle.reference.proofs.Invariant.{Invariant, granted_is, get_grants_none, nothing_granted, queue_granted, change_granted, restart_keeps}

-- the transaction that a frame finds open is the one that was open, and of its kind
of_kind_lem : (id : ℕ) (o : Option Transaction) (t : Transaction) → of_kind id o ≡ Some t → (o ≡ Some t) × (t.kind ≡ id)
of_kind_lem id None t e = cc
of_kind_lem id (Some u) t e =
    let k = cond_some (eqb u.kind id) u t e in
    (ap Some k.1, ap (λ (t : Transaction). t.kind) (sym k.1) ∙ eqb-true u.kind id k.0)

-- a delete is not for RAM
ram_is_set : (id : ℕ) (p : List ℕ) → (layers_of id p).ram ≡ true → eqb id valset ≡ true
unfolding layers_of
ram_is_set id p e = (and_parts (eqb id valset) _ e).0

module _ (p : Parts) (ok : Accepted p) (s : State) (h : History) (i : Invariant p s h) where
  -- the invariant after one step
  abbrev After : Stepped → Type 0
  After r = Invariant p r.state (r.event ∷ h)

  module _ (m : Message) (is : IsFirst p.catalogue p.rule s m) (of-class : m.class ≡ configuration_class) where
    abbrev s' : State
    s' = judged_in p.catalogue p.rule s m

    -- looking back reads the queue of the transaction that the frame finds open
    ties : (t : Transaction) → s'.transaction ≡ Some t → t.queue ≡ queued p.catalogue h
    ties t e = (i.ties t (of_kind_lem m.id s.transaction t e).0).queue_is

    -- its data are good data of the frame's kind
    tied_good : (t : Transaction) → s'.transaction ≡ Some t → GoodChanges p.catalogue (eqb m.id valset) t.queue
    tied_good t e =
        let k = of_kind_lem m.id s.transaction t e in
        subst (λ n. GoodChanges p.catalogue (eqb n valset) t.queue) k.1 (i.ties t k.0).good

    -- the noise before it
    abbrev before : ℕ
    before = (finding s.held_bytes).skipped

    told_tracked : (v : Verdict) (w : List ℕ) → Tracked (tell before m v w ∷ h) (finding s.held_bytes).rest
    told_tracked v w = tracked_told h s.held_bytes i.hears m is v w

    apply_keeps : (w : List ℕ) (l : Layers) (d : Changes) → GrantedChange p.catalogue p.rule s' m (apply l d)
        → After (record { state = applied p.catalogue s' l d; event = tell before m Ack w })
    unfolding applied apply_fault
    apply_keeps w l d g =
        let a = applies p.catalogue p.rule s' m (queued p.catalogue h) ties l d g in
        change_granted p ok s h i before m w (granted_is h before m w of-class g.is_change_lem (next_is h s.held_bytes i.hears m is)) l d (eqb m.id valset)
        (finding s.held_bytes).rest (told_tracked Ack w) a.change_is
        (⊎_elim
        (λ own. subst (GoodChanges p.catalogue (eqb m.id valset)) own.2 (data_good p.catalogue ok.sound m.id m.payload own.0 own.1))
        (λ old. subst (GoodChanges p.catalogue (eqb m.id valset)) old.2 (tied_good old.0 old.1)) a.data_is)
        (λ on. ram_is_set m.id m.payload (ap (λ (x : Layers). x.ram) (sym a.layers_are) ∙ on))
        (λ on. g.flash_usable (ap (λ (x : Layers). x.flash) (sym a.layers_are) ∙ on))
        a.no_fault

    queue_keeps : (w : List ℕ) (t : Transaction) → GrantedChange p.catalogue p.rule s' m (queue t)
        → After (record { state = with_transaction s' (Some t); event = tell before m Ack w })
    queue_keeps w t g =
        let a = queues p.catalogue p.rule s' m (queued p.catalogue h) ties t g in
        let own = data_good p.catalogue ok.sound m.id m.payload a.own a.own_is in
        queue_granted p ok s h i before m w (granted_is h before m w of-class g.is_change_lem (next_is h s.held_bytes i.hears m is)) t
        (finding s.held_bytes).rest (told_tracked Ack w) a.no_change_lem a.queued_is
        (subst (λ k. GoodChanges p.catalogue (eqb k valset) t.queue) (sym a.kind_is)
        (⊎_elim
        (λ only. subst (GoodChanges p.catalogue (eqb m.id valset)) (sym only) own)
        (λ old. subst (GoodChanges p.catalogue (eqb m.id valset)) (sym old.2) (later_good p.catalogue (eqb m.id valset) old.0.queue _ (tied_good old.0 old.1) own))
        a.data_is))

    get_keeps : (w : List ℕ) → m.id ≡ valget → After (record { state = s'; event = tell before m Ack w })
    unfolding is_loss is_restart
    get_keeps w get =
        nothing_granted p ok s h i (tell before m Ack w) (get_grants_none h before m w get) refl refl (finding s.held_bytes).rest s'.transaction (told_tracked Ack w)
        (λ t open-still. (of_kind_lem m.id s.transaction t open-still).0)

    config_keeps : (r : Result Plan Refusal) → judged p.catalogue p.rule s' m ≡ r → After (carried_out p.catalogue s' before m r)
    unfolding granted is_loss is_restart
    config_keeps (Err x) e = nothing_granted p ok s h i _ refl refl refl (finding s.held_bytes).rest None (told_tracked _ _) (λ t no_one. cc)
    config_keeps (Ok (apply l d)) e =
        ⊎_elim (λ g. cc) (λ g. apply_keeps _ l d g) (judged_shows p.catalogue p.rule s' m (apply l d) e)
    config_keeps (Ok (queue t)) e =
        ⊎_elim (λ g. cc) (λ g. queue_keeps _ t g) (judged_shows p.catalogue p.rule s' m (queue t) e)
    config_keeps (Ok (reply bs)) e = get_keeps _ (reply_shows p.catalogue p.rule s' m bs e).is_get

  served_keeps : (c : Asking) → After (served p.catalogue p.rule s c)
  unfolding served taking restarting granted is_loss is_restart
  served_keeps (take_piece piece) = nothing_granted p ok s h i _ refl refl refl _ s.transaction (tracked_took h s.held_bytes i.hears piece _) (λ t same. same)
  served_keeps (answer_into room) =
      answer_ways p.catalogue p.rule s After room
      (λ short. nothing_granted p ok s h i _ refl refl refl s.held_bytes s.transaction (tracked_refused h s.held_bytes i.hears _ _) (λ t same. same))
      (λ none. nothing_granted p ok s h i _ refl refl refl (finding s.held_bytes).rest s.transaction (tracked_nothing h s.held_bytes i.hears none) (λ t same. same))
      (λ m is other. nothing_granted p ok s h i _ refl refl refl (finding s.held_bytes).rest s.transaction (tracked_told h s.held_bytes i.hears m is _ _) (λ t same. same))
      (λ m is of-class r e. config_keeps m is of-class r e)
  served_keeps (look_at layer k) =
      look_ways p.catalogue p.rule s After layer k
      (λ ss shows. nothing_granted p ok s h i _ refl refl refl s.held_bytes s.transaction (tracked_looked h s.held_bytes i.hears _ _ _) (λ t same. same))
      (λ n. nothing_granted p ok s h i _ refl refl refl s.held_bytes s.transaction (tracked_refused h s.held_bytes i.hears _ _) (λ t same. same))
  served_keeps (restart_with b) = restart_keeps p ok s h i b _ (tracked_restarted h b _)

  pub step_keeps : (c : Asking) → After (step p.catalogue p.rule s c)
  unfolding step
  step_keeps c = cond_both s.shut _ _ After (λ on. let off = i.serves in cc) (λ off. served_keeps c)

  -- What looking and restarting answer

  abbrev Shown : Stepped → Type 0
  Shown r = ShownAsFound p (r.event ∷ h)

  layer_shows : (layer k : ℕ) (ss : Settings) → layer_of p.catalogue s layer ≡ Some ss → value_under k ss ≡ layer_back p h layer k
  unfolding layer_of
  layer_shows layer k ss =
      go (eqb layer 0) (eqb layer 1) (eqb layer 2) (eqb layer 7) s.flash.usable (λ two. ne_eqb layer 7 (λ seven. omega (arith, eqb-true layer 2 two)))
    where
      is : (x : Settings) → Some x ≡ Some ss → value_under k ss ≡ value_under k x
      is x e = let q : x ≡ ss = cc in ap (λ y. value_under k y) (sym q)

      go : (a b c d u : Bool) → (c ≡ true → d ≡ false)
          → cond a (Some s.ram.settings) (cond b (Some s.bbr.settings) (cond (c && u) (Some s.flash.settings) (cond d (Some (settings_by default_of p.catalogue)) None))) ≡ Some ss
          → value_under k ss ≡ cond a (ram_back p h k) (cond b (bbr_back p h k) (cond c (flash_back p h k) (value_under k (settings_by default_of p.catalogue))))
      go true b c d u x e = is _ e ∙ i.ram.holds k
      go false true c d u x e = is _ e ∙ i.bbr.holds k
      go false false true d true x e = is _ e ∙ i.flash_holds k
      go false false true true false x e = let off = x refl in cc
      go false false true false false x e = cc
      go false false false true u x e = is _ e
      go false false false false u x e = cc

  carried_shows : (s' : State) (n : ℕ) (m : Message) (r : Result Plan Refusal) → Shown (carried_out p.catalogue s' n m r)
  unfolding ShownAsFound
  carried_shows s' n m (Err x) = tt
  carried_shows s' n m (Ok (apply l d)) = tt
  carried_shows s' n m (Ok (queue t)) = tt
  carried_shows s' n m (Ok (reply bs)) = tt

  served_shows : (c : Asking) → Shown (served p.catalogue p.rule s c)
  unfolding served taking restarting ShownAsFound
  served_shows (take_piece piece) = tt
  served_shows (answer_into room) =
      answer_ways p.catalogue p.rule s Shown room (λ short. tt) (λ none. tt) (λ m is other. tt)
      (λ m is of-class r e. carried_shows _ _ m r)
  served_shows (look_at layer k) = look_ways p.catalogue p.rule s Shown layer k (λ ss e. layer_shows layer k ss e) (λ n. tt)
  served_shows (restart_with b) =
      let after = restart_keeps p ok s h i b _ (tracked_restarted h b _) in
      ap₂ (stack_fault p.catalogue p.rule) (fun_ext after.bbr.holds) (fun_ext after.flash_holds)

  pub step_shows : (c : Asking) → Shown (step p.catalogue p.rule s c)
  unfolding step ShownAsFound
  step_shows c = cond_both s.shut _ _ Shown (λ on. tt) (λ off. served_shows c)

-- Making

made_open : (p : Parts) → parts_fault p ≡ None → made p ≡ made_by None p
unfolding made
made_open p e = ap (λ (o : Option PartsFault). made_by o p) e

open_keeps : (p : Parts) → Accepted p → IsStore p.bbr → IsStore p.flash → Invariant p (made_by None p) []
unfolding ram_back bbr_back flash_back
open_keeps p ok bbr flash =
    record {
      serves = refl;
      hears = tracked_made;
      ram = record { tidy = stacked_tidy p.catalogue p.rule ok.sound ok.defaults_fit _ _; usable = refl; holds = λ j. refl };
      bbr =
          record {
            tidy = record { above = above_none p.catalogue p.bbr.settings ok.sound.listed bbr.ascends ok.bbr_known; known = ok.bbr_known };
            usable = ok.bbr_usable;
            holds = λ j. refl;
          };
      flash_tidy = record { above = above_none p.catalogue p.flash.settings ok.sound.listed flash.ascends ok.flash_known; known = ok.flash_known };
      flash_holds = λ j. refl;
      is_fit_lem =
          record {
            full = stacked_full p.catalogue p.rule ok.sound ok.defaults_fit _ _;
            fit = stacked_fit p.catalogue p.rule ok.sound ok.defaults_fit _ _ true;
          };
      ties = λ t no_one. cc;
    }

made_keeps : (p : Parts) → parts_fault p ≡ None → Accepted p → IsStore p.bbr → IsStore p.flash → Invariant p (made p) []
made_keeps p accepted ok bbr flash = subst (λ (s : State). Invariant p s []) (sym (made_open p accepted)) (open_keeps p ok bbr flash)

-- Runs

-- what holds of a run, at its end and at every moment before
record RunsWell (p : Parts) (r : Run) : Type 0 where
  pub end : Invariant p r.state r.history
  pub heard_well : Throughout ToldAsHeard r.history
  pub judged_well : AllByRecursion OneVerdict r.history
  pub shown_well : Throughout (ShownAsFound p) r.history
  pub noise_well : Throughout NoiseIsTold r.history

told_from : (h : History) (bs : List ℕ) → Tracked h bs → ToldAsHeard h
told_from h bs k = record { in_order = in_order h bs k; all_told = all_told h bs k; none_swallowed = none_swallowed _ }

made_sound : (p : Parts) → parts_fault p ≡ None → Accepted p → IsStore p.bbr → IsStore p.flash → RunsWell p (record { state = made p; history = [] })
unfolding Throughout ShownAsFound
made_sound p accepted ok bbr flash =
    let i = made_keeps p accepted ok bbr flash in
    record { end = i; heard_well = told_from [] _ i.hears; judged_well = tt; shown_well = tt; noise_well = noise_told_lem [] _ i.hears }

step_sound : (p : Parts) → Accepted p → (r : Run) → RunsWell p r → (c : Asking)
    → RunsWell p (record { state = (step p.catalogue p.rule r.state c).state; history = (step p.catalogue p.rule r.state c).event ∷ r.history })
unfolding Throughout
step_sound p ok r s c =
    let i = step_keeps p ok r.state r.history s.end c in
    record {
      end = i;
      heard_well = (told_from _ _ i.hears, s.heard_well);
      judged_well = (step_once p.catalogue p.rule r.state c, s.judged_well);
      shown_well = (step_shows p ok r.state r.history s.end c, s.shown_well);
      noise_well = (noise_told_lem _ _ i.hears, s.noise_well);
    }

runs_sound : (p : Parts) → Accepted p → (cs : List Asking) (r : Run) → RunsWell p r → RunsWell p (run_from p.catalogue p.rule r cs)
unfolding run_from
runs_sound p ok [] r s = s
runs_sound p ok (c ∷ cs) r s = runs_sound p ok cs _ (step_sound p ok r s c)

law_from : (p : Parts) (r : Run) → RunsWell p r → LawAfter p r
law_from p r s =
    let i = s.end in
    record {
      ram_is_fit = (_, all_there p.catalogue r.state.ram i.is_fit_lem.full, i.is_fit_lem.fit);
      ram_holds = i.ram.holds;
      bbr_holds = i.bbr.holds;
      flash_holds = i.flash_holds;
      telling = s.heard_well;
      verdicts = s.judged_well;
      showing = s.shown_well;
    }

run_sound : (p : Parts) → IsStore p.bbr → IsStore p.flash → parts_fault p ≡ None → (cs : List Asking) → RunsWell p (run p cs)
run_sound p bbr flash accepted cs =
    let ok = accepted_shows p accepted in
    runs_sound p ok cs _ (made_sound p accepted ok bbr flash)

pub law_holds : LawHolds
law_holds p bbr flash accepted cs = law_from p (run p cs) (run_sound p bbr flash accepted cs)

pub noise_counted : NoiseCounted
noise_counted p bbr flash accepted cs = (run_sound p bbr flash accepted cs).noise_well

-- and so of the parts that are made of two stores which show what every store shows
pub law_follows : (es : Catalogue) (find : Finding) (bbr_usable flash_usable : Bool) (bbr flash : Settings)
    → Ascends bbr → Sound bbr → Shows bbr_usable bbr → Ascends flash → Sound flash → Shows flash_usable flash → LawOf (parts_of es find (record { usable = bbr_usable; settings = bbr }) (record { usable = flash_usable; settings = flash }))
law_follows es find bbr_usable flash_usable bbr flash a b c d e f =
    law_holds (parts_of es find (record { usable = bbr_usable; settings = bbr }) (record { usable = flash_usable; settings = flash })) (record { ascends = a; sound = b; shows = c }) (record { ascends = d; sound = e; shows = f })
