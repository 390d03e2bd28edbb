-- What ties a state to its history, and how each event keeps it.
use Rattle.std.proofs.Common.{◌≡◌, ℕ, Bool, true, false, cond, ◌&&◌, eqb, List, [], ◌∷◌, Some, None, Option, unwrap_or, sym, refl, ap, ◌∙◌, subst, ap₂}
use mathlib.Core.Path.{fun_ext}
use Rattle.std.proofs.lemmas.Bool.{eq-eqb}
use Rattle.frame.specs.Frames.{Message}
use Rattle.layer.specs.Settings.{value_under}
use Rattle.reference.specs.Stores.{Store, held, holding, cleared}
use Rattle.reference.specs.declared.layers.Layers.{Layers}
use Rattle.reference.specs.declared.call.Battery.{Battery}
use Rattle.reference.specs.declared.call.Battery.TheVariants.{Kept, Lost}
use Rattle.reference.specs.declared.refusal.Verdict.TheVariants.{Ack}
use Rattle.reference.specs.Requests.{Catalogue, is_known, configuration_class, Changes, valset, valget}
use Rattle.reference.specs.Parts.{Parts, stacked}
use Rattle.reference.specs.Events.{Event, restarted, History}
use Rattle.reference.specs.Receiver.{State, Transaction, written, written_if, configuration, after_battery, tell}
use Rattle.reference.specs.Law.{granted, next_told, queued, queued_by, change_by, change, after_change, is_loss, is_restart, in_ram, in_bbr, in_flash, bbr_back, flash_back, ram_back}
use Rattle.reference.proofs.Hearing.{Tracked}
use Rattle.reference.proofs.Judging.{is_change}
use Rattle.reference.proofs.Stores.{SoundCatalogue, Tidy, GoodChanges, Holding, written_holds, good_fits, good_known, good_some}
use Rattle.reference.proofs.Stacking.{stacked_tidy, stacked_full, stacked_fit}
use Rattle.reference.proofs.Accepted.{Accepted}

-- an open transaction holds what looking back finds queued, and good data of its kind
pub record Tied (cat : Catalogue) (h : History) (t : Transaction) : Type 0 where
  pub queue_is : t.queue ≡ queued cat h
  pub good : GoodChanges cat (eqb t.kind valset) t.queue

-- every item has a value, and the rule finds the configuration fit
pub record Fit (p : Parts) (ram : Store) : Type 0 where
  pub full : (k : ℕ) → is_known p.catalogue k ≡ true → (v : ℕ) × (held ram k ≡ Some v)
  pub fit : p.rule p.catalogue (configuration p.catalogue ram) ≡ None

pub record Invariant (p : Parts) (s : State) (h : History) : Type 0 where
  pub serves : s.shut ≡ false
  pub hears : Tracked h s.held_bytes
  pub ram : Holding p.catalogue s.ram (ram_back p h)
  pub bbr : Holding p.catalogue s.bbr (bbr_back p h)
  pub flash_tidy : Tidy p.catalogue s.flash.settings
  pub flash_holds : (j : ℕ) → held s.flash j ≡ flash_back p h j
  pub is_fit_lem : Fit p s.ram
  pub ties : (t : Transaction) → s.transaction ≡ Some t → Tied p.catalogue h t

-- the same store, held to another function that is the same
same_holding : (cat : Catalogue) (s : Store) (f g : ℕ → Option ℕ) → Holding cat s f → ((j : ℕ) → f j ≡ g j) → Holding cat s g
same_holding cat s f g h e = record { tidy = h.tidy; usable = h.usable; holds = λ j. h.holds j ∙ e j }

-- Which frame an event grants

pub granted_is : (h : History) (n : ℕ) (m : Message) (w : List ℕ) → m.class ≡ configuration_class → is_change m.id ≡ true → next_told h ≡ Some m → granted h (tell n m Ack w) ≡ Some m
unfolding granted
granted_is h n m w of-class is next = rw (eq-eqb m.class configuration_class of-class, is, next) refl

pub get_grants_none : (h : History) (n : ℕ) (m : Message) (w : List ℕ) → m.id ≡ valget → granted h (tell n m Ack w) ≡ None
unfolding granted
get_grants_none h n m w is = rw is (never (eqb m.class configuration_class))
  where
    never : (b : Bool) → cond (b && false) (next_told h) None ≡ None
    never true = refl
    never false = refl

-- A store to which data are applied, if its layer is chosen

module _ (cat : Catalogue) (sound : SoundCatalogue cat) (set : Bool) (d : Changes) (good : GoodChanges cat set d) where
  -- what a layer holds after a change, if it is for this layer
  abbrev after : Bool → (ℕ → Option ℕ) → ℕ → Option ℕ
  after b f j = cond b (unwrap_or (d j) (f j)) (f j)

  now_written : (s : Store) → Tidy cat s.settings → s.usable ≡ true → Holding cat (written cat d s) (λ j. unwrap_or (d j) (held s j))
  now_written s t u = written_holds cat sound d (good_fits cat set d good) s (good_known cat set d good) t u

  store_after : (b : Bool) (s : Store) (f : ℕ → Option ℕ) → Holding cat s f → Holding cat (written_if b cat d s) (after b f)
  store_after true s f h =
      same_holding cat (written cat d s) _ _ (now_written s h.tidy h.usable) (λ j. ap (unwrap_or (d j)) (h.holds j))
  store_after false s f h = h

  -- Flash may be unusable where it is not chosen
  flash_after : (b : Bool) (s : Store) (f : ℕ → Option ℕ) → (b ≡ true → s.usable ≡ true) → Tidy cat s.settings → ((j : ℕ) → held s j ≡ f j)
      → Tidy cat (written_if b cat d s).settings × ((j : ℕ) → held (written_if b cat d s) j ≡ after b f j)
  flash_after true s f u t h =
      let w = now_written s t (u refl) in
      (w.tidy, λ j. w.holds j ∙ ap (unwrap_or (d j)) (h j))
  flash_after false s f u t h = (t, h)

-- RAM after a set is full and fit
fit_after : (p : Parts) (sound : SoundCatalogue p.catalogue) (set : Bool) (d : Changes) → GoodChanges p.catalogue set d
    → (b : Bool) (s : Store) → (b ≡ true → set ≡ true) → Tidy p.catalogue s.settings → s.usable ≡ true → Fit p s
    → cond b (p.rule p.catalogue (configuration p.catalogue (written p.catalogue d s))) None ≡ None → Fit p (written_if b p.catalogue d s)
fit_after p sound set d good true s is t u old fine =
    record { full = λ k known. go k known (d k) refl ((now_written p.catalogue sound set d good s t u).holds k); fit = fine }
  where
    go : (k : ℕ) → is_known p.catalogue k ≡ true → (o : Option (Option ℕ)) → d k ≡ o → held (written p.catalogue d s) k ≡ unwrap_or (d k) (held s k)
        → (v : ℕ) × (held (written p.catalogue d s) k ≡ Some v)
    go k known None l e = let v = old.full k known in (v.0, e ∙ ap (λ o. unwrap_or o (held s k)) l ∙ v.1)
    go k known (Some x) l e =
        let v = good_some p.catalogue set d good k x (is refl) l in
        (v.0, e ∙ ap (λ o. unwrap_or o (held s k)) l ∙ v.1)
fit_after p sound set d good false s is t u old fine = old

module _ (p : Parts) (ok : Accepted p) (s : State) (h : History) (i : Invariant p s h) where
  -- An event that is no change and no restart leaves all layers
  module _ (e : Event) (none : change p.catalogue h e ≡ None) (loss : is_loss e ≡ false) (restart : is_restart e ≡ false) where
    bbr_same : (j : ℕ) → bbr_back p h j ≡ bbr_back p (e ∷ h) j
    unfolding bbr_back
    bbr_same j = rw (loss, none) refl

    flash_same : (j : ℕ) → flash_back p h j ≡ flash_back p (e ∷ h) j
    unfolding flash_back
    flash_same j = rw none refl

    ram_same : (j : ℕ) → ram_back p h j ≡ ram_back p (e ∷ h) j
    unfolding ram_back
    ram_same j = rw (restart, none) refl

    pub unchanged : (bs : List ℕ) (o : Option Transaction) → Tracked (e ∷ h) bs → ((t : Transaction) → o ≡ Some t → Tied p.catalogue (e ∷ h) t)
        → Invariant p (record { shut = s.shut; ram = s.ram; bbr = s.bbr; flash = s.flash; held_bytes = bs; transaction = o }) (e ∷ h)
    unchanged bs o k tied =
        record {
          serves = i.serves;
          hears = k;
          ram = same_holding p.catalogue s.ram _ _ i.ram ram_same;
          bbr = same_holding p.catalogue s.bbr _ _ i.bbr bbr_same;
          flash_tidy = i.flash_tidy;
          flash_holds = λ j. i.flash_holds j ∙ flash_same j;
          is_fit_lem = i.is_fit_lem;
          ties = tied;
        }

  -- nothing granted: the transaction may stay, or be cancelled
  pub nothing_granted : (e : Event) → granted h e ≡ None → is_loss e ≡ false → is_restart e ≡ false → (bs : List ℕ) (o : Option Transaction) → Tracked (e ∷ h) bs
      → ((t : Transaction) → o ≡ Some t → s.transaction ≡ Some t)
      → Invariant p (record { shut = s.shut; ram = s.ram; bbr = s.bbr; flash = s.flash; held_bytes = bs; transaction = o }) (e ∷ h)
  unfolding queued
  nothing_granted e none loss restart bs o k sub =
      unchanged e (ap (λ g. change_by p.catalogue g (queued p.catalogue h)) none) loss restart bs o k
      (λ t is.
      let old = i.ties t (sub t is) in
      record { queue_is = old.queue_is ∙ ap (λ g. queued_by p.catalogue g (queued p.catalogue h)) (sym none); good = old.good })

  module _ (n : ℕ) (m : Message) (w : List ℕ) (is : granted h (tell n m Ack w) ≡ Some m) where
    -- a granted action 1 or 2
    pub queue_granted : (t : Transaction) (bs : List ℕ) → Tracked (tell n m Ack w ∷ h) bs → change_by p.catalogue (Some m) (queued p.catalogue h) ≡ None
        → queued_by p.catalogue (Some m) (queued p.catalogue h) ≡ t.queue → GoodChanges p.catalogue (eqb t.kind valset) t.queue
        → Invariant p (record { shut = s.shut; ram = s.ram; bbr = s.bbr; flash = s.flash; held_bytes = bs; transaction = Some t }) (tell n m Ack w ∷ h)
    unfolding queued is_loss is_restart
    queue_granted t bs k none queue_is good =
        unchanged (tell n m Ack w) (ap (λ g. change_by p.catalogue g (queued p.catalogue h)) is ∙ none) refl refl bs (Some t) k
        (λ u same.
        let q : t ≡ u = cc in
        subst (Tied p.catalogue (tell n m Ack w ∷ h)) q
        (record { queue_is = sym (ap (λ g. queued_by p.catalogue g (queued p.catalogue h)) is ∙ queue_is); good = good }))

    -- a granted action 0 or 3
    pub change_granted : (l : Layers) (d : Changes) (set : Bool) (bs : List ℕ) → Tracked (tell n m Ack w ∷ h) bs
        → change_by p.catalogue (Some m) (queued p.catalogue h) ≡ Some (record { layers = l; named = d }) → GoodChanges p.catalogue set d
        → (l.ram ≡ true → set ≡ true) → (l.flash ≡ true → s.flash.usable ≡ true)
        → cond l.ram (p.rule p.catalogue (configuration p.catalogue (written p.catalogue d s.ram))) None ≡ None
        → Invariant p
        (record {
          shut = s.shut;
          ram = written_if l.ram p.catalogue d s.ram;
          bbr = written_if l.bbr p.catalogue d s.bbr;
          flash = written_if l.flash p.catalogue d s.flash;
          held_bytes = bs;
          transaction = None;
        })
        (tell n m Ack w ∷ h)
    unfolding bbr_back flash_back ram_back is_loss is_restart
    change_granted l d set bs k change_is good is_set flash-on no_fault =
        let sound = ok.sound in
        let c : change p.catalogue h (tell n m Ack w) ≡ Some (record { layers = l; named = d }) = ap (λ g. change_by p.catalogue g (queued p.catalogue h)) is ∙ change_is in
        let fl = flash_after p.catalogue sound set d good l.flash s.flash (flash_back p h) flash-on i.flash_tidy i.flash_holds in
        record {
          serves = i.serves;
          hears = k;
          ram = same_holding p.catalogue _ _ _ (store_after p.catalogue sound set d good l.ram s.ram (ram_back p h) i.ram) (λ j. ap (λ g. after_change in_ram g j (ram_back p h j)) (sym c));
          bbr = same_holding p.catalogue _ _ _ (store_after p.catalogue sound set d good l.bbr s.bbr (bbr_back p h) i.bbr) (λ j. ap (λ g. after_change in_bbr g j (bbr_back p h j)) (sym c));
          flash_tidy = fl.0;
          flash_holds = λ j. fl.1 j ∙ ap (λ g. after_change in_flash g j (flash_back p h j)) (sym c);
          is_fit_lem = fit_after p sound set d good l.ram s.ram is_set i.ram.tidy i.ram.usable i.is_fit_lem no_fault;
          ties = λ t no_one. cc;
        }

  -- A restart

  module _ (b : Battery) (o : Option ℕ) where
    bbr_kept : (b : Battery) → Holding p.catalogue (after_battery b s.bbr) (bbr_back p (restarted b o ∷ h))
    unfolding bbr_back granted is_loss cleared
    bbr_kept Kept = i.bbr
    bbr_kept Lost = rw i.bbr.usable (record { tidy = record { above = tt; known = tt }; usable = refl; holds = λ j. refl })

    flash_kept : (j : ℕ) → held s.flash j ≡ flash_back p (restarted b o ∷ h) j
    unfolding flash_back granted
    flash_kept j = i.flash_holds j

    pub restart_keeps : Tracked (restarted b o ∷ h) []
        → Invariant p
        (record {
          shut = s.shut;
          ram = holding s.ram (stacked p.catalogue p.rule (held (after_battery b s.bbr)) (held s.flash));
          bbr = after_battery b s.bbr;
          flash = s.flash;
          held_bytes = [];
          transaction = None;
        })
        (restarted b o ∷ h)
    unfolding ram_back is_restart
    restart_keeps k =
        let bbr = bbr_kept b in
        record {
          serves = i.serves;
          hears = k;
          ram =
              record {
                tidy = stacked_tidy p.catalogue p.rule ok.sound ok.defaults_fit _ _;
                usable = i.ram.usable;
                holds = λ j. ap₂ (λ (x y : ℕ → Option ℕ). value_under j (stacked p.catalogue p.rule x y)) (fun_ext bbr.holds) (fun_ext flash_kept);
              };
          bbr = bbr;
          flash_tidy = i.flash_tidy;
          flash_holds = flash_kept;
          is_fit_lem =
              record {
                full = stacked_full p.catalogue p.rule ok.sound ok.defaults_fit _ _;
                fit = stacked_fit p.catalogue p.rule ok.sound ok.defaults_fit _ _ s.ram.usable;
              };
          ties = λ t no_one. cc;
        }
