-- What a granted frame shows: the way back from the plan to the payload.
use Rattle.std.proofs.Common.{◌≡◌, ℕ, zero, suc, ◌≤◌, Bool, true, false, cond, not, ◌&&◌, ◌||◌, eqb, ◌⊎◌, List, Some, None, Ok, Err, Option, Result, sym, refl, ap, ◌∙◌, ap₂, inl, inr, ⊎_elim, arith}
use Rattle.std.proofs.lemmas.Bool.{eqb-true, le-leb}
use Rattle.std.proofs.lemmas.Bool.Decides.{nat_tests}
use Rattle.frame.specs.Frames.{Message, frame_bytes}
use Rattle.reference.specs.Stores.{Settings}
use Rattle.rule.specs.Rules.{Finding}
use Rattle.reference.specs.declared.refusal.Refusal.{Refusal}
use Rattle.reference.specs.declared.layers.Layers.{Layers}
use Rattle.reference.specs.Requests.{Catalogue, valset, valget, valdel, layers_of, action_of, Data, latest, Changes, and_later, data_of, keys_of}
use Rattle.reference.specs.Receiver.{State, Transaction, Plan, apply, queue, reply, unless, and_then, apply_fault, applying, is_none, queue_of, planned, judged_change, page, paged, judged_get, judged}
use Rattle.reference.specs.Law.{own_data, or_none, by_action, queued_by, change_by, Granted}

unless_ok : {A : Type 0} (b : Bool) (x : Refusal) (r : Result A Refusal) (a : A) → unless b x r ≡ Ok a → (b ≡ false) × (r ≡ Ok a)
unfolding unless
unless_ok true x r a e = cc
unless_ok false x r a e = (refl, e)

and_then_ok : {A B : Type 0} (r : Result A Refusal) (f : A → Result B Refusal) (b : B) → and_then r f ≡ Ok b → (a : A) × (r ≡ Ok a) × (f a ≡ Ok b)
and_then_ok (Ok a) f b e = (a, refl, e)
and_then_ok (Err x) f b e = cc

only_applies : (o : Option ℕ) (l : Layers) (d : Changes) (p : Plan) → applying o l d ≡ Ok p → apply l d ≡ p
only_applies None l d p e = cc
only_applies (Some i) l d p e = cc

-- VALSET or VALDEL
abbrev pub is_change : ℕ → Bool
is_change id = eqb id valset || eqb id valdel

but_not : (a b : Bool) → (a && not b) ≡ false → a ≡ true → b ≡ true
but_not a b e t = grind (arith, nat_tests)

and_second : (a b : Bool) → (a && b) ≡ false → a ≡ true → b ≡ false
and_second a b e t = grind (arith, nat_tests)

one_of_three : (a b c : Bool) → not (a || (b || c)) ≡ false → b ≡ false → (a || c) ≡ true
one_of_three a b c e n = grind (arith, nat_tests)

-- an action 2 or 3 has a transaction open
open_from : (o : Option Transaction) → is_none o ≡ false → (t : Transaction) × (o ≡ Some t)
open_from None e = cc
open_from (Some t) e = (t, refl)

module _ (cat : Catalogue) (rule : Finding) (s : State) (m : Message) where
  abbrev pub chosen : Layers
  chosen = layers_of m.id m.payload

  abbrev pub action : ℕ
  action = action_of m.payload

  -- a granted VALSET or VALDEL
  pub record GrantedChange (plan : Plan) : Type 0 where
    pub is_change_lem : is_change m.id ≡ true
    -- a chosen Flash is usable
    pub flash_usable : chosen.flash ≡ true → s.flash.usable ≡ true
    -- an action 2 or 3 has a transaction open
    pub is_open : 2 ≤ action → (t : Transaction) × (s.transaction ≡ Some t)
    pub plan_is : planned cat rule s m chosen action ≡ Ok plan

  -- a granted VALGET
  pub record GrantedGet (plan : Plan) : Type 0 where
    pub is_get : m.id ≡ valget
    pub settings : Settings
    pub keys : List ℕ
    pub plan_is : plan ≡ reply (frame_bytes (page settings m.payload keys))

  module _ (plan : Plan) where
    change_shows : is_change m.id ≡ true → judged_change cat rule s m ≡ Ok plan → GrantedChange plan
    unfolding judged_change
    change_shows c e =
        let version = unless_ok _ _ _ plan e in
        let some-layer = unless_ok _ _ _ plan version.1 in
        let layer = unless_ok _ _ _ plan some-layer.1 in
        let open-one = unless_ok _ _ _ plan layer.1 in
        let same-layers = unless_ok _ _ _ plan open-one.1 in
        let adding = unless_ok _ _ _ plan same-layers.1 in
        record {
          is_change_lem = c;
          flash_usable = λ on. but_not _ _ layer.0 on;
          is_open = λ two. open_from s.transaction (and_second _ _ open-one.0 (le-leb 2 action two));
          plan_is = adding.1;
        }

    page_shows : (o : Option Settings) → paged cat o m.payload ≡ Ok plan → (ss : Settings) × (ks : List ℕ) × (plan ≡ reply (frame_bytes (page ss m.payload ks)))
    page_shows None e = cc
    page_shows (Some ss) e =
        let k = and_then_ok (keys_of cat m.payload) _ plan e in
        let is = k.2 in
        (ss, k.0, cc)

    get_shows : m.id ≡ valget → judged_get cat s m ≡ Ok plan → GrantedGet plan
    unfolding judged_get
    get_shows is e =
        let p = page_shows _ (unless_ok _ _ _ plan e).1 in
        record { is_get = is; settings = p.0; keys = p.1; plan_is = p.2 }

    pub judged_shows : judged cat rule s m ≡ Ok plan → GrantedGet plan ⊎ GrantedChange plan
    unfolding judged
    judged_shows e =
        let known-id = unless_ok _ _ _ plan e in
        let long = unless_ok _ _ _ plan known-id.1 in
        go (eqb m.id valget) refl long.1 known-id.0
      where
        go : (b : Bool) → eqb m.id valget ≡ b → cond b (judged_get cat s m) (judged_change cat rule s m) ≡ Ok plan
            → not (eqb m.id valset || (eqb m.id valget || eqb m.id valdel)) ≡ false → GrantedGet plan ⊎ GrantedChange plan
        go true is e some = inl (get_shows (eqb-true m.id valget is) e)
        go false is e some = inr (change_shows (one_of_three _ _ _ some is) e)

  -- What applying applies: q is what looking back finds queued

  pub record Applies (q : Changes) (l : Layers) (d : Changes) : Type 0 where
    pub layers_are : l ≡ chosen
    pub change_is : change_by cat (Some m) q ≡ Some (record { layers = l; named = d })
    pub no_fault : apply_fault cat rule s l d ≡ None
    pub data_is : ((own : Data) × (data_of cat m.id m.payload ≡ Ok own) × (latest own ≡ d)) ⊎ ((t : Transaction) × (s.transaction ≡ Some t) × (t.queue ≡ d))

  pub record Queues (q : Changes) (t : Transaction) : Type 0 where
    pub kind_is : t.kind ≡ m.id
    pub no_change_lem : change_by cat (Some m) q ≡ None
    pub queued_is : queued_by cat (Some m) q ≡ t.queue
    pub own : Data
    pub own_is : data_of cat m.id m.payload ≡ Ok own
    pub data_is : (t.queue ≡ latest own) ⊎ ((u : Transaction) × (s.transaction ≡ Some u) × (t.queue ≡ and_later u.queue (latest own)))

  module _ (q : Changes) (ties : (t : Transaction) → s.transaction ≡ Some t → t.queue ≡ q) where
    -- applying what is judged gives that plan, or a refusal
    applying_ok : (o : Option ℕ) (l l' : Layers) (d d' : Changes) → apply_fault cat rule s l d ≡ o → applying o l d ≡ Ok (apply l' d') → (l ≡ l') × (d ≡ d') × (apply_fault cat rule s l' d' ≡ None)
    applying_ok None l l' d d' e a =
        let same-l : l ≡ l' = cc in
        let same-d : d ≡ d' = cc in
        (same-l, same-d, ap₂ (apply_fault cat rule s) (sym same-l) (sym same-d) ∙ e)
    applying_ok (Some i) l l' d d' e a = cc

    -- what looking back reads off a frame of action a
    abbrev change_at : ℕ → Option Granted
    change_at a = by_action a (Some (record { layers = chosen; named = own_data cat m })) None None (Some (record { layers = chosen; named = q }))

    abbrev queue_at : ℕ → Changes
    queue_at a = by_action a q (own_data cat m) (and_later q (own_data cat m)) q

    some_granted : (l l' : Layers) (d d' : Changes) → l ≡ l' → d ≡ d' → ◌≡◌ {A = Option Granted} (Some (record { layers = l; named = d })) (Some (record { layers = l'; named = d' }))
    some_granted l l' d d' e e' = ap₂ (λ (x : Layers) (y : Changes). Some (record { layers = x; named = y })) e e'

    AppliesAt : ℕ → Layers → Changes → Type 0
    AppliesAt a l d =
        (l ≡ chosen) × (change_at a ≡ Some (record { layers = l; named = d })) × (apply_fault cat rule s l d ≡ None)
        × (((own : Data) × (data_of cat m.id m.payload ≡ Ok own) × (latest own ≡ d)) ⊎ ((t : Transaction) × (s.transaction ≡ Some t) × (t.queue ≡ d)))

    applies_at : (a : ℕ) (l : Layers) (d : Changes) → (2 ≤ a → (t : Transaction) × (s.transaction ≡ Some t)) → planned cat rule s m chosen a ≡ Ok (apply l d) → AppliesAt a l d
    unfolding AppliesAt
    applies_at zero l d is_open e =
        let x = and_then_ok (data_of cat m.id m.payload) _ (apply l d) e in
        let k = applying_ok (apply_fault cat rule s chosen (latest x.0)) chosen l (latest x.0) d refl x.2 in
        (sym k.0, some_granted chosen l (own_data cat m) d k.0 (ap (λ r. latest (or_none r)) x.1 ∙ k.1), k.2, inl (x.0, x.1, k.1))
    applies_at (suc zero) l d is_open e = let x = and_then_ok (data_of cat m.id m.payload) _ (apply l d) e in let no = x.2 in cc
    applies_at (suc (suc zero)) l d is_open e = let x = and_then_ok (data_of cat m.id m.payload) _ (apply l d) e in let no = x.2 in cc
    applies_at (suc (suc (suc n))) l d is_open e =
        let o = is_open (omega arith) in
        let same : queue_of s.transaction ≡ q = ap queue_of o.1 ∙ ties o.0 o.1 in
        let k = applying_ok (apply_fault cat rule s chosen (queue_of s.transaction)) chosen l (queue_of s.transaction) d refl e in
        (sym k.0, some_granted chosen l q d k.0 (sym same ∙ k.1), k.2, inr (o.0, o.1, sym (ap queue_of o.1) ∙ k.1))

    pub applies : (l : Layers) (d : Changes) → GrantedChange (apply l d) → Applies q l d
    unfolding AppliesAt
    applies l d g =
        let a = applies_at action l d g.is_open g.plan_is in
        record { layers_are = a.0; change_is = a.1; no_fault = a.2; data_is = a.3 }

    -- what is queued

    QueuesAt : ℕ → Transaction → Type 0
    QueuesAt a t =
        (t.kind ≡ m.id) × (change_at a ≡ None) × (queue_at a ≡ t.queue)
        × ((own : Data) × (data_of cat m.id m.payload ≡ Ok own) × ((t.queue ≡ latest own) ⊎ ((u : Transaction) × (s.transaction ≡ Some u) × (t.queue ≡ and_later u.queue (latest own)))))

    queues_at : (a : ℕ) (t : Transaction) → (2 ≤ a → (u : Transaction) × (s.transaction ≡ Some u)) → planned cat rule s m chosen a ≡ Ok (queue t) → QueuesAt a t
    unfolding QueuesAt
    queues_at zero t is_open e =
        let x = and_then_ok (data_of cat m.id m.payload) _ (queue t) e in
        let no = only_applies _ _ _ (queue t) x.2 in
        cc
    queues_at (suc zero) t is_open e =
        let x = and_then_ok (data_of cat m.id m.payload) _ (queue t) e in
        let read_is = x.2 in
        let k : record { kind = m.id; layers = chosen; queue = latest x.0 } ≡ t = cc in
        let is : latest x.0 ≡ t.queue = ap (λ (t : Transaction). t.queue) k in
        (sym (ap (λ (t : Transaction). t.kind) k), refl, ap (λ r. latest (or_none r)) x.1 ∙ is, (x.0, x.1, inl (sym is)))
    queues_at (suc (suc zero)) t is_open e =
        let x = and_then_ok (data_of cat m.id m.payload) _ (queue t) e in
        let read_is = x.2 in
        let k : record { kind = m.id; layers = chosen; queue = and_later (queue_of s.transaction) (latest x.0) } ≡ t = cc in
        let o = is_open (omega arith) in
        let same : queue_of s.transaction ≡ q = ap queue_of o.1 ∙ ties o.0 o.1 in
        let is : and_later (queue_of s.transaction) (latest x.0) ≡ t.queue = ap (λ (t : Transaction). t.queue) k in (
          sym (ap (λ (t : Transaction). t.kind) k),
          refl,
          ap₂ and_later (sym same) (ap (λ r. latest (or_none r)) x.1) ∙ is,
          (x.0, x.1, inr (o.0, o.1, sym is ∙ ap (λ (y : Changes). and_later y (latest x.0)) (ap queue_of o.1))),
        )
    queues_at (suc (suc (suc n))) t is_open e = let no = only_applies _ _ _ (queue t) e in cc

    pub queues : (t : Transaction) → GrantedChange (queue t) → Queues q t
    unfolding QueuesAt
    queues t g =
        let a = queues_at action t g.is_open g.plan_is in
        record { kind_is = a.0; no_change_lem = a.1; queued_is = a.2; own = a.3.0; own_is = a.3.1; data_is = a.3.2 }

  -- a change writes no reply
  no_reply_at : (a : ℕ) (bs : List ℕ) → planned cat rule s m chosen a ≡ Ok (reply bs) → ⊥
  no_reply_at zero bs e =
      let x = and_then_ok (data_of cat m.id m.payload) _ (reply bs) e in
      let no = only_applies _ _ _ (reply bs) x.2 in
      cc
  no_reply_at (suc zero) bs e = let x = and_then_ok (data_of cat m.id m.payload) _ (reply bs) e in let no = x.2 in cc
  no_reply_at (suc (suc zero)) bs e = let x = and_then_ok (data_of cat m.id m.payload) _ (reply bs) e in let no = x.2 in cc
  no_reply_at (suc (suc (suc n))) bs e = let no = only_applies _ _ _ (reply bs) e in cc

  pub change_no_reply : (bs : List ℕ) → GrantedChange (reply bs) → ⊥
  change_no_reply bs g = no_reply_at action bs g.plan_is

  -- so a reply is a granted VALGET's
  pub reply_shows : (bs : List ℕ) → judged cat rule s m ≡ Ok (reply bs) → GrantedGet (reply bs)
  reply_shows bs e = ⊎_elim (λ g. g) (λ g. absurd (change_no_reply bs g)) (judged_shows (reply bs) e)
