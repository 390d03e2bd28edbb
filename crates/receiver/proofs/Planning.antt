-- What a frame is judged to do, in the direction of the code's contracts.
use Rattle.std.proofs.Common.{◌≡◌, ◌⊎◌, inl, inr, ℕ, Bool, true, false, is_some, List, replicate, Some, None, Ok, Err, Option, Result, sym, refl, ap, ◌∙◌, ap₂}
use mathlib.Core.Path.{fun_ext}
use Rattle.std.proofs.lemmas.Bool.{cond-true, cond-false}
use Rattle.frame.specs.Frames.{Message}
use Rattle.rule.specs.Rules.{Finding}
use Rattle.reference.specs.declared.refusal.Refusal.{Refusal}
use Rattle.reference.specs.declared.layers.Layers.{Layers}
use Rattle.reference.specs.Requests.{Catalogue, Changes, latest, and_later, ok_map, layers_of, action_of, data_of}
use Rattle.reference.specs.Receiver.{State, Plan, queue, written, configuration, and_then, apply_fault, applying, queue_of, planned, judged_change}
use Rattle.catalogue.specs.declared.entries.Entry.{Entry}
use Rattle.std.specs.Option.{option_map}
use Rattle.request.specs.declared.change.Change.{Change}
use Rattle.request.specs.declared.action.Action.{Action}
use Rattle.request.specs.declared.action.Action.TheVariants.{Apply, Open, Add, Close}
use Rattle.request.specs.Actions.{action_number}
use Rattle.request.specs.Changes.{changes_by}
use Rattle.receiver.specs.declared.transaction.Transaction.{Transaction}
use Rattle.receiver.specs.State.{opened_of}
use Rattle.receiver.specs.Plans.{changes_for}
use Rattle.request.specs.Head.{head_refusal, opened_layers, after_head}
use Rattle.request.proofs.Heads.{judged_change_lem}
use Rattle.request.proofs.Settled.{none_at, or_none_lem}

module _ (cat : Catalogue) (rule : Finding) (s : State) (l : Layers) (d : Changes) where
  pub fault_unchosen : l.ram ≡ false → None ≡ apply_fault cat rule s l d
  unfolding apply_fault
  fault_unchosen e = sym (cond-false l.ram _ _ e)

  pub fault_found : (o : Option ℕ) → l.ram ≡ true → o ≡ rule cat (configuration cat (written cat d s.ram)) → o ≡ apply_fault cat rule s l d
  unfolding apply_fault
  fault_found o e f = f ∙ sym (cond-true l.ram _ _ e)

pub ruleset by_fault = (fault_unchosen, fault_found)

pub none_queued : (es : List Entry) (slots cs : List (Option Change)) (t : Option Transaction) → cs ≡ replicate 128 None → t ≡ None → changes_by es cs ≡ queue_of (option_map (opened_of es slots) t)
none_queued es slots cs t e is = ap (changes_by es) e ∙ fun_ext (λ k. none_at es 128 k) ∙ sym (ap (λ o. queue_of (option_map (opened_of es slots) o)) is)

-- What an action does with the changes that it is about

and_then_map : {A B C : Type 0} (r : Result A Refusal) (f : A → B) (F : B → Result C Refusal) → and_then r (λ x. F (f x)) ≡ and_then (ok_map f r) F
and_then_map (Ok x) f F = refl
and_then_map (Err e) f F = refl

module _ (cat : Catalogue) (rule : Finding) (s : State) (m : Message) (l : Layers) where
  abbrev done_with : Action → Changes → Result Plan Refusal
  done_with Apply d = applying (apply_fault cat rule s l d) l d
  done_with Open d = Ok (queue (record { kind = m.id; layers = l; queue = d }))
  done_with Add d = Ok (queue (record { kind = m.id; layers = l; queue = d }))
  done_with Close d = applying (apply_fault cat rule s l d) l d

  plan_is : (a : Action) → and_then (changes_for cat (queue_of s.transaction) m a) (done_with a) ≡ planned cat rule s m l (action_number a)
  plan_is Apply = sym (and_then_map (data_of cat m.id m.payload) latest (done_with Apply))
  plan_is Open = sym (and_then_map (data_of cat m.id m.payload) latest (done_with Open))
  plan_is Add =
      sym (and_then_map (ok_map latest (data_of cat m.id m.payload)) (and_later (queue_of s.transaction)) (done_with Add))
      ∙ sym (and_then_map (data_of cat m.id m.payload) latest (λ d. done_with Add (and_later (queue_of s.transaction) d)))
  plan_is Close = refl

  applied_with : (a : Action) (d : Changes) → (a ≡ Apply) ⊎ (a ≡ Close) → applying (apply_fault cat rule s l d) l d ≡ done_with a d
  applied_with a d (inl e) = ap (λ (b : Action). done_with b d) (sym e)
  applied_with a d (inr e) = ap (λ (b : Action). done_with b d) (sym e)

  pub plan_applied : (a : Action) (d : Changes) (r : Result Plan Refusal) → (a ≡ Apply) ⊎ (a ≡ Close) → Ok d ≡ changes_for cat (queue_of s.transaction) m a
      → r ≡ applying (apply_fault cat rule s l d) l d → r ≡ planned cat rule s m l (action_number a)
  plan_applied a d r is e f = f ∙ applied_with a d is ∙ ap (λ (c : Result Changes Refusal). and_then c (done_with a)) e ∙ plan_is a

-- What is queued, under changes

module _ (es : List Entry) (slots : List (Option Change)) (t : Option Transaction) (old : List (Option Change)) where
  abbrev joined : Option Transaction → Changes
  joined o = and_later (queue_of (option_map (opened_of es slots) o)) (changes_by es old)

  pub none_under : is_some t ≡ false → changes_by es old ≡ joined t
  none_under e = go t e
    where
      go : (o : Option Transaction) → is_some o ≡ false → changes_by es old ≡ joined o
      go None e = sym (fun_ext (λ k. or_none_lem (changes_by es old k)))
      go (Some x) e = absurd (cc)

  pub queued_under : (c : Changes) → is_some t ≡ true → c ≡ and_later (changes_by es slots) (changes_by es old) → c ≡ joined t
  queued_under c e is = go t e
    where
      go : (o : Option Transaction) → is_some o ≡ true → c ≡ joined o
      go None e = absurd (cc)
      go (Some x) e = is

-- The checks of the head come first

refused_by : (o : Option Refusal) (f : Refusal) → ◌≡◌ {A = Result (Unit {0}) Refusal} (Err f) (after_head o (Ok tt)) → Some f ≡ o
refused_by None f e = absurd (cc)
refused_by (Some x) f e = cc

passed_by : (o : Option Refusal) → ◌≡◌ {A = Result (Unit {0}) Refusal} (Ok tt) (after_head o (Ok tt)) → None ≡ o
passed_by None e = refl
passed_by (Some x) e = absurd (cc)

module _ (cat : Catalogue) (rule : Finding) (s : State) (m : Message) where
  -- what is planned, behind the checks of the head
  behind_head : Option Refusal → Result Plan Refusal
  behind_head o = after_head o (planned cat rule s m (layers_of m.id m.payload) (action_of m.payload))

  module _ (u : Bool) (opened : Option Layers) (is-usable : u ≡ s.flash.usable) (is-opened : opened ≡ opened_layers s.transaction) where
    head_is : (o : Option Refusal) → o ≡ head_refusal m.id m.payload u opened → behind_head o ≡ judged_change cat rule s m
    unfolding behind_head
    head_is o e = ap behind_head (e ∙ ap₂ (head_refusal m.id m.payload) is-usable is-opened) ∙ sym (judged_change_lem cat rule s m)

    pub head_refused : (f : Refusal) → ◌≡◌ {A = Result (Unit {0}) Refusal} (Err f) (after_head (head_refusal m.id m.payload u opened) (Ok tt))
        → Err f ≡ judged_change cat rule s m
    unfolding behind_head
    head_refused f e = head_is (Some f) (refused_by (head_refusal m.id m.payload u opened) f e)

    pub head_passed : (r : Result Plan Refusal) (l : Layers) (a : ℕ) → ◌≡◌ {A = Result (Unit {0}) Refusal} (Ok tt) (after_head (head_refusal m.id m.payload u opened) (Ok tt))
        → l ≡ layers_of m.id m.payload → a ≡ action_of m.payload → r ≡ planned cat rule s m l a → r ≡ judged_change cat rule s m
    unfolding behind_head
    head_passed r l a e is at f = f ∙ ap₂ (planned cat rule s m) is at ∙ head_is None (passed_by (head_refusal m.id m.payload u opened) e)
