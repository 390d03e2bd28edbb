-- The head of a payload against the reference's judging of a set or delete.
use Rattle.std.proofs.Common.{◌≡◌, Bool, true, false, cond, not, ◌&&◌, ◌||◌, eqb, ltb, leb, length, get_or, Some, None, Option, Result, refl, ◌∙◌, ap₂}
use Rattle.frame.specs.Frames.{Message}
use Rattle.rule.specs.Rules.{Finding}
use Rattle.reference.specs.declared.layers.Layers.{Layers}
use Rattle.reference.specs.declared.refusal.Refusal.{Refusal}
use Rattle.reference.specs.declared.refusal.Refusal.TheVariants.{UnknownVersion, NoLayer, WrongLayer, NoneOpen, OtherLayers, NothingAdded}
use Rattle.reference.specs.Requests.{Catalogue, layers_of, action_of}
use Rattle.reference.specs.Receiver.{State, Transaction, unless, is_none, other_layers, planned, judged_change}
use Rattle.request.specs.Head.{opened_layers, opened_for_others, head_refusal, after_head}

-- six checks in a row
checks : {A : Type 0} (a b c d e f : Bool) (r : Result A Refusal)
    → unless a UnknownVersion (unless b NoLayer (unless c WrongLayer (unless d NoneOpen (unless e OtherLayers (unless f NothingAdded r)))))
    ≡ after_head (cond a (Some UnknownVersion) (cond b (Some NoLayer) (cond c (Some WrongLayer)
    (cond d (Some NoneOpen) (cond e (Some OtherLayers) (cond f (Some NothingAdded) None)))))) r
unfolding unless
checks true b c d e f r = refl
checks false true c d e f r = refl
checks false false true d e f r = refl
checks false false false true e f r = refl
checks false false false false true f r = refl
checks false false false false false true r = refl
checks false false false false false false r = refl

-- the checks against the open transaction see only its layers

none_mapped : (t : Option Transaction) → is_none t ≡ is_none (opened_layers t)
none_mapped None = refl
none_mapped (Some t) = refl

others_mapped : (t : Option Transaction) (l : Layers) → other_layers t l ≡ opened_for_others (opened_layers t) l
others_mapped None l = refl
others_mapped (Some t) l = refl

-- A set or delete is refused by its head, or planned.
pub judged_change_lem : (cat : Catalogue) (rule : Finding) (s : State) (m : Message)
    → judged_change cat rule s m
    ≡ after_head (head_refusal m.id m.payload s.flash.usable (opened_layers s.transaction))
    (planned cat rule s m (layers_of m.id m.payload) (action_of m.payload))
unfolding judged_change
judged_change_lem cat rule s m =
    let l = layers_of m.id m.payload in
    let a = action_of m.payload in
    let r = planned cat rule s m l a in
    ap₂ (λ x y.
    unless (ltb 1 (get_or m.payload 0 0)) UnknownVersion
    (unless (not (l.ram || (l.bbr || l.flash))) NoLayer
    (unless (l.flash && not s.flash.usable) WrongLayer
    (unless (leb 2 a && x) NoneOpen (unless (leb 2 a && y) OtherLayers (unless (eqb a 2 && leb (length m.payload) 4) NothingAdded r))))))
    (none_mapped s.transaction) (others_mapped s.transaction l)
    ∙ checks (ltb 1 (get_or m.payload 0 0)) (not (l.ram || (l.bbr || l.flash))) (l.flash && not s.flash.usable)
    (leb 2 a && is_none (opened_layers s.transaction)) (leb 2 a && opened_for_others (opened_layers s.transaction) l)
    (eqb a 2 && leb (length m.payload) 4) r
