-- The checks of the head of a set or delete, in their order.
use Rattle.std.specs.Prelude.{ℕ, Bool, false, cond, not, ◌&&◌, ◌||◌, List, length, Some, None, Err, Option, Result, ◌==◌, nat_le, nat_lt, slice_index}
use Rattle.std.specs.Option.{option_map}
use Rattle.reference.specs.declared.layers.Layers.{Layers}
use Rattle.reference.specs.declared.refusal.Refusal.{Refusal}
use Rattle.reference.specs.declared.refusal.Refusal.TheVariants.{UnknownVersion, NoLayer, WrongLayer, NoneOpen, OtherLayers, NothingAdded}
use Rattle.reference.specs.Requests.{layers_of, same_layers, action_of}
use Rattle.reference.specs.Receiver.{Transaction, is_none}

-- the open transaction's layers
abbrev pub opened_layers : Option Transaction → Option Layers
opened_layers t = option_map (λ (o : Transaction). o.layers) t

-- a transaction is open, and for other layers
abbrev pub opened_for_others : Option Layers → Layers → Bool
opened_for_others None l = false
opened_for_others (Some o) l = not (same_layers o l)

-- an action 2 or 3 joins the open transaction; an action 2 adds data to it
abbrev pub joining_refusal : ℕ → List ℕ → Layers → Option Layers → Option Refusal
joining_refusal a p l opened =
    cond (nat_le 2 a && is_none opened) (Some NoneOpen)
    (cond (nat_le 2 a && opened_for_others opened l) (Some OtherLayers) (cond (a == 2 && nat_le (length p) 4) (Some NothingAdded) None))

-- by the ID, the payload, whether Flash is usable, and the layers of the open transaction
abbrev pub head_refusal : ℕ → List ℕ → Bool → Option Layers → Option Refusal
head_refusal id p usable opened =
    let l : Layers = layers_of id p in
    cond (nat_lt 1 (slice_index p 0)) (Some UnknownVersion)
    (cond (not (l.ram || (l.bbr || l.flash))) (Some NoLayer) (cond (l.flash && not usable) (Some WrongLayer) (joining_refusal (action_of p) p l opened)))

-- what is done behind the head's checks
abbrev pub after_head : {A : Type 0} → Option Refusal → Result A Refusal → Result A Refusal
after_head None r = r
after_head (Some f) r = Err f
