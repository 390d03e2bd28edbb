-- The actions of a set or delete, and the numbers that name them in a payload.
use Rattle.std.specs.Prelude.{ℕ, Bool, nat_le}
use Rattle.request.specs.declared.action.Action.{Action}
use Rattle.request.specs.declared.action.Action.TheVariants.{Apply, Open, Add, Close}

abbrev pub action_number : Action → ℕ
action_number Apply = 0
action_number Open = 1
action_number Add = 2
action_number Close = 3

-- an action 2 or 3 joins the open transaction
abbrev pub joins : Action → Bool
joins a = nat_le 2 (action_number a)
