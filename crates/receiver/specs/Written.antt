-- What an answering writes.
use Rattle.std.specs.Prelude.{ℕ, [], ◌∷◌}
use Rattle.frame.specs.Frames.{Message, carrying}
use Rattle.reference.specs.Requests.{configuration_class}
use Rattle.receiver.specs.declared.verdict.Sign.{Sign}
use Rattle.receiver.specs.declared.verdict.Sign.TheVariants.{Nak, Ack}

-- the verdict on a configuration frame with this ID
abbrev pub verdict_on : ℕ → ℕ → Message
verdict_on verdict id = carrying 5 verdict (configuration_class ∷ id ∷ [])

-- the ID of its frame
abbrev pub sign_id : Sign → ℕ
sign_id Nak = 0
sign_id Ack = 1
