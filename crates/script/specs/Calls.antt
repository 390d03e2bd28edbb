-- The calls of a script, as what a receiver is asked.
use Rattle.std.specs.Prelude.{vec_items}
use Rattle.reference.specs.Events.{Asking, take_piece, answer_into, look_at, restart_with}
use Rattle.script.specs.declared.command.OwnCall.{OwnCall}
use Rattle.script.specs.declared.command.OwnCall.TheVariants.{Take, Answer, Look, Restart}

abbrev pub own_asking : OwnCall → Asking
own_asking (Take bytes) = take_piece (vec_items bytes)
own_asking (Answer room) = answer_into room
own_asking (Look layer key) = look_at layer key
own_asking (Restart battery) = restart_with battery
