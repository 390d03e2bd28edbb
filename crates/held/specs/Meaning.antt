-- What is held.
use Rattle.std.specs.Prelude.{ℕ, ◌-◌, List, take, drop}
use Rattle.held.specs.declared.held.Held.{Held}

abbrev pub bytes_held : Held → List ℕ
bytes_held h = take (h.end - h.start) (drop h.start h.bytes)
