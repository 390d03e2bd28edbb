-- The key or selector in the first four bytes.
use Rattle.std.specs.Prelude.{ℕ, cond, List, length, take, Some, None, Option, nat_lt}
use Rattle.item.specs.Values.{number}

abbrev pub key_in : List ℕ → Option ℕ
key_in bs = cond (nat_lt (length bs) 4) None (Some (number (take 4 bs)))
