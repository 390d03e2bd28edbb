use Rattle.std.proofs.Common.{◌≡◌, ◌^◌, ◌≤◌, drop}
use Rattle.script.specs.Numbers.{followed_by, capped}
use Rattle.script.specs.Bases.{digits_of}
use Rattle.script.proofs.number.digits_in.Given as goal

-- the digits that are left make of the number so far what all of them make of none
abbrev pub invariant-loop-byte : goal.invariant-loop-byte
invariant-loop-byte l = (l.number ≤ 2 ^ 64) × (capped (2 ^ 64) (followed_by (digits_of l.base) l.number (drop l.byte-index l.digits)) ≡ capped (2 ^ 64) (followed_by (digits_of l.base) 0 l.digits))
