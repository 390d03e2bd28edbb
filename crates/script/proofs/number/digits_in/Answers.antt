use Rattle.std.proofs.Common.{◌≡◌, ◌^◌, ◌∙◌, None, rules}
use Rattle.script.specs.Bases.{digits_of}
use Rattle.script.proofs.Numbers.{read_stops, read_more}
use Rattle.script.proofs.number.digits_in.Goals as goal

pub returns-in_err-digit : goal.returns-in_err-digit
returns-in_err-digit c =
    let none : c.from_residual.result ≡ None = search rules in
    none ∙ read_stops (2 ^ 64) (digits_of c.args.base) c.loop-byte.number c.loop-byte.byte-index c.args.digits.now _ (search rules) (search rules) c.loop-byte.invariant.1

pub loop-byte-preserved : goal.loop-byte-preserved
loop-byte-preserved c = (
  search rules,
  read_more (2 ^ 64) (digits_of c.args.base) c.loop-byte.number _ c.in_ok-digit.digit c.loop-byte.byte-index c.args.digits.now _ (search rules) (search rules) (search rules) (search rules) c.loop-byte.invariant.1,
)
