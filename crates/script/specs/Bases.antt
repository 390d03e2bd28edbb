-- How many digits each base has.
use Rattle.std.specs.Prelude.{ℕ}
use Rattle.script.specs.declared.number.Base.{Base}
use Rattle.script.specs.declared.number.Base.TheVariants.{Decimal, Hexadecimal}

abbrev pub digits_of : Base → ℕ
digits_of Decimal = 10
digits_of Hexadecimal = 16
