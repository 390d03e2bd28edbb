-- The store at a place, lent by a set-up.
use Rattle.std.specs.Borrow.{Lends, MutBor, Fml}
use Rattle.any_store.specs.declared.any.AnyStore.{AnyStore}
use Rattle.any_store.specs.contracts.any.AnyStore as store
use Rattle.script.specs.declared.command.Place.{Place}
use Rattle.script.specs.declared.command.Place.TheVariants.{Bbr, Flash}
use Rattle.script.specs.declared.setup.Setup.{Setup}
use Rattle.script.specs.contracts.setup.Setup as setup

-- the set-up with this store at the place
abbrev pub with_store : Place → Setup → AnyStore → Setup
with_store Bbr s w = record s { bbr = w }
with_store Flash s w = record s { flash = w }

-- the set-up ends with the last value behind r at the place
abbrev pub LendsStore : Place → MutBor Setup → MutBor AnyStore → Fml
LendsStore place s r = Lends setup.the_row store.the_row s r (with_store place s.now)
