-- The bench catalogue: seven items on which the examples of this repository are worked.
use Rattle.std.specs.Prelude.{◌≡◌, ℕ, List, [], ◌∷◌, Ok}
use Rattle.catalogue.specs.declared.entries.Entry.{Entry}
use Rattle.catalogue.specs.declared.kind.Kind.{Kind}
use Rattle.catalogue.specs.declared.kind.Kind.TheVariants.{Unsigned, Bits}
use Rattle.item.specs.Selectors.{selector_of}
use Rattle.catalogue.specs.Catalogues.{catalogue_checked, named}

abbrev pub entry : ℕ → Kind → ℕ → ℕ → ℕ → Entry
entry key kind default low high = record { key = key; kind = kind; default = default; low = low; high = high }

abbrev pub bench : List Entry
bench =
    entry 0x10510002 Unsigned 0 0 1 ∷ entry 0x10510003 Unsigned 1 0 1 ∷ entry 0x20510001 Unsigned 65 8 119 ∷ entry 0x2091033b Unsigned 0 0 10 ∷ entry 0x2091033d Unsigned 0 0 10
    ∷ entry 0x20920002 Bits 0 0 0 ∷ entry 0x20920004 Bits 0 0 0 ∷ []

-- it is accepted, and these numbers name all its items, a group's three, none, and one
pub record BenchFacts : Type 0 where
  pub accepted : catalogue_checked bench ≡ Ok tt
  pub all : named (selector_of 0x0fff0000) 0 bench ≡ 0 ∷ 1 ∷ 2 ∷ 3 ∷ 4 ∷ 5 ∷ 6 ∷ []
  pub group : named (selector_of 0x0051ffff) 0 bench ≡ 0 ∷ 1 ∷ 2 ∷ []
  pub none : named (selector_of 0x0050ffff) 0 bench ≡ []
  pub one : named (selector_of 0x20510001) 0 bench ≡ 2 ∷ []
