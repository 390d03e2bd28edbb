-- A row of values, one for each entry.
use Rattle.std.proofs.Common.{◌≡◌, false, List, [], ◌∷◌, map, refl, sym, ap}
use Rattle.catalogue.specs.declared.entries.Entry.{Entry}
use Rattle.reference.specs.Stores.{Store}
use Rattle.reference.specs.Parts.{default_of}
use Rattle.reference.specs.Receiver.{configuration}
use Rattle.configuration.specs.Meaning.{item_value}

pub configuration_map : (s : Store) (es : List Entry) → map (item_value s) es ≡ configuration es s
unfolding configuration
configuration_map s [] = refl
configuration_map s (e ∷ es) = ap (λ l. item_value s e ∷ l) (configuration_map s es)

-- a store that holds nothing gives the defaults
pub defaults_configured : (es : List Entry) → configuration es (record { usable = false; settings = [] }) ≡ map default_of es
defaults_configured es = sym (configuration_map (record { usable = false; settings = [] }) es)
