-- What a layer holds that was chosen by its number.
use Rattle.catalogue.specs.Owned.{entries_of}
use Rattle.store.specs.Slots.{settings_of}
use Rattle.store.specs.Catalogued.{defaults_of}
use Rattle.reference.specs.Stores.{Settings}
use Rattle.receiver.specs.declared.state.named.NamedLayer.{NamedLayer}
use Rattle.receiver.specs.declared.state.named.NamedLayer.TheVariants.{Ram, Bbr, Flash, Defaults}

abbrev pub named_settings : {B F : Type 0} → (B → Settings) → (F → Settings) → NamedLayer B F → Settings
named_settings b f (Ram t) = settings_of t.now.slots
named_settings b f (Bbr s) = b s.now
named_settings b f (Flash s) = f s.now
named_settings b f (Defaults d) = defaults_of (entries_of d.now.catalogue)
