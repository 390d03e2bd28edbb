-- The value of an item in a store, and the settings that a layer holds under a catalogue's keys.
use Rattle.std.specs.Prelude.{ℕ, true, List, [], ◌∷◌, Some, None, Option}
use Rattle.std.specs.Option.{unwrap_or}
use Rattle.catalogue.specs.declared.entries.Entry.{Entry}
use Rattle.layer.specs.declared.setting.Setting.{Setting}
use Rattle.layer.specs.Settings.{value_under}
use Rattle.layer.specs.Stores.{put_answer, after_put}
use Rattle.reference.specs.Stores.{Store, held}
use Rattle.reference.specs.Receiver.{pair_under}

-- the value of an item: the one that is held, else the default
abbrev pub item_value : Store → Entry → ℕ
item_value s e = unwrap_or (held s e.key) e.default

-- what is held under the keys of the entries, in their order
abbrev pub held_under : List Entry → List Setting → List Setting
held_under [] ss = []
held_under (e ∷ es) ss = pair_under e.key (value_under e.key ss) (held_under es ss)

-- with the value put that there may be, where a usable store grants it
abbrev pub gathering : ℕ → Option ℕ → List Setting → List Setting
gathering k None ss = ss
gathering k (Some v) ss = after_put (put_answer true k v ss) k v ss
