-- The set-up of a receiver: its two places, and what it begins with.
use Rattle.std.specs.Prelude.{◌≡◌, ℕ, ◌+◌, List, [], Some, None, Option, vec_items}
use Rattle.any_store.specs.declared.any.AnyStore.{AnyStore}
use Rattle.any_store.specs.Any.{any_settings, any_kind}
use Rattle.journal.specs.Inspecting.{held_in}
use Rattle.layer.specs.declared.setting.Setting.{Setting}
use Rattle.script.specs.declared.command.Choice.{Choice}
use Rattle.script.specs.declared.command.Choice.TheVariants.{Bare, Saved}
use Rattle.script.specs.declared.command.Medium.{Medium}
use Rattle.script.specs.declared.command.Medium.TheVariants.{Slots, Absent, Words}
use Rattle.script.specs.declared.command.Place.{Place}
use Rattle.script.specs.declared.command.Place.TheVariants.{Bbr, Flash}
use Rattle.script.specs.declared.setup.Setup.{Setup}

abbrev pub medium_kind : Medium → ℕ
medium_kind Slots = 0
medium_kind Absent = 1
medium_kind (Words ws) = 2

-- the kind of store that a choice is
abbrev pub kind_of : Choice → ℕ
kind_of (Bare medium) = medium_kind medium
kind_of (Saved medium) = 3 + medium_kind medium

-- what a choice holds, and on which words
abbrev pub held_by : Medium → List Setting
held_by Slots = []
held_by Absent = []
held_by (Words ws) = held_in (vec_items ws)

abbrev pub settings_in : Choice → List Setting
settings_in (Bare medium) = held_by medium
settings_in (Saved medium) = held_by medium

abbrev pub words_under : Medium → Option (List ℕ)
words_under Slots = None
words_under Absent = None
words_under (Words ws) = Some (vec_items ws)

abbrev pub words_of : Choice → Option (List ℕ)
words_of (Bare medium) = words_under medium
words_of (Saved medium) = words_under medium

abbrev pub store_at : Place → Setup → AnyStore
store_at Bbr s = s.bbr
store_at Flash s = s.flash

abbrev pub other_place : Place → Place
other_place Bbr = Flash
other_place Flash = Bbr

-- no entries and no needs, an empty table of slots, and no Flash
pub record Begun (s : Setup) : Type 0 where
  pub entries : vec_items s.entries ≡ []
  pub needs : vec_items s.needs ≡ []
  pub bbr : any_kind s.bbr ≡ 0
  pub bbr_empty : any_settings s.bbr ≡ []
  pub flash : any_kind s.flash ≡ 1

-- the entries and the needs are as they were
pub record SameParts (before after : Setup) : Type 0 where
  pub entries : after.entries ≡ before.entries
  pub needs : after.needs ≡ before.needs
