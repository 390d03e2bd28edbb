-- The defaults of a catalogue as settings.
use Rattle.std.specs.Prelude.{cond, List, [], map, is_ok}
use Rattle.catalogue.specs.declared.entries.Entry.{Entry}
use Rattle.catalogue.specs.Catalogues.{catalogue_checked}
use Rattle.layer.specs.declared.setting.Setting.{Setting}
use Rattle.layer.specs.Settings.{setting}

abbrev pub default_of : Entry → Setting
default_of e = setting e.key e.default

abbrev pub defaults_of : List Entry → List Setting
defaults_of es = map default_of es

-- a catalogue that the check refuses has none
abbrev pub catalogue_defaults : List Entry → List Setting
catalogue_defaults es = cond (is_ok (catalogue_checked es)) (defaults_of es) []
