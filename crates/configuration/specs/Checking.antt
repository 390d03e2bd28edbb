-- The check of the parts, behind that of the catalogue.
use Rattle.std.specs.Prelude.{cond, map, Some, None, Option}
use Rattle.std.specs.Option.{option_or, option_map}
use Rattle.reference.specs.declared.fault.PartsFault.{PartsFault}
use Rattle.reference.specs.declared.fault.PartsFault.TheVariants.{BbrUnusable, StrayInBbr, StrayInFlash, DefaultsUnfit}
use Rattle.reference.specs.Parts.{Parts, default_of, stray_key}

-- the first fault where the catalogue has none
abbrev pub fault_behind : Parts → Option PartsFault
fault_behind p =
    option_or (cond p.bbr.usable None (Some BbrUnusable))
    (option_or (option_map StrayInBbr (stray_key p.catalogue p.bbr.settings))
    (option_or (option_map StrayInFlash (stray_key p.catalogue p.flash.settings))
    (option_map DefaultsUnfit (p.rule p.catalogue (map default_of p.catalogue)))))
