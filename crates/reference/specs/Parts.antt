-- What a receiver is made of; stacking RAM; the check of the parts.
use Rattle.std.specs.Prelude.{ℕ, cond, [], ◌∷◌, map, Some, None, Ok, Err, Option, Result}
use Rattle.std.specs.Option.{option_or, unwrap_or, option_map}
use Rattle.catalogue.specs.declared.entries.Entry.{Entry}
use Rattle.catalogue.specs.declared.entries.CatalogueFault.{CatalogueFault}
use Rattle.catalogue.specs.Catalogues.{catalogue_checked}
use Rattle.layer.specs.Settings.{setting}
use Rattle.rule.specs.Rules.{Finding}
use Rattle.reference.specs.declared.fault.PartsFault.{PartsFault}
use Rattle.reference.specs.declared.fault.PartsFault.TheVariants.{Catalogue as CatalogueRefused, BbrUnusable, StrayInBbr, StrayInFlash, DefaultsUnfit}
use Rattle.reference.specs.Stores.{Settings, Store}
use Rattle.reference.specs.Requests.{Catalogue, is_known}

pub record Parts : Type 0 where
  pub catalogue : Catalogue
  pub rule : Finding
  pub bbr : Store
  pub flash : Store

abbrev pub parts_of : Catalogue → Finding → Store → Store → Parts
parts_of es rule bbr flash = record { catalogue = es; rule = rule; bbr = bbr; flash = flash }

-- Stacking: BBR over Flash over the defaults, for each item

abbrev pub over : Option ℕ → Option ℕ → ℕ → ℕ
over b f d = unwrap_or (option_or b f) d

abbrev pub stack_value : (ℕ → Option ℕ) → (ℕ → Option ℕ) → Entry → ℕ
stack_value b f e = over (b e.key) (f e.key) e.default

abbrev pub default_of : Entry → ℕ
default_of e = e.default

-- the settings that give each item a value
unfoldable pub settings_by : (Entry → ℕ) → Catalogue → Settings
settings_by f [] = []
settings_by f (e ∷ es) = setting e.key (f e) ∷ settings_by f es

abbrev pub if_fit : {A : Type 0} → Option ℕ → A → A → A
if_fit None a b = a
if_fit (Some i) a b = b

-- the item at fault in the stack
unfoldable pub stack_fault : Catalogue → Finding → (ℕ → Option ℕ) → (ℕ → Option ℕ) → Option ℕ
stack_fault cat rule b f = rule cat (map (stack_value b f) cat)

-- the stack, or the defaults alone where the rule finds it unfit
unfoldable pub stacked : Catalogue → Finding → (ℕ → Option ℕ) → (ℕ → Option ℕ) → Settings
stacked cat rule b f = if_fit (stack_fault cat rule b f) (settings_by (stack_value b f) cat) (settings_by default_of cat)

-- The check of the parts

abbrev pub catalogue_fault : Result (Unit {0}) CatalogueFault → Option PartsFault
catalogue_fault (Ok u) = None
catalogue_fault (Err f) = Some (CatalogueRefused f)

-- the least key held that no item has
unfoldable pub stray_key : Catalogue → Settings → Option ℕ
stray_key cat [] = None
stray_key cat (s ∷ ss) = cond (is_known cat s.key) (stray_key cat ss) (Some s.key)

-- the first fault, in the order of the numbers; none where the parts are accepted
unfoldable pub parts_fault : Parts → Option PartsFault
parts_fault p =
    option_or (catalogue_fault (catalogue_checked p.catalogue))
    (option_or (cond p.bbr.usable None (Some BbrUnusable))
    (option_or (option_map StrayInBbr (stray_key p.catalogue p.bbr.settings))
    (option_or (option_map StrayInFlash (stray_key p.catalogue p.flash.settings))
    (option_map DefaultsUnfit (p.rule p.catalogue (map default_of p.catalogue))))))

-- the same as what the check answers
abbrev pub unless_faulty : Option PartsFault → Result (Unit {0}) PartsFault
unless_faulty None = Ok tt
unless_faulty (Some f) = Err f

abbrev pub parts_checked : Parts → Result (Unit {0}) PartsFault
parts_checked p = unless_faulty (parts_fault p)
