-- What accepted parts show.
use Rattle.std.proofs.Common.{◌≡◌, Bool, true, false, cond, ◌&&◌, leb, [], ◌∷◌, map, length, Some, None, Ok, Err, Option, Result, refl}
use Rattle.std.specs.Option.{option_or, option_map}
use Rattle.std.specs.List.{AllByRecursion}
use Rattle.std.proofs.lemmas.Bool.{leb-true, and_parts}
use Rattle.catalogue.specs.declared.entries.CatalogueFault.{CatalogueFault}
use Rattle.catalogue.specs.declared.entries.CatalogueFault.TheVariants.{EntryCount}
use Rattle.catalogue.specs.Catalogues.{entries_checked, catalogue_checked}
use Rattle.catalogue.proofs.Catalogues.{listed_from}
use Rattle.reference.specs.declared.fault.PartsFault.TheVariants.{BbrUnusable, StrayInBbr, StrayInFlash, DefaultsUnfit}
use Rattle.reference.specs.Stores.{Settings}
use Rattle.reference.specs.Requests.{Catalogue, is_known}
use Rattle.reference.specs.Parts.{Parts, catalogue_fault, stray_key, default_of, parts_fault}
use Rattle.reference.proofs.Settings.{KnownIn}
use Rattle.reference.proofs.Stores.{SoundCatalogue}

or_none_lem : {A : Type 0} (o r : Option A) → option_or o r ≡ None → (o ≡ None) × (r ≡ None)
or_none_lem None r e = (refl, e)
or_none_lem (Some x) r e = cc

cond_passed : {A : Type 0} (b : Bool) (x : A) → cond b None (Some x) ≡ None → b ≡ true
cond_passed true x e = refl
cond_passed false x e = cc

mapped_none : {A B : Type 0} (f : A → B) (o : Option A) → option_map f o ≡ None → o ≡ None
mapped_none f None e = refl
mapped_none f (Some x) e = cc

-- a catalogue that the check accepts
sound_from : (es : Catalogue) → catalogue_fault (catalogue_checked es) ≡ None → SoundCatalogue es
sound_from es e = go (leb 1 (length es) && leb (length es) 128) refl e
  where
    checked : (r : Result (Unit {0}) CatalogueFault) → catalogue_fault r ≡ None → r ≡ Ok tt
    checked (Ok tt) e = refl
    checked (Err f) e = cc

    go : (b : Bool) → (leb 1 (length es) && leb (length es) 128) ≡ b → catalogue_fault (cond b (entries_checked 0 0 es) (Err EntryCount)) ≡ None → SoundCatalogue es
    go true is e = record { at_most = leb-true (length es) 128 (and_parts (leb 1 (length es)) (leb (length es) 128) is).1; listed = listed_from 0 0 es (checked (entries_checked 0 0 es) e) }
    go false is e = cc

no_strays : (cat : Catalogue) (ss : Settings) → stray_key cat ss ≡ None → AllByRecursion (KnownIn cat) ss
unfolding stray_key
no_strays cat [] e = tt
no_strays cat (s ∷ ss) e = go (is_known cat s.key) refl e (no_strays cat ss)
  where
    go : (b : Bool) → is_known cat s.key ≡ b → cond b (stray_key cat ss) (Some s.key) ≡ None → (stray_key cat ss ≡ None → AllByRecursion (KnownIn cat) ss) → AllByRecursion (KnownIn cat) (s ∷ ss)
    go true is e ih = (is, ih e)
    go false is e ih = cc

pub record Accepted (p : Parts) : Type 0 where
  pub sound : SoundCatalogue p.catalogue
  pub bbr_usable : p.bbr.usable ≡ true
  pub bbr_known : AllByRecursion (KnownIn p.catalogue) p.bbr.settings
  pub flash_known : AllByRecursion (KnownIn p.catalogue) p.flash.settings
  pub defaults_fit : p.rule p.catalogue (map default_of p.catalogue) ≡ None

pub accepted_shows : (p : Parts) → parts_fault p ≡ None → Accepted p
unfolding parts_fault
accepted_shows p e =
    let a = or_none_lem _ _ e in
    let b = or_none_lem _ _ a.1 in
    let c = or_none_lem _ _ b.1 in
    let d = or_none_lem _ _ c.1 in
    record {
      sound = sound_from p.catalogue a.0;
      bbr_usable = cond_passed p.bbr.usable BbrUnusable b.0;
      bbr_known = no_strays p.catalogue p.bbr.settings (mapped_none StrayInBbr _ c.0);
      flash_known = no_strays p.catalogue p.flash.settings (mapped_none StrayInFlash _ d.0);
      defaults_fit = mapped_none DefaultsUnfit _ d.1;
    }
