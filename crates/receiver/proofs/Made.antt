-- What making leaves.
use Rattle.std.proofs.Common.{◌≡◌, ℕ, Bool, true, false, cond, List, [], is_ok, is_err, Some, None, Ok, Err, Option, Result, refl, ap, ◌∙◌, ap₂, arith}
use Rattle.std.specs.Option.{option_or}
use Rattle.catalogue.specs.declared.entries.CatalogueFault.{CatalogueFault}
use Rattle.catalogue.specs.Catalogues.{catalogue_checked}
use Rattle.catalogue.specs.Owned.{accepted_entries}
use Rattle.reference.specs.declared.fault.PartsFault.{PartsFault}
use Rattle.reference.specs.Stores.{Settings, held}
use Rattle.reference.specs.Requests.{Catalogue}
use Rattle.reference.specs.Parts.{Parts, parts_fault, unless_faulty, parts_checked, catalogue_fault, stacked}
use Rattle.reference.specs.Receiver.{ram_of, made_by, made}

passed : (r : Result (Unit {0}) CatalogueFault) (o : Option PartsFault) → option_or (catalogue_fault r) o ≡ None → is_ok r ≡ true
passed (Ok u) o e = refl
passed (Err f) o e = let z : ◌≡◌ {A = ℕ} 0 1 = cc in absurd (omega arith)

module _ (p : Parts) (es : Catalogue) (copied : es ≡ accepted_entries p.catalogue) where
  -- an accepted catalogue is copied whole
  pub items_are : parts_fault p ≡ None → es ≡ p.catalogue
  unfolding parts_fault
  items_are e = copied ∙ ap (λ (b : Bool). cond b p.catalogue []) (passed (catalogue_checked p.catalogue) _ e)

  pub made_is : (shut : Bool) (ss : Settings) (bs : List ℕ) → shut ≡ is_err (parts_checked p) → ss ≡ cond shut [] (stacked es p.rule (held p.bbr) (held p.flash)) → bs ≡ []
      → record { shut = shut; ram = ram_of ss; bbr = p.bbr; flash = p.flash; held_bytes = bs; transaction = None } ≡ made p
  unfolding made
  made_is shut ss bs is stack none = go (parts_fault p) refl
    where
      go : (o : Option PartsFault) → parts_fault p ≡ o → record { shut = shut; ram = ram_of ss; bbr = p.bbr; flash = p.flash; held_bytes = bs; transaction = None } ≡ made_by o p
      go None e =
          let off : shut ≡ false = is ∙ ap (λ o. is_err (unless_faulty o)) e in
          let as-stacked : ss ≡ stacked p.catalogue p.rule (held p.bbr) (held p.flash) = stack
          ∙ ap₂ (λ (b : Bool) (c : Catalogue). cond b [] (stacked c p.rule (held p.bbr) (held p.flash))) off (items_are e) in
          λ i. record { shut = off i; ram = ram_of (as-stacked i); bbr = p.bbr; flash = p.flash; held_bytes = none i; transaction = None }
      go (Some f) e =
          let on : shut ≡ true = is ∙ ap (λ o. is_err (unless_faulty o)) e in
          let empty : ss ≡ [] = stack ∙ ap (λ (b : Bool). cond b [] (stacked es p.rule (held p.bbr) (held p.flash))) on in
          λ i. record { shut = on i; ram = ram_of (empty i); bbr = p.bbr; flash = p.flash; held_bytes = none i; transaction = None }
