-- The check of the parts, behind that of the catalogue: an accepted catalogue is copied as it is.
use Rattle.std.proofs.Common.{◌≡◌, cond, List, [], is_ok, Ok, Result, sym, ap, ◌∙◌}
use Rattle.std.specs.Option.{option_or}
use Rattle.catalogue.specs.declared.entries.CatalogueFault.{CatalogueFault}
use Rattle.catalogue.specs.declared.entries.Entry.{Entry}
use Rattle.catalogue.specs.Catalogues.{catalogue_checked}
use Rattle.catalogue.specs.Owned.{accepted_entries}
use Rattle.reference.specs.Parts.{Parts, parts_of, catalogue_fault, unless_faulty, parts_fault, parts_checked}
use Rattle.configuration.specs.Checking.{fault_behind}

pub accepted : (p : Parts) (es : List Entry) → es ≡ accepted_entries p.catalogue → Ok tt ≡ catalogue_checked p.catalogue → unless_faulty (fault_behind (parts_of es p.rule p.bbr p.flash)) ≡ parts_checked p
unfolding parts_fault
accepted p es copy ok =
    let same : es ≡ p.catalogue = copy ∙ ap (λ (r : Result (Unit {0}) CatalogueFault). cond (is_ok r) p.catalogue []) (sym ok) in
    ap (λ (l : List Entry). unless_faulty (fault_behind (parts_of l p.rule p.bbr p.flash))) same
    ∙ ap (λ (r : Result (Unit {0}) CatalogueFault). unless_faulty (option_or (catalogue_fault r) (fault_behind p))) ok
