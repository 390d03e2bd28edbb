-- What a copied catalogue holds: the entries of a catalogue that the check accepts, else none.
use Rattle.std.specs.Prelude.{cond, List, [], is_ok}
use Rattle.catalogue.specs.declared.entries.Entry.{Entry}
use Rattle.catalogue.specs.declared.owned.Catalogue.{Catalogue}
use Rattle.catalogue.specs.Catalogues.{catalogue_checked}

abbrev pub entries_of : Catalogue → List Entry
entries_of c = c.entries.items

abbrev pub accepted_entries : List Entry → List Entry
accepted_entries es = cond (is_ok (catalogue_checked es)) es []
