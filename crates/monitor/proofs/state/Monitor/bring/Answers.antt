use Rattle.std.proofs.Common.{◌≡◌, ℕ, List, ◌++◌, map, length, vec_items, sym, refl, ap, ◌∙◌, subst, arith}
use Rattle.std.proofs.lemmas.Slice.{pushed}
use Rattle.frame.specs.Meaning.{scanned_of}
use Rattle.frame.specs.Scanning.{scanned, Promised}
use Rattle.monitor.specs.declared.state.calls.Brought.{Brought}
use Rattle.monitor.specs.Following.{Progress, row_at, Placed, Brings}
use Rattle.monitor.proofs.Following.{brings, places_fit}
use Rattle.monitor.proofs.state.Monitor.bring.Goals as goal

pub rows-requires : goal.rows-requires
rows-requires c =
    let told = c.in_ok-listing.ensures in
    let place : c.self.inside.place ≡ c.args.self.now.place = ap (λ (p : Progress). p.place) c.self.view_is in
    let view : length c.deref.result.now ≡ length c.args.self.now.held =
    ap length c.deref.ensures.value ∙ ap (λ (p : Progress). length p.held) c.self.view_is in
    let bytes = c.in_ok-bytes.ensures.len in
    let more = c.in_ok-extend_from_slice.ensures.len in
    let len = c.deref-2.ensures.len in
    subst (Placed c.self.inside.place) (sym c.deref-3.ensures.value)
    (places_fit c.self.inside.place (length c.deref-2.result.now) (vec_items c.in_ok-listing.listing.frames) told.promised.within
    (omega (arith, place, view, bytes, more, len)))

pub returns : goal.returns
returns c =
    let told = c.in_ok-listing.ensures in
    let listing = c.in_ok-listing.listing in
    let bytes : List ℕ = c.self.inside.held.items ++ c.args.piece.now in
    let same : c.deref-2.result.now ≡ bytes =
    c.deref-2.ensures.value ∙ pushed c.args.piece.now (c.in_ok-bytes.ensures.items ∙ c.deref.ensures.value) c.in_ok-extend_from_slice.was c.extend_from_slice.ensures.items in
    let brought : Brought = record { rows = c.in_ok-rows.rows; decided = listing.rest_place; noise = listing.noise; rest = c.in_ok-rest.rest } in
    subst (λ (p : Progress). Brings p.place (p.held ++ c.args.piece.now) brought) c.self.view_is
    (brings c.self.inside.place bytes listing brought (told.value ∙ ap scanned same) (subst (λ (bs : List ℕ). Promised bs (scanned_of listing)) same told.promised)
    (c.in_ok-rows.ensures ∙ ap (map (row_at c.self.inside.place)) c.deref-3.ensures.value) refl refl c.in_ok-rest.ensures.items)
