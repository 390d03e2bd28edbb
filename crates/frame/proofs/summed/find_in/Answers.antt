use Rattle.std.proofs.Common.{ℕ, ◌+◌, List, None, Err, drop, sym, refl, ap, ◌∙◌, arith}
use Rattle.frame.specs.Scanning.{Finding}
use Rattle.frame.specs.Meaning.{message_of, standing_unheard, passed}
use Rattle.frame.proofs.Scanning.{find_over, find_noise, find_undecided, find_intact}
use Rattle.frame.proofs.summed.find_in.Goals as goal

pub places-preserved : goal.places-preserved
places-preserved g c =
    let bs = g.S.Summed.bytes c.args.summed.now in
    let place = c.places.noise + c.passed_over-noise.result in
    let over = find_over bs c.as_slice-bytes.result.now c.from.result.now c.places.noise c.passed_over-noise.result c.as_slice-bytes.ensures c.from.ensures.value c.places.invariant.0
    c.passed_over-noise.ensures.within c.passed_over-noise.ensures.noise c.places.invariant.1 in
    let noise = ap standing_unheard (sym c.in-Err-Noise.field-0-is) ∙ c.in-Err-Noise.ensures.value in
    let one = ap (λ u. passed (Err u)) c.in-Err-Noise.field-0-is in
    let fits = c.in-Err-Noise.ensures.fits in
    (omega (arith, one, fits), find_noise bs place (drop place bs) refl over noise)

pub returns-in-Err-Undecided : goal.returns-in-Err-Undecided
returns-in-Err-Undecided g c =
    let bs = g.S.Summed.bytes c.args.summed.now in
    let place = c.places.noise + c.passed_over-noise.result in
    let over = find_over bs c.as_slice-bytes.result.now c.from.result.now c.places.noise c.passed_over-noise.result c.as_slice-bytes.ensures c.from.ensures.value c.places.invariant.0
    c.passed_over-noise.ensures.within c.passed_over-noise.ensures.noise c.places.invariant.1 in
    let undecided = ap standing_unheard (sym c.in-Err-Undecided.field-0-is) ∙ c.in-Err-Undecided.ensures.value in
    c.nothing_heard.ensures ∙ ap (λ (l : List ℕ). let f : Finding = record { skipped = place; message = None; rest = drop place l } in f) c.as_slice-bytes.ensures ∙ find_undecided bs place (drop place bs) refl over undecided

pub returns-in-Ok : goal.returns-in-Ok
returns-in-Ok g c =
    let bs = g.S.Summed.bytes c.args.summed.now in
    let place = c.places.noise + c.passed_over-noise.result in
    let over = find_over bs c.as_slice-bytes.result.now c.from.result.now c.places.noise c.passed_over-noise.result c.as_slice-bytes.ensures c.from.ensures.value c.places.invariant.0
    c.passed_over-noise.ensures.within c.passed_over-noise.ensures.noise c.places.invariant.1 in
    find_intact bs place (drop place bs) refl over (message_of c.in-Ok.frame) c.size.result c.from-in-Ok.result.now c.in-Ok.ensures.value c.size.ensures
    (c.from-in-Ok.ensures.value ∙ ap (drop (place + c.size.result)) c.as_slice-bytes.ensures)
