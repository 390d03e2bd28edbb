use Rattle.std.proofs.Common.{◌+◌, ◌≤◌, length, Err, map, vec_items, sym, ap, ◌∙◌, subst, arith}
use Rattle.std.proofs.lemmas.List.{map_push}
use Rattle.frame.specs.Scanning.{Promised}
use Rattle.frame.specs.Meaning.{message_of, hearing_of, standing_unheard, passed}
use Rattle.frame.proofs.Scanning.{scan_noise_on, scan_intact_on, scan_ends, promised}
use Rattle.frame.proofs.scanner.scan.Goals as goal

pub places-preserved-in-Err-Noise : goal.places-preserved-in-Err-Noise
places-preserved-in-Err-Noise c =
    let told = c.in-Err-Noise.ensures in
    let noise = ap standing_unheard (sym c.in-Err-Noise.field-0-is) ∙ told.value in
    let some = subst (λ u. c.places.place + passed (Err u) ≤ length c.args.bytes.now) c.in-Err-Noise.field-0-is told.fits in
    (some, omega arith, scan_noise_on c.args.bytes.now c.places.place _ c.places.noise c.places.invariant.2 noise)

pub returns-in-Err-Undecided : goal.returns-in-Err-Undecided
returns-in-Err-Undecided c =
    let told = ap standing_unheard (sym c.in-Err-Undecided.field-0-is) ∙ c.in-Err-Undecided.ensures.value in
    let same = scan_ends c.args.bytes.now c.places.place _ c.places.noise c.places.invariant.2 _ told c.from.ensures.value in
    record { value = same; promised = subst (Promised c.args.bytes.now) (sym same) (promised c.args.bytes.now) }

pub places-preserved : goal.places-preserved
places-preserved c =
    let told = c.in-Ok.ensures in
    let more = ap (map hearing_of) c.in_ok-push-in-Ok.ensures.items ∙ map_push hearing_of (vec_items c.places.frames) _ in (
      omega arith,
      omega arith,
      scan_intact_on c.args.bytes.now c.places.place _ c.places.noise c.places.invariant.2 (message_of c.in-Ok.frame) c.size-place.result _ told.value c.size-place.ensures more,
    )
