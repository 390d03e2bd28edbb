-- What the values of the code mean: the same without addresses.
use Rattle.std.specs.Prelude.{◌≡◌, ℕ, ◌≤◌, List, map, length, Ok, Err, Result, vec_items}
use Rattle.std.specs.Option.{option_map}
use Rattle.frame.specs.declared.format.Frame.{Frame}
use Rattle.frame.specs.declared.scanner.Unheard.{Unheard}
use Rattle.frame.specs.declared.scanner.Unheard.TheVariants.{Noise, Undecided}
use Rattle.frame.specs.declared.scanner.Found.{Found}
use Rattle.frame.specs.Frames.{max_payload, Message, size_of, Standing, noise, undecided, intact, standing, behind_header}
use Rattle.frame.specs.declared.scanner.Heard.{Heard}
use Rattle.frame.specs.declared.scanner.Listing.{Listing}
use Rattle.frame.specs.Scanning.{Finding, Hearing, Scanned}

abbrev pub message_of : Frame → Message
message_of f = record { class = f.class; id = f.id; payload = f.payload.now }

abbrev pub standing_unheard : Unheard → Standing
standing_unheard Noise = noise
standing_unheard Undecided = undecided

abbrev pub standing_of : Result Frame Unheard → Standing
standing_of (Ok f) = intact (message_of f)
standing_of (Err u) = standing_unheard u

-- how many bytes scanning passes over there
abbrev pub passed : Result Frame Unheard → ℕ
passed (Ok f) = size_of (message_of f)
passed (Err Noise) = 1
passed (Err Undecided) = 0

-- what the bytes before a payload say of what stands there
abbrev pub Headed : List ℕ → Result ℕ Unheard → Type 0
Headed bs (Ok n) = (6 ≤ length bs) × (n ≤ max_payload) × (standing bs ≡ behind_header n bs)
Headed bs (Err u) = standing bs ≡ standing_unheard u

abbrev pub finding_of : Found → Finding
finding_of f = record { skipped = f.noise; message = option_map message_of f.frame; rest = f.rest.now }

abbrev pub hearing_of : Heard → Hearing
hearing_of h = record { place = h.place; message = message_of h.frame }

abbrev pub scanned_of : Listing → Scanned
scanned_of s = record { heard = map hearing_of (vec_items s.frames); noise = s.noise; rest = s.rest.now; rest_place = s.rest_place }
