-- What carrying out leaves, in the direction of the code's contracts.
use Rattle.std.proofs.Common.{◌≡◌, None}
use Rattle.reference.specs.declared.layers.Layers.{Layers}
use Rattle.reference.specs.Stores.{Store}
use Rattle.reference.specs.Requests.{Catalogue, Changes}
use Rattle.reference.specs.Receiver.{State, written_if, applied}

pub applied_is : (cat : Catalogue) (s : State) (l : Layers) (d : Changes) (ram bbr flash : Store) → ram ≡ written_if l.ram cat d s.ram → bbr ≡ written_if l.bbr cat d s.bbr → flash ≡ written_if l.flash cat d s.flash
    → record { shut = s.shut; ram = ram; bbr = bbr; flash = flash; held_bytes = s.held_bytes; transaction = None } ≡ applied cat s l d
unfolding applied
applied_is cat s l d ram bbr flash r b f =
    λ i. record { shut = s.shut; ram = r i; bbr = b i; flash = f i; held_bytes = s.held_bytes; transaction = None }
