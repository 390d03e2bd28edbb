-- Noise is counted: what answering said was dropped is what scanning counts in the bytes taken.
use Rattle.std.specs.Prelude.{◌≡◌, ℕ, ◌+◌, List, [], ◌∷◌, None}
use Rattle.frame.specs.Scanning.{scanned}
use Rattle.reference.specs.Stores.{IsStore}
use Rattle.reference.specs.Parts.{Parts, parts_fault}
use Rattle.reference.specs.Events.{Asking, took, nothing_whole, told, looked, restarted, refused, History}
use Rattle.reference.specs.Receiver.{run}
use Rattle.reference.specs.Law.{taken, AnsweredOut, Throughout}

-- the bytes of noise that answering counted since making or the latest restart
unfoldable pub noise_told : History → ℕ
noise_told [] = 0
noise_told (took piece n ∷ h) = noise_told h
noise_told (nothing_whole n ∷ h) = noise_told h + n
noise_told (told n c i v w ∷ h) = noise_told h + n
noise_told (looked l k v ∷ h) = noise_told h
noise_told (restarted b f ∷ h) = 0
noise_told (refused c f ∷ h) = noise_told h

-- when answered out
abbrev pub NoiseIsTold : History → Type 0
NoiseIsTold h = AnsweredOut h → (scanned (taken h)).noise ≡ noise_told h

-- at every moment of every run from parts that the check accepts
abbrev pub NoiseCounted : Type 0
NoiseCounted = (p : Parts) → IsStore p.bbr → IsStore p.flash → parts_fault p ≡ None → (cs : List Asking) → Throughout NoiseIsTold (run p cs).history
