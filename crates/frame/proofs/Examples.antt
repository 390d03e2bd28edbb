-- The definitions computed on worked bytes.
use Rattle.std.proofs.Common.{◌≡◌, ℕ, ◌+◌, List, [], ◌∷◌, ◌++◌, length, drop, replicate, Some, None, Ok, Err, refl, ap, arith}
use Rattle.frame.specs.Checksum.{summed}
use Rattle.frame.specs.Frames.{Message, carrying, size_of, frame_bytes, intact, undecided, noise, at_check_bytes, at_payload, at_header, at_second, standing}
use Rattle.frame.specs.declared.writer.WriteFault.TheVariants.{PayloadTooLong, BufferTooShort}
use Rattle.frame.specs.Scanning.{finding_at, finding, Hearing, Scanned, scanned_at, scanned, waiting, InPieces, Among, Inside, NoneSwallowed, InOrder, sizes, Promised, HeardAs}
use Rattle.frame.specs.Written.{patched, written}

-- a set request, and the ACK to it
set_request : Message
set_request = carrying 0x06 0x8a (0x00 ∷ 0x01 ∷ 0x00 ∷ 0x00 ∷ 0x01 ∷ 0x00 ∷ 0x51 ∷ 0x20 ∷ 0x42 ∷ [])

ack : Message
ack = carrying 0x05 0x01 (0x06 ∷ 0x8a ∷ [])

ack_bytes : frame_bytes ack ≡ 0xb5 ∷ 0x62 ∷ 0x05 ∷ 0x01 ∷ 0x02 ∷ 0x00 ∷ 0x06 ∷ 0x8a ∷ 0x98 ∷ 0xc1 ∷ []
unfolding frame_bytes summed ack
ack_bytes = refl

set_checked : drop 15 (frame_bytes set_request) ≡ 0x4e ∷ 0xab ∷ []
unfolding frame_bytes summed set_request
set_checked = refl

-- static, the set request, static, the ACK and a cut frame
line_scanned : scanned (0x00 ∷ 0xb5 ∷ frame_bytes set_request ++ 0x62 ∷ frame_bytes ack ++ 0xb5 ∷ 0x62 ∷ 0x06 ∷ [])
    ≡ record {
      heard = record { place = 2; message = set_request } ∷ record { place = 20; message = ack } ∷ [];
      noise = 3;
      rest = 0xb5 ∷ 0x62 ∷ 0x06 ∷ [];
      rest_place = 30;
    }
unfolding frame_bytes summed set_request ack standing at_second at_header at_payload at_check_bytes scanned_at
line_scanned = refl

-- A wrong first check byte decides before the second has come, and a right one does not.

early : standing (0xb5 ∷ 0x62 ∷ 0x05 ∷ 0x01 ∷ 0x02 ∷ 0x00 ∷ 0x06 ∷ 0x8a ∷ 0x99 ∷ []) ≡ noise
unfolding summed standing at_second at_header at_payload at_check_bytes
early = refl

waits : standing (0xb5 ∷ 0x62 ∷ 0x05 ∷ 0x01 ∷ 0x02 ∷ 0x00 ∷ 0x06 ∷ 0x8a ∷ 0x98 ∷ []) ≡ undecided
unfolding summed standing at_second at_header at_payload at_check_bytes
waits = refl

-- 769 bytes behind a frame do not suffice to hear it: a false start before it, whose length is the class and ID of the frame, may then
-- still wait for its last byte.

hidden : Message
hidden = carrying 0x04 0x03 []

hiding : List ℕ
hiding = 0xb5 ∷ 0x62 ∷ frame_bytes hidden ++ replicate 768 0 ++ 0x3e ∷ []

hidden_stands : standing (drop 2 hiding) ≡ intact hidden
unfolding hiding hidden frame_bytes summed standing at_second at_header at_payload at_check_bytes
hidden_stands = refl

hiding_length : length hiding ≡ 2 + (size_of hidden + 769)
unfolding hiding hidden frame_bytes summed
hiding_length = refl

hidden_unheard : scanned hiding ≡ waiting 0 hiding
unfolding hiding hidden frame_bytes summed standing at_second at_header at_payload at_check_bytes scanned_at
hidden_unheard = refl

-- 770 bytes suffice, so the law asks for the frame there
swallowed : NoneSwallowed (hiding ++ 0 ∷ []) [] → ⊥
unfolding hiding hidden frame_bytes summed standing at_second at_header at_payload at_check_bytes Among
swallowed n = n 2 hidden refl (omega arith) (λ h a i. a)

-- The first frame that is found, and what stands behind it

found : finding (0x00 ∷ frame_bytes ack ++ 0xb5 ∷ []) ≡ record { skipped = 1; message = Some ack; rest = 0xb5 ∷ [] }
unfolding frame_bytes summed ack standing at_second at_header at_payload at_check_bytes finding_at finding
found = refl

none_found : finding (0x00 ∷ 0xb5 ∷ 0x62 ∷ []) ≡ record { skipped = 1; message = None; rest = 0xb5 ∷ 0x62 ∷ [] }
unfolding standing at_second at_header finding_at finding
none_found = refl

-- What scanning does not promise

abbrev ack_at : ℕ → Hearing
ack_at p = record { place = p; message = ack }

-- a frame has its first byte at its place, and the last of its ten is inside it
at_first : Inside 2 (ack_at 2) → ⊥
at_first i = absurd (omega (arith, i.0))

behind_last : Inside 12 (ack_at 2) → ⊥
unfolding ack
behind_last i = absurd (omega (arith, i.1))

at_last : Inside 11 (ack_at 2)
unfolding ack
at_last = (omega arith, omega arith)

-- one frame is not heard twice, nor where it does not stand
heard_twice : InOrder (frame_bytes ack) 0 (ack_at 0 ∷ ack_at 0 ∷ []) → ⊥
unfolding InOrder ack
heard_twice i = absurd (omega (arith, i.2.0))

-- nor one inside another
outer : Message
outer = carrying 0x06 0x8a (frame_bytes ack)

heard_inside : InOrder (frame_bytes outer) 0 (record { place = 0; message = outer } ∷ ack_at 6 ∷ []) → ⊥
unfolding InOrder outer ack frame_bytes summed
heard_inside i = absurd (omega (arith, i.2.0))

heard_elsewhere : InOrder (0x00 ∷ []) 0 (ack_at 0 ∷ []) → ⊥
unfolding InOrder standing
heard_elsewhere i = absurd (cc (i.1))

-- no byte is left out, and the rest is the end of the bytes and is short
noise_uncounted : Promised (0x00 ∷ []) (record { heard = []; noise = 0; rest = []; rest_place = 1 }) → ⊥
unfolding sizes
noise_uncounted p = absurd (omega (arith, p.accounted))

frame_uncounted : Promised (frame_bytes ack) (record { heard = ack_at 0 ∷ []; noise = 1; rest = []; rest_place = 10 }) → ⊥
unfolding sizes ack frame_bytes summed
frame_uncounted p = absurd (omega (arith, p.accounted))

other_rest : Promised (0xb5 ∷ []) (waiting 0 (0x00 ∷ [])) → ⊥
other_rest p = let e : ◌≡◌ {A = List ℕ} (0x00 ∷ []) (0xb5 ∷ []) = p.rest_is in absurd (cc)

long_rest : Promised (replicate 780 0) (waiting 0 (replicate 780 0)) → ⊥
long_rest p = absurd (omega (arith, p.rest_short))

past_the_end : (s : Scanned) → s.heard ≡ ack_at 0 ∷ [] → Promised [] s → ⊥
past_the_end s e p = let w = rw e at p.within in absurd (omega (arith, w.0))

-- with more bytes a heard frame stays, and what comes behind it is scanned
goes_on : HeardAs ack (frame_bytes ack) → scanned (frame_bytes ack ++ 0x00 ∷ 0xb5 ∷ []) ≡ record { heard = ack_at 0 ∷ []; noise = 1; rest = 0xb5 ∷ []; rest_place = 11 }
unfolding frame_bytes summed ack standing at_second scanned_at
goes_on h = h.before (0x00 ∷ 0xb5 ∷ [])

noise_before : HeardAs ack (0x00 ∷ frame_bytes ack) → ⊥
unfolding frame_bytes summed ack standing at_second at_header at_payload at_check_bytes scanned_at
noise_before h = absurd (omega (arith, ap (λ (s : Scanned). s.noise) h.alone))

piece_on : InPieces (0x00 ∷ 0xb5 ∷ []) (record { heard = []; noise = 1; rest = 0xb5 ∷ []; rest_place = 1 }) → scanned (0x00 ∷ 0xb5 ∷ 0x00 ∷ []) ≡ record { heard = []; noise = 3; rest = []; rest_place = 3 }
unfolding standing at_second scanned_at
piece_on i = i (0x00 ∷ [])

-- Writing: what is refused first, and the buffer behind what was written

too_long : written (carrying 6 0x8a (replicate 773 0)) 0 ≡ Err PayloadTooLong
too_long = refl

too_short : written ack 9 ≡ Err BufferTooShort
unfolding ack
too_short = refl

just_room : written ack 10 ≡ Ok 10
unfolding ack
just_room = refl

patched_inside : patched 1 (7 ∷ 8 ∷ []) (1 ∷ 2 ∷ 3 ∷ 4 ∷ []) ≡ 1 ∷ 7 ∷ 8 ∷ 4 ∷ []
unfolding patched
patched_inside = refl
