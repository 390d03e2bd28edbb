-- The reply to a get: its bytes, what writing it answers, and what the buffer holds after.
use Rattle.std.specs.Prelude.{ℕ, cond, List, length, Ok, Err, Result, nat_lt}
use Rattle.frame.specs.Frames.{max_frame, frame_bytes}
use Rattle.frame.specs.Written.{in_front}
use Rattle.layer.specs.declared.setting.Setting.{Setting}
use Rattle.catalogue.specs.declared.entries.Entry.{Entry}
use Rattle.reference.specs.declared.refusal.Refusal.{Refusal}
use Rattle.reference.specs.declared.refusal.Refusal.TheVariants.{ShortPayload}
use Rattle.reference.specs.Requests.{ok_map, keys_of}
use Rattle.reference.specs.Receiver.{page}
use Rattle.page.specs.declared.answer.PageFault.{PageFault}
use Rattle.page.specs.declared.answer.PageFault.TheVariants.{Refused, NoRoom}

-- the frame over these keys
abbrev pub page_frame : List Setting → List ℕ → List ℕ → List ℕ
page_frame ss p ks = frame_bytes (page ss p ks)

-- the bytes of the reply, or why the request is refused
abbrev pub page_bytes : List Entry → List Setting → List ℕ → Result (List ℕ) Refusal
page_bytes es ss p = cond (nat_lt (length p) 4) (Err ShortPayload) (ok_map (page_frame ss p) (keys_of es p))

abbrev pub answered : Result (List ℕ) Refusal → Result ℕ PageFault
answered (Ok bs) = Ok (length bs)
answered (Err r) = Err (Refused r)

-- what is answered with a buffer of so many bytes: that it has not room for every frame, before all else
abbrev pub page_answer : ℕ → Result (List ℕ) Refusal → Result ℕ PageFault
page_answer room r = cond (nat_lt room max_frame) (Err NoRoom) (answered r)

abbrev pub in_front_if_made : Result (List ℕ) Refusal → List ℕ → List ℕ
in_front_if_made (Ok bs) old = in_front bs old
in_front_if_made (Err r) old = old

-- what the buffer holds after: the reply at its start, and nothing behind it is changed; as before where there is none
abbrev pub page_out : ℕ → Result (List ℕ) Refusal → List ℕ → List ℕ
page_out room r old = cond (nat_lt room max_frame) old (in_front_if_made r old)
