-- The bench cases: calls to a receiver with seven items, and what it answers.
use Rattle.std.specs.Prelude.{◌≡◌, ℕ, ◌+◌, true, false, List, [], ◌∷◌, ◌++◌, map, reverse, length, replicate, Some, None, Option}
use Rattle.std.specs.List.{flat_map}
use Rattle.frame.specs.Frames.{Message, carrying, frame_bytes, noise, standing}
use Rattle.frame.specs.Scanning.{with_heard, waiting, scanned}
use Rattle.item.specs.Selectors.{selector_of}
use Rattle.catalogue.specs.declared.entries.Entry.{Entry}
use Rattle.catalogue.specs.Bench.{bench}
use Rattle.rule.specs.Rules.{Finding, ranges, first_broken, both_find}
use Rattle.layer.specs.Settings.{setting, value_under}
use Rattle.reference.specs.declared.refusal.Refusal.{Refusal}
use Rattle.reference.specs.declared.refusal.Refusal.TheVariants.{OtherId, ShortPayload, UnknownVersion, NoLayer, WrongLayer, NoneOpen, OtherLayers, NothingAdded, TooManyEntries, CutEntry, UnknownKey, Unfit}
use Rattle.reference.specs.declared.refusal.Verdict.TheVariants.{Ack, Nak}
use Rattle.reference.specs.declared.fault.CallFault.TheVariants.{BufferTooShort}
use Rattle.reference.specs.declared.call.Battery.TheVariants.{Kept, Lost}
use Rattle.reference.specs.Answers.{refusal_number, refusal_place, call_fault_number}
use Rattle.reference.specs.Stores.{Settings}
use Rattle.reference.specs.Requests.{configuration_class, valset, valget, valdel, keys_named}
use Rattle.reference.specs.Parts.{Parts, parts_of, parts_fault, settings_by, default_of}
use Rattle.reference.specs.Events.{Asking, take_piece, answer_into, look_at, restart_with, Event, took, nothing_whole, told, looked, restarted, refused}
use Rattle.reference.specs.Receiver.{run}

-- The parts

-- each item within its bounds; item 0 needs item 1
abbrev pub bench_rule : Finding
bench_rule = both_find ranges (first_broken (record { first = 0; second = 1 } ∷ []))

-- an empty BBR, and no Flash
abbrev pub bench_parts : Parts
bench_parts = parts_of bench bench_rule (record { usable = true; settings = [] }) (record { usable = false; settings = [] })

-- what is answered to calls, in their order
abbrev pub answers : List Asking → List Event
answers cs = reverse (run bench_parts cs).history

-- RAM after calls
abbrev pub ram_after : List Asking → Settings
ram_after cs = (run bench_parts cs).state.ram.settings

-- RAM after calls where BBR holds 42 for item 2, and Flash 43 for item 2 and 1 for item 3
abbrev pub stacked_after : List Asking → Settings
stacked_after cs =
    (run
    (parts_of bench bench_rule (record { usable = true; settings = setting 0x20510001 0x42 ∷ [] }) (record { usable = true; settings = setting 0x20510001 0x43 ∷ setting 0x2091033b 1 ∷ [] }))
    cs
    ).state.ram.settings

-- The bytes

-- item 2 set to 42, and to 05
abbrev pub set42 : List ℕ
set42 = 0xb5 ∷ 0x62 ∷ 0x06 ∷ 0x8a ∷ 0x09 ∷ 0x00 ∷ 0x00 ∷ 0x01 ∷ 0x00 ∷ 0x00 ∷ 0x01 ∷ 0x00 ∷ 0x51 ∷ 0x20 ∷ 0x42 ∷ 0x4e ∷ 0xab ∷ []

abbrev pub set05 : List ℕ
set05 = 0xb5 ∷ 0x62 ∷ 0x06 ∷ 0x8a ∷ 0x09 ∷ 0x00 ∷ 0x00 ∷ 0x01 ∷ 0x00 ∷ 0x00 ∷ 0x01 ∷ 0x00 ∷ 0x51 ∷ 0x20 ∷ 0x05 ∷ 0x11 ∷ 0x6e ∷ []

-- item 2 asked for
abbrev pub get : List ℕ
get = 0xb5 ∷ 0x62 ∷ 0x06 ∷ 0x8b ∷ 0x08 ∷ 0x00 ∷ 0x00 ∷ 0x00 ∷ 0x00 ∷ 0x00 ∷ 0x01 ∷ 0x00 ∷ 0x51 ∷ 0x20 ∷ 0x0b ∷ 0x57 ∷ []

-- the verdicts on a set and on a get
abbrev pub ack_set : List ℕ
ack_set = 0xb5 ∷ 0x62 ∷ 0x05 ∷ 0x01 ∷ 0x02 ∷ 0x00 ∷ 0x06 ∷ 0x8a ∷ 0x98 ∷ 0xc1 ∷ []

abbrev pub nak_set : List ℕ
nak_set = 0xb5 ∷ 0x62 ∷ 0x05 ∷ 0x00 ∷ 0x02 ∷ 0x00 ∷ 0x06 ∷ 0x8a ∷ 0x97 ∷ 0xbc ∷ []

abbrev pub ack_get : List ℕ
ack_get = 0xb5 ∷ 0x62 ∷ 0x05 ∷ 0x01 ∷ 0x02 ∷ 0x00 ∷ 0x06 ∷ 0x8b ∷ 0x99 ∷ 0xc2 ∷ []

-- the reply with item 2 at 42, and the verdict behind it
abbrev pub reply_get : List ℕ
reply_get = 0xb5 ∷ 0x62 ∷ 0x06 ∷ 0x8b ∷ 0x09 ∷ 0x00 ∷ 0x01 ∷ 0x00 ∷ 0x00 ∷ 0x00 ∷ 0x01 ∷ 0x00 ∷ 0x51 ∷ 0x20 ∷ 0x42 ∷ 0x4f ∷ 0xb8 ∷ ack_get

-- a frame of the configuration class
abbrev pub request : ℕ → List ℕ → List ℕ
request id p = frame_bytes (carrying configuration_class id p)

-- a NAK of a request with this ID
abbrev pub nak_for : ℕ → List ℕ
nak_for id = frame_bytes (carrying 5 0 (configuration_class ∷ id ∷ []))

-- n pairs that set item 2 to 42 in RAM
abbrev pub pairs : ℕ → List ℕ
pairs n = request valset (0 ∷ 1 ∷ 0 ∷ 0 ∷ flat_map (λ (p : List ℕ). p) (replicate n (0x01 ∷ 0x00 ∷ 0x51 ∷ 0x20 ∷ 0x42 ∷ [])))

-- a frame with so many payload bytes
abbrev pub of_length : ℕ → Message
of_length n = carrying configuration_class 0x13 (replicate n 0)

-- item 2 set to 05 in BBR alone
abbrev pub bbr05 : List ℕ
bbr05 = request valset (0 ∷ 2 ∷ 0 ∷ 0 ∷ 0x01 ∷ 0x00 ∷ 0x51 ∷ 0x20 ∷ 0x05 ∷ [])

-- a get from RAM by one key or selector, and what is written for it, both low byte first
abbrev pub get_by : List ℕ → List ℕ
get_by k = request valget (0 ∷ 0 ∷ 0 ∷ 0 ∷ k)

abbrev pub reply_with : List ℕ → List ℕ
reply_with p = request valget (1 ∷ 0 ∷ 0 ∷ 0 ∷ p) ++ ack_get

-- items 0 to 2 with their defaults, and the others
abbrev pub group_pairs : List ℕ
group_pairs =
    0x02 ∷ 0x00 ∷ 0x51 ∷ 0x10 ∷ 0x00 ∷ 0x03 ∷ 0x00 ∷ 0x51 ∷ 0x10 ∷ 0x01 ∷ 0x01 ∷ 0x00 ∷ 0x51 ∷ 0x20 ∷ 0x41 ∷ []

abbrev pub other_pairs : List ℕ
other_pairs =
    0x3b ∷ 0x03 ∷ 0x91 ∷ 0x20 ∷ 0x00 ∷ 0x3d ∷ 0x03 ∷ 0x91 ∷ 0x20 ∷ 0x00 ∷ 0x02 ∷ 0x00 ∷ 0x92 ∷ 0x20 ∷ 0x00 ∷ 0x04 ∷ 0x00 ∷ 0x92 ∷ 0x20 ∷ 0x00 ∷ []

-- the first and the last frame of a transaction that sets item 3 to 1 in RAM
abbrev pub opening : List ℕ
opening = request valset (1 ∷ 1 ∷ 1 ∷ 0 ∷ 0x3b ∷ 0x03 ∷ 0x91 ∷ 0x20 ∷ 0x01 ∷ [])

abbrev pub closing : List ℕ
closing = request valset (1 ∷ 1 ∷ 3 ∷ 0 ∷ [])

-- one between them, which sets item 4 to 2
abbrev pub adding : List ℕ
adding = request valset (1 ∷ 1 ∷ 2 ∷ 0 ∷ 0x3d ∷ 0x03 ∷ 0x91 ∷ 0x20 ∷ 0x02 ∷ [])

-- item 2 set to 41 and then to 42 in one frame
abbrev pub set_twice : List ℕ
set_twice = request valset (0 ∷ 1 ∷ 0 ∷ 0 ∷ 0x01 ∷ 0x00 ∷ 0x51 ∷ 0x20 ∷ 0x41 ∷ 0x01 ∷ 0x00 ∷ 0x51 ∷ 0x20 ∷ 0x42 ∷ [])

-- item 2 deleted from BBR
abbrev pub delete : List ℕ
delete = request valdel (0 ∷ 2 ∷ 0 ∷ 0 ∷ 0x01 ∷ 0x00 ∷ 0x51 ∷ 0x20 ∷ [])

-- the newest of a history
abbrev pub last_answer : List Event → Option Event
last_answer [] = None
last_answer (e ∷ es) = Some e

-- a request that is refused
abbrev pub Refuses : ℕ → List ℕ → Refusal → Type 0
Refuses id p r =
    answers (take_piece (request id p) ∷ answer_into 790 ∷ []) ≡ took (request id p) (8 + length p) ∷ told 0 6 id (Nak r) (nak_for id) ∷ []

-- of a set behind the first frame of a transaction
abbrev pub RefusesNext : List ℕ → Refusal → Type 0
RefusesNext p r = last_answer (run bench_parts (take_piece (opening ++ request valset p) ∷ answer_into 790 ∷ answer_into 790 ∷ [])).history ≡ Some (told 0 6 0x8a (Nak r) nak_set)

-- The cases

pub record BenchCases : Type 0 where
  pub accepted : parts_fault bench_parts ≡ None
  -- 1: a set is granted
  pub case1 : answers (take_piece set42 ∷ answer_into 790 ∷ []) ≡ took set42 17 ∷ told 0 6 0x8a Ack ack_set ∷ []
  -- 2: a value outside its bounds is refused, and the item named
  pub case2 : answers (take_piece set05 ∷ answer_into 790 ∷ []) ≡ took set05 17 ∷ told 0 6 0x8a (Nak (Unfit 2)) nak_set ∷ []
  pub case2_number : refusal_number (Unfit 2) ≡ 21
  pub case2_item : refusal_place (Unfit 2) ≡ 2
  -- 3: the value is read back
  pub case3 :
      answers (take_piece (set42 ++ get) ∷ answer_into 790 ∷ answer_into 790 ∷ [])
      ≡ took (set42 ++ get) 33 ∷ told 0 6 0x8a Ack ack_set ∷ told 0 6 0x8b Ack reply_get ∷ []
  -- 4: 64 pairs pass, 65 do not
  pub case4 : answers (take_piece (pairs 64) ∷ answer_into 790 ∷ []) ≡ took (pairs 64) 332 ∷ told 0 6 0x8a Ack ack_set ∷ []
  pub case4_more :
      answers (take_piece (pairs 65) ∷ answer_into 790 ∷ []) ≡ took (pairs 65) 337 ∷ told 0 6 0x8a (Nak (TooManyEntries 324)) nak_set ∷ []
  pub case4_number : refusal_number (TooManyEntries 324) ≡ 18
  -- 5: a buffer of 789 bytes is too short, one of 790 serves
  pub case5 :
      answers (take_piece set42 ∷ answer_into 789 ∷ answer_into 790 ∷ [])
      ≡ took set42 17 ∷ refused (answer_into 789) BufferTooShort ∷ told 0 6 0x8a Ack ack_set ∷ []
  pub case5_number : call_fault_number BufferTooShort ≡ 9
  -- 6: a payload of 772 bytes is heard, one of 773 is noise
  pub case6 : scanned (frame_bytes (of_length 772)) ≡ with_heard (record { place = 0; message = of_length 772 }) (waiting 780 [])
  pub case6_told :
      answers (take_piece (frame_bytes (of_length 772)) ∷ answer_into 790 ∷ [])
      ≡ took (frame_bytes (of_length 772)) 780 ∷ told 0 6 0x13 (Nak OtherId) (nak_for 0x13) ∷ []
  pub case6_noise : standing (frame_bytes (of_length 773)) ≡ noise
  pub case6_more : (scanned (frame_bytes (of_length 773))).heard ≡ []
  pub case6_dropped :
      answers (take_piece (frame_bytes (of_length 773)) ∷ answer_into 790 ∷ []) ≡ took (frame_bytes (of_length 773)) 780 ∷ nothing_whole 780 ∷ []
  -- 7: selectors name all items, a group's three, or none
  pub case7 : keys_named (selector_of 0x0fff0000) bench ≡ map (λ (e : Entry). e.key) bench
  pub case7_got :
      answers (take_piece (get_by (0x00 ∷ 0x00 ∷ 0xff ∷ 0x0f ∷ [])) ∷ answer_into 790 ∷ [])
      ≡ took (get_by (0x00 ∷ 0x00 ∷ 0xff ∷ 0x0f ∷ [])) 16 ∷ told 0 6 0x8b Ack (reply_with (group_pairs ++ other_pairs)) ∷ []
  pub case7_group : keys_named (selector_of 0x0051ffff) bench ≡ 0x10510002 ∷ 0x10510003 ∷ 0x20510001 ∷ []
  pub case7_group_got :
      answers (take_piece (get_by (0xff ∷ 0xff ∷ 0x51 ∷ 0x00 ∷ [])) ∷ answer_into 790 ∷ [])
      ≡ took (get_by (0xff ∷ 0xff ∷ 0x51 ∷ 0x00 ∷ [])) 16 ∷ told 0 6 0x8b Ack (reply_with group_pairs) ∷ []
  pub case7_none :
      answers (take_piece (get_by (0xff ∷ 0xff ∷ 0x50 ∷ 0x00 ∷ [])) ∷ answer_into 790 ∷ [])
      ≡ took (get_by (0xff ∷ 0xff ∷ 0x50 ∷ 0x00 ∷ [])) 16 ∷ told 0 6 0x8b (Nak (UnknownKey 4)) (nak_for 0x8b) ∷ []
  pub case7_number : refusal_number (UnknownKey 4) ≡ 20
  -- 8: a value outside its bounds passes into BBR alone; a restart then uses the defaults, and names the item
  pub case8 :
      answers (take_piece bbr05 ∷ answer_into 790 ∷ restart_with Kept ∷ [])
      ≡ took bbr05 17 ∷ told 0 6 0x8a Ack ack_set ∷ restarted Kept (Some 2) ∷ []
  pub case8_ram : ram_after (take_piece bbr05 ∷ answer_into 790 ∷ restart_with Kept ∷ []) ≡ settings_by default_of bench
  pub case8_looks :
      answers (take_piece bbr05 ∷ answer_into 790 ∷ restart_with Kept ∷ look_at 0 0x20510001 ∷ look_at 1 0x20510001 ∷ [])
      ≡ took bbr05 17 ∷ told 0 6 0x8a Ack ack_set ∷ restarted Kept (Some 2) ∷ looked 0 0x20510001 (Some 65) ∷ looked 1 0x20510001 (Some 5) ∷ []
  pub case8_lost : (run bench_parts (take_piece bbr05 ∷ answer_into 790 ∷ restart_with Kept ∷ restart_with Lost ∷ [])).state.bbr.settings ≡ []
  -- beyond the eight: noise before a frame is counted, and the undecided byte behind it is none
  pub noise_counted :
      answers (take_piece (0x00 ∷ 0x62 ∷ 0xb5 ∷ set42 ++ 0xb5 ∷ []) ∷ answer_into 790 ∷ answer_into 790 ∷ [])
      ≡ took (0x00 ∷ 0x62 ∷ 0xb5 ∷ set42 ++ 0xb5 ∷ []) 21 ∷ told 3 6 0x8a Ack ack_set ∷ nothing_whole 0 ∷ []
  -- a transaction changes RAM at its last frame
  pub applied_last : value_under 0x2091033b (ram_after (take_piece (opening ++ closing) ∷ answer_into 790 ∷ [])) ≡ Some 0
  pub applied_then : value_under 0x2091033b (ram_after (take_piece (opening ++ closing) ∷ answer_into 790 ∷ answer_into 790 ∷ [])) ≡ Some 1
  pub added_applied :
      value_under 0x2091033d (ram_after (take_piece (opening ++ adding ++ closing) ∷ answer_into 790 ∷ answer_into 790 ∷ answer_into 790 ∷ [])) ≡ Some 2
  -- the last value of a key stands
  pub last_stands : value_under 0x20510001 (ram_after (take_piece set_twice ∷ answer_into 790 ∷ [])) ≡ Some 0x42
  -- a get between the frames of a transaction cancels it, and so does a refused set
  pub get_cancels :
      answers (take_piece (opening ++ get ++ closing) ∷ answer_into 790 ∷ answer_into 790 ∷ answer_into 790 ∷ [])
      ≡ took (opening ++ get ++ closing) 45 ∷ told 0 6 0x8a Ack ack_set ∷ told 0 6 0x8b Ack (reply_with (0x01 ∷ 0x00 ∷ 0x51 ∷ 0x20 ∷ 0x41 ∷ []))
      ∷ told 0 6 0x8a (Nak NoneOpen) nak_set ∷ []
  pub nak_cancels :
      answers (take_piece (opening ++ set05 ++ closing) ∷ answer_into 790 ∷ answer_into 790 ∷ answer_into 790 ∷ [])
      ≡ took (opening ++ set05 ++ closing) 46 ∷ told 0 6 0x8a Ack ack_set ∷ told 0 6 0x8a (Nak (Unfit 2)) nak_set ∷ told 0 6 0x8a (Nak NoneOpen) nak_set ∷ []
  -- a restart cancels it too
  pub restart_cancels :
      answers (take_piece opening ∷ answer_into 790 ∷ restart_with Kept ∷ take_piece closing ∷ answer_into 790 ∷ [])
      ≡ took opening 17 ∷ told 0 6 0x8a Ack ack_set ∷ restarted Kept None ∷ took closing 12 ∷ told 0 6 0x8a (Nak NoneOpen) nak_set ∷ []
  -- what is deleted from BBR is gone at a restart
  pub deleted_gone :
      answers (take_piece (bbr05 ++ delete) ∷ answer_into 790 ∷ answer_into 790 ∷ restart_with Kept ∷ [])
      ≡ took (bbr05 ++ delete) 33 ∷ told 0 6 0x8a Ack ack_set ∷ told 0 6 0x8c Ack (frame_bytes (carrying 5 1 (configuration_class ∷ valdel ∷ []))) ∷ restarted Kept None ∷ []
  -- a lost battery clears BBR
  pub lost_cleared : answers (take_piece bbr05 ∷ answer_into 790 ∷ restart_with Lost ∷ []) ≡ took bbr05 17 ∷ told 0 6 0x8a Ack ack_set ∷ restarted Lost None ∷ []
  -- BBR stands over Flash, and Flash over the defaults, at making and at a restart
  pub over_flash : value_under 0x20510001 (stacked_after []) ≡ Some 0x42
  pub over_defaults : value_under 0x2091033b (stacked_after []) ≡ Some 1
  pub over_again : stacked_after (restart_with Kept ∷ []) ≡ stacked_after []
  pub under_lost : value_under 0x20510001 (stacked_after (restart_with Lost ∷ [])) ≡ Some 0x43
  -- each other refusal of a frame: fewer than 4 bytes, an unknown version, no layer, no such layer, other layers, nothing added, an entry cut
  pub short_payload : Refuses valset (0 ∷ 1 ∷ 0 ∷ []) ShortPayload
  pub set_version : Refuses valset (2 ∷ 1 ∷ 0 ∷ 0 ∷ []) UnknownVersion
  pub get_version : Refuses valget (1 ∷ 0 ∷ 0 ∷ 0 ∷ []) UnknownVersion
  pub no_layer : Refuses valset (0 ∷ 8 ∷ 0 ∷ 0 ∷ []) NoLayer
  pub delete_from_ram : Refuses valdel (0 ∷ 1 ∷ 0 ∷ 0 ∷ []) NoLayer
  pub set_flash : Refuses valset (0 ∷ 4 ∷ 0 ∷ 0 ∷ []) WrongLayer
  pub get_flash : Refuses valget (0 ∷ 2 ∷ 0 ∷ 0 ∷ []) WrongLayer
  pub get_layer : Refuses valget (0 ∷ 3 ∷ 0 ∷ 0 ∷ []) WrongLayer
  pub none_open : Refuses valset (1 ∷ 1 ∷ 2 ∷ 0 ∷ 0x01 ∷ 0x00 ∷ 0x51 ∷ 0x20 ∷ 0x42 ∷ []) NoneOpen
  pub other_layers_refused : RefusesNext (1 ∷ 2 ∷ 3 ∷ 0 ∷ []) OtherLayers
  pub nothing_added : RefusesNext (1 ∷ 1 ∷ 2 ∷ 0 ∷ []) NothingAdded
  pub cut_key : Refuses valget (0 ∷ 0 ∷ 0 ∷ 0 ∷ 0x01 ∷ 0x00 ∷ 0x51 ∷ []) (CutEntry 4)
  pub cut_value : Refuses valset (0 ∷ 1 ∷ 0 ∷ 0 ∷ 0x01 ∷ 0x00 ∷ 0x51 ∷ 0x20 ∷ []) (CutEntry 4)
