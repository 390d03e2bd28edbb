-- The requests that a host writes: their payloads, and what writing one answers.
use Rattle.std.specs.Prelude.{ℕ, cond, List, [], ◌∷◌, ◌++◌, Some, None, Ok, Err, Option, Result, nat_le}
use Rattle.frame.specs.Frames.{Message, size_of, carrying}
use Rattle.item.specs.Values.{bytes_of}
use Rattle.layer.specs.declared.setting.Setting.{Setting}
use Rattle.reference.specs.Requests.{configuration_class, valset, valget, valdel}
use Rattle.reference.specs.Receiver.{pairs_bytes}
use Rattle.host.specs.declared.fault.HostFault.{HostFault}
use Rattle.host.specs.declared.fault.HostFault.TheVariants.{BufferTooShort}
use Rattle.host.specs.declared.stage.Stage.{Stage}
use Rattle.host.specs.declared.stage.Stage.TheVariants.{Alone, Begin, Add, Apply, Abandon}

abbrev pub version_at : Stage → ℕ
version_at Alone = 0
version_at Begin = 1
version_at Add = 1
version_at Apply = 1
version_at Abandon = 1

abbrev pub action_at : Stage → ℕ
action_at Alone = 0
action_at Begin = 1
action_at Add = 2
action_at Apply = 3
action_at Abandon = 0

-- version, layers, action, and a byte that is not read
abbrev pub head : Stage → ℕ → List ℕ
head s l = version_at s ∷ l ∷ action_at s ∷ 0 ∷ []

-- keys and selectors, four bytes each
unfoldable pub numbers_bytes : List ℕ → List ℕ
numbers_bytes [] = []
numbers_bytes (n ∷ ns) = bytes_of 4 n ++ numbers_bytes ns

-- Of a set: pairs of key and value behind the head. Of a delete: keys and selectors. Of a get: version 0, one layer, the position in two bytes, keys
-- and selectors.

abbrev pub set_payload : Stage → ℕ → List Setting → List ℕ
set_payload s l ss = head s l ++ pairs_bytes ss

abbrev pub delete_payload : Stage → ℕ → List ℕ → List ℕ
delete_payload s l ns = head s l ++ numbers_bytes ns

abbrev pub get_payload : ℕ → ℕ → List ℕ → List ℕ
get_payload l position ns = (0 ∷ l ∷ bytes_of 2 position) ++ numbers_bytes ns

-- the frame of a request
abbrev pub request : ℕ → List ℕ → Message
request id p = carrying configuration_class id p

abbrev pub set_request : Stage → ℕ → List Setting → Message
set_request s l ss = request valset (set_payload s l ss)

abbrev pub delete_request : Stage → ℕ → List ℕ → Message
delete_request s l ns = request valdel (delete_payload s l ns)

abbrev pub get_request : ℕ → ℕ → List ℕ → Message
get_request l position ns = request valget (get_payload l position ns)

-- What writing answers with a buffer of so many bytes: the fault of the request, if it has one; then that the buffer is too short; else how many
-- bytes the frame has.
abbrev pub written : Option HostFault → Message → ℕ → Result ℕ HostFault
written (Some f) m room = Err f
written None m room = cond (nat_le (size_of m) room) (Ok (size_of m)) (Err BufferTooShort)
