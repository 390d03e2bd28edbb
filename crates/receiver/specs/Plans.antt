-- What a judged frame is to do, as the reference has it.
use Rattle.std.specs.Prelude.{◌≡◌, ℕ, ◌+◌, ◌≤◌, cond, List, [], length, take, Some, None, Ok, Err, Option, Result, nat_lt, slice_index}
use Rattle.reference.specs.Requests.{Catalogue, Changes, latest, and_later, ok_map, data_of, configuration_class}
use Rattle.catalogue.specs.declared.entries.Entry.{Entry}
use Rattle.request.specs.Changes.{changes_by}
use Rattle.request.specs.declared.change.Change.{Change as Slot}
use Rattle.request.specs.declared.head.Request.{Request}
use Rattle.request.specs.declared.action.Action.{Action}
use Rattle.request.specs.declared.action.Action.TheVariants.{Apply as Applies, Open, Add, Close}
use Rattle.reference.specs.declared.refusal.Refusal.{Refusal}
use Rattle.reference.specs.declared.refusal.Refusal.TheVariants.{UnknownVersion, WrongLayer}
use Rattle.reference.specs.declared.refusal.Verdict.{Verdict}
use Rattle.reference.specs.declared.refusal.Verdict.TheVariants.{Ack, Nak}
use Rattle.reference.specs.declared.answered.Telling.{Telling}
use Rattle.reference.specs.Stores.{Settings}
use Rattle.frame.specs.Frames.{Message, carrying}
use Rattle.frame.specs.Written.{in_front}
use Rattle.page.specs.Pages.{page_bytes}
use Rattle.reference.specs.Receiver.{State, with_transaction, applied, apply, queue, reply, layer_of}
use Rattle.reference.specs.Receiver.{Plan as Planned}
use Rattle.receiver.specs.declared.transaction.Granted.{Granted}
use Rattle.receiver.specs.declared.transaction.Granted.TheVariants.{Change, Reply}
use Rattle.receiver.specs.declared.transaction.Plan.{Plan}
use Rattle.receiver.specs.declared.transaction.Plan.TheVariants.{Apply, Queue}
use Rattle.receiver.specs.declared.first.HeldFrame.{HeldFrame}
use Rattle.receiver.specs.State.{opened_of}

-- the message of a request that is heard
abbrev pub request_message : Request → Message
request_message r = carrying configuration_class r.id r.payload.now

-- a plan, with its changes beside it
abbrev pub plan_of : List Entry → List (Option Slot) → Plan → Planned
plan_of es slots (Apply l) = apply l (changes_by es slots)
plan_of es slots (Queue t) = queue (opened_of es slots t)

abbrev pub judgement_of : List Entry → List (Option Slot) → Result Plan Refusal → Result Planned Refusal
judgement_of es slots (Ok p) = Ok (plan_of es slots p)
judgement_of es slots (Err r) = Err r

-- the state that a plan leaves
abbrev pub after_plan : List Entry → State → List (Option Slot) → Plan → State
after_plan es s slots (Apply l) = applied es s l (changes_by es slots)
after_plan es s slots (Queue t) = with_transaction s (Some (opened_of es slots t))

-- the changes that an action is about, by those queued
abbrev pub changes_for : Catalogue → Changes → Message → Action → Result Changes Refusal
changes_for cat queued m Applies = ok_map latest (data_of cat m.id m.payload)
changes_for cat queued m Open = ok_map latest (data_of cat m.id m.payload)
changes_for cat queued m Add = ok_map (and_later queued) (ok_map latest (data_of cat m.id m.payload))
changes_for cat queued m Close = Ok queued

-- A get: the bytes of its reply, or why it is refused
abbrev pub page_over : Catalogue → Option Settings → List ℕ → Result (List ℕ) Refusal
page_over cat None p = Err WrongLayer
page_over cat (Some ss) p = page_bytes cat ss p

abbrev pub gotten : Catalogue → State → List ℕ → Result (List ℕ) Refusal
gotten cat s p = cond (nat_lt 0 (slice_index p 0)) (Err UnknownVersion) (page_over cat (layer_of cat s (slice_index p 1)) p)

-- Any request, with the reply that stands at the start of the buffer
abbrev pub grant_of : List Entry → List (Option Slot) → List ℕ → Granted → Planned
grant_of es slots out (Change p) = plan_of es slots p
grant_of es slots out (Reply n) = reply (take n out)

abbrev pub verdicted_of : List Entry → List (Option Slot) → List ℕ → Result Granted Refusal → Result Planned Refusal
verdicted_of es slots out (Ok g) = Ok (grant_of es slots out g)
verdicted_of es slots out (Err r) = Err r

-- the bytes of a reply
abbrev pub reply_in : Planned → List ℕ
reply_in (apply l d) = []
reply_in (queue t) = []
reply_in (reply bs) = bs

abbrev pub reply_of : Result Planned Refusal → List ℕ
reply_of (Ok p) = reply_in p
reply_of (Err r) = []

-- how many there are
abbrev pub grant_length : Granted → ℕ
grant_length (Change p) = 0
grant_length (Reply n) = n

abbrev pub reply_length : Result Granted Refusal → ℕ
reply_length (Ok g) = grant_length g
reply_length (Err r) = 0

-- the verdict, and the ID of its frame
abbrev pub verdict_of : Result Granted Refusal → Verdict
verdict_of (Ok g) = Ack
verdict_of (Err r) = Nak r

abbrev pub verdict_id : Result Granted Refusal → ℕ
verdict_id (Ok g) = 1
verdict_id (Err r) = 0

-- how the frame is told; a verdict's frame has 10 bytes
abbrev pub told_by : HeldFrame → Result Granted Refusal → Telling
told_by h r = record { class = h.class; id = h.id; verdict = verdict_of r; length = reply_length r + 10 }

-- the state that is left: a refusal cancels
abbrev pub after_grant : List Entry → State → List (Option Slot) → Granted → State
after_grant es s slots (Change p) = after_plan es s slots p
after_grant es s slots (Reply n) = s

abbrev pub after_verdict : List Entry → State → List (Option Slot) → Result Granted Refusal → State
after_verdict es s slots (Ok g) = after_grant es s slots g
after_verdict es s slots (Err r) = with_transaction s None

-- A judgement is the reference's, with its changes in these slots; a reply stands at the start of the buffer, and nothing else was written.
pub record Judged (es : List Entry) (slots : List (Option Slot)) (old out : List ℕ) (judgement : Result Planned Refusal) (r : Result Granted Refusal) : Type 0 where
  pub value : verdicted_of es slots out r ≡ judgement
  pub out_is : out ≡ in_front (reply_of judgement) old
  pub length_is : reply_length r ≡ length (reply_of judgement)
  pub few : reply_length r ≤ 780
