-- The reference receiver: one step for each call, in every state.
use Rattle.std.specs.Prelude.{ℕ, zero, suc, ◌-◌, min, Bool, true, false, cond, not, ◌&&◌, ◌||◌, List, [], ◌∷◌, ◌++◌, length, take, drop, Some, None, Ok, Err, Option, Result, ◌==◌, nat_le, nat_lt, slice_index}
use Rattle.std.specs.Option.{unwrap_or}
use Rattle.frame.specs.Frames.{max_frame, Message, frame_bytes, carrying}
use Rattle.frame.specs.Scanning.{Finding as Found, finding}
use Rattle.item.specs.Keys.{size_of}
use Rattle.item.specs.Values.{number, bytes_of}
use Rattle.layer.specs.declared.setting.Setting.{Setting}
use Rattle.layer.specs.Settings.{setting, value_under}
use Rattle.rule.specs.Rules.{Finding}
use Rattle.reference.specs.declared.refusal.Refusal.{Refusal}
use Rattle.reference.specs.declared.refusal.Refusal.TheVariants.{OtherId, ShortPayload, UnknownVersion, NoLayer, WrongLayer, NoneOpen, OtherLayers, NothingAdded, Unfit}
use Rattle.reference.specs.declared.refusal.Verdict.{Verdict}
use Rattle.reference.specs.declared.refusal.Verdict.TheVariants.{Outside, Ack, Nak}
use Rattle.reference.specs.declared.fault.CallFault.TheVariants.{Shut, BufferTooShort, WrongLayer as NoSuchLayer, UnknownKey as NoSuchKey}
use Rattle.reference.specs.declared.fault.PartsFault.{PartsFault}
use Rattle.reference.specs.declared.layers.Layers.{Layers}
use Rattle.reference.specs.declared.call.Battery.{Battery}
use Rattle.reference.specs.declared.call.Battery.TheVariants.{Kept, Lost}
use Rattle.reference.specs.Stores.{Settings, Store, held, holding, put, removed, cleared}
use Rattle.reference.specs.Parts.{Parts, parts_fault, stack_fault, stacked, settings_by, default_of}
use Rattle.reference.specs.Requests.{Catalogue, is_known, configuration_class, valset, valget, valdel, layers_of, same_layers, action_of, latest, Changes, no_changes, and_later, bytes_at, data_of, keys_of}
use Rattle.reference.specs.Events.{Asking, take_piece, answer_into, look_at, restart_with, Event, took, nothing_whole, told, looked, restarted, refused, History}

-- The state

-- an open transaction: the ID of its kind, its layers, and what it would change
pub record Transaction : Type 0 where
  pub kind : ℕ
  pub layers : Layers
  pub queue : Changes

-- shut: made of parts that the check refuses
pub record State : Type 0 where
  pub shut : Bool
  pub ram : Store
  pub bbr : Store
  pub flash : Store
  pub held_bytes : List ℕ
  pub transaction : Option Transaction

-- the same state with other held bytes, and with another transaction
abbrev pub with_held : State → List ℕ → State
with_held s bs = record { shut = s.shut; ram = s.ram; bbr = s.bbr; flash = s.flash; held_bytes = bs; transaction = s.transaction }

abbrev pub with_transaction : State → Option Transaction → State
with_transaction s t = record { shut = s.shut; ram = s.ram; bbr = s.bbr; flash = s.flash; held_bytes = s.held_bytes; transaction = t }

-- Applying: each named item once, with its last value, in ascending key order

abbrev pub written_one : Option (Option ℕ) → ℕ → Store → Store
written_one None k s = s
written_one (Some None) k s = removed s k
written_one (Some (Some v)) k s = put s k v

unfoldable pub written : Catalogue → Changes → Store → Store
written [] d s = s
written (e ∷ es) d s = written es d (written_one (d e.key) e.key s)

abbrev pub written_if : Bool → Catalogue → Changes → Store → Store
written_if chosen cat d s = let w : Store = written cat d s in cond chosen w s

-- one value for each item, the default where a store holds none
unfoldable pub configuration : Catalogue → Store → List ℕ
configuration [] s = []
configuration (e ∷ es) s = unwrap_or (held s e.key) e.default ∷ configuration es s

-- Judging a frame of the configuration class: it is refused, or this is to be done

pub data Plan : Type 0 where
  -- change these layers, and end the transaction
  apply : Layers → Changes → Plan
  -- keep this transaction open
  queue : Transaction → Plan
  -- write these bytes
  reply : List ℕ → Plan

-- a check: where it meets, the frame is refused; else the checks behind it are tried
unfoldable pub unless : {A : Type 0} → Bool → Refusal → Result A Refusal → Result A Refusal
unless true refusal r = Err refusal
unless false refusal r = r

abbrev pub and_then : {A B : Type 0} → Result A Refusal → (A → Result B Refusal) → Result B Refusal
and_then (Ok a) f = f a
and_then (Err e) f = Err e

-- where RAM is chosen, the RAM that applying would leave must be fit
unfoldable pub apply_fault : Catalogue → Finding → State → Layers → Changes → Option ℕ
apply_fault cat rule s l d = let f : Option ℕ = rule cat (configuration cat (written cat d s.ram)) in cond l.ram f None

abbrev pub applying : Option ℕ → Layers → Changes → Result Plan Refusal
applying None l d = Ok (apply l d)
applying (Some i) l d = Err (Unfit i)

abbrev pub is_none : {A : Type 0} → Option A → Bool
is_none None = true
is_none (Some a) = false

abbrev pub other_layers : Option Transaction → Layers → Bool
other_layers None l = false
other_layers (Some t) l = not (same_layers t.layers l)

abbrev pub queue_of : Option Transaction → Changes
queue_of None = no_changes
queue_of (Some t) = t.queue

-- Action 0 applies its data; 1 opens a transaction and queues them; 2 queues them behind those queued; 3 applies what is queued, and its own
-- data are not read. (0 and 1 cancel an open transaction: applying ends it, and opening takes its place.)
abbrev pub planned : Catalogue → Finding → State → Message → Layers → ℕ → Result Plan Refusal
planned cat rule s m l zero = and_then (data_of cat m.id m.payload) (λ d. applying (apply_fault cat rule s l (latest d)) l (latest d))
planned cat rule s m l (suc zero) =
    and_then (data_of cat m.id m.payload) (λ d. Ok (queue (record { kind = m.id; layers = l; queue = latest d })))
planned cat rule s m l (suc (suc zero)) =
    and_then (data_of cat m.id m.payload)
    (λ d. Ok (queue (record { kind = m.id; layers = l; queue = and_later (queue_of s.transaction) (latest d) })))
planned cat rule s m l (suc (suc (suc n))) =
    applying (apply_fault cat rule s l (queue_of s.transaction)) l (queue_of s.transaction)

-- VALSET and VALDEL
unfoldable pub judged_change : Catalogue → Finding → State → Message → Result Plan Refusal
judged_change cat rule s m =
    let l : Layers = layers_of m.id m.payload in
    let a : ℕ = action_of m.payload in
    unless (nat_lt 1 (slice_index m.payload 0)) UnknownVersion
    (unless (not (l.ram || (l.bbr || l.flash))) NoLayer
    (unless (l.flash && not s.flash.usable) WrongLayer
    (unless (nat_le 2 a && is_none s.transaction) NoneOpen
    (unless (nat_le 2 a && other_layers s.transaction l) OtherLayers
    (unless (a == 2 && nat_le (length m.payload) 4) NothingAdded (planned cat rule s m l a))))))

-- what a layer holds, by its number: 0 RAM, 1 BBR, 2 Flash, 7 the defaults; none of another number or of a Flash that is not usable
unfoldable pub layer_of : Catalogue → State → ℕ → Option Settings
layer_of cat s n =
    cond (n == 0) (Some s.ram.settings)
    (cond (n == 1) (Some s.bbr.settings)
    (cond (n == 2 && s.flash.usable) (Some s.flash.settings) (cond (n == 7) (Some (settings_by default_of cat)) None)))

-- the settings held under the keys, in their order
abbrev pub pair_under : ℕ → Option ℕ → List Setting → List Setting
pair_under k None rest = rest
pair_under k (Some v) rest = setting k v ∷ rest

unfoldable pub held_pairs : Settings → List ℕ → List Setting
held_pairs ss [] = []
held_pairs ss (k ∷ ks) = pair_under k (value_under k ss) (held_pairs ss ks)

-- a pair's bytes: the key, then as many bytes of the value as its size has
abbrev pub pair_bytes : Setting → List ℕ
pair_bytes s = bytes_of 4 s.key ++ bytes_of (bytes_at (size_of s.key)) s.value

unfoldable pub pairs_bytes : List Setting → List ℕ
pairs_bytes [] = []
pairs_bytes (s ∷ ss) = pair_bytes s ++ pairs_bytes ss

-- how many pairs a get skips
abbrev pub position_of : List ℕ → ℕ
position_of p = number (take 2 (drop 2 p))

-- the pairs of a page: at most 64, behind those skipped
abbrev pub page_pairs : ℕ → List Setting → List Setting
page_pairs position pairs = take 64 (drop position pairs)

-- version 1, layer and position as sent, the pairs
unfoldable pub page : Settings → List ℕ → List ℕ → Message
page ss p ks = carrying configuration_class valget (1 ∷ take 3 (drop 1 p) ++ pairs_bytes (page_pairs (position_of p) (held_pairs ss ks)))

abbrev pub paged : Catalogue → Option Settings → List ℕ → Result Plan Refusal
paged cat None p = Err WrongLayer
paged cat (Some ss) p = and_then (keys_of cat p) (λ ks. Ok (reply (frame_bytes (page ss p ks))))

-- VALGET
unfoldable pub judged_get : Catalogue → State → Message → Result Plan Refusal
judged_get cat s m = unless (nat_lt 0 (slice_index m.payload 0)) UnknownVersion (paged cat (layer_of cat s (slice_index m.payload 1)) m.payload)

unfoldable pub judged : Catalogue → Finding → State → Message → Result Plan Refusal
judged cat rule s m =
    let c : Result Plan Refusal = judged_change cat rule s m in
    let g : Result Plan Refusal = judged_get cat s m in
    unless (not (m.id == valset || (m.id == valget || m.id == valdel))) OtherId
    (unless (nat_lt (length m.payload) 4) ShortPayload (cond (m.id == valget) g c))

-- Carrying out

unfoldable pub applied : Catalogue → State → Layers → Changes → State
applied cat s l d =
    record {
      shut = s.shut;
      ram = written_if l.ram cat d s.ram;
      bbr = written_if l.bbr cat d s.bbr;
      flash = written_if l.flash cat d s.flash;
      held_bytes = s.held_bytes;
      transaction = None;
    }

-- the verdict's frame: 05 01 is an ACK, 05 00 a NAK; its payload is the class and ID that it answers
abbrev pub verdict_frame : ℕ → Message → Message
verdict_frame id m = carrying 5 id (m.class ∷ m.id ∷ [])

abbrev pub ack_of : Message → List ℕ
ack_of m = frame_bytes (verdict_frame 1 m)

abbrev pub nak_of : Message → List ℕ
nak_of m = frame_bytes (verdict_frame 0 m)

-- what a call leaves, and its event
pub record Stepped : Type 0 where
  pub state : State
  pub event : Event

-- how a frame is told, with noise n before it
abbrev pub tell : ℕ → Message → Verdict → List ℕ → Event
tell n m v bs = told n m.class m.id v bs

-- every NAK cancels
abbrev pub carried_out : Catalogue → State → ℕ → Message → Result Plan Refusal → Stepped
carried_out cat s n m (Err r) = record { state = with_transaction s None; event = tell n m (Nak r) (nak_of m) }
carried_out cat s n m (Ok (apply l d)) = record { state = applied cat s l d; event = tell n m Ack (ack_of m) }
carried_out cat s n m (Ok (queue t)) = record { state = with_transaction s (Some t); event = tell n m Ack (ack_of m) }
carried_out cat s n m (Ok (reply bs)) = record { state = s; event = tell n m Ack (bs ++ ack_of m) }

-- a frame that is not of the open transaction's kind cancels it before being judged
abbrev pub of_kind : ℕ → Option Transaction → Option Transaction
of_kind id None = None
of_kind id (Some t) = cond (t.kind == id) (Some t) None

-- a frame of another class changes and writes nothing
unfoldable pub handled : Catalogue → Finding → State → ℕ → Message → Stepped
handled cat rule s n m =
    let s' : State = with_transaction s (of_kind m.id s.transaction) in
    let r : Stepped = carried_out cat s' n m (judged cat rule s' m) in
    cond (m.class == configuration_class) r (record { state = s; event = tell n m Outside [] })

abbrev pub answering : Catalogue → Finding → State → ℕ → Option Message → Stepped
answering cat rule s n None = record { state = s; event = nothing_whole n }
answering cat rule s n (Some m) = handled cat rule s n m

abbrev pub looking : Catalogue → ℕ → ℕ → Option Settings → Event
looking cat layer k None = refused (look_at layer k) NoSuchLayer
looking cat layer k (Some ss) = cond (is_known cat k) (looked layer k (value_under k ss)) (refused (look_at layer k) NoSuchKey)

abbrev pub after_battery : Battery → Store → Store
after_battery Kept s = s
after_battery Lost s = cleared s

-- a restart drops held bytes and transaction, clears BBR where the battery failed, and stacks RAM anew
unfoldable pub restarting : Catalogue → Finding → State → Battery → Stepped
restarting cat rule s b =
    let bbr : Store = after_battery b s.bbr in
    record {
      state =
          record {
            shut = s.shut;
            ram = holding s.ram (stacked cat rule (held bbr) (held s.flash));
            bbr = bbr;
            flash = s.flash;
            held_bytes = [];
            transaction = None;
          };
      event = restarted b (stack_fault cat rule (held bbr) (held s.flash));
    }

-- taking moves bytes from a piece until it ends or 780 are held
abbrev pub taken_of : State → List ℕ → ℕ
taken_of s piece = min (length piece) (max_frame - length s.held_bytes)

unfoldable pub taking : State → List ℕ → Stepped
taking s piece = record { state = with_held s (s.held_bytes ++ take (taken_of s piece) piece); event = took piece (taken_of s piece) }

-- the room that every answer fits: the largest reply, and the verdict behind it
abbrev pub answer_room : ℕ
answer_room = 790

-- the four calls; an answering drops noise up to the first frame heard or undecided place, and handles at most that frame
unfoldable pub served : Catalogue → Finding → State → Asking → Stepped
served cat rule s (take_piece piece) = taking s piece
served cat rule s (answer_into room) =
    let found : Found = finding s.held_bytes in
    let r : Stepped = answering cat rule (with_held s found.rest) found.skipped found.message in
    cond (nat_lt room answer_room) (record { state = s; event = refused (answer_into room) BufferTooShort }) r
served cat rule s (look_at layer k) = record { state = s; event = looking cat layer k (layer_of cat s layer) }
served cat rule s (restart_with b) = restarting cat rule s b

-- a shut receiver refuses every call
unfoldable pub step : Catalogue → Finding → State → Asking → Stepped
step cat rule s c = let r : Stepped = served cat rule s c in cond s.shut (record { state = s; event = refused c Shut }) r

-- Making: RAM is stacked, nothing is held, none is open. Parts that the check refuses make a shut receiver; its RAM is empty.

abbrev pub ram_of : Settings → Store
ram_of ss = record { usable = true; settings = ss }

abbrev pub made_by : Option PartsFault → Parts → State
made_by None p =
    record {
      shut = false;
      ram = ram_of (stacked p.catalogue p.rule (held p.bbr) (held p.flash));
      bbr = p.bbr;
      flash = p.flash;
      held_bytes = [];
      transaction = None;
    }
made_by (Some f) p = record { shut = true; ram = ram_of []; bbr = p.bbr; flash = p.flash; held_bytes = []; transaction = None }

unfoldable pub made : Parts → State
made p = made_by (parts_fault p) p

-- A run: the state that a list of calls leaves, and its history, the newest event first
pub record Run : Type 0 where
  pub state : State
  pub history : History

unfoldable pub run_from : Catalogue → Finding → Run → List Asking → Run
run_from cat rule r [] = r
run_from cat rule r (c ∷ cs) =
    let n : Stepped = step cat rule r.state c in run_from cat rule (record { state = n.state; history = n.event ∷ r.history }) cs

abbrev pub run : Parts → List Asking → Run
run p cs = run_from p.catalogue p.rule (record { state = made p; history = [] }) cs
