-- The law over runs: what is true of every history of a receiver and of the layers that it leaves. It is stated over events alone, a call's
-- arguments with what it answered; nothing of a receiver's state or steps stands in it.
use Rattle.std.specs.Prelude.{◌≡◌, ℕ, zero, suc, Bool, true, false, cond, ◌&&◌, ◌||◌, List, [], ◌∷◌, ◌++◌, map, length, take, Some, None, Ok, Err, Option, Result, ◌==◌, ◌≢◌}
use Rattle.std.specs.Option.{unwrap_or}
use Rattle.std.specs.List.{AllByRecursion}
use Rattle.frame.specs.Frames.{Message, carrying}
use Rattle.frame.specs.Scanning.{Hearing, scanned, NoneSwallowed}
use Rattle.layer.specs.Settings.{value_under}
use Rattle.catalogue.specs.declared.entries.Entry.{Entry}
use Rattle.reference.specs.declared.refusal.Refusal.{Refusal}
use Rattle.reference.specs.declared.refusal.Verdict.{Verdict}
use Rattle.reference.specs.declared.refusal.Verdict.TheVariants.{Outside, Ack, Nak}
use Rattle.reference.specs.declared.layers.Layers.{Layers}
use Rattle.reference.specs.declared.call.Battery.TheVariants.{Kept, Lost}
use Rattle.reference.specs.Stores.{Settings, held}
use Rattle.reference.specs.Requests.{Catalogue, configuration_class, valset, valdel, layers_of, action_of, Data, latest, Changes, no_changes, and_later, data_of}
use Rattle.reference.specs.Events.{Event, took, nothing_whole, told, looked, restarted, refused, History}
use Rattle.reference.specs.Parts.{Parts, stack_fault, stacked, settings_by, default_of}

-- Hearing and telling

-- the bytes that taking counted since making or the latest restart
unfoldable pub taken : History → List ℕ
taken [] = []
taken (took piece n ∷ h) = taken h ++ take n piece
taken (nothing_whole n ∷ h) = taken h
taken (told n c i v w ∷ h) = taken h
taken (looked l k v ∷ h) = taken h
taken (restarted b f ∷ h) = []
taken (refused c n ∷ h) = taken h

-- the frames that scanning finds in bytes
abbrev pub heard : List ℕ → List Hearing
heard bs = (scanned bs).heard

-- a frame's class and ID
pub record Name : Type 0 where
  pub class : ℕ
  pub id : ℕ

abbrev pub name_of : Hearing → Name
name_of h = record { class = h.message.class; id = h.message.id }

-- the classes and IDs that answering gave since then, in their order
unfoldable pub tellings : History → List Name
tellings [] = []
tellings (took piece n ∷ h) = tellings h
tellings (nothing_whole n ∷ h) = tellings h
tellings (told n c i v w ∷ h) = tellings h ++ record { class = c; id = i } ∷ []
tellings (looked l k v ∷ h) = tellings h
tellings (restarted b f ∷ h) = []
tellings (refused c n ∷ h) = tellings h

-- answered out: after the last byte taken an answering gave "nothing whole"
unfoldable pub AnsweredOut : History → Type 0
AnsweredOut [] = ⊥
AnsweredOut (took piece n ∷ h) = (take n piece ≡ []) × AnsweredOut h
AnsweredOut (nothing_whole n ∷ h) = Unit {0}
AnsweredOut (told n c i v w ∷ h) = AnsweredOut h
AnsweredOut (looked l k v ∷ h) = AnsweredOut h
AnsweredOut (restarted b f ∷ h) = ⊥
AnsweredOut (refused c n ∷ h) = AnsweredOut h

pub record ToldAsHeard (h : History) : Type 0 where
  -- answering tells the heard frames in order, none twice
  pub in_order : (rest : List Name) × (map name_of (heard (taken h)) ≡ tellings h ++ rest)
  -- and all when answered out
  pub all_told : AnsweredOut h → map name_of (heard (taken h)) ≡ tellings h
  -- an intact frame that does not begin inside a heard one is heard, once 770 bytes behind it are there
  pub none_swallowed : NoneSwallowed (taken h) (heard (taken h))

-- Verdicts

-- the frames of class 5, that of ACK and NAK
unfoldable pub verdicts_in : List Hearing → List Message
verdicts_in [] = []
verdicts_in (h ∷ hs) = cond (h.message.class == 5) (h.message ∷ verdicts_in hs) (verdicts_in hs)

abbrev pub HasVerdict : Verdict → ℕ → ℕ → List Message → Type 0
HasVerdict Outside c i ms = ⊥
HasVerdict Ack c i ms = ms ≡ carrying 5 1 (c ∷ i ∷ []) ∷ []
HasVerdict (Nak r) c i ms = ms ≡ carrying 5 0 (c ∷ i ∷ []) ∷ []

-- A told frame of the configuration class has one verdict, and the bytes that were written for it hold it once, with the frame's class and ID.
-- Another frame has none, and nothing is written.
unfoldable pub OneVerdict : Event → Type 0
OneVerdict (took piece n) = Unit {0}
OneVerdict (nothing_whole n) = Unit {0}
OneVerdict (told n c i v w) =
    (c ≡ configuration_class → HasVerdict v c i (verdicts_in (heard w))) × ((c ≢ configuration_class) → (v ≡ Outside) × (w ≡ []))
OneVerdict (looked l k v) = Unit {0}
OneVerdict (restarted b f) = Unit {0}
OneVerdict (refused c n) = Unit {0}

-- Looking back

abbrev pub nth : List Hearing → ℕ → Option Message
nth [] n = None
nth (h ∷ hs) zero = Some h.message
nth (h ∷ hs) (suc n) = nth hs n

-- the frame that the next telling behind a history tells: the nth telling tells the nth heard frame
abbrev pub next_told : History → Option Message
next_told h = nth (heard (taken h)) (length (tellings h))

-- the frame of a granted VALSET or VALDEL
unfoldable pub granted : History → Event → Option Message
granted h (took piece n) = None
granted h (nothing_whole n) = None
granted h (told n c i Outside w) = None
granted h (told n c i Ack w) = cond (c == configuration_class && (i == valset || i == valdel)) (next_told h) None
granted h (told n c i (Nak r) w) = None
granted h (looked l k v) = None
granted h (restarted b f) = None
granted h (refused c n) = None

abbrev pub or_none : Result Data Refusal → Data
or_none (Ok d) = d
or_none (Err r) = []

-- what a frame's own data name
abbrev pub own_data : Catalogue → Message → Changes
own_data cat m = latest (or_none (data_of cat m.id m.payload))

abbrev pub by_action : {A : Type 0} → ℕ → A → A → A → A → A
by_action zero a b c d = a
by_action (suc zero) a b c d = b
by_action (suc (suc zero)) a b c d = c
by_action (suc (suc (suc n))) a b c d = d

abbrev pub queued_by : Catalogue → Option Message → Changes → Changes
queued_by cat None q = q
queued_by cat (Some m) q = by_action (action_of m.payload) q (own_data cat m) (and_later q (own_data cat m)) q

-- the data of the latest granted action 1 and of each granted action 2 since
unfoldable pub queued : Catalogue → History → Changes
queued cat [] = no_changes
queued cat (e ∷ h) = queued_by cat (granted h e) (queued cat h)

-- a granted change: the layers that it is for, and the data that it names
pub record Granted : Type 0 where
  pub layers : Layers
  pub named : Changes

abbrev pub change_by : Catalogue → Option Message → Changes → Option Granted
change_by cat None q = None
change_by cat (Some m) q =
    let l : Layers = layers_of m.id m.payload in
    by_action (action_of m.payload) (Some (record { layers = l; named = own_data cat m })) None None (Some (record { layers = l; named = q }))

-- a granted action 0 names its own data, a granted action 3 those queued
abbrev pub change : Catalogue → History → Event → Option Granted
change cat h e = change_by cat (granted h e) (queued cat h)

-- what a change leaves under a key in a layer that it is for: its last value or, by VALDEL, none; else what was there before
abbrev pub after_change : (Layers → Bool) → Option Granted → ℕ → Option ℕ → Option ℕ
after_change in-layer None k before = before
after_change in-layer (Some c) k before = cond (in-layer c.layers) (unwrap_or (c.named k) before) before

unfoldable pub is_loss : Event → Bool
is_loss (took piece n) = false
is_loss (nothing_whole n) = false
is_loss (told n c i v w) = false
is_loss (looked l k v) = false
is_loss (restarted Kept f) = false
is_loss (restarted Lost f) = true
is_loss (refused c n) = false

unfoldable pub is_restart : Event → Bool
is_restart (took piece n) = false
is_restart (nothing_whole n) = false
is_restart (told n c i v w) = false
is_restart (looked l k v) = false
is_restart (restarted b f) = true
is_restart (refused c n) = false

abbrev pub in_ram : Layers → Bool
in_ram l = l.ram

abbrev pub in_bbr : Layers → Bool
in_bbr l = l.bbr

abbrev pub in_flash : Layers → Bool
in_flash l = l.flash

-- BBR: the latest of a granted change that names the key there and a lost battery; else what was held at making
unfoldable pub bbr_back : Parts → History → ℕ → Option ℕ
bbr_back p [] k = held p.bbr k
bbr_back p (e ∷ h) k = cond (is_loss e) None (after_change in_bbr (change p.catalogue h e) k (bbr_back p h k))

-- Flash: the latest granted change that names the key there; else what was held at making
unfoldable pub flash_back : Parts → History → ℕ → Option ℕ
flash_back p [] k = held p.flash k
flash_back p (e ∷ h) k = after_change in_flash (change p.catalogue h e) k (flash_back p h k)

-- a stacking of BBR and Flash as looked back to then
abbrev pub stack_back : Parts → History → ℕ → Option ℕ
stack_back p h k = value_under k (stacked p.catalogue p.rule (bbr_back p h) (flash_back p h))

-- RAM: the latest of a granted change that names the key there and a stacking, at making or at a restart
unfoldable pub ram_back : Parts → History → ℕ → Option ℕ
ram_back p [] k = stack_back p [] k
ram_back p (e ∷ h) k = cond (is_restart e) (stack_back p (e ∷ h) k) (after_change in_ram (change p.catalogue h e) k (ram_back p h k))

-- a layer by its number: 0 RAM, 1 BBR, 2 Flash, else the defaults
abbrev pub layer_back : Parts → History → ℕ → ℕ → Option ℕ
layer_back p h layer k =
    cond (layer == 0) (ram_back p h k)
    (cond (layer == 1) (bbr_back p h k)
    (cond (layer == 2) (flash_back p h k) (value_under k (settings_by default_of p.catalogue))))

-- A looking shows what looking back finds; a restart answers the item at fault in the stack as looked back to then.
unfoldable pub ShownAsFound : Parts → History → Type 0
ShownAsFound p [] = Unit {0}
ShownAsFound p (took piece n ∷ h) = Unit {0}
ShownAsFound p (nothing_whole n ∷ h) = Unit {0}
ShownAsFound p (told n c i v w ∷ h) = Unit {0}
ShownAsFound p (looked layer k v ∷ h) = v ≡ layer_back p h layer k
ShownAsFound p (restarted b o ∷ h) =
    o ≡ stack_fault p.catalogue p.rule (bbr_back p (restarted b o ∷ h)) (flash_back p (restarted b o ∷ h))
ShownAsFound p (refused c n ∷ h) = Unit {0}

-- The law

-- at every moment of a history
unfoldable pub Throughout : (History → Type 0) → History → Type 0
Throughout P [] = P []
Throughout P (e ∷ h) = P (e ∷ h) × Throughout P h

abbrev pub value_at : Settings → Entry → Option ℕ
value_at ss e = value_under e.key ss

-- of a history since making, and the layers that it left
pub record Law (p : Parts) (h : History) (ram bbr flash : Settings) : Type 0 where
  -- RAM has a value for every item, and the rule finds it fit
  pub ram_is_fit : (vs : List ℕ) × (map (value_at ram) p.catalogue ≡ map Some vs) × (p.rule p.catalogue vs ≡ None)
  -- each layer holds under each key what looking back finds
  pub ram_holds : (k : ℕ) → value_under k ram ≡ ram_back p h k
  pub bbr_holds : (k : ℕ) → value_under k bbr ≡ bbr_back p h k
  pub flash_holds : (k : ℕ) → value_under k flash ≡ flash_back p h k
  -- what is heard is told, at every moment
  pub telling : Throughout ToldAsHeard h
  -- a told configuration frame gets one verdict
  pub verdicts : AllByRecursion OneVerdict h
  -- lookings and restarts on the way are answered as looking back finds then
  pub showing : Throughout (ShownAsFound p) h
