-- What was written is heard and read as it was meant.
use Rattle.std.proofs.Common.{◌≡◌, ℕ, ◌^◌, ◌<◌, ◌≤◌, Bool, true, false, cond, leb, List, [], ◌++◌, length, get_or, take, Some, None, Ok, Err, Option, Result, refl, ap, ◌∙◌, subst, append-nil, arith}
use Rattle.std.specs.Prelude.{IfOk, is_ok, if◌then◌else◌}
use Rattle.std.proofs.lemmas.List.{drop_all}
use Rattle.std.proofs.lemmas.Bool.{leb-true, le-leb, cond-true}
use Rattle.frame.specs.Frames.{Message, size_of, frame_bytes}
use Rattle.frame.specs.Scanning.{HeardAs}
use Rattle.frame.specs.Written.{in_front}
use Rattle.frame.proofs.Frames.{frame_length}
use Rattle.layer.specs.declared.setting.Setting.{Setting}
use Rattle.reference.specs.Requests.{valset, valget, valdel}
use Rattle.host.specs.declared.fault.HostFault.{HostFault}
use Rattle.host.specs.declared.stage.Stage.{Stage}
use Rattle.host.specs.Heard.{HeadRead, SetHeard, DeleteHeard, GetHeard, EndHeard}
use Rattle.host.specs.Payloads.{unless_fault}
use Rattle.host.specs.Refusals.{set_names, delete_names, get_names, first_fault, setting_fault, number_fault, request_fault, set_fault, delete_fault, get_fault}
use Rattle.host.specs.Requests.{head, numbers_bytes, set_payload, delete_payload, get_payload, request, written}
use Rattle.host.proofs.Reading.{set_head, delete_head, position_read, set_changes, delete_changes, get_keys, no_changes_read}

-- A payload that is built has no fault

built : (o : Option HostFault) (a p : List ℕ) → Ok p ≡ unless_fault o a → (o ≡ None) × (p ≡ a)
built None a p e = (refl, cc)
built (Some f) a p e = absurd (cc)

record Faultless {A : Type 0} (named : Bool) (f : A → Option HostFault) (xs : List A) : Type 0 where
  named_right : named ≡ true
  few : length xs ≤ 64
  sound : first_fault f xs ≡ None

faultless : {A : Type 0} (named : Bool) (f : A → Option HostFault) (xs : List A) → request_fault named f xs ≡ None → Faultless named f xs
faultless named f xs e = go named (leb (length xs) 64) refl e
  where
    go : (b c : Bool) → leb (length xs) 64 ≡ c → cond b (cond c (first_fault f xs) (Some HostFault.TooManyEntries)) (Some HostFault.WrongLayers) ≡ None → Faultless b f xs
    go true true few e = record { named_right = refl; few = leb-true (length xs) 64 few; sound = e }
    go true false few e = absurd (cc)
    go false c few e = absurd (cc)

pub set_heard : (s : Stage) (l : ℕ) (ss : List Setting) (p : List ℕ) (r : Result ℕ HostFault) (out : List ℕ) → Ok p ≡ unless_fault (set_fault l ss) (set_payload s l ss)
    → IfOk r (λ n. HeardAs (request valset p) (take n out)) → IfOk r (λ n. SetHeard s l ss (take n out))
set_heard s l ss p (Err f) out e h = tt
set_heard s l ss p (Ok n) out e h =
    let b = built (set_fault l ss) (set_payload s l ss) p e in
    let ok = faultless (set_names l) setting_fault ss b.0 in
    record {
      frame = subst (λ (q : List ℕ). HeardAs (request valset q) (take n out)) b.1 h;
      head_read = set_head s l _;
      changes = λ cat known. set_changes cat s l ss ok.few ok.sound known;
    }

pub delete_heard : (s : Stage) (l : ℕ) (ns : List ℕ) (p : List ℕ) (r : Result ℕ HostFault) (out : List ℕ) → ((i : ℕ) → get_or ns i 0 < 2 ^ 32)
    → Ok p ≡ unless_fault (delete_fault l ns) (delete_payload s l ns) → IfOk r (λ n. HeardAs (request valdel p) (take n out)) → IfOk r (λ n. DeleteHeard s l ns (take n out))
delete_heard s l ns p (Err f) out fit e h = tt
delete_heard s l ns p (Ok n) out fit e h =
    let b = built (delete_fault l ns) (delete_payload s l ns) p e in
    let ok = faultless (delete_names l) number_fault ns b.0 in
    record {
      frame = subst (λ (q : List ℕ). HeardAs (request valdel q) (take n out)) b.1 h;
      head_read = delete_head s l _ ok.named_right;
      changes = λ cat all. delete_changes cat s l ns ok.few fit all;
    }

pub get_heard : (l position : ℕ) (ns : List ℕ) (p : List ℕ) (r : Result ℕ HostFault) (out : List ℕ) → position < 2 ^ 16 → ((i : ℕ) → get_or ns i 0 < 2 ^ 32)
    → Ok p ≡ unless_fault (get_fault l ns) (get_payload l position ns) → IfOk r (λ n. HeardAs (request valget p) (take n out)) → IfOk r (λ n. GetHeard l position ns (take n out))
get_heard l position ns p (Err f) out small fit e h = tt
get_heard l position ns p (Ok n) out small fit e h =
    let b = built (get_fault l ns) (get_payload l position ns) p e in
    let ok = faultless (get_names l) number_fault ns b.0 in
    record {
      frame = subst (λ (q : List ℕ). HeardAs (request valget q) (take n out)) b.1 h;
      version = refl;
      layer = refl;
      position_is = position_read l position (numbers_bytes ns) small;
      keys = λ cat all. get_keys cat l position ns ok.few fit all;
    }

pub end_heard : (id : ℕ) (s : Stage) (l : ℕ) (bs : List ℕ) → HeadRead id s l (head s l) → HeardAs (request id (head s l)) bs → EndHeard id s l bs
end_heard id s l bs read h = record { frame = h; head_read = read; changes = λ cat. no_changes_read cat id l s }

pub set_end : (s : Stage) (l : ℕ) (bs : List ℕ) → HeardAs (request valset (head s l)) bs → EndHeard valset s l bs
set_end s l bs h = end_heard valset s l bs (set_head s l []) h

pub delete_end : (s : Stage) (l : ℕ) (bs : List ℕ) → delete_names l ≡ true → HeardAs (request valdel (head s l)) bs → EndHeard valdel s l bs
delete_end s l bs named h = end_heard valdel s l bs (delete_head s l [] named) h

-- A buffer as long as the frame holds the frame and nothing else.
pub wholly_written : (m : Message) (out old : List ℕ) (r : Result ℕ HostFault) → r ≡ written None m (length old) → out ≡ (if is_ok r then in_front (frame_bytes m) old else old) → length old ≡ size_of m
    → out ≡ frame_bytes m
wholly_written m out old r e o len =
    let ok : r ≡ Ok (size_of m) = e ∙ cond-true _ _ _ (le-leb (size_of m) (length old) (omega arith)) in
    o ∙ ap (λ (x : Result ℕ HostFault). if is_ok x then in_front (frame_bytes m) old else old) ok
    ∙ ap (λ (xs : List ℕ). frame_bytes m ++ xs) (drop_all (length (frame_bytes m)) old (let n = frame_length m in omega arith)) ∙ append-nil (frame_bytes m)
