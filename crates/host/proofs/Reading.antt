-- What a receiver reads of the payloads that a host writes.
use Rattle.std.proofs.Common.{◌≡◌, ℕ, zero, suc, ◌+◌, ◌*◌, ◌/◌, ◌%◌, ◌^◌, ◌<◌, ◌≤◌, Bool, true, false, cond, ◌||◌, eqb, leb, ltb, List, [], ◌∷◌, ◌++◌, map, length, get_or, take, drop, Some, None, Ok, Option, sym, refl, ap, ◌∙◌, ap₂, append_assoc, arith, ⊎_elim}
use Rattle.std.proofs.lemmas.List.{length-append, take_at, drop_at, map-append}
use Rattle.std.proofs.lemmas.Bool.{and_parts, ltb-true, leb-true, eqb-true, le-ltb, cond-true, cond-false, or_cases}
use Rattle.std.specs.Option.{option_or}
use Rattle.item.specs.declared.key.Size.{Size}
use Rattle.item.specs.declared.key.Size.TheVariants.{Bit, One, Two, Four, Eight}
use Rattle.item.specs.Keys.{size_bits, group_of, item_bits, size_of, well_formed, fits_size, fits_key}
use Rattle.item.specs.Selectors.{selector_of}
use Rattle.item.specs.Values.{number, bytes_of}
use Rattle.item.proofs.Values.{number_bytes, length_bytes}
use Rattle.layer.specs.declared.setting.Setting.{Setting}
use Rattle.reference.specs.Requests.{Catalogue, valset, valdel, bit, layers_of, action_of, is_known, keys_named, Data, deleted, Read, cut, unknown, read, bytes_at, limit_at, pair_read, named_read, key_read, read_map, deletion_read, ok_map, walking, walk, data_of, keys_of}
use Rattle.reference.specs.Receiver.{pair_bytes, pairs_bytes, position_of}
use Rattle.host.specs.declared.fault.HostFault.{HostFault}
use Rattle.host.specs.declared.stage.Stage.{Stage}
use Rattle.host.specs.declared.stage.Stage.TheVariants.{Alone, Begin, Add, Apply, Abandon}
use Rattle.host.specs.Refusals.{delete_names, setting_fault, first_fault}
use Rattle.host.specs.Requests.{numbers_bytes, action_at, head, set_payload, delete_payload, get_payload}
use Rattle.host.specs.Heard.{chosen, HeadRead, put, all_known, some_key, all_name, named_by}

-- The head

action_read : (s : Stage) (l : ℕ) (rest : List ℕ) → action_of (head s l ++ rest) ≡ action_at s
unfolding action_of
action_read Alone l rest = refl
action_read Begin l rest = refl
action_read Add l rest = refl
action_read Apply l rest = refl
action_read Abandon l rest = refl

set_layers : (s : Stage) (l : ℕ) (rest : List ℕ) → layers_of valset (head s l ++ rest) ≡ chosen l
unfolding layers_of
set_layers s l rest = refl

-- a delete has no RAM to choose
no_ram : (l : ℕ) → delete_names l ≡ true → bit l ≡ false
no_ram l h =
    ⊎_elim (λ e. ap bit (eqb-true l 2 e))
    (λ r. ⊎_elim (λ e. ap bit (eqb-true l 4 e)) (λ e. ap bit (eqb-true l 6 e)) (or_cases (eqb l 4) (eqb l 6) r)) (or_cases (eqb l 2) (eqb l 4 || eqb l 6) h)

delete_layers : (s : Stage) (l : ℕ) (rest : List ℕ) → delete_names l ≡ true → layers_of valdel (head s l ++ rest) ≡ chosen l
unfolding layers_of
delete_layers s l rest h = ap (λ (b : Bool). record { ram = b; bbr = bit (l / 2); flash = bit (l / 4) }) (sym (no_ram l h))

pub set_head : (s : Stage) (l : ℕ) (rest : List ℕ) → HeadRead valset s l (head s l ++ rest)
set_head s l rest = record { version = refl; layers = set_layers s l rest; action = action_read s l rest }

pub delete_head : (s : Stage) (l : ℕ) (rest : List ℕ) → delete_names l ≡ true → HeadRead valdel s l (head s l ++ rest)
delete_head s l rest h = record { version = refl; layers = delete_layers s l rest h; action = action_read s l rest }

pub position_read : (l position : ℕ) (rest : List ℕ) → position < 2 ^ 16 → position_of ((0 ∷ l ∷ bytes_of 2 position) ++ rest) ≡ position
position_read l position rest small = ap number (take_at (bytes_of 2 position) rest 2 (length_bytes 2 position)) ∙ number_bytes 2 position small

-- One entry more

walk_end : {A : Type 0} (one : List ℕ → Read (List A)) (left place : ℕ) → walk one left place [] ≡ Ok []
unfolding walk
walk_end one zero place = refl
walk_end one (suc left) place = refl

walk_one : {A : Type 0} (one : List ℕ → Read (List A)) (left place n : ℕ) (a : List A) (bs : List ℕ) → 0 < length bs → one bs ≡ read n a
    → walk one (suc left) place bs ≡ ok_map (◌++◌ a) (walk one left (place + n) (drop n bs))
unfolding walk walking
walk_one one left place n a [] lt e = absurd (omega arith)
walk_one one left place n a (b ∷ bs) lt e = ap (λ (r : Read (List _)). walking r place (λ m. walk one left (place + m) (drop m (b ∷ bs)))) e

number_front : (n : ℕ) (rest : List ℕ) → n < 2 ^ 32 → number (take 4 (bytes_of 4 n ++ rest)) ≡ n
number_front n rest small = ap number (take_at (bytes_of 4 n) rest 4 (length_bytes 4 n)) ∙ number_bytes 4 n small

-- Pairs

key_small : (k : ℕ) → well_formed k ≡ true → k < 2 ^ 32
key_small k w =
    let a = and_parts (leb 1 (size_bits k)) _ w in
    let b = and_parts (leb (size_bits k) 5) _ a.1 in
    let c = and_parts (leb 1 (group_of k)) _ b.1 in
    let d = and_parts (leb (group_of k) 0xfe) _ c.1 in
    let e = and_parts (leb 1 (item_bits k)) _ d.1 in
    let f = and_parts (leb (item_bits k) 0xffe) _ e.1 in
    let size = leb-true (size_bits k) 5 b.0 in
    let group = leb-true (group_of k) 0xfe d.0 in
    let item = leb-true (item_bits k) 0xffe f.0 in
    let is = eqb-true k (size_bits k * 2 ^ 28 + group_of k * 2 ^ 16 + item_bits k) f.1 in
    omega arith

-- a value that fits comes back whole
value_kept : (o : Option Size) (v : ℕ) → fits_size o v ≡ true → number (bytes_of (bytes_at o) v) % limit_at o ≡ v
value_kept None v f = absurd (cc)
value_kept (Some Bit) v f = let small = ltb-true v 2 f in let same = number_bytes 1 v (omega arith) in omega arith
value_kept (Some One) v f = let small = ltb-true v (2 ^ 8) f in let same = number_bytes 1 v (omega arith) in omega arith
value_kept (Some Two) v f = let small = ltb-true v (2 ^ 16) f in let same = number_bytes 2 v (omega arith) in omega arith
value_kept (Some Four) v f = let small = ltb-true v (2 ^ 32) f in let same = number_bytes 4 v (omega arith) in omega arith
value_kept (Some Eight) v f = let small = ltb-true v (2 ^ 64) f in let same = number_bytes 8 v (omega arith) in omega arith

whole_setting : (s : Setting) → setting_fault s ≡ None → (well_formed s.key ≡ true) × (fits_key s.key s.value ≡ true)
whole_setting s e = go (well_formed s.key) (fits_key s.key s.value) e
  where
    go : (a b : Bool) → cond a (cond b None (Some HostFault.UnfitValue)) (Some HostFault.IllFormedKey) ≡ None → (a ≡ true) × (b ≡ true)
    go true true e = (refl, refl)
    go true false e = absurd (cc)
    go false b e = absurd (cc)

-- a pair's bytes are those of its key, and behind them w bytes of its value
pair_length : (s : Setting) → length (pair_bytes s) ≡ 4 + bytes_at (size_of s.key)
pair_length s = length-append (bytes_of 4 s.key) (bytes_of (bytes_at (size_of s.key)) s.value) ∙ ap₂ (λ (a b : ℕ). a + b) (length_bytes 4 s.key) (length_bytes (bytes_at (size_of s.key)) s.value)

abbrev read_at : Catalogue → List ℕ → ℕ → Read Data
read_at cat bs k =
    let w : ℕ = bytes_at (size_of k) in
    let v : ℕ = number (take w (drop 4 bs)) % limit_at (size_of k) in
    cond (ltb (length bs) (4 + w)) cut (cond (is_known cat k) (read (4 + w) (record { key = k; value = Some v } ∷ [])) unknown)

pair_here : (cat : Catalogue) (s : Setting) (rest : List ℕ) → setting_fault s ≡ None → is_known cat s.key ≡ true
    → pair_read cat (pair_bytes s ++ rest) ≡ read (4 + bytes_at (size_of s.key)) (put s ∷ [])
unfolding pair_read
pair_here cat s rest ok known =
    let w : ℕ = bytes_at (size_of s.key) in
    let good = whole_setting s ok in
    let bs : List ℕ = pair_bytes s ++ rest in
    let split : bs ≡ bytes_of 4 s.key ++ (bytes_of w s.value ++ rest) = append_assoc (bytes_of 4 s.key) (bytes_of w s.value) rest in
    let key : number (take 4 bs) ≡ s.key = ap (λ (xs : List ℕ). number (take 4 xs)) split ∙ number_front s.key (bytes_of w s.value ++ rest) (key_small s.key good.0) in
    let behind : drop 4 bs ≡ bytes_of w s.value ++ rest = ap (drop 4) split ∙ drop_at (bytes_of 4 s.key) (bytes_of w s.value ++ rest) 4 (length_bytes 4 s.key) in
    let value : number (take w (drop 4 bs)) % limit_at (size_of s.key) ≡ s.value =
    ap (λ (xs : List ℕ). number (take w xs) % limit_at (size_of s.key)) behind
    ∙ ap (λ (xs : List ℕ). number xs % limit_at (size_of s.key)) (take_at (bytes_of w s.value) rest w (length_bytes w s.value)) ∙ value_kept (size_of s.key) s.value good.1 in
    let long : ltb (length bs) (4 + w) ≡ false = le-ltb (length bs) (4 + w) (let a = length-append (pair_bytes s) rest in let b = pair_length s in omega arith) in
    ap (read_at cat bs) key ∙ cond-false _ _ _ long ∙ cond-true _ _ _ known ∙ ap (λ (v : ℕ). read (4 + w) (record { key = s.key; value = Some v } ∷ [])) value

pairs_read : (cat : Catalogue) (ss : List Setting) (left place : ℕ) → length ss ≤ left → first_fault setting_fault ss ≡ None → all_known cat ss ≡ true
    → walk (pair_read cat) left place (pairs_bytes ss) ≡ Ok (map put ss)
unfolding pairs_bytes
pairs_read cat [] left place le ok known = walk_end (pair_read cat) left place
pairs_read cat (s ∷ ss) zero place le ok known = absurd (omega arith)
pairs_read cat (s ∷ ss) (suc left) place le ok known =
    let w : ℕ = bytes_at (size_of s.key) in
    let parts = none_both (setting_fault s) (first_fault setting_fault ss) ok in
    let k = and_parts (is_known cat s.key) (all_known cat ss) known in
    let long = length-append (pair_bytes s) (pairs_bytes ss) in
    let len = pair_length s in
    walk_one (pair_read cat) left place (4 + w) (put s ∷ []) (pair_bytes s ++ pairs_bytes ss) (omega arith) (pair_here cat s (pairs_bytes ss) parts.0 k.0)
    ∙ ap (λ (bs : List ℕ). ok_map (◌++◌ (put s ∷ [])) (walk (pair_read cat) left (place + (4 + w)) bs)) (drop_at (pair_bytes s) (pairs_bytes ss) (4 + w) len)
    ∙ ap (ok_map (◌++◌ (put s ∷ []))) (pairs_read cat ss left (place + (4 + w)) (omega arith) parts.1 k.1)
  where
    none_both : (a b : Option HostFault) → option_or a b ≡ None → (a ≡ None) × (b ≡ None)
    none_both None b e = (refl, e)
    none_both (Some f) b e = absurd (cc)

pub set_changes : (cat : Catalogue) (s : Stage) (l : ℕ) (ss : List Setting) → length ss ≤ 64 → first_fault setting_fault ss ≡ None → all_known cat ss ≡ true
    → data_of cat valset (set_payload s l ss) ≡ Ok (map put ss)
unfolding data_of
set_changes cat s l ss few ok known = pairs_read cat ss 64 4 few ok known

-- Keys and selectors

key_here : (cat : Catalogue) (n : ℕ) (rest : List ℕ) → n < 2 ^ 32 → some_key (keys_named (selector_of n) cat) ≡ true
    → key_read cat (bytes_of 4 n ++ rest) ≡ read 4 (keys_named (selector_of n) cat)
unfolding key_read
key_here cat n rest small some =
    let bs : List ℕ = bytes_of 4 n ++ rest in
    let long : ltb (length bs) 4 ≡ false = le-ltb (length bs) 4 (let a = length-append (bytes_of 4 n) rest in let b = length_bytes 4 n in omega arith) in
    cond-false _ _ _ long ∙ ap (λ (k : ℕ). named_read (keys_named (selector_of k) cat)) (number_front n rest small) ∙ go (keys_named (selector_of n) cat) some
  where
    go : (ks : List ℕ) → some_key ks ≡ true → named_read ks ≡ read 4 ks
    go [] e = absurd (cc)
    go (k ∷ ks) e = refl

-- whatever is made of the keys that one of them names
module _ {A : Type 0} (cat : Catalogue) (one : List ℕ → Read (List A)) (what : List ℕ → List A) (none : what [] ≡ []) (joined : (xs ys : List ℕ) → what (xs ++ ys) ≡ what xs ++ what ys)
    (here : (n : ℕ) (rest : List ℕ) → n < 2 ^ 32 → some_key (keys_named (selector_of n) cat) ≡ true → one (bytes_of 4 n ++ rest) ≡ read 4 (what (keys_named (selector_of n) cat))) where
  numbers_read : (ns : List ℕ) (left place : ℕ) → length ns ≤ left → ((i : ℕ) → get_or ns i 0 < 2 ^ 32) → all_name cat ns ≡ true
      → walk one left place (numbers_bytes ns) ≡ Ok (what (named_by cat ns))
  unfolding numbers_bytes
  numbers_read [] left place le fit all = walk_end one left place ∙ ap Ok (sym none)
  numbers_read (n ∷ ns) zero place le fit all = absurd (omega arith)
  numbers_read (n ∷ ns) (suc left) place le fit all =
      let k = and_parts (some_key (keys_named (selector_of n) cat)) (all_name cat ns) all in
      let ks : List ℕ = keys_named (selector_of n) cat in
      let long = length-append (bytes_of 4 n) (numbers_bytes ns) in
      let len = length_bytes 4 n in
      walk_one one left place 4 (what ks) (bytes_of 4 n ++ numbers_bytes ns) (omega arith) (here n (numbers_bytes ns) (fit 0) k.0)
      ∙ ap (λ (bs : List ℕ). ok_map (◌++◌ (what ks)) (walk one left (place + 4) bs)) (drop_at (bytes_of 4 n) (numbers_bytes ns) 4 len)
      ∙ ap (ok_map (◌++◌ (what ks))) (numbers_read ns left (place + 4) (omega arith) (λ i. fit (suc i)) k.1)
      ∙ ap Ok (sym (joined ks (named_by cat ns)))

pub delete_changes : (cat : Catalogue) (s : Stage) (l : ℕ) (ns : List ℕ) → length ns ≤ 64 → ((i : ℕ) → get_or ns i 0 < 2 ^ 32) → all_name cat ns ≡ true
    → data_of cat valdel (delete_payload s l ns) ≡ Ok (map deleted (named_by cat ns))
unfolding data_of
delete_changes cat s l ns few fit all =
    numbers_read cat (deletion_read cat) (map deleted) refl (map-append deleted) (λ n rest small some. ap (read_map (map deleted)) (key_here cat n rest small some)) ns 64 4 few fit all

pub get_keys : (cat : Catalogue) (l position : ℕ) (ns : List ℕ) → length ns ≤ 64 → ((i : ℕ) → get_or ns i 0 < 2 ^ 32) → all_name cat ns ≡ true
    → keys_of cat (get_payload l position ns) ≡ Ok (named_by cat ns)
unfolding keys_of
get_keys cat l position ns few fit all =
    ap (walk (key_read cat) 64 4) (drop_at (0 ∷ l ∷ bytes_of 2 position) (numbers_bytes ns) 4 (ap (λ (k : ℕ). suc (suc k)) (length_bytes 2 position)))
    ∙ numbers_read cat (key_read cat) (λ (ks : List ℕ). ks) refl (λ xs ys. refl) (key_here cat) ns 64 4 few fit all

-- no data
pub no_changes_read : (cat : Catalogue) (id l : ℕ) (s : Stage) → data_of cat id (head s l) ≡ Ok []
unfolding data_of
no_changes_read cat id l s = go (eqb id valset)
  where
    go : (b : Bool) → cond b (walk (pair_read cat) 64 4 []) (walk (deletion_read cat) 64 4 []) ≡ Ok []
    go true = walk_end (pair_read cat) 64 4
    go false = walk_end (deletion_read cat) 64 4
