-- What a receiver hears and reads of the requests that a host writes.
use Rattle.std.specs.Prelude.{◌≡◌, ℕ, ◌/◌, Bool, true, false, ◌&&◌, List, [], ◌∷◌, ◌++◌, map, Some, Ok, slice_index}
use Rattle.frame.specs.Scanning.{HeardAs}
use Rattle.item.specs.Selectors.{selector_of}
use Rattle.layer.specs.declared.setting.Setting.{Setting}
use Rattle.reference.specs.declared.layers.Layers.{Layers}
use Rattle.reference.specs.Requests.{Catalogue, valset, valdel, bit, layers_of, action_of, is_known, keys_named, Change, deleted, data_of, keys_of}
use Rattle.reference.specs.Receiver.{position_of}
use Rattle.host.specs.declared.stage.Stage.{Stage}
use Rattle.host.specs.Requests.{version_at, action_at, head, set_payload, delete_payload, get_payload, request, set_request, delete_request, get_request}

-- the layers that a byte chooses: bit 0 RAM, 1 BBR, 2 Flash
abbrev pub chosen : ℕ → Layers
chosen l = record { ram = bit l; bbr = bit (l / 2); flash = bit (l / 4) }

-- The head of a set or delete is read as it was meant.
pub record HeadRead (id : ℕ) (s : Stage) (l : ℕ) (p : List ℕ) : Type 0 where
  pub version : slice_index p 0 ≡ version_at s
  pub layers : layers_of id p ≡ chosen l
  pub action : action_of p ≡ action_at s

-- the change that a pair means
abbrev pub put : Setting → Change
put s = record { key = s.key; value = Some s.value }

abbrev pub all_known : Catalogue → List Setting → Bool
all_known cat [] = true
all_known cat (s ∷ ss) = is_known cat s.key && all_known cat ss

-- A set is heard as one frame with nothing before or behind it, and read as it was meant: under each catalogue that has its keys, its data are its
-- pairs, in their order.
pub record SetHeard (s : Stage) (l : ℕ) (ss : List Setting) (bs : List ℕ) : Type 0 where
  pub frame : HeardAs (set_request s l ss) bs
  pub head_read : HeadRead valset s l (set_payload s l ss)
  pub changes : (cat : Catalogue) → all_known cat ss ≡ true → data_of cat valset (set_payload s l ss) ≡ Ok (map put ss)

-- the keys that numbers name, one number after the other
abbrev pub named_by : Catalogue → List ℕ → List ℕ
named_by cat [] = []
named_by cat (n ∷ ns) = keys_named (selector_of n) cat ++ named_by cat ns

abbrev pub some_key : List ℕ → Bool
some_key [] = false
some_key (k ∷ ks) = true

-- each of them names some
abbrev pub all_name : Catalogue → List ℕ → Bool
all_name cat [] = true
all_name cat (n ∷ ns) = some_key (keys_named (selector_of n) cat) && all_name cat ns

-- A delete, likewise: its data are the keys that its keys and selectors name.
pub record DeleteHeard (s : Stage) (l : ℕ) (ns : List ℕ) (bs : List ℕ) : Type 0 where
  pub frame : HeardAs (delete_request s l ns) bs
  pub head_read : HeadRead valdel s l (delete_payload s l ns)
  pub changes : (cat : Catalogue) → all_name cat ns ≡ true → data_of cat valdel (delete_payload s l ns) ≡ Ok (map deleted (named_by cat ns))

-- A get: version 0, its layer and its position, and the keys that its keys and selectors name.
pub record GetHeard (l position : ℕ) (ns : List ℕ) (bs : List ℕ) : Type 0 where
  pub frame : HeardAs (get_request l position ns) bs
  pub version : slice_index (get_payload l position ns) 0 ≡ 0
  pub layer : slice_index (get_payload l position ns) 1 ≡ l
  pub position_is : position_of (get_payload l position ns) ≡ position
  pub keys : (cat : Catalogue) → all_name cat ns ≡ true → keys_of cat (get_payload l position ns) ≡ Ok (named_by cat ns)

-- A frame that ends a transaction: it has no data.
pub record EndHeard (id : ℕ) (s : Stage) (l : ℕ) (bs : List ℕ) : Type 0 where
  pub frame : HeardAs (request id (head s l)) bs
  pub head_read : HeadRead id s l (head s l)
  pub changes : (cat : Catalogue) → data_of cat id (head s l) ≡ Ok []
