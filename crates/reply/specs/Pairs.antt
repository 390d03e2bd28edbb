-- The pairs of a values message: a key in four bytes, and behind it as many bytes of a value as its size has.
use Rattle.std.specs.Prelude.{ℕ, zero, suc, ◌+◌, cond, List, [], ◌∷◌, drop, Some, None, Ok, Err, Option, Result}
use Rattle.std.specs.Option.{option_map}
use Rattle.item.specs.declared.key.Size.{Size}
use Rattle.item.specs.Keys.{size_of, well_formed}
use Rattle.item.specs.Values.{value_read}
use Rattle.layer.specs.declared.setting.Setting.{Setting}
use Rattle.layer.specs.Settings.{setting}
use Rattle.reference.specs.Requests.{bytes_at}
use Rattle.request.specs.Keys.{key_in}
use Rattle.reply.specs.declared.fault.ReadFault.{ReadFault}
use Rattle.reply.specs.declared.fault.ReadFault.TheVariants.{BadPair}

-- behind a key of this size
abbrev pub value_under : ℕ → Option Size → List ℕ → Option Setting
value_under k None bs = None
value_under k (Some s) bs = option_map (setting k) (value_read s bs)

abbrev pub pair_under : Option ℕ → List ℕ → Option Setting
pair_under None bs = None
pair_under (Some k) bs = cond (well_formed k) (value_under k (size_of k) bs) None

-- The pair at the front; none where its key is ill-formed or the bytes end inside it.
unfoldable pub first_pair : List ℕ → Option Setting
first_pair bs = pair_under (key_in bs) (drop 4 bs)

-- how many bytes of a pair stand behind its first, and how many it has
abbrev pub pair_tail : Setting → ℕ
pair_tail s = 3 + bytes_at (size_of s.key)

abbrev pub pair_size : Setting → ℕ
pair_size s = suc (pair_tail s)

-- one pair in front of those that are read behind it
abbrev pub in_front_of : Setting → Result (List Setting) ReadFault → Result (List Setting) ReadFault
in_front_of s (Ok ss) = Ok (s ∷ ss)
in_front_of s (Err f) = Err f

-- The pairs, one behind the other to the end of the bytes, or the place of the first that is none. place: that of the first byte;
-- inside: how many bytes from here on belong to a pair that is read already.
unfoldable pub pairs_at : Option Setting → ℕ → (ℕ → Result (List Setting) ReadFault) → Result (List Setting) ReadFault
pairs_at None place on = Err (BadPair place)
pairs_at (Some s) place on = in_front_of s (on (pair_tail s))

unfoldable pub pairs_from : ℕ → ℕ → List ℕ → Result (List Setting) ReadFault
pairs_from place inside [] = Ok []
pairs_from place zero (x ∷ xs) = pairs_at (first_pair (x ∷ xs)) place (λ k. pairs_from (suc place) k xs)
pairs_from place (suc k) (x ∷ xs) = pairs_from (suc place) k xs

abbrev pub pairs_read : ℕ → List ℕ → Result (List Setting) ReadFault
pairs_read place bs = pairs_from place 0 bs

-- the pairs that were read, where all are pairs
abbrev pub settings_of : Result (List Setting) ReadFault → List Setting
settings_of (Ok ss) = ss
settings_of (Err f) = []

unfoldable pub settings_in : List ℕ → List Setting
settings_in bs = settings_of (pairs_read 0 bs)
