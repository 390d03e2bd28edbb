-- The walk over the keys and selectors of a get, one entry at a time.
use Rattle.std.specs.Prelude.{◌≡◌, ℕ, ◌+◌, ◌-◌, ◌*◌, ◌<◌, min, List, ◌++◌, length, Ok, Err, Result}
use Rattle.item.specs.Selectors.{selector_of}
use Rattle.catalogue.specs.declared.entries.Entry.{Entry}
use Rattle.reference.specs.declared.refusal.Refusal.{Refusal}
use Rattle.reference.specs.Requests.{ok_map, keys_named, key_read, walk}

-- of keys that are only checked nothing is kept
abbrev pub nothing : List ℕ → Unit {0}
nothing ks = tt

-- the keys in what is left of the payload behind so many entries
abbrev pub keys_behind : List Entry → ℕ → List ℕ → Result (List ℕ) Refusal
keys_behind es before bs = walk (key_read es) (64 - before) (4 + 4 * before) bs

-- an entry of four bytes, or of all that are left: the walk ends there with a refusal, or goes on behind it
abbrev pub EntryRead : List Entry → ℕ → List ℕ → Result ℕ Refusal → Type 0
EntryRead es before bs (Err e) =
    (rest : List ℕ) → 0 < length bs → length bs ≡ min 4 (length (bs ++ rest)) → keys_behind es before (bs ++ rest) ≡ Err e
EntryRead es before bs (Ok n) =
    (before < 64)
    × ((rest : List ℕ) → 0 < length bs → length bs ≡ min 4 (length (bs ++ rest))
    → keys_behind es before (bs ++ rest) ≡ ok_map (◌++◌ (keys_named (selector_of n) es)) (keys_behind es (before + 1) rest))
