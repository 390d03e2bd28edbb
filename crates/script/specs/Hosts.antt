-- The commands of the host end: what the words behind each name are read as, and what is said of others.
use Rattle.std.specs.Prelude.{◌≡◌, ℕ, ◌+◌, ◌*◌, ◌<◌, ◌≤◌, ◌⊎◌, List, [], ◌∷◌, length, drop, slice_index_or, codes, IsErrAnd, IsErrOf, Ok, Err, Result, vec_items, vec_len, MatchResult, Vec}
use Rattle.std.specs.declared.alloc.Global.{Global}
use Rattle.layer.specs.declared.setting.Setting.{Setting}
use Rattle.script.specs.declared.fault.LineFault.{LineFault}
use Rattle.script.specs.declared.fault.LineFault.TheVariants.{UnknownCommand, NoMemory}
use Rattle.script.specs.declared.host.Asked.{Asked}
use Rattle.script.specs.declared.host.HostCommand.{HostCommand}
use Rattle.script.specs.declared.host.HostCommand.TheVariants.{Set, Delete, Get, BeginSets, BeginDeletes, Add, Apply, Abandon}
use Rattle.script.specs.declared.host.TheConstants.{SET, DELETE, GET, BEGIN, ADD, END}
use Rattle.script.specs.Fields.{reading, count_read, layer_read, position_read, key_read, value_read}
use Rattle.script.specs.Words.{Words, word, OneOf, Begins, IsForm, IsMade, ReadsOn, ReadsAlone, ReadsKeys}

-- the setting of a key and a value, where the pairs are counted from 0
abbrev pub setting_read : Words → ℕ → Result Setting LineFault
setting_read words i = reading (key_read (word words (2 * i))) (λ k. reading (value_read (word words (2 * i + 1))) (λ v. Ok (record { key = k; value = v })))

-- the first pairs are these settings
abbrev pub ArePairs : Words → List Setting → Type 0
ArePairs words ss = (i : ℕ) (d : Setting) → i < length ss → setting_read words i ≡ Ok (slice_index_or ss i d)

-- what is said of the first pair that is no setting: that there is no memory, that it has no value, or what a word of it is not
abbrev pub NoPair : List ℕ → Words → ℕ → LineFault → Type 0
NoPair form words i f = (f ≡ NoMemory) ⊎ (((length words ≡ 2 * i + 1) × IsForm form f) ⊎ ((2 * i + 1 < length words) × (setting_read words i ≡ Err f)))

-- keys and values in turn
abbrev pub ReadsSettings : List ℕ → Words → Result (Vec Setting Global) LineFault → Type 0
ReadsSettings form words r = MatchResult r (λ v. (length words ≡ 2 * vec_len v) × ArePairs words (vec_items v)) (λ f. (ss : List Setting) × ArePairs words ss × NoPair form words (length ss) f)

-- a size, layers and entries
pub record ReadsAsked {E : Type 0} (Reads : Words → Result (Vec E Global) LineFault → Type 0) (form : List ℕ) (words : Words) (r : Result (Asked E) LineFault) : Type 0 where
  pub two : 2 ≤ length words → ReadsOn (count_read (word words 0)) (λ room. ReadsOn (layer_read (word words 1)) (λ layers. IsMade (λ es. record { room = room; layers = layers; entries = es }) (Reads (drop 2 words)))) r
  pub others : length words < 2 → IsErrAnd r (IsForm form)

-- a size, a layer, a position and keys
pub record ReadsGet (words : Words) (r : Result HostCommand LineFault) : Type 0 where
  pub three : 3 ≤ length words → ReadsOn (count_read (word words 0)) (λ room. ReadsOn (layer_read (word words 1)) (λ layer. ReadsOn (position_read (word words 2)) (λ position. IsMade (Get room layer position) (ReadsKeys (drop 3 words))))) r
  pub others : length words < 3 → IsErrAnd r (IsForm GET.now)

-- which transaction begins, and with what
pub record ReadsBegin (words : Words) (r : Result HostCommand LineFault) : Type 0 where
  pub sets : Begins words (codes "set") → IsMade BeginSets (ReadsAsked (ReadsSettings BEGIN.now) BEGIN.now (drop 1 words)) r
  pub deletes : Begins words (codes "del") → IsMade BeginDeletes (ReadsAsked ReadsKeys BEGIN.now (drop 1 words)) r
  pub others : ¬ Begins words (codes "set") → ¬ Begins words (codes "del") → IsErrAnd r (IsForm BEGIN.now)

-- a size, and the same words as pairs and as keys
abbrev pub IsAdd : ℕ → Words → Result HostCommand LineFault → Type 0
IsAdd room words r = (ss : Result (Vec Setting Global) LineFault) × (ks : Result (Vec ℕ Global) LineFault) × (r ≡ Ok (Add room ss ks)) × ReadsSettings ADD.now words ss × ReadsKeys words ks

pub record ReadsAdd (words : Words) (r : Result HostCommand LineFault) : Type 0 where
  pub some : 0 < length words → ReadsOn (count_read (word words 0)) (λ room. IsAdd room (drop 1 words)) r
  pub none : length words ≡ 0 → IsErrAnd r (IsForm ADD.now)

abbrev pub host_names : List (List ℕ)
host_names = codes "hostset" ∷ codes "hostdel" ∷ codes "hostget" ∷ codes "hostbegin" ∷ codes "hostadd" ∷ codes "hostapply" ∷ codes "hostabandon" ∷ []

-- the words behind the name of a command of the host end
pub record ReadsHost (name : List ℕ) (words : Words) (r : Result HostCommand LineFault) : Type 0 where
  pub set : name ≡ codes "hostset" → IsMade Set (ReadsAsked (ReadsSettings SET.now) SET.now words) r
  pub delete : name ≡ codes "hostdel" → IsMade Delete (ReadsAsked ReadsKeys DELETE.now words) r
  pub get : name ≡ codes "hostget" → ReadsGet words r
  pub begin : name ≡ codes "hostbegin" → ReadsBegin words r
  pub add : name ≡ codes "hostadd" → ReadsAdd words r
  pub apply : name ≡ codes "hostapply" → ReadsAlone END.now Apply words r
  pub abandon : name ≡ codes "hostabandon" → ReadsAlone END.now Abandon words r
  pub known : OneOf host_names name ⊎ IsErrOf r UnknownCommand
