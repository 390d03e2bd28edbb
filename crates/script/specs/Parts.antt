-- The parts of a set-up: what the words behind each name are read as, and what is said of others.
use Rattle.std.specs.Prelude.{◌≡◌, ℕ, ◌-◌, ◌<◌, ◌≢◌, ◌⊎◌, cond, nat_le, List, [], ◌∷◌, ◌++◌, map, length, take, drop, replicate, codes, IsErrAnd, IsErrOf, Some, Ok, Err, Result, vec_items, MatchResult, Vec}
use Rattle.std.specs.declared.alloc.Global.{Global}
use Rattle.journal.specs.Words.{blank}
use Rattle.script.specs.declared.command.Part.{Part}
use Rattle.script.specs.declared.command.Part.TheVariants.{Entry, Need, Store, Put, Remove, Clear}
use Rattle.script.specs.declared.command.Choice.TheVariants.{Bare, Saved}
use Rattle.script.specs.declared.command.Medium.{Medium}
use Rattle.script.specs.declared.command.Medium.TheVariants.{Slots, Absent, Words as Journal}
use Rattle.script.specs.declared.command.Place.{Place}
use Rattle.script.specs.declared.command.Place.TheVariants.{Bbr, Flash}
use Rattle.script.specs.declared.fault.LineFault.{LineFault}
use Rattle.script.specs.declared.fault.LineFault.TheVariants.{UnknownCommand, NoWord, NoNumber}
use Rattle.script.specs.declared.reading.TheConstants.{ENTRY, NEED, STORE, PUT, REMOVE, CLEAR, MOST_WORDS}
use Rattle.script.specs.Fields.{reading, count_read, key_read, value_read, entry_read, need_read}
use Rattle.script.specs.Words.{Words, word, OneOf, IsOnly, Begins, IsForm, IsMade, ReadsOn, NotAll, word_in}

-- five words, of an entry
pub record ReadsEntry (words : Words) (r : Result Part LineFault) : Type 0 where
  pub five : length words ≡ 5 → r ≡ reading (entry_read (word words 0) (word words 1) (word words 2) (word words 3) (word words 4)) (λ e. Ok (Entry e))
  pub others : length words ≢ 5 → IsErrAnd r (IsForm ENTRY.now)

-- two words, of a need
pub record ReadsNeed (words : Words) (r : Result Part LineFault) : Type 0 where
  pub two : length words ≡ 2 → r ≡ reading (need_read (word words 0) (word words 1)) (λ n. Ok (Need n))
  pub others : length words ≢ 2 → IsErrAnd r (IsForm NEED.now)

-- a place by its name, with which what is read goes on; of any other word the form is told
pub record ReadsPlace {X : Type 0} (form text : List ℕ) (f : Place → Result X LineFault) (r : Result X LineFault) : Type 0 where
  pub bbr : text ≡ codes "bbr" → r ≡ f Bbr
  pub flash : text ≡ codes "flash" → r ≡ f Flash
  pub others : text ≢ codes "bbr" → text ≢ codes "flash" → IsErrAnd r (IsForm form)

-- three words: a place, a key and a value
pub record ReadsPut (words : Words) (r : Result Part LineFault) : Type 0 where
  pub three : length words ≡ 3 → ReadsPlace PUT.now (word words 0) (λ p. reading (key_read (word words 1)) (λ k. reading (value_read (word words 2)) (λ v. Ok (Put p k v)))) r
  pub others : length words ≢ 3 → IsErrAnd r (IsForm PUT.now)

-- two words: a place and a key
pub record ReadsRemove (words : Words) (r : Result Part LineFault) : Type 0 where
  pub two : length words ≡ 2 → ReadsPlace REMOVE.now (word words 0) (λ p. reading (key_read (word words 1)) (λ k. Ok (Remove p k))) r
  pub others : length words ≢ 2 → IsErrAnd r (IsForm REMOVE.now)

-- one word, a place
pub record ReadsClear (words : Words) (r : Result Part LineFault) : Type 0 where
  pub one : length words ≡ 1 → ReadsPlace CLEAR.now (word words 0) (λ p. Ok (Clear p)) r
  pub others : length words ≢ 1 → IsErrAnd r (IsForm CLEAR.now)

-- how many words a buffer has
abbrev pub size_read : List ℕ → Result ℕ LineFault
size_read text = reading (count_read text) (λ n. cond (nat_le n MOST_WORDS) (Ok n) (Err (NoNumber MOST_WORDS)))

-- a buffer of so many words: those that are given, as far as there is room, and blanks behind them
abbrev pub IsBuffer : ℕ → Words → Vec ℕ Global → Type 0
IsBuffer size words v = (given : List ℕ) × (map Some given ≡ map (λ w. word_in w.now) words) × (vec_items v ≡ take size given ++ replicate (size - length given) blank)

-- a size, and the words that are given
pub record ReadsBuffer (form : List ℕ) (words : Words) (r : Result (Vec ℕ Global) LineFault) : Type 0 where
  pub some : 0 < length words → ReadsOn (size_read (word words 0)) (λ size r. MatchResult r (IsBuffer size (drop 1 words)) (NotAll NoWord word_in (drop 1 words))) r
  pub none : length words ≡ 0 → IsErrAnd r (IsForm form)

-- a table of slots, nothing, or a journal on a buffer
pub record ReadsMedium (words : Words) (r : Result Medium LineFault) : Type 0 where
  pub slots : IsOnly words (codes "slots") → r ≡ Ok Slots
  pub absent : IsOnly words (codes "absent") → r ≡ Ok Absent
  pub journal : Begins words (codes "journal") → IsMade Journal (ReadsBuffer STORE.now (drop 1 words)) r
  pub others : ¬ IsOnly words (codes "slots") → ¬ IsOnly words (codes "absent") → ¬ Begins words (codes "journal") → IsErrAnd r (IsForm STORE.now)

-- such a medium, under a saver or bare
pub record ReadsStore (place : Place) (words : Words) (r : Result Part LineFault) : Type 0 where
  pub saved : Begins words (codes "saver") → IsMade (λ m. Store place (Saved m)) (ReadsMedium (drop 1 words)) r
  pub bare : ¬ Begins words (codes "saver") → IsMade (λ m. Store place (Bare m)) (ReadsMedium words) r

abbrev pub part_names : List (List ℕ)
part_names = codes "entry" ∷ codes "need" ∷ codes "bbr" ∷ codes "flash" ∷ codes "put" ∷ codes "remove" ∷ codes "clear" ∷ []

-- the words behind the name of a part of a set-up
pub record ReadsPart (name : List ℕ) (words : Words) (r : Result Part LineFault) : Type 0 where
  pub entry : name ≡ codes "entry" → ReadsEntry words r
  pub need : name ≡ codes "need" → ReadsNeed words r
  pub bbr : name ≡ codes "bbr" → ReadsStore Bbr words r
  pub flash : name ≡ codes "flash" → ReadsStore Flash words r
  pub put : name ≡ codes "put" → ReadsPut words r
  pub remove : name ≡ codes "remove" → ReadsRemove words r
  pub clear : name ≡ codes "clear" → ReadsClear words r
  pub known : OneOf part_names name ⊎ IsErrOf r UnknownCommand
