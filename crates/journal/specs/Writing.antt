-- Writing: which words stand in a buffer after a change.
use Rattle.std.specs.Prelude.{◌≡◌, ℕ, suc, ◌+◌, ◌-◌, ◌<◌, ◌≤◌, cond, List, [], ◌∷◌, ◌++◌, length, replicate, is_some, is_ok, Some, None, Ok, Err, Option, Result, ◌==◌, ◌≢◌, nat_le, slice_index_or, MatchOption}
use Rattle.frame.specs.Written.{patched}
use Rattle.layer.specs.declared.setting.Setting.{Setting}
use Rattle.layer.specs.Settings.{value_under, without}
use Rattle.layer.specs.Stores.{put_answer, remove_answer, clear_answer}
use Rattle.journal.specs.declared.fault.JournalFault.{JournalFault}
use Rattle.journal.specs.Words.{blank, removal_word, setting_words}
use Rattle.journal.specs.Inspecting.{any_record, Progress, progress, after_words, inspected, held_in, is_accepted}

-- the records of settings, in their order
unfoldable pub records_of : List Setting → List ℕ
records_of [] = []
records_of (s ∷ ss) = setting_words s.key s.value ++ records_of ss

-- how many words stand before the first blank
unfoldable pub used_in : List ℕ → ℕ
used_in [] = 0
used_in (w ∷ ws) = cond (w == blank) 0 (suc (used_in ws))

-- the place of the first blank word, or that there is none
abbrev pub FirstBlank : List ℕ → Option ℕ → Type 0
FirstBlank ws o =
    MatchOption o ((j : ℕ) → j < length ws → slice_index_or ws j 0 ≢ blank)
    (λ i. (i < length ws) × (slice_index_or ws i 0 ≡ blank) × ((j : ℕ) → j < i → slice_index_or ws j 0 ≢ blank))

-- words, and blanks behind them up to so many
abbrev pub filled : ℕ → List ℕ → List ℕ
filled count ws = ws ++ replicate (count - length ws) blank

-- A record is appended where it fits behind the used words, exactly too; else the other settings are written anew in ascending key order, then
-- what has to stand behind them, then blanks.
abbrev pub recorded : List ℕ → List Setting → List ℕ → List ℕ → List ℕ
recorded rs others last ws =
    cond (nat_le (used_in ws + length rs) (length ws)) (patched (used_in ws) rs ws) (filled (length ws) (records_of others ++ last))

-- what each call leaves; a refused one changes no word
abbrev pub words_put : ℕ → ℕ → List ℕ → List ℕ
words_put k v ws =
    cond (is_ok (put_answer (is_accepted ws) k v (held_in ws))) (recorded (setting_words k v) (without k (held_in ws)) (setting_words k v) ws) ws

-- removing what is not held writes nothing
abbrev pub words_removed : ℕ → List ℕ → List ℕ
words_removed k ws =
    cond (is_ok (remove_answer (is_accepted ws) k)) (cond (is_some (value_under k (held_in ws))) (recorded (removal_word k ∷ []) (without k (held_in ws)) [] ws) ws) ws

abbrev pub words_cleared : List ℕ → List ℕ
words_cleared ws = cond (is_ok (clear_answer (is_accepted ws))) (replicate (length ws) blank) ws

-- Words that leave a value under k, or none, where it was otherwise: read behind records that leave ss.
pub record Says (k : ℕ) (o : Option ℕ) (ss : List Setting) (ws : List ℕ) : Type 0 where
  pub at : ℕ
  pub after : Progress
  pub read : after_words at ws (Ok (progress ss any_record)) ≡ Ok after
  pub other : value_under k ss ≢ o
  pub left : value_under k after.held ≡ o

-- So many words are the least that the format allows: no words that say so are fewer, and no more than these are used anew.
pub record Least (k : ℕ) (o : Option ℕ) (count : ℕ) (old new : List ℕ) : Type 0 where
  pub words : (ws : List ℕ) → Says k o (held_in old) ws → count ≤ length ws
  pub used : used_in new ≤ used_in old + count

-- an inspection that told a fault, or settings
abbrev pub told_as : Option JournalFault → List Setting → Result (List Setting) JournalFault
told_as None ss = Ok ss
told_as (Some f) ss = Err f

-- A record whose reading changes what words hold into ss, behind them or behind the settings under other keys than k.
pub record Change (ws : List ℕ) (used : ℕ) (ss : List Setting) (k : ℕ) (rs last : List ℕ) : Type 0 where
  pub before : List Setting
  pub accepted : inspected ws ≡ Ok before
  pub counted : used ≡ used_in ws
  pub appends : (at : ℕ) → after_words at rs (Ok (progress before any_record)) ≡ Ok (progress ss any_record)
  pub solid : used_in rs ≡ length rs
  pub lasts : (at : ℕ) → after_words at last (Ok (progress (without k ss) any_record)) ≡ Ok (progress ss any_record)
  pub lasting : used_in last ≡ length last
  pub room : length (records_of (without k ss)) + length last ≤ 640

-- Words hold settings, and so many of them are used.
pub record Written (ws : List ℕ) (ss : List Setting) (used : ℕ) : Type 0 where
  pub accepted : inspected ws ≡ Ok ss
  pub counted : used ≡ used_in ws
