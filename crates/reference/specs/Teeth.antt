-- Receivers that are wrong break the law: a history each, with the layers that such a receiver would leave.
use Rattle.std.specs.Prelude.{[], ◌∷◌, ◌++◌, Some, None}
use Rattle.layer.specs.Settings.{setting, with_value}
use Rattle.catalogue.specs.Bench.{bench}
use Rattle.reference.specs.declared.refusal.Verdict.TheVariants.{Ack}
use Rattle.reference.specs.declared.call.Battery.TheVariants.{Kept, Lost}
use Rattle.reference.specs.Stores.{Settings}
use Rattle.reference.specs.Parts.{settings_by, default_of}
use Rattle.reference.specs.Events.{take_piece, answer_into, took, nothing_whole, told, looked, restarted, History}
use Rattle.reference.specs.Receiver.{run}
use Rattle.reference.specs.Law.{Law}
use Rattle.reference.specs.Bench.{bench_parts, set42, bbr05, ack_set, opening, adding, closing}

abbrev pub Breaks : History → Settings → Settings → Settings → Type 0
Breaks h ram bbr flash = Law bench_parts h ram bbr flash → ⊥

abbrev pub defaults : Settings
defaults = settings_by default_of bench

-- a transaction that sets item 3 to 1 and item 4 to 2 in RAM
abbrev pub transaction_told : History
transaction_told = (run bench_parts (take_piece (opening ++ adding ++ closing) ∷ answer_into 790 ∷ answer_into 790 ∷ answer_into 790 ∷ [])).history

-- item 2 was set to 42 in RAM, and to 05 in BBR
abbrev pub ram_set : History
ram_set = told 0 6 0x8a Ack ack_set ∷ took set42 17 ∷ []

abbrev pub bbr_set : History
bbr_set = told 0 6 0x8a Ack ack_set ∷ took bbr05 17 ∷ []

pub record Teeth : Type 0 where
  -- answers "nothing whole" while a whole frame is held
  pub early : (ram bbr flash : Settings) → Breaks (nothing_whole 0 ∷ took set42 17 ∷ []) ram bbr flash
  -- queues the first frame of a transaction, and only acknowledges the rest
  pub first_only : (bbr flash : Settings) → Breaks transaction_told (with_value 0x2091033b 1 defaults) bbr flash
  -- never touches its stores
  pub untouched : (ram flash : Settings) → Breaks bbr_set ram [] flash
  -- tells a frame twice
  pub twice : (ram bbr flash : Settings) → Breaks (told 0 6 0x8a Ack ack_set ∷ ram_set) ram bbr flash
  -- tells another frame than was heard, before a restart
  pub other : (ram bbr flash : Settings) → Breaks (restarted Kept None ∷ told 0 6 0x8b Ack ack_set ∷ took set42 17 ∷ []) ram bbr flash
  -- writes no verdict
  pub no_verdict : (ram bbr flash : Settings) → Breaks (told 0 6 0x8a Ack [] ∷ took set42 17 ∷ []) ram bbr flash
  -- writes two verdicts
  pub two_verdicts : (ram bbr flash : Settings) → Breaks (told 0 6 0x8a Ack (ack_set ++ ack_set) ∷ took set42 17 ∷ []) ram bbr flash
  -- keeps RAM over a restart
  pub not_stacked : (bbr flash : Settings) → Breaks (restarted Kept None ∷ ram_set) (with_value 0x20510001 0x42 defaults) bbr flash
  -- keeps BBR over a lost battery
  pub not_lost : (ram flash : Settings) → Breaks (restarted Lost None ∷ bbr_set) ram (setting 0x20510001 5 ∷ []) flash
  -- shows a value that was set over
  pub stale : (ram bbr flash : Settings) → Breaks (looked 0 0x20510001 (Some 65) ∷ ram_set) ram bbr flash
  -- answers no item at a restart although the stack is unfit
  pub unnamed : (ram bbr flash : Settings) → Breaks (restarted Kept None ∷ bbr_set) ram bbr flash
