use Rattle.store.specs.Slots.{settings_of}
use Rattle.layer.specs.Settings.{without}
use Rattle.journal.specs.Writing.{records_of}
use Rattle.journal.proofs.Walking.{blanks_behind}
use Rattle.journal.proofs.writing.rewrite.Goals as goal

pub returns-clause-words : goal.returns-clause-words
returns-clause-words c =
    blanks_behind (records_of (without c.args.change.now.key (settings_of c.args.held.now.slots))) _ _ _ _ _ _ c.requires c.write_others-place.ensures.count c.write_others-place.ensures.words c.write_words-used.ensures.place c.write_words-used.ensures.words _ (c.fill.ensures.after (λ y e. e))
