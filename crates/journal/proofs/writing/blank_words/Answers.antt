use Rattle.journal.proofs.Changes.{blank_all}
use Rattle.journal.proofs.writing.blank_words.Goals as goal

pub returns-clause-written : goal.returns-clause-written
returns-clause-written c = blank_all _ _ c.requires (c.fill.ensures.after (λ y e. e))
