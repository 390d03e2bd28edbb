use Rattle.std.proofs.Common.{rules}
use Rattle.frame.proofs.Written.{patched_part}
use Rattle.journal.proofs.writing.write_words.Goals as goal

pub returns-clause-words : goal.returns-clause-words
returns-clause-words c = search (rules, patched_part)
