use Rattle.std.proofs.Common.{◌≡◌, [], Ok, drop}
use Rattle.journal.specs.Inspecting.{any_record, progress, after_words}
use Rattle.journal.specs.Meaning.{progress_of}
use Rattle.journal.proofs.reading.read_all.Given as goal

abbrev pub invariant-loop-place : goal.invariant-loop-place
invariant-loop-place l = after_words l.place (drop l.place l.words) (Ok (progress_of l.reading)) ≡ after_words 0 l.words (Ok (progress [] any_record))
