use Rattle.std.proofs.Common.{◌≡◌, map, take, Some, vec_items}
use Rattle.script.specs.Words.{byte_in}
use Rattle.script.proofs.reading.bytes_in.Given as goal

abbrev pub invariant-loop-word : goal.invariant-loop-word
invariant-loop-word l = map Some (vec_items l.bytes) ≡ map (λ w. byte_in w.now) (take l.word-index l.words)
