use Rattle.std.proofs.Common.{◌≡◌, map, take, Some, vec_items}
use Rattle.script.specs.Words.{word_in}
use Rattle.script.proofs.host.numbers_in.Given as goal

abbrev pub invariant-loop-word : goal.invariant-loop-word
invariant-loop-word l = map Some (vec_items l.numbers) ≡ map (λ w. word_in w.now) (take l.word-index l.words)
