use Rattle.std.proofs.Common.{◌≡◌, Ok, refl, rules, arith}
use Rattle.script.specs.Fields.{count_read, layer_read}
use Rattle.script.specs.Words.{word, ReadsKeys}
use Rattle.script.proofs.Words.{on, behind}
use Rattle.script.proofs.host.delete_in.Goals as goal

pub returns : goal.returns
returns c =
    let words = c.args.words.now in
    let room : count_read (word words 0) ≡ Ok c.in_ok-count_in.field-0 = search rules in
    let layers : layer_read (word words 1) ≡ Ok c.in_ok-layer_in.field-0 = search rules in
    let keys = behind 2 words (λ ws. ReadsKeys ws (Ok c.in_ok-numbers_in.field-0)) c.in_ok-numbers_in.ensures in
    record {
      two = λ _. on _ _ _ _ room (on _ _ _ _ layers (c.in_ok-numbers_in.field-0, refl, keys));
      others = λ h. absurd (omega arith);
    }
