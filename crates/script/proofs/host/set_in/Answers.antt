use Rattle.std.proofs.Common.{◌≡◌, Ok, refl, rules, arith}
use Rattle.script.specs.Fields.{count_read, layer_read}
use Rattle.script.specs.Words.{word}
use Rattle.script.specs.Hosts.{ReadsSettings}
use Rattle.script.proofs.Words.{on, behind}
use Rattle.script.proofs.host.set_in.Goals as goal

pub returns : goal.returns
returns c =
    let words = c.args.words.now in
    let room : count_read (word words 0) ≡ Ok c.in_ok-count_in.field-0 = search rules in
    let layers : layer_read (word words 1) ≡ Ok c.in_ok-layer_in.field-0 = search rules in
    let pairs = behind 2 words (λ ws. ReadsSettings c.args.form.now ws (Ok c.in_ok-settings_in.field-0)) c.in_ok-settings_in.ensures in
    record {
      two = λ _. on _ _ _ _ room (on _ _ _ _ layers (c.in_ok-settings_in.field-0, refl, pairs));
      others = λ h. absurd (omega arith);
    }
