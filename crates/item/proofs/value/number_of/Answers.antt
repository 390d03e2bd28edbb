use Rattle.std.proofs.Common.{◌≡◌, ℕ, ◌<◌, ◌∙◌, get_or, rules, arith}
use Rattle.std.proofs.lemmas.List.{take_all}
use Rattle.item.specs.Values.{number}
use Rattle.item.proofs.Values.{number_small, bytes_back, padded_number}
use Rattle.item.proofs.value.number_of.Goals as goal

pub returns : goal.returns
returns c =
    let bytes = c.args.bytes.now in
    let fit : (i : ℕ) → get_or bytes i 0 < 256 = λ i. let known = c.type_inv.bytes i in search rules in
    let is : c.from_le_bytes.result ≡ number bytes = c.from_le_bytes.ensures ∙ padded_number bytes c.padded.result (c.padded.ensures.value ∙ take_all 8 bytes (omega (arith, c.requires))) c.padded.ensures.rest c.padded.ensures.len in
    record { value = is; bound = rw is (number_small bytes fit); back = rw is (bytes_back bytes fit) }
