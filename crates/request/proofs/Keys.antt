-- The key that four bytes are.
use Rattle.std.proofs.Common.{◌≡◌, ℕ, ◌^◌, ◌<◌, List, take, Some, sym, ap, ◌∙◌, arith}
use Rattle.std.proofs.lemmas.Bool.Decides.{nat_tests}
use Rattle.item.specs.declared.key.Size.TheVariants.{Four}
use Rattle.item.specs.Values.{number, bytes_of, value_read}
use Rattle.item.proofs.Values.{number_bytes}
use Rattle.request.specs.Keys.{key_in}

pub key_read_lem : (v : ℕ) (bs : List ℕ) → Some v ≡ value_read Four bs → v < 2 ^ 32 → bytes_of 4 v ≡ take 4 bs → Some v ≡ key_in bs
key_read_lem v bs e lt w =
    let same : number (take 4 bs) ≡ v = ap number (sym w) ∙ number_bytes 4 v lt in
    grind (arith, nat_tests)
