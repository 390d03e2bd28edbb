use Rattle.std.proofs.Common.{◌≡◌, ◌≤◌, true, length, Some, refl, rules, arith}
use Rattle.std.proofs.lemmas.Bool.Decides.{nat_tests}
use Rattle.item.specs.Keys.{size_of, well_formed}
use Rattle.request.specs.Keys.{key_in}
use Rattle.reply.proofs.Fronts.{cut, read, size_is, fits}
use Rattle.reply.proofs.pair.first_pair.Goals as goal

pub returns-in_err-value : goal.returns-in_err-value
returns-in_err-value c =
    let key : Some c.in_ok-key.key ≡ key_in c.args.bytes.now = search rules in
    let good : well_formed c.in_ok-key.key ≡ true = search rules in
    let size : Some c.in_ok-size.size ≡ size_of c.in_ok-key.key = search rules in
    rw c.from_residual-in_err-value.ensures (cut c.args.bytes.now _ key good _ size _ refl c.in_err-value.ensures.value)

pub returns : goal.returns
returns c =
    let key : Some c.in_ok-key.key ≡ key_in c.args.bytes.now = search rules in
    let good : well_formed c.in_ok-key.key ≡ true = search rules in
    let size : Some c.in_ok-size.size ≡ size_of c.in_ok-key.key = search rules in
    let long : 4 ≤ length c.args.bytes.now = grind (arith, nat_tests) in
    let fit = fits c.args.bytes.now _ key good _ size _ refl _ c.in_ok-value.ensures.value long in (
      read c.args.bytes.now _ key good _ size _ refl _ c.in_ok-value.ensures.value,
      size_is c.args.bytes.now _ key good _ size _ refl c.in_ok-value.value _ c.width.ensures,
      omega (arith, fit),
    )
