use Rattle.std.proofs.Common.{◌≡◌, ℕ, ◌-◌, ◌^◌, false, List, [], Some, Option, ap, ◌∙◌, subst, codes}
use Rattle.std.specs.Option.{option_map}
use Rattle.std.specs.Fmt.{◌++?◌, DisplaysOnOk, format_spec, padded_integral, styled_digits_output}
use Rattle.frame.specs.Texts.{hexadecimal}
use Rattle.frame.proofs.Texts.{padded_hexadecimal}
use Rattle.reference.proofs.fault.PartsFaultDisplay.fmt.Goals as goal

abbrev eight_digits : List ℕ → List ℕ
eight_digits = padded_integral (format_spec 32 0 4 8 (2 ^ 64 - 1)) false []

pub returns-in-StrayInBbr-clause-writes : goal.returns-in-StrayInBbr-clause-writes
returns-in-StrayInBbr-clause-writes g c =
    let key : styled_digits_output c.in_radix.result c.laid_out.result ≡ Some (hexadecimal 8 c.in-StrayInBbr.key) =
    (λ i. styled_digits_output c.in_radix.result (c.laid_out.ensures i)) ∙ ap (option_map eight_digits) c.in_radix.ensures ∙ ap Some (padded_hexadecimal 8 c.in-StrayInBbr.key) in
    rw c.in-StrayInBbr.is
    (subst (λ (x : Option (List ℕ)). DisplaysOnOk g.W.Write.write_str_gives c.args.f.now c.write-in-StrayInBbr.result x c.write-in-StrayInBbr.new.self)
    (λ i. Some (codes "the battery memory holds the stray key ") ++? key i) c.write-in-StrayInBbr.ensures.writes)

pub returns-in-StrayInFlash-clause-writes : goal.returns-in-StrayInFlash-clause-writes
returns-in-StrayInFlash-clause-writes g c =
    let key : styled_digits_output c.in_radix-in-StrayInFlash.result c.laid_out-in-StrayInFlash.result ≡ Some (hexadecimal 8 c.in-StrayInFlash.key) =
    (λ i. styled_digits_output c.in_radix-in-StrayInFlash.result (c.laid_out-in-StrayInFlash.ensures i)) ∙ ap (option_map eight_digits) c.in_radix-in-StrayInFlash.ensures
    ∙ ap Some (padded_hexadecimal 8 c.in-StrayInFlash.key) in
    rw c.in-StrayInFlash.is
    (subst (λ (x : Option (List ℕ)). DisplaysOnOk g.W.Write.write_str_gives c.args.f.now c.write-in-StrayInFlash.result x c.write-in-StrayInFlash.new.self)
    (λ i. Some (codes "Flash holds the stray key ") ++? key i) c.write-in-StrayInFlash.ensures.writes)
