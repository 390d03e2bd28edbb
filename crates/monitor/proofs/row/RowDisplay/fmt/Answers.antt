use Rattle.std.proofs.Common.{◌≡◌, ℕ, ◌-◌, ◌^◌, false, List, [], ◌++◌, Some, Option, ap, ◌∙◌, subst, codes, decimal}
use Rattle.std.specs.Option.{option_map}
use Rattle.std.specs.Fmt.{◌++?◌, DisplaysOnOk, format_spec, padded_integral, styled_digits_output}
use Rattle.frame.specs.Texts.{hexadecimal}
use Rattle.frame.proofs.Texts.{padded_hexadecimal}
use Rattle.monitor.proofs.row.RowDisplay.fmt.Goals as goal

abbrev two_digits : List ℕ → List ℕ
two_digits = padded_integral (format_spec 32 0 4 2 (2 ^ 64 - 1)) false []

pub returns-clause-writes : goal.returns-clause-writes
returns-clause-writes g c =
    let row = c.args.self.now in
    let class : styled_digits_output c.in_radix.result c.laid_out.result ≡ Some (hexadecimal 2 row.class) =
    (λ i. styled_digits_output c.in_radix.result (c.laid_out.ensures i)) ∙ ap (option_map two_digits) c.in_radix.ensures ∙ ap Some (padded_hexadecimal 2 row.class) in
    let id : styled_digits_output c.in_radix-2.result c.laid_out-2.result ≡ Some (hexadecimal 2 row.id) =
    (λ i. styled_digits_output c.in_radix-2.result (c.laid_out-2.ensures i)) ∙ ap (option_map two_digits) c.in_radix-2.ensures ∙ ap Some (padded_hexadecimal 2 row.id) in
    subst (λ (x : Option (List ℕ)). DisplaysOnOk g.W.Write.write_str_gives c.args.f.now c.write.result x c.write.new.self)
    (λ i. Some (decimal row.place) ++? (Some (codes " ") ++? (class i ++? (Some (codes " ") ++? (id i ++? Some (codes " " ++ decimal row.len))))))
    c.write.ensures.writes
