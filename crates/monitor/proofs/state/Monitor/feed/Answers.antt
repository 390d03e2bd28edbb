use Rattle.std.proofs.Common.{◌≡◌, vec_items, ap, ◌∙◌}
use Rattle.monitor.specs.Following.{rows_of, scanned_on}
use Rattle.monitor.proofs.Following.{passed_is, follows_on}
use Rattle.monitor.proofs.state.Monitor.feed.Goals as goal

pub returns-clause-line : goal.returns-clause-line
returns-clause-line c =
    let before = c.args.self.now in
    let piece = c.args.piece.now in
    let told = c.in_ok-brought.ensures in
    let rows : vec_items c.pass.result ≡ rows_of (scanned_on before piece) = ap vec_items c.pass.ensures.rows ∙ told.rows in
    let after = passed_is before c.pass.new.self piece c.in_ok-brought.brought told c.pass.ensures.after in
    λ bs e. let f = follows_on before piece bs (vec_items c.pass.result) e rows in (after ∙ f.0, f.1)
