use Rattle.std.proofs.Common.{rules, arith, ◌∙◌}
use Rattle.host.proofs.Building.{number_stands}
use Rattle.host.proofs.payload.add_number.Goals as goal

pub returns-2-clause-after : goal.returns-2-clause-after
returns-2-clause-after c =
    let written = rw c.unwrap.ensures at c.write_value.ensures.out in
    let stands = number_stands c.args.number c.args.bytes.now.items _ c.write_value.new.out (omega arith) written in
    search (rules, stands)
