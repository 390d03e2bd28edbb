-- What a caller knows of a line that was read.
use Rattle.std.proofs.Common.{◌≡◌, ℕ, ◌⊎◌, List, codes, Ok, Result, arith}
use Rattle.std.specs.Prelude.{IsErrOf}
use Rattle.script.specs.declared.command.Command.{Command}
use Rattle.script.specs.declared.command.Command.TheVariants.{Make, SetUp}
use Rattle.script.specs.declared.fault.LineFault.{LineFault}
use Rattle.script.specs.declared.fault.LineFault.TheVariants.{UnknownCommand}
use Rattle.script.specs.Words.{Words, OneOf, IsMade}
use Rattle.script.specs.Parts.{ReadsPut, part_names}
use Rattle.script.specs.Hosts.{host_names}
use Rattle.script.specs.Lines.{ReadsCommand, command_names}

-- make comes of no other name
pub make_is_named : (name : List ℕ) (words : Words) → ReadsCommand name words (Ok Make) → name ≡ codes "make"
make_is_named name words h = grind arith

-- a name is one of these, or is said to be none
pub known : (name : List ℕ) (words : Words) (r : Result Command LineFault) → ReadsCommand name words r
    → OneOf command_names name ⊎ (OneOf host_names name ⊎ (OneOf part_names name ⊎ IsErrOf r UnknownCommand))
known name words r h = grind arith

-- the words behind put
pub put_reads : (words : Words) (r : Result Command LineFault) → ReadsCommand (codes "put") words r → IsMade SetUp (ReadsPut words) r
put_reads words r h = grind arith
