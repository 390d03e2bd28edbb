-- What the arguments behind a program's name ask for.
use Rattle.std.specs.Prelude.{ℕ, Bool, cond, List, [], ◌∷◌, Some, None, Option, String, ◌==◌, nat_eq, codes, slice_index, string_bytes}
use Rattle.std.specs.Cmp.Lexicographic.{pointwise}
use Rattle.std.specs.declared.alloc.Global.{Global}
use Rattle.options.specs.declared.arguments.Options.{Options}
use Rattle.options.specs.declared.arguments.Options.TheVariants.{Help, StandardInput, File}

abbrev pub is_help : List ℕ → Bool
is_help text = pointwise nat_eq text (codes "--help")

-- it begins with '-'
abbrev pub is_option : List ℕ → Bool
is_option text = slice_index text 0 == 45

-- the help; every other option is refused; else a file of that name
abbrev pub asked_by : String Global → Option Options
asked_by a = cond (is_help (string_bytes a)) (Some Help) (cond (is_option (string_bytes a)) None (Some (File a)))

-- nothing: standard input; more than one: refused
abbrev pub asked : List (String Global) → Option Options
asked [] = Some StandardInput
asked (a ∷ []) = asked_by a
asked (a ∷ b ∷ rest) = None
