-- The words behind a command: what each is read as, and what is said of the first that cannot be read.
use Rattle.std.specs.Prelude.{ℕ, ◌-◌, ◌^◌, List, Some, None, Ok, Err, Option, Result}
use Rattle.catalogue.specs.declared.entries.Entry.{Entry}
use Rattle.catalogue.specs.Kinds.{kind_of}
use Rattle.rule.specs.declared.need.Need.{Need}
use Rattle.script.specs.declared.fault.LineFault.{LineFault}
use Rattle.script.specs.declared.fault.LineFault.TheVariants.{NoKey, NoNumber, NoCount}
use Rattle.script.specs.Numbers.{number_in, up_to, capped}

-- a number, or what is said where there is none
abbrev pub or_fault : LineFault → Option ℕ → Result ℕ LineFault
or_fault fault (Some n) = Ok n
or_fault fault None = Err fault

-- what is read goes on, and the first fault is told
abbrev pub reading : {A X : Type 0} → Result A LineFault → (A → Result X LineFault) → Result X LineFault
reading (Ok a) f = f a
reading (Err fault) f = Err fault

abbrev pub key_read : List ℕ → Result ℕ LineFault
key_read word = or_fault NoKey (up_to (2 ^ 32 - 1) (number_in 16 word))

abbrev pub kind_read : List ℕ → Result ℕ LineFault
kind_read word = or_fault (NoNumber 255) (up_to 255 (number_in 10 word))

abbrev pub value_read : List ℕ → Result ℕ LineFault
value_read word = or_fault (NoNumber (2 ^ 64 - 1)) (up_to (2 ^ 64 - 1) (number_in 10 word))

abbrev pub count_read : List ℕ → Result ℕ LineFault
count_read word = or_fault NoCount (capped (2 ^ 64 - 1) (number_in 10 word))

abbrev pub layer_read : List ℕ → Result ℕ LineFault
layer_read word = or_fault NoCount (capped 255 (number_in 10 word))

abbrev pub position_read : List ℕ → Result ℕ LineFault
position_read word = or_fault (NoNumber 65535) (up_to 65535 (number_in 10 word))

-- an entry, of its key, kind, default, low and high
abbrev pub entry_read : List ℕ → List ℕ → List ℕ → List ℕ → List ℕ → Result Entry LineFault
entry_read key kind default low high =
    reading (key_read key) (λ k. reading (kind_read kind) (λ i. reading (value_read default) (λ d. reading (value_read low) (λ l. reading (value_read high) (λ h.
    Ok (record { key = k; kind = kind_of i; default = d; low = l; high = h }))))))

-- a need, of the item that needs and the item that is needed
abbrev pub need_read : List ℕ → List ℕ → Result Need LineFault
need_read first second = reading (count_read first) (λ a. reading (count_read second) (λ b. Ok (record { first = a; second = b })))
