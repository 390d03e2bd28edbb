-- The lines of a script: what the words behind each name are read as, and what is said of others.
use Rattle.std.specs.Prelude.{◌≡◌, ℕ, ◌<◌, ◌≢◌, ◌⊎◌, List, [], ◌∷◌, length, drop, slice_index, codes, IsOk, IfErr, IsErrAnd, IsErrOf, ⊤, None, Some, Ok, Err, Option, Result}
use Rattle.std.specs.Iterator.{DrainsIf}
use Rattle.std.specs.Str.Iter.{split_whitespace_rest, split_whitespace_steps}
use Rattle.std.specs.declared.str.SplitWhitespace.{SplitWhitespace}
use Rattle.reference.specs.declared.call.Battery.TheVariants.{Kept, Lost}
use Rattle.script.specs.declared.command.Command.{Command}
use Rattle.script.specs.declared.command.Command.TheVariants.{Call, New, Make, SetUp, Inspect, Read, Host, Words as Shown}
use Rattle.script.specs.declared.command.OwnCall.{OwnCall}
use Rattle.script.specs.declared.command.OwnCall.TheVariants.{Take, Answer, Look, Restart}
use Rattle.script.specs.declared.command.Place.{Place}
use Rattle.script.specs.declared.fault.LineFault.{LineFault}
use Rattle.script.specs.declared.fault.LineFault.TheVariants.{NoMemory}
use Rattle.script.specs.declared.reading.TheConstants.{ANSWER, LOOK, RESTART, INSPECT, WORDS, ALONE}
use Rattle.script.specs.Fields.{reading, count_read, layer_read, key_read}
use Rattle.script.specs.Words.{Words, word, OneOf, IsForm, IsMade, ReadsAlone, ReadsBytes}
use Rattle.script.specs.Parts.{ReadsPlace, ReadsBuffer, ReadsPart}
use Rattle.script.specs.Hosts.{ReadsHost, host_names}

-- a piece
abbrev pub ReadsTake : Words → Result OwnCall LineFault → Type 0
ReadsTake words r = IsMade Take (ReadsBytes words) r

-- one word, a count
pub record ReadsAnswer (words : Words) (r : Result OwnCall LineFault) : Type 0 where
  pub one : length words ≡ 1 → r ≡ reading (count_read (word words 0)) (λ n. Ok (Answer n))
  pub others : length words ≢ 1 → IsErrAnd r (IsForm ANSWER.now)

-- two words, a layer and a key
pub record ReadsLook (words : Words) (r : Result OwnCall LineFault) : Type 0 where
  pub two : length words ≡ 2 → r ≡ reading (layer_read (word words 0)) (λ l. reading (key_read (word words 1)) (λ k. Ok (Look l k)))
  pub others : length words ≢ 2 → IsErrAnd r (IsForm LOOK.now)

-- one word, kept or lost
pub record ReadsRestart (words : Words) (r : Result OwnCall LineFault) : Type 0 where
  pub kept : length words ≡ 1 → word words 0 ≡ codes "kept" → r ≡ Ok (Restart Kept)
  pub lost : length words ≡ 1 → word words 0 ≡ codes "lost" → r ≡ Ok (Restart Lost)
  pub others : IsOk r → (length words ≡ 1) × ((word words 0 ≡ codes "kept") ⊎ (word words 0 ≡ codes "lost"))
  pub fault : IfErr r (IsForm RESTART.now)

-- one word, the place whose words are shown
pub record ReadsShown (words : Words) (r : Result Place LineFault) : Type 0 where
  pub one : length words ≡ 1 → ReadsPlace WORDS.now (word words 0) (λ p. Ok p) r
  pub others : length words ≢ 1 → IsErrAnd r (IsForm WORDS.now)

abbrev pub command_names : List (List ℕ)
command_names = codes "new" ∷ codes "make" ∷ codes "take" ∷ codes "answer" ∷ codes "look" ∷ codes "restart" ∷ codes "inspect" ∷ codes "words" ∷ codes "read" ∷ []

-- the words behind the name of a command: one of these, one of the host end, or a part of a set-up
pub record ReadsCommand (name : List ℕ) (words : Words) (r : Result Command LineFault) : Type 0 where
  pub new : name ≡ codes "new" → ReadsAlone ALONE.now New words r
  pub make : name ≡ codes "make" → ReadsAlone ALONE.now Make words r
  pub take : name ≡ codes "take" → IsMade Call (ReadsTake words) r
  pub answer : name ≡ codes "answer" → IsMade Call (ReadsAnswer words) r
  pub look : name ≡ codes "look" → IsMade Call (ReadsLook words) r
  pub restart : name ≡ codes "restart" → IsMade Call (ReadsRestart words) r
  pub inspect : name ≡ codes "inspect" → IsMade Inspect (ReadsBuffer INSPECT.now words) r
  pub shown : name ≡ codes "words" → IsMade Shown (ReadsShown words) r
  pub read : name ≡ codes "read" → IsMade Read (ReadsBytes words) r
  pub host : OneOf host_names name → IsMade Host (ReadsHost name words) r
  pub part : OneOf command_names name ⊎ (OneOf host_names name ⊎ IsMade SetUp (ReadsPart name words) r)

-- the same of a line that is no note
abbrev pub IsCommand : (Result Command LineFault → Type 0) → Result (Option Command) LineFault → Type 0
IsCommand Reads (Ok (Some c)) = Reads (Ok c)
IsCommand Reads (Ok None) = ⊥
IsCommand Reads (Err f) = Reads (Err f)

-- the byte of #
abbrev pub hash : ℕ
hash = 35

-- the words of a line: a line with none, or whose first begins with #, is no command
pub record ReadsWords (words : Words) (r : Result (Option Command) LineFault) : Type 0 where
  pub none : length words ≡ 0 → r ≡ Ok None
  pub note : 0 < length words → slice_index (word words 0) 0 ≡ hash → r ≡ Ok None
  pub command : 0 < length words → slice_index (word words 0) 0 ≢ hash → IsCommand (ReadsCommand (word words 0) (drop 1 words)) r

-- what `split_whitespace` gives for the line
abbrev pub IsWordsOf : List ℕ → Words → Type 0
IsWordsOf line words = (it : SplitWhitespace) × (split_whitespace_rest it ≡ line) × DrainsIf split_whitespace_steps ⊤ it words

-- a line is read by its words, unless memory runs out
abbrev pub ReadsLine : List ℕ → Result (Option Command) LineFault → Type 0
ReadsLine line r = IsErrOf r NoMemory ⊎ ((words : Words) × IsWordsOf line words × ReadsWords words r)
