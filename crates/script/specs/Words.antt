-- The words behind the name of a command: rows of them, and what is said of words that are not read.
use Rattle.std.specs.Prelude.{◌≡◌, ℕ, ◌-◌, ◌^◌, ◌<◌, ◌≢◌, ◌⊎◌, List, [], ◌∷◌, map, length, slice_index_or, IsErrAnd, Some, None, Ok, Err, Option, Result, vec_items, MatchResult, Vec}
use Rattle.std.specs.Borrow.{Bor}
use Rattle.std.specs.declared.alloc.Global.{Global}
use Rattle.script.specs.declared.fault.LineFault.{LineFault}
use Rattle.script.specs.declared.fault.LineFault.TheVariants.{Form, NoKey, NoByte, NoWord, NoMemory}
use Rattle.script.specs.Numbers.{number_in, up_to}

-- a `&[&str]`
abbrev pub Words : Type 0
Words = List (Bor (List ℕ))

-- the text of word i, which is empty past the end
abbrev pub word : Words → ℕ → List ℕ
word words i = (slice_index_or words i (record { ref_ptr = (0, 0); now = [] })).now

-- the form of a command is told
abbrev pub IsForm : List ℕ → LineFault → Type 0
IsForm text f = (form : Bor (List ℕ)) × (f ≡ Form form) × (form.now ≡ text)

-- the name is one of these
abbrev pub OneOf : List (List ℕ) → List ℕ → Type 0
OneOf [] name = ⊥
OneOf (n ∷ ns) name = (name ≡ n) ⊎ OneOf ns name

-- this word alone, or this word and any behind it
abbrev pub IsOnly : Words → List ℕ → Type 0
IsOnly words text = (length words ≡ 1) × (word words 0 ≡ text)

abbrev pub Begins : Words → List ℕ → Type 0
Begins words text = (0 < length words) × (word words 0 ≡ text)

-- with what was read the reading goes on; else its fault is the answer
abbrev pub ReadsOn : {A X : Type 0} → Result A LineFault → (A → Result X LineFault → Type 0) → Result X LineFault → Type 0
ReadsOn (Ok a) Reads r = Reads a r
ReadsOn (Err f) Reads r = r ≡ Err f

-- what is made of something that is read so, or what is said of its words
abbrev pub IsMade : {A B : Type 0} → (A → B) → (Result A LineFault → Type 0) → Result B LineFault → Type 0
IsMade {A} make Reads (Ok b) = (a : A) × (b ≡ make a) × Reads (Ok a)
IsMade make Reads (Err f) = Reads (Err f)

-- no word at all
pub record ReadsAlone {X : Type 0} (form : List ℕ) (x : X) (words : Words) (r : Result X LineFault) : Type 0 where
  pub none : length words ≡ 0 → r ≡ Ok x
  pub others : length words ≢ 0 → IsErrAnd r (IsForm form)

-- what is said of words of which one is not read: that there is no memory, or this fault
abbrev pub NotAll : LineFault → (List ℕ → Option ℕ) → Words → LineFault → Type 0
NotAll fault read words f = (f ≡ NoMemory) ⊎ ((f ≡ fault) × ((i : ℕ) × (i < length words) × (read (word words i) ≡ None)))

-- a number for each word
abbrev pub ReadsAll : LineFault → (List ℕ → Option ℕ) → Words → Result (Vec ℕ Global) LineFault → Type 0
ReadsAll fault read words r = MatchResult r (λ v. map Some (vec_items v) ≡ map (λ w. read w.now) words) (NotAll fault read words)

-- a byte, and a key or a word of a journal
abbrev pub byte_in : List ℕ → Option ℕ
byte_in text = up_to 255 (number_in 16 text)

abbrev pub word_in : List ℕ → Option ℕ
word_in text = up_to (2 ^ 32 - 1) (number_in 16 text)

abbrev pub ReadsBytes : Words → Result (Vec ℕ Global) LineFault → Type 0
ReadsBytes words r = ReadsAll NoByte byte_in words r

abbrev pub ReadsKeys : Words → Result (Vec ℕ Global) LineFault → Type 0
ReadsKeys words r = ReadsAll NoKey word_in words r

abbrev pub ReadsGiven : Words → Result (Vec ℕ Global) LineFault → Type 0
ReadsGiven words r = ReadsAll NoWord word_in words r
