-- Numbers in text: what a row of digits is worth, and which are taken.
use Rattle.std.specs.Prelude.{◌≡◌, ℕ, ◌+◌, ◌-◌, ◌*◌, min, Bool, cond, List, [], ◌∷◌, Some, None, Option, Result, nat_le}

-- whether a byte lies from one to another
abbrev pub lies : ℕ → ℕ → ℕ → Bool
lies low high b = cond (nat_le low b) (nat_le b high) (nat_le low b)

-- the digits 0 to 9 and a to f, in either case
abbrev pub digit_of : ℕ → Option ℕ
digit_of b = cond (lies 48 57 b) (Some (b - 48)) (cond (lies 97 102 b) (Some (b - 87)) (cond (lies 65 70 b) (Some (b - 55)) None))

-- what a number goes on to, where there is one
abbrev pub and_then : Option ℕ → (ℕ → Option ℕ) → Option ℕ
and_then (Some n) f = f n
and_then None f = None

-- a number, if it is not above the most that is taken
abbrev pub up_to : ℕ → Option ℕ → Option ℕ
up_to most (Some n) = cond (nat_le n most) (Some n) None
up_to most None = None

-- a number, and the most in place of any above it
abbrev pub capped : ℕ → Option ℕ → Option ℕ
capped most (Some n) = Some (min most n)
capped most None = None

-- a digit of this base
abbrev pub digit_in : ℕ → ℕ → Option ℕ
digit_in base b = up_to (base - 1) (digit_of b)

-- what a number becomes as these digits follow it; none where one is no digit
unfoldable pub followed_by : ℕ → ℕ → List ℕ → Option ℕ
followed_by base n [] = Some n
followed_by base n (b ∷ bs) = and_then (digit_in base b) (λ d. followed_by base (n * base + d) bs)

-- The number that a text is in a base: it has one digit at least, and nothing but digits.
abbrev pub number_in : ℕ → List ℕ → Option ℕ
number_in base [] = None
number_in base (b ∷ bs) = followed_by base 0 (b ∷ bs)

-- What is answered of a number, if there is one: what is said to a result that a type's conversion gives for it.
abbrev pub Converted : {T E : Type 0} → (ℕ → Result T E → Type 0) → (Result T E → Option T) → Option ℕ → Option T → Type 0
Converted gives say None o = o ≡ None
Converted {T} {E} gives say (Some n) o = (r : Result T E) × gives n r × (o ≡ say r)
