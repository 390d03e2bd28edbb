-- Laws of numbers in text.
use Rattle.std.proofs.Common.{◌≡◌, ℕ, ◌+◌, ◌*◌, ◌<◌, ◌≤◌, min, cond, List, [], ◌∷◌, length, get_or, drop, Some, None, Option, sym, refl, ap, ◌∙◌, inl, inr, mul-le-mul_left, arith}
use Rattle.std.proofs.lemmas.List.{drop_more, drop_all}
use Rattle.std.proofs.lemmas.Bool.{cases_lt}
use Rattle.std.proofs.lemmas.Bool.Decides.{nat_tests}
use Rattle.std.specs.Char.{digit_value}
use Rattle.std.specs.Prelude.{SomeIff, nat_lt}
use Rattle.script.specs.Numbers.{and_then, digit_in, followed_by, capped}

-- The library's reading of a digit is that of the definitions

digit_is : (base b : ℕ) → 2 ≤ base → base ≤ 16 → digit_in base b ≡ cond (nat_lt (digit_value b) base) (Some (digit_value b)) None
digit_is base b some few = grind (arith, nat_tests)

pub digit_read : (base b : ℕ) (o : Option ℕ) → 2 ≤ base → base ≤ 16 → SomeIff o (digit_value b < base) (digit_value b) → o ≡ digit_in base b
digit_read base b None some few is = grind (arith, nat_tests, digit_is)
digit_read base b (Some d) some few is = grind (arith, nat_tests, digit_is)

-- two numbers that are one, or that both reach the most, stay so as a digit follows
digit_capped : (most base a b d : ℕ) → 1 ≤ base → min most a ≡ min most b → min most (a * base + d) ≡ min most (b * base + d)
digit_capped most base a b d pos e =
    elim (cases_lt a most) [
      | inl low ↦ (let same : a ≡ b = omega arith in ap (λ n. min most (n * base + d)) same)
      | inr high ↦ (let x = mul-le-mul_left a pos in let y = mul-le-mul_left b pos in omega arith)
    ]

and_then_capped : (most : ℕ) (o : Option ℕ) (f g : ℕ → Option ℕ) → ((d : ℕ) → capped most (f d) ≡ capped most (g d)) → capped most (and_then o f) ≡ capped most (and_then o g)
and_then_capped most (Some d) f g h = h d
and_then_capped most None f g h = refl

followed_capped : (most base a b : ℕ) (bs : List ℕ) → 1 ≤ base → min most a ≡ min most b → capped most (followed_by base a bs) ≡ capped most (followed_by base b bs)
unfolding followed_by
followed_capped most base a b [] pos e = ap Some e
followed_capped most base a b (x ∷ bs) pos e =
    and_then_capped most (digit_in base x) (λ d. followed_by base (a * base + d) bs) (λ d. followed_by base (b * base + d) bs)
    (λ d. followed_capped most base (a * base + d) (b * base + d) bs pos (digit_capped most base a b d pos e))

-- The digits are read one by one: the next one, with what it is worth

followed_more : (base n i : ℕ) (ds : List ℕ) (o : Option ℕ) → i < length ds → o ≡ digit_in base (get_or ds i 0)
    → followed_by base n (drop i ds) ≡ and_then o (λ d. followed_by base (n * base + d) (drop (i + 1) ds))
unfolding followed_by
followed_more base n i ds o lt is =
    ap (followed_by base n) (drop_more ds i 0 lt) ∙ ap (λ x. and_then x (λ d. followed_by base (n * base + d) (drop (i + 1) ds))) (sym is)

-- a byte that is no digit
pub read_stops : (most base n i : ℕ) (ds : List ℕ) (all : Option ℕ) → i < length ds → None ≡ digit_in base (get_or ds i 0)
    → capped most (followed_by base n (drop i ds)) ≡ all → None ≡ all
read_stops most base n i ds all lt is so = sym (ap (capped most) (followed_more base n i ds None lt is)) ∙ so

-- a digit
pub read_more : (most base n m d i : ℕ) (ds : List ℕ) (all : Option ℕ) → 1 ≤ base → i < length ds → Some d ≡ digit_in base (get_or ds i 0) → m ≡ min most (n * base + d)
    → capped most (followed_by base n (drop i ds)) ≡ all → capped most (followed_by base m (drop (i + 1) ds)) ≡ all
read_more most base n m d i ds all pos lt is so h =
    followed_capped most base m (n * base + d) (drop (i + 1) ds) pos (omega arith)
    ∙ sym (ap (capped most) (followed_more base n i ds (Some d) lt is)) ∙ h

-- all are read
pub read_all : (most base n i : ℕ) (ds : List ℕ) (all : Option ℕ) → length ds ≤ i → n ≤ most → capped most (followed_by base n (drop i ds)) ≡ all → Some n ≡ all
unfolding followed_by
read_all most base n i ds all le small h =
    let end : min most n ≡ n = omega arith in
    ap Some (sym end) ∙ sym (ap (λ xs. capped most (followed_by base n xs)) (drop_all i ds le)) ∙ h
