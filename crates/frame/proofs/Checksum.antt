-- Sums over bytes, one byte further and at the end.
use Rattle.std.proofs.Common.{◌≡◌, ℕ, zero, suc, ◌+◌, ◌-◌, ◌*◌, ◌/◌, ◌%◌, ◌<◌, ◌≤◌, List, [], ◌∷◌, ◌++◌, length, get_or, take, drop, sym, refl, ap, ◌∙◌, append_assoc, append-nil, suc-mul, add-mul, suc-add, one-mul, mul-zero, zero-mul, mul-add, mul_left_comm, arith, take-add}
use native.Mathlib.Nat.{mod-add-div}
use Rattle.std.specs.List.{fold}
use Rattle.std.proofs.lemmas.List.{at_drop_more, at_drop_all, length-take-le, length-drop, drop-drop}
use Rattle.frame.specs.declared.sums.CheckBytes.{CheckBytes}
use Rattle.frame.specs.Checksum.{with_byte, summed, no_sums, check_bytes, running_sums, sums_between}

-- a fold over the bytes
fold-with_byte : (s : CheckBytes) (bs : List ℕ) → fold with_byte s bs ≡ summed s bs
unfolding summed
fold-with_byte s [] = refl
fold-with_byte s (x ∷ xs) = fold-with_byte (with_byte s x) xs

pub folded : (bs : List ℕ) (start s : CheckBytes) → start ≡ no_sums → s ≡ fold with_byte start bs → s ≡ check_bytes bs
folded bs start s none e = e ∙ ap (λ (t : CheckBytes). fold with_byte t bs) none ∙ fold-with_byte no_sums bs

-- Sums over one run of bytes behind another

pub summed_append : (s : CheckBytes) (xs ys : List ℕ) → summed s (xs ++ ys) ≡ summed (summed s xs) ys
unfolding summed
summed_append s [] ys = refl
summed_append s (x ∷ xs) ys = summed_append (with_byte s x) xs ys

-- The sums without the modulus: A is the total, and B has each byte as often as bytes stand from it to the end

abbrev total : List ℕ → ℕ
total [] = 0
total (x ∷ xs) = x + total xs

abbrev weighted : List ℕ → ℕ
weighted [] = 0
weighted (x ∷ xs) = (length xs + 1) * x + weighted xs

abbrev IsByte : CheckBytes → Type 0
IsByte s = (s.a < 256) × (s.b < 256)

pub summed_a : (s : CheckBytes) (xs : List ℕ) → IsByte s → (summed s xs).a ≡ (s.a + total xs) % 256
unfolding summed
summed_a s [] f = omega (arith, f.0)
summed_a s (x ∷ xs) f = summed_a (with_byte s x) xs (omega arith, omega arith) ∙ omega arith

-- n times what is left of a sum
scaled : (n a x : ℕ) → n * ((a + x) % 256) + 256 * (n * ((a + x) / 256)) ≡ n * a + n * x
scaled n a x =
    ap (λ k. n * ((a + x) % 256) + k) (mul_left_comm 256 n ((a + x) / 256))
    ∙ sym (mul-add n ((a + x) % 256) (256 * ((a + x) / 256)))
    ∙ ap (λ k. n * k) (mod-add-div (a + x) 256)
    ∙ mul-add n a x

pub summed_b : (s : CheckBytes) (xs : List ℕ) → IsByte s → (summed s xs).b ≡ (length xs * s.a + s.b + weighted xs) % 256
unfolding summed
summed_b s [] f = omega (arith, f.1, zero-mul s.a)
summed_b s (x ∷ xs) f =
    let n = length xs in
    let h = scaled n s.a x in
    let d = add-mul n 1 x in
    let o = one-mul x in
    let k = suc-mul n s.a in
    summed_b (with_byte s x) xs (omega arith, omega arith) ∙ omega arith

-- The check bytes of a part are the difference of the sums before and behind it

pub between_is : (s : CheckBytes) (xs : List ℕ) → IsByte s → sums_between s (summed s xs) (length xs) ≡ check_bytes xs
between_is s xs f =
    let a = summed_a s xs f in
    let a₀ = summed_a no_sums xs (omega arith, omega arith) in
    let b = summed_b s xs f in
    let b₀ = summed_b no_sums xs (omega arith, omega arith) in
    let z = mul-zero (length xs) in
    let p : ((summed s xs).a + 256 - s.a) % 256 ≡ (check_bytes xs).a = omega arith in
    let q : ((summed s xs).b + 256 - (length xs * s.a + s.b) % 256) % 256 ≡ (check_bytes xs).b = omega arith in
    λ i. record { a = p i; b = q i }

-- the count may be taken modulo 256
pub between_small : (s t : CheckBytes) (n : ℕ) → s.a ≤ 256
    → record { a = (t.a + (256 - s.a)) % 256; b = (t.b + (256 - (n % 256 * s.a + s.b) % 256)) % 256 } ≡ sums_between s t n
between_small s t n le =
    let whole : s.a * (n % 256) + 256 * (s.a * (n / 256)) ≡ s.a * n =
    ap (λ k. s.a * (n % 256) + k) (mul_left_comm 256 s.a (n / 256)) ∙ sym (mul-add s.a (n % 256) (256 * (n / 256))) ∙ ap (λ k. s.a * k) (mod-add-div n 256) in
    let same : (n % 256 * s.a + s.b) % 256 ≡ (n * s.a + s.b) % 256 = omega (arith, whole) in
    let p : (t.a + (256 - s.a)) % 256 ≡ (t.a + 256 - s.a) % 256 = omega arith in
    let q : (t.b + (256 - (n % 256 * s.a + s.b) % 256)) % 256 ≡ (t.b + 256 - (n * s.a + s.b) % 256) % 256 = omega (arith, same) in
    λ i. record { a = p i; b = q i }

pub is_byte : (xs : List ℕ) → IsByte (check_bytes xs)
is_byte xs =
    let a₀ = summed_a no_sums xs (omega arith, omega arith) in
    let b₀ = summed_b no_sums xs (omega arith, omega arith) in
    (omega arith, omega arith)

running_at : (s : CheckBytes) (bs : List ℕ) (k : ℕ) (d : CheckBytes) → k < length bs → get_or (running_sums s bs) k d ≡ summed s (take (suc k) bs)
unfolding running_sums summed
running_at s [] k d lt = absurd (omega arith)
running_at s (x ∷ xs) zero d lt = refl
running_at s (x ∷ xs) (suc k) d lt = running_at (with_byte s x) xs k d (omega arith)

-- the check bytes of the n bytes from i + 1 on, by the running sums
pub window_sums : (bs : List ℕ) (i n : ℕ) (d e : CheckBytes) → i + n < length bs
    → sums_between (get_or (running_sums no_sums bs) i d) (get_or (running_sums no_sums bs) (i + n) e) n ≡ check_bytes (take n (drop (i + 1) bs))
window_sums bs i n d e lt =
    let w : List ℕ = take n (drop (suc i) bs) in
    let rest = length-drop (suc i) bs in
    let long : length w ≡ n = length-take-le n (drop (suc i) bs) (omega arith) in
    let front = running_at no_sums bs i d (omega arith) in
    let split : take (suc (i + n)) bs ≡ take (suc i) bs ++ w = ap (λ k. take k bs) (sym (suc-add i n)) ∙ take-add (suc i) n bs in
    let back = running_at no_sums bs (i + n) e lt ∙ ap (summed no_sums) split ∙ summed_append no_sums (take (suc i) bs) w in
    let next : i + 1 ≡ suc i = omega arith in
    rw (front, back, next)
    (ap (sums_between (check_bytes (take (suc i) bs)) (summed (check_bytes (take (suc i) bs)) w)) (sym long)
    ∙ between_is (check_bytes (take (suc i) bs)) w (is_byte (take (suc i) bs)))

-- and so those of the frame at a place, whose payload has n bytes
pub frame_sums : (bs : List ℕ) (place n : ℕ) (running : List CheckBytes) (before behind s : CheckBytes) → running ≡ running_sums no_sums bs → place + 6 + n < length bs
    → before ≡ get_or running (place + 1) before → behind ≡ get_or running (place + 1 + (4 + n)) behind → s ≡ sums_between before behind (4 + n)
    → s ≡ check_bytes (take (4 + n) (drop 2 (drop place bs)))
frame_sums bs place n running before behind s all lt p q e =
    let next : place + 1 + 1 ≡ place + 2 = omega arith in
    let front = p ∙ ap (λ (v : List CheckBytes). get_or v (place + 1) before) all in
    let back = q ∙ ap (λ (v : List CheckBytes). get_or v (place + 1 + (4 + n)) behind) all in
    e ∙ ap (λ (t : CheckBytes). sums_between t behind (4 + n)) front ∙ ap (λ (t : CheckBytes). sums_between (get_or (running_sums no_sums bs) (place + 1) before) t (4 + n)) back
    ∙ window_sums bs (place + 1) (4 + n) before behind (omega arith)
    ∙ ap (λ (xs : List ℕ). check_bytes (take (4 + n) xs)) (ap (λ k. drop k bs) next ∙ sym (drop-drop 2 place bs))

-- a loop that makes the running sums: one turn, and the end
pub running_more : (s : CheckBytes) (bs : List ℕ) (i : ℕ) (t : CheckBytes) (made more all : List CheckBytes) → i < length bs
    → made ++ running_sums s (drop i bs) ≡ all → t ≡ with_byte s (get_or bs i 0) → more ≡ made ++ t ∷ []
    → more ++ running_sums t (drop (i + 1) bs) ≡ all
unfolding running_sums
running_more s bs i t made more all lt inv e p =
    ap (λ (v : List CheckBytes). v ++ running_sums t (drop (i + 1) bs)) p ∙ append_assoc made (t ∷ []) _
    ∙ ap (λ (u : CheckBytes). made ++ u ∷ running_sums u (drop (i + 1) bs)) e
    ∙ ap (λ (v : List CheckBytes). made ++ v) (sym (at_drop_more (running_sums s) bs i 0 lt)) ∙ inv

pub running_all : (s : CheckBytes) (bs : List ℕ) (i : ℕ) (made all : List CheckBytes) → length bs ≤ i → made ++ running_sums s (drop i bs) ≡ all → made ≡ all
unfolding running_sums
running_all s bs i made all le inv = sym (append-nil made) ∙ ap (λ (v : List CheckBytes). made ++ v) (sym (at_drop_all (running_sums s) bs i le)) ∙ inv
