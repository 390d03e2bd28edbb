-- Laws of little-endian numbers, over any width.
use Rattle.std.proofs.Common.{◌≡◌, ℕ, zero, suc, ◌+◌, ◌-◌, ◌*◌, ◌/◌, ◌%◌, ◌^◌, ◌<◌, ◌≤◌, true, leb, List, [], ◌∷◌, ◌++◌, length, get_or, take, drop, replicate, w32, w64, Some, sym, refl, ap, ap₂, ◌∙◌, subst, arith}
use Rattle.std.specs.Int.{from_le_bytes, to_le_bytes, bytes_low_first, byte_at}
use Rattle.std.proofs.Math.Nat.{div-div-eq-div-mul, pow-suc}
use Rattle.std.proofs.lemmas.Nat.{pow-add}
use Rattle.std.proofs.lemmas.List.{length-append, length-take-le, take_at, take-append-drop}
use Rattle.std.proofs.lemmas.Bool.{ltb-true, le-leb, cond-true}
use borrow.Rule.Slice.PartMut.{put_mid}
use Rattle.frame.specs.Written.{patched}
use Rattle.frame.proofs.Written.{patched_part, drop_patched}
use Rattle.item.specs.declared.key.Size.{Size}
use Rattle.item.specs.declared.key.Size.TheVariants.{Bit, One, Two, Four, Eight}
use Rattle.item.specs.Keys.{width_of, limit_of, fits}
use Rattle.item.specs.Values.{number, bytes_of, value_bytes, value_read, read_bytes, ReadAs}

-- The number of some bytes, each of which fits, and the bytes of that number

pub number_small : (bs : List ℕ) → ((i : ℕ) → get_or bs i 0 < 256) → number bs < 2 ^ (8 * length bs)
unfolding number
number_small [] fit = omega arith
number_small (b ∷ bs) fit =
    let rest = number_small bs (λ i. fit (suc i)) in
    let e : 8 * suc (length bs) ≡ 8 * length bs + 8 = omega arith in
    let p = pow-add 2 (8 * length bs) 8 in
    rw (e, p) (omega (arith, fit 0))

-- one byte more at the low end
pub bytes_more : (k n b : ℕ) → b < 256 → bytes_of (k + 1) (n * 256 + b) ≡ b ∷ bytes_of k n
unfolding bytes_of
bytes_more k n b small =
    let e : k + 1 ≡ suc k = omega arith in
    let low : (n * 256 + b) % 256 ≡ b = omega arith in
    let high : (n * 256 + b) / 256 ≡ n = omega arith in
    ap (λ w. bytes_of w (n * 256 + b)) e ∙ ap (λ x. x ∷ bytes_of k ((n * 256 + b) / 256)) low ∙ ap (λ m. b ∷ bytes_of k m) high

pub bytes_back : (bs : List ℕ) → ((i : ℕ) → get_or bs i 0 < 256) → bytes_of (length bs) (number bs) ≡ bs
unfolding number bytes_of
bytes_back [] fit = refl
bytes_back (b ∷ bs) fit =
    let count : suc (length bs) ≡ length bs + 1 = omega arith in
    let value : b + 256 * number bs ≡ number bs * 256 + b = omega arith in
    ap₂ (λ (w n : ℕ). bytes_of w n) count value ∙ bytes_more (length bs) (number bs) b (fit 0) ∙ ap (λ (xs : List ℕ). b ∷ xs) (bytes_back bs (λ i. fit (suc i)))

-- zeros behind the bytes count for nothing
number_zeros : (n : ℕ) → number (replicate n 0) ≡ 0
unfolding number
number_zeros zero = refl
number_zeros (suc n) = let rest = number_zeros n in omega arith

number_padded : (bs : List ℕ) (n : ℕ) → number (bs ++ replicate n 0) ≡ number bs
unfolding number
number_padded [] n = number_zeros n
number_padded (b ∷ bs) n = ap (λ m. b + 256 * m) (number_padded bs n)

-- eight bytes, as the library reads them
number_le : (bs : List ℕ) → length bs ≡ 8 → from_le_bytes w64 bs ≡ number bs
unfolding number
number_le (a ∷ b ∷ c ∷ d ∷ e ∷ f ∷ g ∷ h ∷ []) len = omega arith
number_le [] len = absurd (omega arith)
number_le (a ∷ []) len = absurd (omega arith)
number_le (a ∷ b ∷ []) len = absurd (omega arith)
number_le (a ∷ b ∷ c ∷ []) len = absurd (omega arith)
number_le (a ∷ b ∷ c ∷ d ∷ []) len = absurd (omega arith)
number_le (a ∷ b ∷ c ∷ d ∷ e ∷ []) len = absurd (omega arith)
number_le (a ∷ b ∷ c ∷ d ∷ e ∷ f ∷ []) len = absurd (omega arith)
number_le (a ∷ b ∷ c ∷ d ∷ e ∷ f ∷ g ∷ []) len = absurd (omega arith)
number_le (a ∷ b ∷ c ∷ d ∷ e ∷ f ∷ g ∷ h ∷ i ∷ more) len = absurd (omega arith)

pub padded_number : (bs all : List ℕ) → take (length bs) all ≡ bs → drop (length bs) all ≡ replicate (8 - length bs) 0 → length all ≡ 8 → from_le_bytes w64 all ≡ number bs
padded_number bs all front rest len =
    let both : all ≡ bs ++ replicate (8 - length bs) 0 = sym (take-append-drop (length bs) all) ∙ ap (λ (xs : List ℕ). xs ++ drop (length bs) all) front ∙ ap (λ (xs : List ℕ). bs ++ xs) rest in
    number_le all len ∙ ap number both ∙ number_padded bs (8 - length bs)

-- the lowest bytes of a number, as the library gives them
low_first : (i k n m : ℕ) → m ≡ n / 256 ^ i → bytes_low_first i k n ≡ bytes_of k m
unfolding bytes_of
low_first i zero n m e = refl
low_first i (suc k) n m e =
    let here : byte_at i n ≡ m % 256 = byte_is i n m e in
    let next : m / 256 ≡ n / 256 ^ suc i = ap (λ x. x / 256) e ∙ div-div-eq-div-mul n (256 ^ i) 256 ∙ ap (λ x. n / x) (sym (pow-suc 256 i)) in
    ap (λ x. x ∷ bytes_low_first (suc i) k n) here ∙ ap (λ (xs : List ℕ). m % 256 ∷ xs) (low_first (suc i) k n (m / 256) next)
  where
    byte_is : (i n m : ℕ) → m ≡ n / 256 ^ i → byte_at i n ≡ m % 256
    byte_is zero n m e = omega arith
    byte_is (suc i) n m e = ap (λ x. x % 256) (sym e)

pub key_bytes_le : (k : ℕ) → to_le_bytes w32 k ≡ bytes_of 4 k
key_bytes_le k = low_first 0 4 k k (omega arith)

pub value_bytes_le : (s : Size) (n : ℕ) → take (width_of s) (to_le_bytes w64 n) ≡ bytes_of (width_of s) n
value_bytes_le Bit n = low_first 0 1 n n (omega arith)
value_bytes_le One n = low_first 0 1 n n (omega arith)
value_bytes_le Two n = low_first 0 2 n n (omega arith)
value_bytes_le Four n = low_first 0 4 n n (omega arith)
value_bytes_le Eight n = low_first 0 8 n n (omega arith)

-- What was written is read again

pub number_bytes : (w n : ℕ) → n < 2 ^ (8 * w) → number (bytes_of w n) ≡ n
unfolding number bytes_of
number_bytes zero n small = omega arith
number_bytes (suc w) n small =
    let e : 8 * suc w ≡ 8 * w + 8 = omega arith in
    let p = pow-add 2 (8 * w) 8 in
    let all : 2 ^ (8 * suc w) ≡ 2 ^ (8 * w) * 2 ^ 8 = ap (λ k. 2 ^ k) e ∙ p in
    let rest = number_bytes w (n / 256) (omega arith) in
    omega arith

pub length_bytes : (w n : ℕ) → length (bytes_of w n) ≡ w
unfolding bytes_of
length_bytes zero n = refl
length_bytes (suc w) n = ap suc (length_bytes w (n / 256))

-- A value is read by its size

kept_fits : (s : Size) (n : ℕ) → n % limit_of s < limit_of s
kept_fits Bit n = omega arith
kept_fits One n = omega arith
kept_fits Two n = omega arith
kept_fits Four n = omega arith
kept_fits Eight n = omega arith

-- the bytes of what is kept of a number
kept_bytes : (s : Size) (p : List ℕ) (n : ℕ) → length p ≡ width_of s → n ≡ number p → n < 2 ^ (8 * width_of s) → bytes_of (width_of s) n ≡ p → value_bytes s (n % limit_of s) ≡ read_bytes s p
unfolding number bytes_of
kept_bytes Bit [] n len is small back = absurd (omega arith)
kept_bytes Bit (b ∷ c ∷ cs) n len is small back = absurd (omega arith)
kept_bytes Bit (b ∷ []) n len is small back = ap (λ x. x ∷ []) (omega arith)
kept_bytes One p n len is small back = let e : n % 2 ^ 8 ≡ n = omega arith in ap (bytes_of 1) e ∙ back
kept_bytes Two p n len is small back = let e : n % 2 ^ 16 ≡ n = omega arith in ap (bytes_of 2) e ∙ back
kept_bytes Four p n len is small back = let e : n % 2 ^ 32 ≡ n = omega arith in ap (bytes_of 4) e ∙ back
kept_bytes Eight p n len is small back = let e : n % 2 ^ 64 ≡ n = omega arith in ap (bytes_of 8) e ∙ back

pub read_as : (s : Size) (bs p : List ℕ) (n v : ℕ) → p ≡ take (width_of s) bs → width_of s ≤ length bs → n ≡ number p → n < 2 ^ (8 * length p) → bytes_of (length p) n ≡ p → v ≡ n % limit_of s → ReadAs s bs v
read_as s bs p n v e long is small back kept =
    let len : length p ≡ width_of s = ap length e ∙ length-take-le (width_of s) bs long in
    record {
      fits = subst (λ x. x < limit_of s) (sym kept) (kept_fits s n);
      written = ap (value_bytes s) kept ∙ kept_bytes s p n len is (subst (λ w. n < 2 ^ (8 * w)) len small) (subst (λ w. bytes_of w n ≡ p) len back) ∙ ap (read_bytes s) e;
    }

-- A value is written over a part of the buffer

pub written_part : (s : Size) (v place k : ℕ) (old part : List ℕ) → k ≡ width_of s → part ≡ take (width_of s) (to_le_bytes w64 v) → put_mid place k old part ≡ patched place (value_bytes s v) old
written_part s v place k old part e same = patched_part place k (value_bytes s v) old part (e ∙ sym (length_bytes (width_of s) v)) (same ∙ value_bytes_le s v)

-- and a value that was written is read again
fits_bytes : (s : Size) (v : ℕ) → fits s v ≡ true → v < 2 ^ (8 * width_of s)
fits_bytes Bit v f = omega (arith, ltb-true v 2 f)
fits_bytes One v f = omega (arith, ltb-true v (2 ^ 8) f)
fits_bytes Two v f = omega (arith, ltb-true v (2 ^ 16) f)
fits_bytes Four v f = omega (arith, ltb-true v (2 ^ 32) f)
fits_bytes Eight v f = omega (arith, ltb-true v (2 ^ 64) f)

fits_kept : (s : Size) (v : ℕ) → fits s v ≡ true → v % limit_of s ≡ v
fits_kept Bit v f = omega (arith, ltb-true v 2 f)
fits_kept One v f = omega (arith, ltb-true v (2 ^ 8) f)
fits_kept Two v f = omega (arith, ltb-true v (2 ^ 16) f)
fits_kept Four v f = omega (arith, ltb-true v (2 ^ 32) f)
fits_kept Eight v f = omega (arith, ltb-true v (2 ^ 64) f)

pub read_back : (s : Size) (v place : ℕ) (out old : List ℕ) → fits s v ≡ true → place + width_of s ≤ length old → out ≡ patched place (value_bytes s v) old
    → value_read s (drop place out) ≡ Some v
read_back s v place out old f room e =
    let len = length_bytes (width_of s) v in
    let rest = drop (place + length (value_bytes s v)) old in
    let stands : drop place out ≡ value_bytes s v ++ rest = ap (drop place) e ∙ drop_patched place (value_bytes s v) old (omega arith) in
    let long : leb (width_of s) (length (value_bytes s v ++ rest)) ≡ true = le-leb _ _ (simp length-append (omega arith)) in
    ap (value_read s) stands ∙ cond-true _ _ _ long
    ∙ ap Some (ap (λ (p : List ℕ). number p % limit_of s) (take_at (value_bytes s v) rest (width_of s) len) ∙ ap (λ n. n % limit_of s) (number_bytes (width_of s) v (fits_bytes s v f)) ∙ fits_kept s v f)
