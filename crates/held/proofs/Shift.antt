-- Dropping from the front, and writing behind what is held.
use Rattle.std.proofs.Common.{◌≡◌, ℕ, ◌+◌, ◌-◌, ◌<◌, ◌≤◌, List, ◌++◌, length, take, drop, sym, refl, ap, ◌∙◌, arith}
use Rattle.std.proofs.lemmas.List.{length-take-le, length-take, drop-take, drop-drop, drop-append-le}
use Rattle.std.proofs.lemmas.Slice.{take-put_mid}
use borrow.Rule.Slice.PartMut.{put_mid}

pub skip_some : (bs : List ℕ) (start end count : ℕ) → start ≤ end → count < length (take (end - start) (drop start bs))
    → take (end - (start + count)) (drop (start + count) bs) ≡ drop count (take (end - start) (drop start bs))
skip_some bs start end count order lt =
    let fewer = length-take (end - start) (drop start bs) in
    let rest : end - start ≡ count + (end - (start + count)) = omega arith in
    sym (ap (λ n. drop count (take n (drop start bs))) rest ∙ drop-take count (end - (start + count)) (drop start bs) ∙ ap (take (end - (start + count))) (drop-drop count start bs))

between : (bs : List ℕ) (start end : ℕ) → start ≤ end → take (end - start) (drop start bs) ≡ drop start (take end bs)
between bs start end order =
    let whole : end ≡ start + (end - start) = omega arith in
    sym (ap (λ n. drop start (take n bs)) whole ∙ drop-take start (end - start) bs)

-- bytes written behind those held
pub written_behind : (bs ys : List ℕ) (start end : ℕ) → length bs ≡ 1560 → start ≤ end → end + length ys ≤ 1560
    → take (end + length ys - start) (drop start (put_mid end (end + length ys - end) bs ys)) ≡ take (end - start) (drop start bs) ++ ys
written_behind bs ys start end whole order room =
    let front : length (take end bs) ≡ end = length-take-le end bs (omega arith) in
    between (put_mid end (end + length ys - end) bs ys) start (end + length ys) (omega arith)
    ∙ ap (drop start) (take-put_mid end (end + length ys - end) bs ys (end + length ys) refl (omega arith))
    ∙ drop-append-le start (take end bs) ys (omega arith)
    ∙ ap (λ l. l ++ ys) (sym (between bs start end order))
