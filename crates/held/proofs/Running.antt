-- The sums beside the held bytes: what they say of a part.
use Rattle.std.proofs.Common.{◌≡◌, ℕ, zero, suc, ◌+◌, ◌-◌, ◌%◌, ◌<◌, ◌≤◌, List, length, get_or, set, take, drop, sym, ap, ◌∙◌, get_or-set_other, get_or-set_same, below_more, ◌≢◌, arith}
use Rattle.std.proofs.lemmas.List.{drop-drop, drop-take, drop_more, length-drop, length-take-le, take-take}
use Rattle.frame.specs.declared.sums.CheckBytes.{CheckBytes}
use Rattle.frame.specs.Checksum.{with_byte, summed, check_bytes, sums_between}
use Rattle.frame.proofs.Checksum.{between_is}
use Rattle.held.specs.Sums.{sums_before, SummedTo}

-- The sums behind a byte are those before it, with it

sums_next : (bytes kept : List ℕ) (end i : ℕ) → SummedTo bytes kept end → 1 ≤ i → i < end → sums_before kept (i + 1) ≡ with_byte (sums_before kept i) (get_or bytes i 0)
sums_next bytes kept end i told some lt =
    let last : i - 1 + 2 ≡ i + 1 = omega arith in
    let next : i + 1 + 1 ≡ i + 2 = omega arith in
    let before = ap (λ k. get_or kept k 0) (sym last) ∙ told (i - 1) (omega arith) in
    let b : get_or kept (i + 1 + 1) 0 ≡ (with_byte (sums_before kept i) (get_or bytes i 0)).b = ap (λ k. get_or kept k 0) next ∙ told i lt in
    let a : (get_or kept (i + 1 + 1) 0 + 256 - get_or kept (i + 1) 0) % 256 ≡ (with_byte (sums_before kept i) (get_or bytes i 0)).a = omega arith in
    λ j. record { a = a j; b = b j }

-- and so those behind n bytes more

summed_over : (bytes kept : List ℕ) (end place n : ℕ) → SummedTo bytes kept end → end ≤ length bytes → 1 ≤ place → place + n ≤ end
    → sums_before kept (place + n) ≡ summed (sums_before kept place) (take n (drop place bytes))
unfolding summed
summed_over bytes kept end place zero told long some le = let same : place + 0 ≡ place = omega arith in ap (sums_before kept) same
summed_over bytes kept end place (suc n) told long some le =
    let next : place + suc n ≡ place + 1 + n = omega arith in
    let first = drop_more bytes place 0 (omega arith) in
    ap (sums_before kept) next ∙ summed_over bytes kept end (place + 1) n told long (omega arith) (omega arith)
    ∙ ap (λ (u : CheckBytes). summed u (take n (drop (place + 1) bytes))) (sums_next bytes kept end place told some (omega arith))
    ∙ ap (λ (l : List ℕ). summed (sums_before kept place) (take (suc n) l)) (sym first)

-- The check bytes of a part of what is held

part_of_held : (bytes : List ℕ) (start end place n : ℕ) → start + place + 2 + n ≤ end
    → take n (drop 2 (drop place (take (end - start) (drop start bytes)))) ≡ take n (drop (start + place + 2) bytes)
part_of_held bytes start end place n le =
    let rest : end - start ≡ place + 2 + (end - start - (place + 2)) = omega arith in
    let there : start + (place + 2) ≡ start + place + 2 = omega arith in
    ap (take n) (drop-drop 2 place (take (end - start) (drop start bytes)) ∙ ap (λ k. drop (place + 2) (take k (drop start bytes))) rest
    ∙ drop-take (place + 2) (end - start - (place + 2)) (drop start bytes))
    ∙ take-take n (end - start - (place + 2)) (drop (place + 2) (drop start bytes)) (omega arith)
    ∙ ap (take n) (drop-drop (place + 2) start bytes ∙ ap (λ k. drop k bytes) there)

pub part_sums : (bytes kept : List ℕ) (start end place n : ℕ) (s : CheckBytes) → SummedTo bytes kept end → end ≤ length bytes → start + place + 2 + n ≤ end
    → s ≡ sums_between (sums_before kept (start + place + 2)) (sums_before kept (start + place + 2 + n)) n
    → s ≡ check_bytes (take n (drop 2 (drop place (take (end - start) (drop start bytes)))))
part_sums bytes kept start end place n s told long le e =
    let first : ℕ = start + place + 2 in
    let before : CheckBytes = sums_before kept first in
    let w : List ℕ = take n (drop first bytes) in
    let rest = length-drop first bytes in
    let size : length w ≡ n = length-take-le n (drop first bytes) (omega arith) in
    let is : sums_before kept (first + n) ≡ summed before w = summed_over bytes kept end first n told long (omega arith) le in
    let last : start + place + 1 + 2 ≡ first + 1 = omega arith in
    let small = ap (λ k. get_or kept k 0) (sym last) ∙ told (start + place + 1) (omega arith) in
    e ∙ ap (λ (u : CheckBytes). sums_between before u n) is ∙ ap (sums_between before (summed before w)) (sym size) ∙ between_is before w (omega arith, omega arith)
    ∙ ap check_bytes (sym (part_of_held bytes start end place n le))

-- Keeping the sums behind one byte more

module _ (bytes kept : List ℕ) (place : ℕ) (so_far next : CheckBytes) (room : place + 2 < length kept) (small : so_far.b < 256) (told : SummedTo bytes kept place) (is : so_far ≡ sums_before kept place) (more : next ≡ with_byte so_far (get_or bytes place 0)) where
  abbrev longer : List ℕ
  longer = set kept (place + 2) next.b

  other : (j : ℕ) → j ≢ place + 2 → get_or longer j 0 ≡ get_or kept j 0
  other j ne = get_or-set_other kept (place + 2) j next.b 0 ne

  same : get_or longer (place + 2) 0 ≡ next.b
  same = get_or-set_same kept (place + 2) next.b 0 room

  pub summed_more : SummedTo bytes longer (place + 1)
  summed_more =
      below_more _ _
      (λ i h.
      let p = other i (omega arith) in
      let q = other (i + 1) (omega arith) in
      let r = other (i + 2) (omega arith) in
      let t = told i h in
      omega arith)
      (let p = other place (omega arith) in
      let q = other (place + 1) (omega arith) in
      let r = same in
      let a = ap (λ (u : CheckBytes). u.a) is in
      let b = ap (λ (u : CheckBytes). u.b) is in
      let n = ap (λ (u : CheckBytes). u.b) more in
      omega arith)

  pub so_far_more : next ≡ sums_before longer (place + 1)
  so_far_more =
      let last : place + 1 + 1 ≡ place + 2 = omega arith in
      let q = other (place + 1) (omega arith) in
      let r = ap (λ k. get_or longer k 0) last ∙ same in
      let b = ap (λ (u : CheckBytes). u.b) is in
      let m = ap (λ (u : CheckBytes). u.a) more in
      let n = ap (λ (u : CheckBytes). u.b) more in
      let front : next.a ≡ (get_or longer (place + 1 + 1) 0 + 256 - get_or longer (place + 1) 0) % 256 = omega arith in
      λ j. record { a = front j; b = sym r j }
