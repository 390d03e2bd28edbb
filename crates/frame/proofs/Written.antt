-- Laws of bytes that are written into a buffer.
use Rattle.std.proofs.Common.{◌≡◌, ℕ, suc, ◌+◌, ◌/◌, ◌%◌, ◌≤◌, List, [], ◌∷◌, ◌++◌, length, get_or, take, drop, sym, refl, ap, ◌∙◌, subst, append_assoc, zero-add, arith}
use Rattle.std.proofs.lemmas.List.{length-take-le, length-append, take_at, drop_at, drop-drop}
use Rattle.std.specs.Int.{w16, to_le_bytes}
use borrow.Rule.Slice.PartMut.{put_mid}
use Rattle.frame.specs.declared.sums.CheckBytes.{CheckBytes}
use Rattle.frame.specs.Checksum.{check_bytes}
use Rattle.frame.specs.Frames.{preamble₁, preamble₂, max_payload, Message, size_of, body_of, frame_bytes}
use Rattle.frame.specs.Scanning.{HeardAs}
use Rattle.frame.specs.Written.{patched, in_front}
use Rattle.frame.proofs.Frames.{frame_length}
use Rattle.frame.proofs.Scanning.{heard_as_written}

-- what stands from the place on
pub drop_patched : (place : ℕ) (bs old : List ℕ) → place ≤ length old → drop place (patched place bs old) ≡ bs ++ drop (place + length bs) old
unfolding patched
drop_patched place bs old le = drop_at (take place old) (bs ++ drop (place + length bs) old) place (length-take-le place old le)

-- one run of bytes behind another
pub patched_append : (place : ℕ) (xs ys old : List ℕ) → place + length xs ≤ length old → patched (place + length xs) ys (patched place xs old) ≡ patched place (xs ++ ys) old
unfolding patched
patched_append place xs ys old h =
    let n = place + length xs in
    let rest = drop n old in
    let t = length-take-le place old (omega arith) in
    let long : length (take place old ++ xs) ≡ n = simp length-append (omega arith) in
    let same = append_assoc (take place old) xs rest in
    let front = ap (take n) (sym same) ∙ take_at (take place old ++ xs) rest n long in
    let back = ap (drop n) (sym same) ∙ drop_at (take place old ++ xs) rest n long in
    let far = sym (drop-drop (length ys) n (take place old ++ (xs ++ rest))) ∙ ap (drop (length ys)) back ∙ drop-drop (length ys) n old in
    let e : place + length (xs ++ ys) ≡ n + length ys = simp length-append (omega arith) in
    rw (front, far, e) (append_assoc (take place old) xs _ ∙ ap (λ l. take place old ++ l) (sym (append_assoc xs ys _)))

-- at the start of the buffer
pub patched_front : (bs old : List ℕ) → patched 0 bs old ≡ bs ++ drop (length bs) old
unfolding patched
patched_front bs old = rw zero-add refl

-- a part of the buffer overwritten
pub patched_part : (place k : ℕ) (bs old part : List ℕ) → k ≡ length bs → part ≡ bs → put_mid place k old part ≡ patched place bs old
unfolding patched
patched_part place k bs old part e same =
    ap (λ (xs : List ℕ). take place old ++ (xs ++ drop k (drop place old))) same
    ∙ ap (λ (xs : List ℕ). take place old ++ (bs ++ xs)) (drop-drop k place old ∙ ap (λ n. drop (place + n) old) e)

-- Header, payload and check bytes, one behind the other, are the frame

module _ (m : Message) (old first second : List ℕ) (room : size_of m ≤ length old)
    (size : List ℕ) (l : size ≡ to_le_bytes w16 (length m.payload)) (few : length m.payload ≤ max_payload)
    (e : first ≡ patched 0 (preamble₁ ∷ preamble₂ ∷ m.class ∷ m.id ∷ get_or size 0 0 ∷ get_or size 1 0 ∷ []) old) (f : second ≡ patched 6 m.payload first) where
  low : get_or size 0 0 ≡ length m.payload % 256
  low = ap (λ (xs : List ℕ). get_or xs 0 0) l ∙ omega arith

  high : get_or size 1 0 ≡ length m.payload / 256
  high = ap (λ (xs : List ℕ). get_or xs 1 0) l ∙ omega arith

  second_is : second ≡ (preamble₁ ∷ preamble₂ ∷ body_of m) ++ drop (length (preamble₁ ∷ preamble₂ ∷ body_of m)) old
  second_is =
      let header : List ℕ = preamble₁ ∷ preamble₂ ∷ m.class ∷ m.id ∷ length m.payload % 256 ∷ length m.payload / 256 ∷ [] in
      let whole : first ≡ patched 0 header old = rw (low, high) at e in
      f ∙ ap (patched 6 m.payload) whole ∙ patched_append 0 header m.payload old (omega arith) ∙ patched_front (preamble₁ ∷ preamble₂ ∷ body_of m) old

  pub summed_part : (k : ℕ) → k ≡ 4 + length m.payload → take k (drop 2 second) ≡ body_of m
  summed_part k is =
      let n : k ≡ suc (suc (suc (suc (length m.payload)))) = omega arith in
      let rest = drop (length (preamble₁ ∷ preamble₂ ∷ body_of m)) old in
      ap (λ (xs : List ℕ). take k (drop 2 xs)) second_is
      ∙ rw n (ap (λ (xs : List ℕ). m.class ∷ m.id ∷ length m.payload % 256 ∷ length m.payload / 256 ∷ xs) (take_at m.payload rest (length m.payload) refl))

  pub frame_written : (third : List ℕ) (s : CheckBytes) (k n : ℕ) → k ≡ 4 + length m.payload → s ≡ check_bytes (take k (drop 2 second)) → n ≡ 6 + length m.payload
      → third ≡ patched n (s.a ∷ s.b ∷ []) second → third ≡ in_front (frame_bytes m) old
  unfolding frame_bytes
  frame_written third s k n ks is ns t =
      let body : List ℕ = preamble₁ ∷ preamble₂ ∷ body_of m in
      let sums : s ≡ check_bytes (body_of m) = is ∙ ap check_bytes (summed_part k ks) in
      let whole : n ≡ 0 + length body = omega arith in
      let front : second ≡ patched 0 body old = second_is ∙ sym (patched_front body old) in
      t ∙ ap (λ (x : CheckBytes). patched n (x.a ∷ x.b ∷ []) second) sums
      ∙ ap (λ (xs : List ℕ). patched n ((check_bytes (body_of m)).a ∷ (check_bytes (body_of m)).b ∷ []) xs) front
      ∙ ap (λ i. patched i ((check_bytes (body_of m)).a ∷ (check_bytes (body_of m)).b ∷ []) (patched 0 body old)) whole
      ∙ patched_append 0 body ((check_bytes (body_of m)).a ∷ (check_bytes (body_of m)).b ∷ []) old (omega arith)
      ∙ patched_front (frame_bytes m) old

-- The same, of the parts as they are overwritten one after the other: `header`, `payload` and `sums` are what stands in them then.
pub parts_written : (m : Message) (old header payload sums size : List ℕ) (s : CheckBytes) (count summed end closing : ℕ) → size_of m ≤ length old → size ≡ to_le_bytes w16 (length m.payload) → length m.payload ≤ max_payload
    → header ≡ preamble₁ ∷ preamble₂ ∷ m.class ∷ m.id ∷ get_or size 0 0 ∷ get_or size 1 0 ∷ [] → payload ≡ m.payload → count ≡ length m.payload
    → summed ≡ 4 + length m.payload → s ≡ check_bytes (take summed (drop 2 (put_mid 6 count (put_mid 0 6 old header) payload)))
    → end ≡ 6 + length m.payload → closing ≡ 2 → sums ≡ s.a ∷ s.b ∷ []
    → put_mid end closing (put_mid 6 count (put_mid 0 6 old header) payload) sums ≡ in_front (frame_bytes m) old
parts_written m old header payload sums size s count summed end closing room l few h p k n is e k₂ c =
    frame_written m old (put_mid 0 6 old header) (put_mid 6 count (put_mid 0 6 old header) payload) room size l few (patched_part 0 6 _ old header refl h) (patched_part 6 count m.payload _ payload k p)
    _ s summed end n is e (patched_part end closing _ _ sums k₂ c)

-- which is heard as it was written
pub heard_in_front : (m : Message) (out old : List ℕ) (n : ℕ) → length m.payload ≤ max_payload → out ≡ in_front (frame_bytes m) old → n ≡ size_of m → HeardAs m (take n out)
heard_in_front m out old n few e is =
    let front : take n out ≡ frame_bytes m = ap (take n) e ∙ take_at (frame_bytes m) (drop (length (frame_bytes m)) old) n (frame_length m ∙ sym is) in
    subst (HeardAs m) (sym front) (heard_as_written m few)
