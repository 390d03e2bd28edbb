-- What the caller's buffer holds after a verdict was written into it, behind a reply or alone.
use Rattle.std.proofs.Common.{◌≡◌, ℕ, ◌+◌, ◌-◌, ◌≤◌, List, [], ◌++◌, length, take, drop, ap, ◌∙◌, append-nil, sym, zero-add, arith}
use borrow.Rule.Slice.PartMut.{put_mid}
use Rattle.std.proofs.lemmas.List.{drop_all, drop-drop, take_rest}
use Rattle.frame.specs.Frames.{Message, frame_bytes}
use Rattle.frame.specs.Written.{patched, in_front}

module _ (old part : List ℕ) (m : Message) where
  pub verdict_behind : (place n : ℕ) → place ≡ n → place ≤ length old → part ≡ in_front (frame_bytes m) (take (length old - place) (drop place old))
      → put_mid place (length old - place) old part ≡ patched n (frame_bytes m) old
  unfolding patched
  verdict_behind place n same le e =
      let all : drop (place + (length old - place)) old ≡ [] = drop_all (place + (length old - place)) old (omega arith) in
      let rest : take (length old - place) (drop place old) ≡ drop place old = take_rest old place in
      let behind = drop-drop (length (frame_bytes m)) place old in
      ap (λ (p : List ℕ). take place old ++ (p ++ drop (length old - place) (drop place old))) (e ∙ ap (in_front (frame_bytes m)) rest ∙ ap (λ l. frame_bytes m ++ l) behind)
      ∙ ap (λ (q : List ℕ). take place old ++ (frame_bytes m ++ drop (place + length (frame_bytes m)) old ++ q)) (drop-drop (length old - place) place old ∙ all)
      ∙ ap (λ (q : List ℕ). take place old ++ q) (append-nil (frame_bytes m ++ drop (place + length (frame_bytes m)) old))
      ∙ ap (λ k. patched k (frame_bytes m) old) same

  pub verdict_alone : part ≡ in_front (frame_bytes m) old → part ≡ patched 0 (frame_bytes m) old
  unfolding patched
  verdict_alone e = e ∙ ap (λ k. frame_bytes m ++ drop k old) (sym (zero-add (length (frame_bytes m))))

pub ruleset by_place = (verdict_behind, verdict_alone)
