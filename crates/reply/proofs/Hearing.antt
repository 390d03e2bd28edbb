-- The first frame of the input: it lies within the input, and a written frame at its start is the first.
use Rattle.std.proofs.Common.{◌≡◌, ℕ, suc, ◌+◌, ◌≤◌, List, [], ◌∷◌, ◌++◌, length, Some, Option, sym, refl, ap, ◌∙◌, arith}
use Rattle.std.proofs.lemmas.List.{drop_at}
use Rattle.std.specs.Option.{option_map}
use Rattle.frame.specs.declared.format.Frame.{Frame}
use Rattle.frame.specs.declared.scanner.Found.{Found}
use Rattle.frame.specs.Frames.{max_payload, Message, size_of, frame_bytes, Standing, noise, undecided, intact, standing}
use Rattle.frame.specs.Scanning.{Finding, finding_at, finding}
use Rattle.frame.specs.Meaning.{message_of, finding_of}
use Rattle.frame.proofs.Frames.{intact_fits, intact_more, frame_length, frame_is_intact}
use Rattle.frame.proofs.Scanning.{find_none, find_intact}
use Rattle.reply.specs.Messages.{said, reading_at, heard_at, read_message}

-- What a search finds lies within the bytes

found_fits : (bs : List ℕ) (m : Message) → (finding bs).message ≡ Some m → (finding bs).skipped + size_of m ≤ length bs
unfolding finding finding_at
found_fits [] m e = absurd (cc)
found_fits (x ∷ xs) m e = go (standing (x ∷ xs)) refl (found_fits xs m) e
  where
    go : (s : Standing) → standing (x ∷ xs) ≡ s → ((finding xs).message ≡ Some m → (finding xs).skipped + size_of m ≤ length xs)
        → (finding_at s (x ∷ xs) (λ _. finding xs)).message ≡ Some m → (finding_at s (x ∷ xs) (λ _. finding xs)).skipped + size_of m ≤ suc (length xs)
    go noise s ih h = omega (arith, ih h)
    go undecided s ih h = absurd (cc)
    go (intact k) s ih h =
        let same : k ≡ m = cc in
        let fits = intact_fits (x ∷ xs) k s in
        let size : size_of k ≡ size_of m = ap size_of same in
        omega arith

-- as the code holds it
module _ (bs : List ℕ) (f : Found) (e : finding_of f ≡ finding bs) where
  pub frame_fits : (x : Frame) → f.frame ≡ Some x → f.noise + size_of (message_of x) ≤ length bs
  frame_fits x is =
      let told : (finding bs).message ≡ Some (message_of x) = sym (ap (λ (g : Finding). g.message) e) ∙ ap (option_map message_of) is in
      let skipped : f.noise ≡ (finding bs).skipped = ap (λ (g : Finding). g.skipped) e in
      omega (arith, found_fits bs (message_of x) told)

  pub heard_is : (o : Option Frame) → f.frame ≡ o → read_message bs ≡ heard_at f.noise (option_map message_of o) f.rest.now
  unfolding read_message
  heard_is o is = ap (λ (g : Finding). heard_at g.skipped g.message g.rest) (sym e) ∙ ap (λ (p : Option Frame). heard_at f.noise (option_map message_of p) f.rest.now) is

-- A written frame at the start

module _ (m : Message) (more : List ℕ) (few : length m.payload ≤ max_payload) where
  found_written : record { skipped = 0; message = Some m; rest = more } ≡ finding (frame_bytes m ++ more)
  found_written =
      let stands = intact_more (frame_bytes m) more m (frame_is_intact m few) in
      let len = frame_length m in
      find_intact (frame_bytes m ++ more) 0 (frame_bytes m ++ more) refl (find_none (frame_bytes m ++ more)) m (size_of m) more (sym stands) refl
      (sym (drop_at (frame_bytes m) more (0 + size_of m) (omega arith)))

  pub read_written : read_message (frame_bytes m ++ more) ≡ reading_at 0 (said 0 m) more
  unfolding read_message
  read_written = ap (λ (g : Finding). heard_at g.skipped g.message g.rest) (sym found_written)
