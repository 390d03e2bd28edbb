-- Where a search finds a frame: its payload and what stands behind it are parts of the bytes.
use Rattle.std.proofs.Common.{◌≡◌, ℕ, suc, ◌+◌, ◌≤◌, List, [], ◌∷◌, length, take, drop, Some, None, Ok, Err, Option, ok_or, sym, refl, ap, ◌∙◌, subst, ap₂, add-zero, zero-add, arith}
use Rattle.frame.specs.Frames.{Message, carrying, size_of, Standing, noise, undecided, intact, standing}
use Rattle.frame.specs.Scanning.{Finding, finding, finding_at}
use Rattle.std.specs.Option.{option_map}
use Rattle.frame.specs.declared.format.Frame.{Frame}
use Rattle.frame.specs.declared.scanner.Found.{Found}
use Rattle.frame.specs.Meaning.{message_of, finding_of}
use Rattle.frame.proofs.Frames.{intact_fits, intact_part}
use Rattle.receiver.specs.First.{FirstIs}

abbrev found_size : Option Message → ℕ
found_size None = 0
found_size (Some m) = size_of m

record Placed (bs : List ℕ) (f : Finding) : Type 0 where
  pub within : f.skipped + found_size f.message ≤ length bs
  pub rest : f.rest ≡ drop (f.skipped + found_size f.message) bs
  pub payload : (m : Message) → f.message ≡ Some m → m.payload ≡ take (length m.payload) (drop (f.skipped + 6) bs)

none≢some : {A : Type 0} (a : A) → None ≡ Some a → ⊥
none≢some a e = let z : ◌≡◌ {A = ℕ} 0 1 = cc in omega arith

same_payload : (m k : Message) → Some m ≡ Some k → m ≡ k
same_payload m k e = cc

placed : (bs : List ℕ) → Placed bs (finding bs)
unfolding finding finding_at
placed [] = record { within = omega arith; rest = refl; payload = λ m e. absurd (none≢some m e) }
placed (x ∷ xs) = go (standing (x ∷ xs)) refl (placed xs)
  where
    go : (p : Standing) → standing (x ∷ xs) ≡ p → Placed xs (finding xs) → Placed (x ∷ xs) (finding_at p (x ∷ xs) (λ _. finding xs))
    go noise e ih =
        record {
          within = omega (arith, ih.within);
          rest = ih.rest ∙ ap (λ n. drop n (x ∷ xs)) (sym (next (found_size (finding xs).message)));
          payload = λ m e. ih.payload m e ∙ ap (λ n. take (length m.payload) (drop n (x ∷ xs))) (sym (next 6));
        }
      where
        next : (n : ℕ) → suc (finding xs).skipped + n ≡ suc ((finding xs).skipped + n)
        next n = omega arith
    go undecided e ih = record { within = omega arith; rest = refl; payload = λ m e. absurd (none≢some m e) }
    go (intact m) e ih =
        record {
          within = omega (arith, intact_fits (x ∷ xs) m e);
          rest = ap (λ n. drop n (x ∷ xs)) (sym (zero-add (size_of m)));
          payload = λ k s. ap (λ (j : Message). j.payload) (sym (same_payload m k s)) ∙ intact_part (x ∷ xs) m e ∙ ap (λ (j : Message). take (length j.payload) (drop 6 (x ∷ xs))) (same_payload m k s);
        }

module _ (bs : List ℕ) (found : Found) where
  pub found_frame : (f : Frame) (few : found.noise + (8 + length f.payload.now) ≤ 780) → finding_of found ≡ finding bs → found.frame ≡ Some f → FirstIs bs (Ok (record { noise = found.noise; class = f.class; id = f.id; length = length f.payload.now; few = few }))
  found_frame f few e is =
      let m : Message = message_of f in
      let whole : record { skipped = found.noise; message = Some m; rest = found.rest.now } ≡ finding bs = ap (λ o. record { skipped = found.noise; message = option_map message_of o; rest = found.rest.now }) (sym is) ∙ e in
      let p : Placed bs (record { skipped = found.noise; message = Some m; rest = found.rest.now }) = subst (Placed bs) (sym whole) (placed bs) in
      record {
        value =
            ap₂ (λ (l r : List ℕ). record { skipped = found.noise; message = Some (carrying f.class f.id l); rest = r }) (sym (p.payload m refl)) (sym p.rest) ∙ whole;
        fits = p.within;
      }

  -- of at most 780 bytes it takes at most 780
  pub found_few : (f : Frame) → finding_of found ≡ finding bs → found.frame ≡ Some f → length bs ≤ 780 → found.noise + (8 + length f.payload.now) ≤ 780
  found_few f e is le =
      let whole : record { skipped = found.noise; message = Some (message_of f); rest = found.rest.now } ≡ finding bs = ap (λ o. record { skipped = found.noise; message = option_map message_of o; rest = found.rest.now }) (sym is) ∙ e in
      let within : found.noise + size_of (message_of f) ≤ length bs = (subst (Placed bs) (sym whole) (placed bs)).within in
      omega (arith, within, le)

  pub found_none : finding_of found ≡ finding bs → found.frame ≡ None → FirstIs bs (Err found.noise)
  found_none e is =
      let whole : record { skipped = found.noise; message = None; rest = found.rest.now } ≡ finding bs = ap (λ o. record { skipped = found.noise; message = option_map message_of o; rest = found.rest.now }) (sym is) ∙ e in
      let p : Placed bs (record { skipped = found.noise; message = None; rest = found.rest.now }) = subst (Placed bs) (sym whole) (placed bs) in
      let rest : found.rest.now ≡ drop found.noise bs = p.rest ∙ ap (λ n. drop n bs) (add-zero found.noise) in
      record { value = ap (λ (r : List ℕ). record { skipped = found.noise; message = None; rest = r }) (sym rest) ∙ whole; fits = omega (arith, p.within) }

  pub found_err : (n : ℕ) → finding_of found ≡ finding bs → Err n ≡ ok_or found.frame found.noise → FirstIs bs (Err n)
  found_err n e is = go found.frame refl is
    where
      go : (o : Option Frame) → found.frame ≡ o → Err n ≡ ok_or o found.noise → FirstIs bs (Err n)
      go None none r = let same : n ≡ found.noise = cc in subst (λ (k : ℕ). FirstIs bs (Err k)) (sym same) (found_none e none)
      go (Some f) some r = cc
