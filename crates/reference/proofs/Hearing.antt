-- What ties the held bytes to a history: what was told is what scanning has found so far, and it finds the rest in what is held.
use Rattle.std.proofs.Common.{◌≡◌, ℕ, ◌+◌, List, [], ◌∷◌, ◌++◌, map, length, take, Some, None, Option, sym, refl, ap, ◌∙◌, append_assoc, append-nil, add-zero}
use Rattle.std.proofs.lemmas.List.{map-append, length-map, map_push}
use Rattle.frame.specs.Frames.{Message, size_of}
use Rattle.frame.specs.Scanning.{Hearing, Scanned, waiting, scan_from, scanned, finding, both}
use Rattle.frame.proofs.Scanning.{both_waiting, so_far}
use Rattle.reference.specs.declared.call.Battery.{Battery}
use Rattle.reference.specs.declared.refusal.Verdict.{Verdict}
use Rattle.reference.specs.declared.fault.CallFault.{CallFault}
use Rattle.reference.specs.Events.{Asking, took, nothing_whole, told, looked, restarted, refused, History}
use Rattle.reference.specs.Law.{taken, heard, tellings, AnsweredOut, Name, name_of, nth, next_told}
use Rattle.reference.specs.Noise.{noise_told, NoiseIsTold}
use Rattle.reference.proofs.Finding.{found_heard, none_heard, quiet_rest, found_loud, both_more}

pub record Tracked (h : History) (held : List ℕ) : Type 0 where
  -- the heard frames that were told
  pub so_far_lem : List Hearing
  pub at : ℕ
  pub names : map name_of so_far_lem ≡ tellings h
  -- whatever is taken next
  pub rest : (more : List ℕ) → scanned (taken h ++ more) ≡ both (so_far so_far_lem (noise_told h)) (scan_from at 0 (held ++ more))
  pub quiet : AnsweredOut h → (at : ℕ) → scan_from at 0 held ≡ waiting at held

nth_behind : (xs : List Hearing) (x : Hearing) (ys : List Hearing) → nth (xs ++ x ∷ ys) (length xs) ≡ Some x.message
nth_behind [] x ys = refl
nth_behind (y ∷ xs) x ys = nth_behind xs x ys

pub tracked_made : Tracked [] []
unfolding taken tellings noise_told AnsweredOut
tracked_made = record { so_far_lem = []; at = 0; names = refl; rest = λ more. both_waiting 0 [] (scanned more); quiet = λ out. absurd out }

module _ (h : History) (held : List ℕ) (k : Tracked h held) where
  pub tracked_took : (piece : List ℕ) (n : ℕ) → Tracked (took piece n ∷ h) (held ++ take n piece)
  unfolding taken tellings noise_told AnsweredOut
  tracked_took piece n =
      record {
        so_far_lem = k.so_far_lem;
        at = k.at;
        names = k.names;
        rest = λ more. rw (append_assoc (taken h) (take n piece) more, append_assoc held (take n piece) more) (k.rest (take n piece ++ more));
        quiet = λ out at. rw (out.0, append-nil held) (k.quiet out.1 at);
      }

  pub tracked_nothing : (finding held).message ≡ None → Tracked (nothing_whole (finding held).skipped ∷ h) (finding held).rest
  unfolding taken tellings noise_told AnsweredOut
  tracked_nothing e =
      record {
        so_far_lem = k.so_far_lem ++ [];
        at = k.at + (finding held).skipped + 0;
        names = ap (map name_of) (append-nil k.so_far_lem) ∙ k.names;
        rest = λ more. k.rest more ∙ ap (both (so_far k.so_far_lem (noise_told h))) (none_heard k.at held more e) ∙ both_more k.so_far_lem [] (noise_told h) (finding held).skipped _;
        quiet = λ out at. quiet_rest at held e;
      }

  pub tracked_told : (m : Message) → (finding held).message ≡ Some m → (v : Verdict) (w : List ℕ) → Tracked (told (finding held).skipped m.class m.id v w ∷ h) (finding held).rest
  unfolding taken tellings noise_told AnsweredOut
  tracked_told m e v w =
      let x : Hearing = record { place = k.at + (finding held).skipped; message = m } in
      record {
        so_far_lem = k.so_far_lem ++ x ∷ [];
        at = k.at + (finding held).skipped + size_of m;
        names = map_push name_of k.so_far_lem x ∙ ap (λ l. l ++ name_of x ∷ []) k.names;
        rest = λ more. k.rest more ∙ ap (both (so_far k.so_far_lem (noise_told h))) (found_heard k.at held more m e) ∙ both_more k.so_far_lem (x ∷ []) (noise_told h) (finding held).skipped _;
        quiet = λ out at. absurd (found_loud at held m e (k.quiet out at));
      }

  pub tracked_looked : (l key : ℕ) (v : Option ℕ) → Tracked (looked l key v ∷ h) held
  unfolding taken tellings noise_told AnsweredOut
  tracked_looked l key v = record { so_far_lem = k.so_far_lem; at = k.at; names = k.names; rest = k.rest; quiet = k.quiet }

  pub tracked_refused : (c : Asking) (f : CallFault) → Tracked (refused c f ∷ h) held
  unfolding taken tellings noise_told AnsweredOut
  tracked_refused c f = record { so_far_lem = k.so_far_lem; at = k.at; names = k.names; rest = k.rest; quiet = k.quiet }

  -- what the law says of telling

  scanned_now : scanned (taken h) ≡ both (so_far k.so_far_lem (noise_told h)) (scan_from k.at 0 held)
  scanned_now =
      ap scanned (sym (append-nil (taken h))) ∙ k.rest [] ∙ ap (λ (bs : List ℕ). both (so_far k.so_far_lem (noise_told h)) (scan_from k.at 0 bs)) (append-nil held)

  pub in_order : (rest : List Name) × (map name_of (heard (taken h)) ≡ tellings h ++ rest)
  in_order =
      let rest = (scan_from k.at 0 held).heard in
      (map name_of rest, ap (λ (s : Scanned). map name_of s.heard) scanned_now ∙ map-append name_of k.so_far_lem rest ∙ ap (λ l. l ++ map name_of rest) k.names)

  -- answered out
  scanned_out : AnsweredOut h → scanned (taken h) ≡ both (so_far k.so_far_lem (noise_told h)) (waiting k.at held)
  scanned_out out = scanned_now ∙ ap (both (so_far k.so_far_lem (noise_told h))) (k.quiet out k.at)

  pub all_told : AnsweredOut h → map name_of (heard (taken h)) ≡ tellings h
  all_told out = ap (λ (s : Scanned). map name_of s.heard) (scanned_out out) ∙ ap (map name_of) (append-nil k.so_far_lem) ∙ k.names

  pub noise_told_lem : NoiseIsTold h
  noise_told_lem out = ap (λ (s : Scanned). s.noise) (scanned_out out) ∙ add-zero (noise_told h)

  -- the frame that an answering finds is the one that looking back reads
  pub next_is : (m : Message) → (finding held).message ≡ Some m → next_told h ≡ Some m
  next_is m e =
      let long : length (tellings h) ≡ length k.so_far_lem = ap length (sym k.names) ∙ length-map k.so_far_lem name_of in
      let here =
      ap heard (sym (append-nil (taken h)))
      ∙ ap (λ (s : Scanned). s.heard) (k.rest [] ∙ ap (both (so_far k.so_far_lem (noise_told h))) (found_heard k.at held [] m e)) in
      ap (λ n. nth (heard (taken h)) n) long ∙ ap (λ l. nth l (length k.so_far_lem)) here ∙ nth_behind k.so_far_lem _ _

pub tracked_restarted : (h : History) (b : Battery) (f : Option ℕ) → Tracked (restarted b f ∷ h) []
unfolding taken tellings noise_told AnsweredOut
tracked_restarted h b f = record { so_far_lem = []; at = 0; names = refl; rest = λ more. both_waiting 0 [] (scanned more); quiet = λ out. absurd out }
