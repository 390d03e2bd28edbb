-- What stands at a byte: deciding is final, an intact frame fits the bytes, an undecided place is near the end, a written frame is intact.
use Rattle.std.proofs.Common.{◌≡◌, ℕ, suc, ◌+◌, ◌-◌, ◌*◌, ◌/◌, ◌%◌, ◌<◌, ◌≤◌, Bool, true, false, cond, ◌&&◌, eqb, leb, ◌⊎◌, List, [], ◌∷◌, ◌++◌, length, get_or, take, drop, Ok, Err, Result, sym, refl, ap, ◌∙◌, inl, inr, ⊎_elim, arith}
use Rattle.std.proofs.lemmas.List.{length-append, length-take-le, length-drop, take-append-le, drop-append-le, drop_all, take_at, drop_at, drop-drop, drop_more, get_or-drop}
use Rattle.std.proofs.lemmas.Bool.{cases_lt, leb-true, le-leb, lt-leb, eq-eqb, ne_eqb, eqb-true, and_left, and_right, and_from, cond-true, cond-false}
use Rattle.frame.specs.declared.sums.CheckBytes.{CheckBytes}
use Rattle.frame.specs.declared.format.Frame.{Frame}
use Rattle.frame.specs.declared.scanner.Unheard.{Unheard}
use Rattle.frame.specs.declared.scanner.Unheard.TheVariants.{Noise, Undecided}
use Rattle.frame.specs.Checksum.{check_bytes}
use Rattle.frame.specs.Meaning.{message_of, standing_of, passed}
use Rattle.frame.specs.Frames.{preamble₁, preamble₂, max_payload, Message, size_of, body_of, frame_bytes, Standing, noise, undecided, intact, at_check_bytes, at_payload, at_header, at_second, standing, behind_header}

-- The three cases are apart

pub noise≢intact : (m : Message) → noise ≡ intact m → ⊥
noise≢intact m e = let z : ◌≡◌ {A = ℕ} 0 1 = cc in omega arith

pub undecided≢intact : (m : Message) → undecided ≡ intact m → ⊥
undecided≢intact m e = let z : ◌≡◌ {A = ℕ} 0 1 = cc in omega arith

pub noise≢undecided : noise ≡ undecided → ⊥
noise≢undecided e = let z : ◌≡◌ {A = ℕ} 0 1 = cc in omega arith

intact_under : (b : Bool) (p : Standing) (m : Message) → cond b p noise ≡ intact m → (b ≡ true) × (p ≡ intact m)
intact_under true p m e = (refl, e)
intact_under false p m e = absurd (noise≢intact m e)

undecided_under : (b : Bool) (p : Standing) → cond b p noise ≡ undecided → (b ≡ true) × (p ≡ undecided)
undecided_under true p e = (refl, e)
undecided_under false p e = absurd (noise≢undecided e)

-- A place that is decided stays so with more bytes behind

abbrev Settled : Standing → Standing → Type 0
Settled p q = (p ≡ undecided) ⊎ (q ≡ p)

under_cond : (b : Bool) (p q : Standing) → Settled p q → Settled (cond b p noise) (cond b q noise)
under_cond true p q s = s
under_cond false p q s = inr refl

check_more : (s : CheckBytes) (m : Message) (xs ext : List ℕ) → Settled (at_check_bytes s m xs) (at_check_bytes s m (xs ++ ext))
unfolding at_check_bytes
check_more s m [] ext = inl refl
check_more s m (x ∷ []) [] = inr refl
check_more s m (x ∷ []) (y ∷ ext) =
    elim (eqb x s.a) as (λ b. Settled (cond b undecided noise) (cond (b && eqb y s.b) (intact m) noise)) [ true ↦ inl refl | false ↦ inr refl ]
check_more s m (x ∷ y ∷ rest) ext = inr refl

-- what stands behind n payload bytes of a body
module _ (c i l h : ℕ) where
  behind : ℕ → List ℕ → Standing
  behind n body = at_check_bytes (check_bytes (c ∷ i ∷ l ∷ h ∷ take n body)) (record { class = c; id = i; payload = take n body }) (drop n body)

  behind_more : (n : ℕ) (body ext : List ℕ) → Settled (behind n body) (behind n (body ++ ext))
  unfolding behind at_check_bytes
  behind_more n body ext =
      ⊎_elim
      (λ short. let all : length body ≤ n = omega arith in rw (drop_all n body all) (inl refl))
      (λ long. rw (take-append-le n body ext long, drop-append-le n body ext long) (check_more _ _ (drop n body) ext))
      (cases_lt (length body) n)

  payload_more : (body ext : List ℕ) → Settled (at_payload c i l h body) (at_payload c i l h (body ++ ext))
  unfolding at_payload behind
  payload_more body ext = under_cond (leb (l + 256 * h) max_payload) _ _ (behind_more (l + 256 * h) body ext)

header_more : (xs ext : List ℕ) → Settled (at_header xs) (at_header (xs ++ ext))
unfolding at_header
header_more [] ext = inl refl
header_more (c ∷ []) ext = inl refl
header_more (c ∷ i ∷ []) ext = inl refl
header_more (c ∷ i ∷ l ∷ []) ext = inl refl
header_more (c ∷ i ∷ l ∷ h ∷ body) ext = payload_more c i l h body ext

second_more : (xs ext : List ℕ) → Settled (at_second xs) (at_second (xs ++ ext))
unfolding at_second
second_more [] ext = inl refl
second_more (q ∷ xs) ext = under_cond (eqb q preamble₂) _ _ (header_more xs ext)

pub standing_more : (xs ext : List ℕ) → Settled (standing xs) (standing (xs ++ ext))
unfolding standing
standing_more [] ext = inl refl
standing_more (p ∷ xs) ext = under_cond (eqb p preamble₁) _ _ (second_more xs ext)

pub noise_more : (xs ext : List ℕ) → standing xs ≡ noise → standing (xs ++ ext) ≡ noise
noise_more xs ext e = ⊎_elim (λ u. absurd (noise≢undecided (sym e ∙ u))) (λ q. q ∙ e) (standing_more xs ext)

pub intact_more : (xs ext : List ℕ) (m : Message) → standing xs ≡ intact m → standing (xs ++ ext) ≡ intact m
intact_more xs ext m e = ⊎_elim (λ u. absurd (undecided≢intact m (sym u ∙ e))) (λ q. q ∙ e) (standing_more xs ext)

-- An intact frame fits the bytes

check_fits : (s : CheckBytes) (k m : Message) (xs : List ℕ) → at_check_bytes s k xs ≡ intact m → (k ≡ m) × (2 ≤ length xs)
unfolding at_check_bytes
check_fits s k m [] e = absurd (undecided≢intact m e)
check_fits s k m (x ∷ []) e = absurd (undecided≢intact m (intact_under (eqb x s.a) undecided m e).1)
check_fits s k m (x ∷ y ∷ rest) e =
    let q : intact k ≡ intact m = (intact_under (eqb x s.a && eqb y s.b) (intact k) m e).1 in
    (cc, omega arith)

payload_fits : (c i l h : ℕ) (body : List ℕ) (m : Message) → at_payload c i l h body ≡ intact m → length m.payload + 2 ≤ length body
unfolding at_payload
payload_fits c i l h body m e =
    let n : ℕ = l + 256 * h in
    let r = check_fits (check_bytes (c ∷ i ∷ l ∷ h ∷ take n body)) (record { class = c; id = i; payload = take n body }) m (drop n body) (intact_under (leb n max_payload) _ m e).1 in
    let behind : length (drop n body) ≡ length body - n = length-drop n body in
    let p : take n body ≡ m.payload = ap (λ (k : Message). k.payload) r.0 in
    let fits : length (take n body) ≡ n = length-take-le n body (omega arith) in
    let same : length (take n body) ≡ length m.payload = ap length p in
    omega arith

header_fits : (xs : List ℕ) (m : Message) → at_header xs ≡ intact m → length m.payload + 6 ≤ length xs
unfolding at_header
header_fits [] m e = absurd (undecided≢intact m e)
header_fits (c ∷ []) m e = absurd (undecided≢intact m e)
header_fits (c ∷ i ∷ []) m e = absurd (undecided≢intact m e)
header_fits (c ∷ i ∷ l ∷ []) m e = absurd (undecided≢intact m e)
header_fits (c ∷ i ∷ l ∷ h ∷ body) m e = omega (arith, payload_fits c i l h body m e)

second_fits : (xs : List ℕ) (m : Message) → at_second xs ≡ intact m → length m.payload + 7 ≤ length xs
unfolding at_second
second_fits [] m e = absurd (undecided≢intact m e)
second_fits (q ∷ xs) m e = omega (arith, header_fits xs m (intact_under (eqb q preamble₂) _ m e).1)

pub intact_fits : (xs : List ℕ) (m : Message) → standing xs ≡ intact m → size_of m ≤ length xs
unfolding standing
intact_fits [] m e = absurd (undecided≢intact m e)
intact_fits (p ∷ xs) m e = omega (arith, second_fits xs m (intact_under (eqb p preamble₁) _ m e).1)

-- and its payload is a part of them

payload_part : (c i l h : ℕ) (body : List ℕ) (m : Message) → at_payload c i l h body ≡ intact m → m.payload ≡ take (length m.payload) body
unfolding at_payload
payload_part c i l h body m e =
    let n : ℕ = l + 256 * h in
    let r = check_fits (check_bytes (c ∷ i ∷ l ∷ h ∷ take n body)) (record { class = c; id = i; payload = take n body }) m (drop n body) (intact_under (leb n max_payload) _ m e).1 in
    let behind : length (drop n body) ≡ length body - n = length-drop n body in
    let p : take n body ≡ m.payload = ap (λ (k : Message). k.payload) r.0 in
    let fits : length (take n body) ≡ n = length-take-le n body (omega arith) in
    let same : n ≡ length m.payload = sym fits ∙ ap length p in
    sym p ∙ ap (λ j. take j body) same

header_part : (xs : List ℕ) (m : Message) → at_header xs ≡ intact m → m.payload ≡ take (length m.payload) (drop 4 xs)
unfolding at_header
header_part [] m e = absurd (undecided≢intact m e)
header_part (c ∷ []) m e = absurd (undecided≢intact m e)
header_part (c ∷ i ∷ []) m e = absurd (undecided≢intact m e)
header_part (c ∷ i ∷ l ∷ []) m e = absurd (undecided≢intact m e)
header_part (c ∷ i ∷ l ∷ h ∷ body) m e = payload_part c i l h body m e

second_part : (xs : List ℕ) (m : Message) → at_second xs ≡ intact m → m.payload ≡ take (length m.payload) (drop 5 xs)
unfolding at_second
second_part [] m e = absurd (undecided≢intact m e)
second_part (q ∷ xs) m e = header_part xs m (intact_under (eqb q preamble₂) _ m e).1

pub intact_part : (xs : List ℕ) (m : Message) → standing xs ≡ intact m → m.payload ≡ take (length m.payload) (drop 6 xs)
unfolding standing
intact_part [] m e = absurd (undecided≢intact m e)
intact_part (p ∷ xs) m e = second_part xs m (intact_under (eqb p preamble₁) _ m e).1

noise_some : (xs : List ℕ) → standing xs ≡ noise → 1 ≤ length xs
unfolding standing
noise_some [] e = absurd (noise≢undecided (sym e))
noise_some (x ∷ xs) e = omega arith

pub passed_fits : (xs : List ℕ) (r : Result Frame Unheard) → standing_of r ≡ standing xs → passed r ≤ length xs
passed_fits xs (Err Noise) e = noise_some xs (sym e)
passed_fits xs (Err Undecided) e = omega arith
passed_fits xs (Ok f) e = intact_fits xs (message_of f) (sym e)

-- A place behind which 780 bytes stand is decided

check_short : (s : CheckBytes) (m : Message) (xs : List ℕ) → at_check_bytes s m xs ≡ undecided → length xs ≤ 1
unfolding at_check_bytes
check_short s m [] e = omega arith
check_short s m (x ∷ []) e = omega arith
check_short s m (x ∷ y ∷ rest) e = absurd (undecided≢intact m (sym (undecided_under (eqb x s.a && eqb y s.b) (intact m) e).1))

payload_short : (c i l h : ℕ) (body : List ℕ) → at_payload c i l h body ≡ undecided → length body ≤ max_payload + 1
unfolding at_payload
payload_short c i l h body e =
    let n : ℕ = l + 256 * h in
    let r = undecided_under (leb n max_payload) _ e in
    let few : n ≤ max_payload = leb-true n max_payload r.0 in
    let behind : length (drop n body) ≤ 1 = check_short _ _ (drop n body) r.1 in
    let same : length (drop n body) ≡ length body - n = length-drop n body in
    omega arith

header_short : (xs : List ℕ) → at_header xs ≡ undecided → length xs ≤ max_payload + 5
unfolding at_header
header_short [] e = omega arith
header_short (c ∷ []) e = omega arith
header_short (c ∷ i ∷ []) e = omega arith
header_short (c ∷ i ∷ l ∷ []) e = omega arith
header_short (c ∷ i ∷ l ∷ h ∷ body) e = omega (arith, payload_short c i l h body e)

second_short : (xs : List ℕ) → at_second xs ≡ undecided → length xs ≤ max_payload + 6
unfolding at_second
second_short [] e = omega arith
second_short (q ∷ xs) e = omega (arith, header_short xs (undecided_under (eqb q preamble₂) _ e).1)

pub undecided_short : (xs : List ℕ) → standing xs ≡ undecided → length xs ≤ max_payload + 7
unfolding standing
undecided_short [] e = omega arith
undecided_short (p ∷ xs) e = omega (arith, second_short xs (undecided_under (eqb p preamble₁) _ e).1)

-- The first byte of an undecided place is followed by no byte that begins an intact frame

second_is : (y : ℕ) (xs : List ℕ) → at_second (y ∷ xs) ≡ undecided → y ≡ preamble₂
unfolding at_second
second_is y xs e = eqb-true y preamble₂ (undecided_under (eqb y preamble₂) _ e).0

pub never_next : (x : ℕ) (xs : List ℕ) (m : Message) → standing (x ∷ xs) ≡ undecided → standing xs ≡ intact m → ⊥
unfolding standing
never_next x [] m u e = undecided≢intact m e
never_next x (y ∷ ys) m u e =
    let one : y ≡ preamble₂ = second_is y ys (undecided_under (eqb x preamble₁) _ u).1 in
    let other : y ≡ preamble₁ = eqb-true y preamble₁ (intact_under (eqb y preamble₁) _ m e).0 in
    omega arith

-- A written frame is intact

pub frame_length : (m : Message) → length (frame_bytes m) ≡ size_of m
unfolding frame_bytes
frame_length m = simp length-append (omega arith)

module _ (m : Message) (few : length m.payload ≤ max_payload) where
  check_agrees : (s : CheckBytes) (rest : List ℕ) → at_check_bytes s m (s.a ∷ s.b ∷ rest) ≡ intact m
  unfolding at_check_bytes
  check_agrees s rest = rw (eq-eqb s.a s.a refl, eq-eqb s.b s.b refl) refl

  payload_agrees : at_payload m.class m.id (length m.payload % 256) (length m.payload / 256)
      (m.payload ++ (check_bytes (body_of m)).a ∷ (check_bytes (body_of m)).b ∷ []) ≡ intact m
  unfolding at_payload
  payload_agrees =
      let n : ℕ = length m.payload in
      let size : n ≡ n % 256 + 256 * (n / 256) = omega arith in
      let s : CheckBytes = check_bytes (body_of m) in
      let front = take_at m.payload (s.a ∷ s.b ∷ []) (n % 256 + 256 * (n / 256)) size in
      let back = drop_at m.payload (s.a ∷ s.b ∷ []) (n % 256 + 256 * (n / 256)) size in
      let small : leb (n % 256 + 256 * (n / 256)) max_payload ≡ true = le-leb _ max_payload (omega arith) in
      rw (small, front, back) (check_agrees s [])

  pub frame_is_intact : standing (frame_bytes m) ≡ intact m
  unfolding standing at_second at_header frame_bytes
  frame_is_intact = payload_agrees

-- What stands at the first byte, by index

-- both preamble bytes are there
header_follows : (bs : List ℕ) → 2 ≤ length bs → get_or bs 0 0 ≡ preamble₁ → get_or bs 1 0 ≡ preamble₂ → standing bs ≡ at_header (drop 2 bs)
unfolding standing at_second
header_follows [] long p q = absurd (omega arith)
header_follows (x ∷ []) long p q = absurd (omega arith)
header_follows (x ∷ y ∷ xs) long p q = cond-true (eqb x preamble₁) _ _ (eq-eqb x preamble₁ p) ∙ cond-true (eqb y preamble₂) _ _ (eq-eqb y preamble₂ q)

header_short_is : (xs : List ℕ) → length xs < 4 → at_header xs ≡ undecided
unfolding at_header
header_short_is [] short = refl
header_short_is (c ∷ []) short = refl
header_short_is (c ∷ i ∷ []) short = refl
header_short_is (c ∷ i ∷ l ∷ []) short = refl
header_short_is (c ∷ i ∷ l ∷ h ∷ body) short = absurd (omega arith)

header_whole : (xs : List ℕ) → 4 ≤ length xs → at_header xs ≡ at_payload (get_or xs 0 0) (get_or xs 1 0) (get_or xs 2 0) (get_or xs 3 0) (drop 4 xs)
unfolding at_header
header_whole [] long = absurd (omega arith)
header_whole (c ∷ []) long = absurd (omega arith)
header_whole (c ∷ i ∷ []) long = absurd (omega arith)
header_whole (c ∷ i ∷ l ∷ []) long = absurd (omega arith)
header_whole (c ∷ i ∷ l ∷ h ∷ body) long = refl

first_four : (xs : List ℕ) (n : ℕ) → 4 ≤ length xs → get_or xs 0 0 ∷ get_or xs 1 0 ∷ get_or xs 2 0 ∷ get_or xs 3 0 ∷ take n (drop 4 xs) ≡ take (4 + n) xs
first_four [] n long = absurd (omega arith)
first_four (c ∷ []) n long = absurd (omega arith)
first_four (c ∷ i ∷ []) n long = absurd (omega arith)
first_four (c ∷ i ∷ l ∷ []) n long = absurd (omega arith)
first_four (c ∷ i ∷ l ∷ h ∷ body) n long = let e : 4 + n ≡ suc (suc (suc (suc n))) = omega arith in rw e refl

pub standing_none : (bs : List ℕ) → length bs ≡ 0 → standing bs ≡ undecided
unfolding standing
standing_none [] e = refl
standing_none (x ∷ xs) e = absurd (omega arith)

pub standing_other : (bs : List ℕ) → (length bs ≡ 0 → ⊥) → (get_or bs 0 0 ≡ preamble₁ → ⊥) → standing bs ≡ noise
unfolding standing
standing_other [] some ne = absurd (some refl)
standing_other (x ∷ xs) some ne = cond-false (eqb x preamble₁) _ _ (ne_eqb x preamble₁ ne)

pub standing_one : (bs : List ℕ) → get_or bs 0 0 ≡ preamble₁ → length bs < 2 → standing bs ≡ undecided
unfolding standing at_second
standing_one [] p short = refl
standing_one (x ∷ []) p short = cond-true (eqb x preamble₁) _ _ (eq-eqb x preamble₁ p)
standing_one (x ∷ y ∷ xs) p short = absurd (omega arith)

pub standing_other_second : (bs : List ℕ) → get_or bs 0 0 ≡ preamble₁ → 2 ≤ length bs → (get_or bs 1 0 ≡ preamble₂ → ⊥) → standing bs ≡ noise
unfolding standing at_second
standing_other_second [] p long ne = absurd (omega arith)
standing_other_second (x ∷ []) p long ne = absurd (omega arith)
standing_other_second (x ∷ y ∷ xs) p long ne = cond-true (eqb x preamble₁) _ _ (eq-eqb x preamble₁ p) ∙ cond-false (eqb y preamble₂) _ _ (ne_eqb y preamble₂ ne)

pub standing_short : (bs : List ℕ) → get_or bs 0 0 ≡ preamble₁ → 2 ≤ length bs → get_or bs 1 0 ≡ preamble₂ → length bs < 6 → standing bs ≡ undecided
standing_short bs p long q short =
    let n = length-drop 2 bs in
    header_follows bs long p q ∙ header_short_is (drop 2 bs) (omega arith)

module _ (bs : List ℕ) (p : get_or bs 0 0 ≡ preamble₁) (q : get_or bs 1 0 ≡ preamble₂) (long : 6 ≤ length bs) where
  payload_follows : standing bs ≡ at_payload (get_or bs 2 0) (get_or bs 3 0) (get_or bs 4 0) (get_or bs 5 0) (drop 6 bs)
  payload_follows =
      let n = length-drop 2 bs in
      header_follows bs (omega arith) p q ∙ header_whole (drop 2 bs) (omega arith)
      ∙ simp (get_or-drop, drop-drop)

  pub standing_long : max_payload < get_or bs 4 0 + 256 * get_or bs 5 0 → standing bs ≡ noise
  unfolding at_payload
  standing_long more = payload_follows ∙ cond-false (leb (get_or bs 4 0 + 256 * get_or bs 5 0) max_payload) _ _ (lt-leb _ _ more)

  -- what the check bytes are taken over
  body_is : (n : ℕ) → get_or bs 2 0 ∷ get_or bs 3 0 ∷ get_or bs 4 0 ∷ get_or bs 5 0 ∷ take n (drop 6 bs) ≡ take (4 + n) (drop 2 bs)
  body_is n = let k = length-drop 2 bs in simp (get_or-drop, drop-drop) at (first_four (drop 2 bs) n (omega arith))

  pub standing_payload : get_or bs 4 0 + 256 * get_or bs 5 0 ≤ max_payload → standing bs ≡ behind_header (get_or bs 4 0 + 256 * get_or bs 5 0) bs
  unfolding at_payload
  standing_payload few =
      let n = get_or bs 4 0 + 256 * get_or bs 5 0 in
      payload_follows ∙ cond-true (leb n max_payload) _ _ (le-leb _ _ few)
      ∙ rw (body_is n, drop-drop n 6 bs) refl

-- the check bytes, by index

pub first_wrong : (s : CheckBytes) (m : Message) (bs : List ℕ) (k : ℕ) → k < length bs → (get_or bs k 0 ≡ s.a → ⊥) → noise ≡ at_check_bytes s m (drop k bs)
unfolding at_check_bytes
first_wrong s m bs k lt ne = sym (ap (at_check_bytes s m) (drop_more bs k 0 lt) ∙ go (drop (k + 1) bs))
  where
    go : (xs : List ℕ) → at_check_bytes s m (get_or bs k 0 ∷ xs) ≡ noise
    go [] = cond-false (eqb (get_or bs k 0) s.a) undecided noise (ne_eqb _ _ ne)
    go (y ∷ ys) = cond-false (eqb (get_or bs k 0) s.a && eqb y s.b) (intact m) noise (and_left _ _ (ne_eqb _ _ ne))

pub second_missing : (s : CheckBytes) (m : Message) (bs : List ℕ) (k : ℕ) → length bs ≡ k + 1 → get_or bs k 0 ≡ s.a → undecided ≡ at_check_bytes s m (drop k bs)
unfolding at_check_bytes
second_missing s m bs k e same =
    sym (ap (at_check_bytes s m) (drop_more bs k 0 (omega arith) ∙ ap (λ (xs : List ℕ). get_or bs k 0 ∷ xs) (drop_all (k + 1) bs (omega arith)))
    ∙ cond-true (eqb (get_or bs k 0) s.a) undecided noise (eq-eqb _ _ same))

both_there : (s : CheckBytes) (m : Message) (bs : List ℕ) (k : ℕ) → k + 1 < length bs → at_check_bytes s m (drop k bs) ≡ cond (eqb (get_or bs k 0) s.a && eqb (get_or bs (k + 1) 0) s.b) (intact m) noise
unfolding at_check_bytes
both_there s m bs k lt =
    ap (at_check_bytes s m) (drop_more bs k 0 (omega arith) ∙ ap (λ (xs : List ℕ). get_or bs k 0 ∷ xs) (drop_more bs (k + 1) 0 lt))

pub second_wrong : (s : CheckBytes) (m : Message) (bs : List ℕ) (k : ℕ) → k + 1 < length bs → (get_or bs (k + 1) 0 ≡ s.b → ⊥) → noise ≡ at_check_bytes s m (drop k bs)
second_wrong s m bs k lt ne = sym (both_there s m bs k lt ∙ cond-false _ _ _ (and_right _ _ (ne_eqb _ _ ne)))

pub both_right : (s : CheckBytes) (m : Message) (bs : List ℕ) (k : ℕ) → k + 1 < length bs → get_or bs k 0 ≡ s.a → get_or bs (k + 1) 0 ≡ s.b → intact m ≡ at_check_bytes s m (drop k bs)
both_right s m bs k lt p q = sym (both_there s m bs k lt ∙ cond-true _ _ _ (and_from _ _ (eq-eqb _ _ p) (eq-eqb _ _ q)))

pub check_missing : (s : CheckBytes) (m : Message) (bs : List ℕ) (k : ℕ) → length bs ≤ k → undecided ≡ at_check_bytes s m (drop k bs)
unfolding at_check_bytes
check_missing s m bs k le = sym (ap (at_check_bytes s m) (drop_all k bs le))

-- what stands at the first byte by the bytes before the payload, and by the check bytes

pub ruleset by_header = (standing_none, standing_other, standing_one, standing_other_second, standing_short, standing_long, standing_payload)

pub ruleset by_check_bytes = (first_wrong, second_missing, second_wrong, both_right)

pub ruleset by_start = (check_missing, passed_fits)
