-- What a receiver writes is read back.
use Rattle.std.proofs.Common.{◌≡◌, ℕ, zero, suc, ◌+◌, ◌*◌, ◌^◌, ◌<◌, ◌≤◌, Bool, true, false, cond, ◌&&◌, ltb, List, [], ◌∷◌, ◌++◌, length, take, drop, Some, None, Ok, Option, Result, sym, refl, ap, ◌∙◌, append_assoc, arith, length-append}
use Rattle.std.specs.List.{AllByRecursion}
use Rattle.std.specs.Option.{option_map}
use Rattle.std.proofs.lemmas.List.{take_at, drop_at}
use Rattle.std.proofs.lemmas.Bool.Decides.{nat_tests}
use Rattle.frame.specs.Frames.{max_payload, Message, frame_bytes}
use Rattle.frame.specs.Written.{patched}
use Rattle.frame.proofs.Written.{patched_front}
use Rattle.item.specs.declared.key.Size.{Size}
use Rattle.item.specs.Keys.{size_of, width_of, well_formed, fits, fits_size}
use Rattle.item.specs.Values.{number, bytes_of, value_bytes, value_read}
use Rattle.item.proofs.Values.{number_bytes, length_bytes, read_back}
use Rattle.layer.specs.declared.setting.Setting.{Setting}
use Rattle.layer.specs.Settings.{setting, value_under as held_under, is_setting, Sound}
use Rattle.reference.specs.Requests.{bytes_at}
use Rattle.reference.specs.Receiver.{pair_under as pair_held, held_pairs, pair_bytes, pairs_bytes, position_of, page_pairs, page, verdict_frame}
use Rattle.reference.proofs.Verdicts.{page_length}
use Rattle.request.specs.Keys.{key_in}
use Rattle.reply.specs.declared.fault.ReadFault.{ReadFault}
use Rattle.reply.specs.Pairs.{first_pair, pair_size, in_front_of, pairs_read}
use Rattle.reply.specs.Messages.{Saying, ack, nak, values, values_or_fault, verdict_said, said, Reading, reading_at, read_message}
use Rattle.reply.specs.Back.{at_start, page_said, ReadsBack}
use Rattle.reply.proofs.Fronts.{sized}
use Rattle.reply.proofs.Walks.{pairs_step, pairs_end}
use Rattle.reply.proofs.Sayings.{values_are}
use Rattle.reply.proofs.Hearing.{read_written}

-- One pair

abbrev IsPair : Setting → Type 0
IsPair s = is_setting s.key s.value ≡ true

both_true : (a b : Bool) → (a && b) ≡ true → (a ≡ true) × (b ≡ true)
both_true true b e = (refl, e)
both_true false b e = absurd (cc)

key_small : (k : ℕ) → well_formed k ≡ true → k < 2 ^ 32
key_small k e = grind (arith, nat_tests)

sized_by : (o : Option Size) (v : ℕ) → fits_size o v ≡ true → (s : Size) × (Some s ≡ o) × (fits s v ≡ true)
sized_by None v e = absurd (cc)
sized_by (Some s) v e = (s, refl, e)

module _ (p : Setting) (ok : IsPair p) (rest : List ℕ) where
  formed : (well_formed p.key ≡ true) × (fits_size (size_of p.key) p.value ≡ true)
  unfolding is_setting
  formed = both_true _ _ ok

  parts : pair_bytes p ++ rest ≡ bytes_of 4 p.key ++ (bytes_of (bytes_at (size_of p.key)) p.value ++ rest)
  parts = append_assoc (bytes_of 4 p.key) (bytes_of (bytes_at (size_of p.key)) p.value) rest

  key_back : Some p.key ≡ key_in (pair_bytes p ++ rest)
  key_back =
      let bs : List ℕ = bytes_of 4 p.key ++ (bytes_of (bytes_at (size_of p.key)) p.value ++ rest) in
      let len = length_bytes 4 p.key in
      let all = length-append (bytes_of 4 p.key) (bytes_of (bytes_at (size_of p.key)) p.value ++ rest) in
      let long : 4 ≤ length bs = omega arith in
      let test : ltb (length bs) 4 ≡ false = grind (arith, nat_tests) in
      let front : take 4 bs ≡ bytes_of 4 p.key = take_at (bytes_of 4 p.key) (bytes_of (bytes_at (size_of p.key)) p.value ++ rest) 4 len in
      sym (ap key_in parts ∙ ap (λ (b : Bool). cond b None (Some (number (take 4 bs)))) test ∙ ap (λ (xs : List ℕ). Some (number xs)) front
      ∙ ap Some (number_bytes 4 p.key (key_small p.key formed.0)))

  value_back : (s : Size) → Some s ≡ size_of p.key → fits s p.value ≡ true → value_read s (drop 4 (pair_bytes p ++ rest)) ≡ Some p.value
  value_back s e f =
      let vs : List ℕ = value_bytes s p.value in
      let same : bytes_of (bytes_at (size_of p.key)) p.value ≡ vs = ap (λ (o : Option Size). bytes_of (bytes_at o) p.value) (sym e) in
      let back : drop 4 (pair_bytes p ++ rest) ≡ vs ++ rest =
      ap (drop 4) parts ∙ drop_at (bytes_of 4 p.key) (bytes_of (bytes_at (size_of p.key)) p.value ++ rest) 4 (length_bytes 4 p.key) ∙ ap (λ (xs : List ℕ). xs ++ rest) same in
      let len = length_bytes (width_of s) p.value in
      let all = length-append vs rest in
      let stands : vs ++ rest ≡ patched 0 vs (vs ++ rest) = sym (patched_front vs (vs ++ rest) ∙ ap (λ (xs : List ℕ). vs ++ xs) (drop_at vs rest (length vs) refl)) in
      ap (value_read s) back ∙ read_back s p.value 0 (vs ++ rest) (vs ++ rest) f (omega arith) stands

  pub first_back : first_pair (pair_bytes p ++ rest) ≡ Some p
  first_back =
      let s = sized_by (size_of p.key) p.value formed.1 in
      sized (pair_bytes p ++ rest) p.key key_back formed.0 (Some s.0) s.1 ∙ ap (option_map (setting p.key)) (value_back s.0 s.1 s.2)

  pub size_back : length (pair_bytes p) ≡ pair_size p
  size_back = simp (length-append, length_bytes) (omega arith)

-- All pairs

pub pairs_back : (place : ℕ) (ps : List Setting) → AllByRecursion IsPair ps → pairs_read place (pairs_bytes ps) ≡ Ok ps
unfolding pairs_bytes
pairs_back place [] ok = pairs_end place [] refl
pairs_back place (p ∷ ps) ok =
    let len = size_back p ok.0 (pairs_bytes ps) in
    let fits : pair_size p ≤ length (pair_bytes p ++ pairs_bytes ps) = let all = length-append (pair_bytes p) (pairs_bytes ps) in omega arith in
    pairs_step place (pair_bytes p ++ pairs_bytes ps) p (first_back p ok.0 (pairs_bytes ps)) fits
    ∙ ap (λ (bs : List ℕ). in_front_of p (pairs_read (place + pair_size p) bs)) (drop_at (pair_bytes p) (pairs_bytes ps) (pair_size p) len)
    ∙ ap (in_front_of p) (pairs_back (place + pair_size p) ps ok.1)

-- Those of a page

held_all : (ss : List Setting) → Sound ss → (ks : List ℕ) → AllByRecursion IsPair (held_pairs ss ks)
unfolding held_pairs
held_all ss sound [] = tt
held_all ss sound (k ∷ ks) = go (held_under k ss) refl (held_all ss sound ks)
  where
    go : (o : Option ℕ) → held_under k ss ≡ o → AllByRecursion IsPair (held_pairs ss ks) → AllByRecursion IsPair (pair_held k o (held_pairs ss ks))
    go None e ih = ih
    go (Some v) e ih = (sound k v e, ih)

all_drop : (n : ℕ) (ps : List Setting) → AllByRecursion IsPair ps → AllByRecursion IsPair (drop n ps)
all_drop zero ps ok = ok
all_drop (suc n) [] ok = tt
all_drop (suc n) (p ∷ ps) ok = all_drop n ps ok.1

all_take : (n : ℕ) (ps : List Setting) → AllByRecursion IsPair ps → AllByRecursion IsPair (take n ps)
all_take zero ps ok = tt
all_take (suc n) [] ok = tt
all_take (suc n) (p ∷ ps) ok = (ok.0, all_take n ps ok.1)

page_back : (ss : List Setting) (p ks : List ℕ) → Sound ss → 4 ≤ length p → said 0 (page ss p ks) ≡ Ok (page_said ss p ks)
unfolding said page number
page_back ss [] ks sound long = absurd (omega arith)
page_back ss (a ∷ []) ks sound long = absurd (omega arith)
page_back ss (a ∷ b ∷ []) ks sound long = absurd (omega arith)
page_back ss (a ∷ b ∷ c ∷ []) ks sound long = absurd (omega arith)
page_back ss (a ∷ b ∷ c ∷ d ∷ p) ks sound long =
    let position = position_of (a ∷ b ∷ c ∷ d ∷ p) in
    let pairs : List Setting = page_pairs position (held_pairs ss ks) in
    let all = pairs_back 10 pairs (all_take 64 _ (all_drop position _ (held_all ss sound ks))) in
    let same : c + 256 * d ≡ position = omega arith in
    values_are 6 (page ss (a ∷ b ∷ c ∷ d ∷ p) ks) (omega arith) refl
    ∙ ap (values_or_fault b (c + 256 * d)) all ∙ ap (λ (n : ℕ). Ok (values b n pairs)) same

-- The verdicts

ack_back : (m : Message) → said 0 (verdict_frame 1 m) ≡ Ok (ack m.class m.id)
unfolding said verdict_said
ack_back m = refl

nak_back : (m : Message) → said 0 (verdict_frame 0 m) ≡ Ok (nak m.class m.id)
unfolding said verdict_said
nak_back m = refl

-- What was read of some bytes, where they begin with what a receiver writes

read_as : (bs : List ℕ) (r : Result Reading ReadFault) → r ≡ read_message bs → (m : Message) (s : Saying) (more : List ℕ) → length m.payload ≤ max_payload → said 0 m ≡ Ok s
    → bs ≡ frame_bytes m ++ more → r ≡ Ok (at_start s more)
read_as bs r e m s more few says is =
    e ∙ ap read_message is ∙ read_written m more few ∙ ap (λ (t : Result Saying ReadFault). reading_at 0 t more) says

pub reads_back : (bs : List ℕ) (r : Result Reading ReadFault) → r ≡ read_message bs → ReadsBack bs r
reads_back bs r e = record {
  acks = λ m more is. read_as bs r e (verdict_frame 1 m) _ more (omega arith) (ack_back m) is;
  naks = λ m more is. read_as bs r e (verdict_frame 0 m) _ more (omega arith) (nak_back m) is;
  pages = λ ss p ks more sound long is. read_as bs r e (page ss p ks) _ more (page_length ss p ks) (page_back ss p ks sound long) is;
}
