-- The walk over the keys and selectors of a get, one entry further and at its end.
use Rattle.std.proofs.Common.{◌≡◌, ℕ, zero, suc, ◌+◌, ◌-◌, ◌*◌, ◌<◌, ◌≤◌, min, List, [], ◌∷◌, ◌++◌, length, drop, Some, None, Ok, Err, sym, refl, ap, ◌∙◌, ap₂, arith}
use Rattle.std.proofs.lemmas.Bool.Decides.{nat_tests}
use Rattle.std.proofs.lemmas.List.{length-append, take-append-le}
use Rattle.std.proofs.Math.Seq.{drop-append_seam}
use Rattle.item.specs.Selectors.{selector_of}
use Rattle.catalogue.specs.declared.entries.Entry.{Entry}
use Rattle.catalogue.specs.Catalogues.{named_from}
use Rattle.reference.specs.declared.refusal.Refusal.TheVariants.{TooManyEntries, CutEntry, UnknownKey}
use Rattle.reference.specs.Requests.{ok_map, keys_named, Read, cut, unknown, read, named_read, key_read, walking, walk, keys_of}
use Rattle.request.specs.Keys.{key_in}
use Rattle.page.specs.Walks.{keys_behind}
use Rattle.page.proofs.Named.{named_none, named_some}

-- One entry

pub entry_many : (es : List Entry) (before : ℕ) (bs rest : List ℕ) → before ≡ 64 → 0 < length bs → keys_behind es before (bs ++ rest) ≡ Err (TooManyEntries (4 + 4 * before))
unfolding walk
entry_many es before [] rest e lt = absurd (omega arith)
entry_many es before (b ∷ bs) rest e lt =
    let none : 64 - before ≡ 0 = omega arith in ap (λ left. walk (key_read es) left (4 + 4 * before) (b ∷ (bs ++ rest))) none

walk_one : (es : List Entry) (n place : ℕ) (bs : List ℕ) (r : Read (List ℕ)) → 0 < length bs → key_read es bs ≡ r
    → walk (key_read es) (suc n) place bs ≡ walking r place (λ (k : ℕ). walk (key_read es) n (place + k) (drop k bs))
unfolding walk
walk_one es n place [] r lt e = absurd (omega arith)
walk_one es n place (b ∷ bs) r lt e = ap (λ (x : Read (List ℕ)). walking x place (λ (k : ℕ). walk (key_read es) n (place + k) (drop k (b ∷ bs)))) e

module _ (es : List Entry) (before : ℕ) (bs rest : List ℕ) (few : before ≤ 64) (room : before ≡ 64 → ⊥) (some : 0 < length bs) where
  entry_as : (r : Read (List ℕ)) → key_read es (bs ++ rest) ≡ r
      → keys_behind es before (bs ++ rest) ≡ walking r (4 + 4 * before) (λ (k : ℕ). walk (key_read es) (64 - (before + 1)) (4 + 4 * before + k) (drop k (bs ++ rest)))
  entry_as r e =
      let back : 64 - before ≡ suc (64 - (before + 1)) = omega arith in
      let long : 0 < length (bs ++ rest) = simp length-append (omega arith) in
      rw back (walk_one es (64 - (before + 1)) (4 + 4 * before) (bs ++ rest) r long e)

  pub entry_cut : length bs ≡ min 4 (length (bs ++ rest)) → None ≡ key_in bs → keys_behind es before (bs ++ rest) ≡ Err (CutEntry (4 + 4 * before))
  unfolding key_read walking
  entry_cut whole e =
      let is : key_read es (bs ++ rest) ≡ cut = grind (arith, nat_tests) in
      entry_as cut is

  module _ (n : ℕ) (e : Some n ≡ key_in bs) where
    read_as : key_read es (bs ++ rest) ≡ named_read (keys_named (selector_of n) es)
    unfolding key_read
    read_as =
        let long : 4 ≤ length bs = grind (arith, nat_tests) in
        let len = length-append bs rest in
        let front = take-append-le 4 bs rest long in
        grind (arith, nat_tests)

    pub entry_unknown : named_from (selector_of n) 0 es ≡ [] → keys_behind es before (bs ++ rest) ≡ Err (UnknownKey (4 + 4 * before))
    unfolding walking
    entry_unknown h = entry_as unknown (read_as ∙ ap named_read (named_none (selector_of n) 0 es h))

    pub entry_known : (i : ℕ) (is : List ℕ) → length bs ≡ min 4 (length (bs ++ rest)) → named_from (selector_of n) 0 es ≡ i ∷ is
        → keys_behind es before (bs ++ rest) ≡ ok_map (◌++◌ (keys_named (selector_of n) es)) (keys_behind es (before + 1) rest)
    unfolding walking
    entry_known i is whole h =
        let some_key = named_some (selector_of n) 0 i es is h in
        let known : named_read (keys_named (selector_of n) es) ≡ read 4 (keys_named (selector_of n) es) = ap named_read some_key.2 ∙ ap (read 4) (sym some_key.2) in
        let four : length bs ≡ 4 = grind (arith, nat_tests) in
        entry_as _ (read_as ∙ known)
        ∙ ap₂ (λ (place : ℕ) (l : List ℕ). ok_map (◌++◌ (keys_named (selector_of n) es)) (walk (key_read es) (64 - (before + 1)) place l)) (omega arith) (ap (λ (k : ℕ). drop k (bs ++ rest)) (sym four) ∙ drop-append_seam bs rest)

-- The beginning and the end

pub keys_start : (es : List Entry) (p : List ℕ) → keys_behind es 0 (drop 4 p) ≡ keys_of es p
unfolding keys_of
keys_start es p = refl

walk_none : (es : List Entry) (left place : ℕ) → walk (key_read es) left place [] ≡ Ok []
unfolding walk
walk_none es zero place = refl
walk_none es (suc n) place = refl

pub keys_end : (es : List Entry) (before : ℕ) (bs : List ℕ) → length bs ≡ 0 → keys_behind es before bs ≡ Ok []
keys_end es before [] e = walk_none es (64 - before) (4 + 4 * before)
keys_end es before (b ∷ bs) e = absurd (omega arith)
