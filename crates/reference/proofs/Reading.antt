-- Data that are read name keys of the catalogue, with values that fit.
use Rattle.std.proofs.Common.{◌≡◌, ℕ, zero, suc, ◌+◌, ◌%◌, ◌<◌, ◌≤◌, Bool, true, false, cond, eqb, ltb, leb, List, [], ◌∷◌, ◌++◌, map, length, take, drop, Some, None, Ok, Err, Option, Result, refl, subst, mod-lt, arith}
use Rattle.std.specs.List.{AllByRecursion}
use Rattle.std.proofs.ByRecursion.{All-append, All-map, All-weaker}
use Rattle.std.proofs.lemmas.Bool.{cond_both, leb-true, lt-ltb, and_parts}
use Rattle.item.specs.declared.key.Size.{Size}
use Rattle.item.specs.declared.key.Size.TheVariants.{Bit, One, Two, Four, Eight}
use Rattle.item.specs.declared.selector.Selector.{Selector}
use Rattle.item.specs.Keys.{size_bits, size_at, size_of, limit_of, well_formed, fits_size, fits_key}
use Rattle.item.specs.Selectors.{selector_of, names}
use Rattle.item.specs.Values.{number}
use Rattle.reference.specs.declared.refusal.Refusal.{Refusal}
use Rattle.reference.specs.Requests.{Catalogue, is_known, keys_named, valset, Data, latest, Read, cut, unknown, read, bytes_at, limit_at, pair_read, named_read, key_read, deleted, read_map, deletion_read, ok_map, walking, walk, data_of}
use Rattle.reference.proofs.Settings.{known_first, known_behind, known_formed}
use Rattle.reference.proofs.Stores.{SoundCatalogue, Good, GoodChanges, latest_good}

-- P of what one entry names
abbrev ReadAll : {A : Type 0} → (A → Type 0) → Read (List A) → Type 0
ReadAll P cut = Unit {0}
ReadAll P unknown = Unit {0}
ReadAll P (read n xs) = AllByRecursion P xs

abbrev OkAll : {A : Type 0} → (A → Type 0) → Result (List A) Refusal → Type 0
OkAll P (Ok xs) = AllByRecursion P xs
OkAll P (Err r) = Unit {0}

ok_joined : {A : Type 0} (P : A → Type 0) (xs : List A) (r : Result (List A) Refusal) → AllByRecursion P xs → OkAll P r → OkAll P (ok_map (◌++◌ xs) r)
ok_joined P xs (Ok bs) h k = All-append P xs bs h k
ok_joined P xs (Err r) h k = tt

walk_all : {A : Type 0} (P : A → Type 0) (one : List ℕ → Read (List A)) → ((bs : List ℕ) → ReadAll P (one bs))
    → (left place : ℕ) (bs : List ℕ) → OkAll P (walk one left place bs)
unfolding walk walking
walk_all P one each zero place [] = tt
walk_all P one each zero place (x ∷ xs) = tt
walk_all P one each (suc left) place [] = tt
walk_all P one each (suc left) place (x ∷ xs) = go (one (x ∷ xs)) (each (x ∷ xs)) (λ n. walk_all P one each left (place + n) (drop n (x ∷ xs)))
  where
    go : (r : Read (List _)) → ReadAll P r → ((n : ℕ) → OkAll P (walk one left (place + n) (drop n (x ∷ xs)))) → OkAll P (walking r place (λ n. walk one left (place + n) (drop n (x ∷ xs))))
    go cut h ih = tt
    go unknown h ih = tt
    go (read n xs) h ih = ok_joined P xs _ h (ih n)

-- A value that is read fits, for a well-formed key has a size

limit_some : (s : Size) → 0 < limit_of s
limit_some Bit = omega arith
limit_some One = omega arith
limit_some Two = omega arith
limit_some Four = omega arith
limit_some Eight = omega arith

sized : (n : ℕ) → 1 ≤ n → n ≤ 5 → (s : Size) × (size_at n ≡ Some s)
sized zero low high = absurd (omega arith)
sized (suc zero) low high = (Bit, refl)
sized (suc (suc zero)) low high = (One, refl)
sized (suc (suc (suc zero))) low high = (Two, refl)
sized (suc (suc (suc (suc zero)))) low high = (Four, refl)
sized (suc (suc (suc (suc (suc zero))))) low high = (Eight, refl)
sized (suc (suc (suc (suc (suc (suc n)))))) low high = absurd (omega arith)

formed_sized : (k : ℕ) → well_formed k ≡ true → (s : Size) × (size_of k ≡ Some s)
formed_sized k w =
    let a = and_parts (leb 1 (size_bits k)) _ w in
    let b = and_parts (leb (size_bits k) 5) _ a.1 in
    sized (size_bits k) (leb-true 1 (size_bits k) a.0) (leb-true (size_bits k) 5 b.0)

read_fits_lem : (o : Option Size) (s : Size) (n : ℕ) → o ≡ Some s → fits_size o (n % limit_at o) ≡ true
read_fits_lem None s n e = cc
read_fits_lem (Some t) s n e = lt-ltb _ _ (mod-lt n (limit_some t))

module _ (cat : Catalogue) (sound : SoundCatalogue cat) where
  one_good : (k n : ℕ) → is_known cat k ≡ true → Good cat true (record { key = k; value = Some (n % limit_at (size_of k)) })
  one_good k n is =
      let size = formed_sized k (known_formed cat 0 k sound.listed is) in
      record {
        known = is;
        fit = λ v e. subst (λ (x : ℕ). fits_key k x ≡ true) (some_same (n % limit_at (size_of k)) v e) (read_fits_lem (size_of k) size.0 n size.1);
        some = λ _. (n % limit_at (size_of k), refl);
      }
    where
      some_same : (x v : ℕ) → Some x ≡ Some v → x ≡ v
      some_same x v e = cc

  pair_good : (bs : List ℕ) → ReadAll (Good cat true) (pair_read cat bs)
  unfolding pair_read
  pair_good bs =
      let k : ℕ = number (take 4 bs) in
      let w : ℕ = bytes_at (size_of k) in
      let n : ℕ = number (take w (drop 4 bs)) in
      let r : Read Data = read (4 + w) (record { key = k; value = Some (n % limit_at (size_of k)) } ∷ []) in
      cond_both (ltb (length bs) (4 + w)) cut (cond (is_known cat k) r unknown) (ReadAll (Good cat true)) (λ _. tt)
      (λ _. cond_both (is_known cat k) r unknown (ReadAll (Good cat true)) (λ is. (one_good k n is, tt)) (λ _. tt))

  named_known : (s : Selector) (es : Catalogue) → AllByRecursion (λ k. is_known es k ≡ true) (keys_named s es)
  unfolding keys_named is_known
  named_known s [] = tt
  named_known s (e ∷ es) =
      let rest = All-weaker (λ k. is_known es k ≡ true) (λ k. is_known (e ∷ es) k ≡ true) (known_behind e es) (keys_named s es) (named_known s es) in
      cond_both (names s e.key) _ _ (AllByRecursion (λ k. is_known (e ∷ es) k ≡ true)) (λ _. (known_first e es, rest)) (λ _. rest)

  deleted_good : (k : ℕ) → is_known cat k ≡ true → Good cat false (deleted k)
  deleted_good k is = record { known = is; fit = λ v e. cc; some = λ e. cc }

  deletion_good : (bs : List ℕ) → ReadAll (Good cat false) (deletion_read cat bs)
  unfolding key_read
  deletion_good bs =
      cond_both (ltb (length bs) 4) _ _ (λ r. ReadAll (Good cat false) (read_map (map deleted) r)) (λ _. tt) (λ _. go (keys_named (selector_of (number (take 4 bs))) cat) (named_known (selector_of (number (take 4 bs))) cat))
    where
      go : (ks : List ℕ) → AllByRecursion (λ k. is_known cat k ≡ true) ks → ReadAll (Good cat false) (read_map (map deleted) (named_read ks))
      go [] h = tt
      go (k ∷ ks) h = All-map (Good cat false) deleted (k ∷ ks) (All-weaker (λ k. is_known cat k ≡ true) (λ k. Good cat false (deleted k)) deleted_good (k ∷ ks) h)

  data_ok : (id : ℕ) (p : List ℕ) → OkAll (Good cat (eqb id valset)) (data_of cat id p)
  unfolding data_of
  data_ok id p = go (eqb id valset)
    where
      go : (b : Bool) → OkAll (Good cat b) (cond b (walk (pair_read cat) 64 4 (drop 4 p)) (walk (deletion_read cat) 64 4 (drop 4 p)))
      go true = walk_all (Good cat true) (pair_read cat) pair_good 64 4 (drop 4 p)
      go false = walk_all (Good cat false) (deletion_read cat) deletion_good 64 4 (drop 4 p)

  pub data_good : (id : ℕ) (p : List ℕ) (d : Data) → data_of cat id p ≡ Ok d → GoodChanges cat (eqb id valset) (latest d)
  data_good id p d e = latest_good cat (eqb id valset) d (subst (OkAll (Good cat (eqb id valset))) e (data_ok id p))
