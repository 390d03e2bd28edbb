-- The pair at the front, by its key, its key's size and its value.
use Rattle.std.proofs.Common.{◌≡◌, ℕ, ◌+◌, ◌-◌, ◌≤◌, Bool, true, false, cond, leb, List, length, take, drop, Some, None, Option, sym, refl, ap, ◌∙◌, arith}
use Rattle.std.proofs.lemmas.List.{length-drop, take_rest}
use Rattle.std.proofs.lemmas.Bool.{leb-true}
use Rattle.std.specs.Option.{option_map}
use Rattle.item.specs.declared.key.Size.{Size}
use Rattle.item.specs.Keys.{size_of, width_of, well_formed}
use Rattle.item.specs.Values.{value_read}
use Rattle.layer.specs.Settings.{setting}
use Rattle.reference.specs.Requests.{bytes_at}
use Rattle.request.specs.Keys.{key_in}
use Rattle.reply.specs.Pairs.{value_under, pair_under, first_pair, pair_size}

some_value : (b : Bool) (w v : ℕ) → Some v ≡ cond b (Some w) None → b ≡ true
some_value true w v e = refl
some_value false w v e = absurd (cc)

-- a value that is read has its bytes
pub value_room : (s : Size) (bs : List ℕ) (v : ℕ) → Some v ≡ value_read s bs → width_of s ≤ length bs
value_room s bs v e = leb-true (width_of s) (length bs) (some_value (leb (width_of s) (length bs)) _ v e)

pub no_key : (bs : List ℕ) → None ≡ key_in bs → first_pair bs ≡ None
unfolding first_pair
no_key bs e = ap (λ (o : Option ℕ). pair_under o (drop 4 bs)) (sym e)

module _ (bs : List ℕ) (k : ℕ) (key : Some k ≡ key_in bs) where
  pub keyed : (b : Bool) → well_formed k ≡ b → first_pair bs ≡ cond b (value_under k (size_of k) (drop 4 bs)) None
  unfolding first_pair
  keyed b e = ap (λ (o : Option ℕ). pair_under o (drop 4 bs)) (sym key) ∙ ap (λ c. cond c (value_under k (size_of k) (drop 4 bs)) None) e

  pub ill_formed : well_formed k ≡ false → first_pair bs ≡ None
  ill_formed e = keyed false e

  module _ (good : well_formed k ≡ true) where
    pub sized : (o : Option Size) → o ≡ size_of k → first_pair bs ≡ value_under k o (drop 4 bs)
    sized o e = keyed true good ∙ ap (λ (p : Option Size). value_under k p (drop 4 bs)) (sym e)

    -- rest: the bytes behind the key, as the code takes them
    module _ (s : Size) (size : Some s ≡ size_of k) (n : ℕ) (whole : n ≡ length bs) where
      behind_is : (o : Option ℕ) → o ≡ value_read s (take (n - 4) (drop 4 bs)) → o ≡ value_read s (drop 4 bs)
      behind_is o e = e ∙ ap (λ m. value_read s (take (m - 4) (drop 4 bs))) whole ∙ ap (value_read s) (take_rest bs 4)

      pub cut : None ≡ value_read s (take (n - 4) (drop 4 bs)) → first_pair bs ≡ None
      cut e = sized (Some s) size ∙ ap (option_map (setting k)) (sym (behind_is None e))

      pub read : (v : ℕ) → Some v ≡ value_read s (take (n - 4) (drop 4 bs)) → first_pair bs ≡ Some (setting k v)
      read v e = sized (Some s) size ∙ ap (option_map (setting k)) (sym (behind_is (Some v) e))

      pub size_is : (v w : ℕ) → w ≡ width_of s → 4 + w ≡ pair_size (setting k v)
      size_is v w e =
          let same : 4 + bytes_at (size_of k) ≡ pair_size (setting k v) = omega arith in
          ap (λ m. 4 + m) e ∙ ap (λ (o : Option Size). 4 + bytes_at o) size ∙ same

      pub fits : (v : ℕ) → Some v ≡ value_read s (take (n - 4) (drop 4 bs)) → 4 ≤ length bs → 4 + width_of s ≤ length bs
      fits v e long =
          let room = value_room s (drop 4 bs) v (behind_is (Some v) e) in
          let len = length-drop 4 bs in
          omega arith
