-- A pair's bytes: key and value, one written behind the other.
use Rattle.std.proofs.Common.{◌≡◌, ℕ, ◌+◌, ◌≤◌, true, false, List, ◌++◌, length, take, drop, Some, None, Option, refl, sym, ap, ap₂, ◌∙◌, arith}
use Rattle.std.proofs.lemmas.List.{length-append, take_at}
use Rattle.frame.specs.Written.{patched}
use Rattle.frame.proofs.Written.{patched_append, patched_front}
use Rattle.item.specs.declared.key.Size.{Size}
use Rattle.item.specs.declared.key.Size.TheVariants.{Bit, One, Two, Four, Eight}
use Rattle.item.specs.Keys.{size_of, width_of, fits, fits_size, fits_key}
use Rattle.item.specs.Values.{bytes_of}
use Rattle.item.proofs.Values.{length_bytes}
use Rattle.layer.specs.declared.setting.Setting.{Setting}
use Rattle.layer.specs.Settings.{setting}
use Rattle.reference.specs.Requests.{bytes_at}
use Rattle.reference.specs.Receiver.{pair_bytes}

pub width_few : (s : Size) → width_of s ≤ 8
width_few Bit = omega arith
width_few One = omega arith
width_few Two = omega arith
width_few Four = omega arith
width_few Eight = omega arith

-- whether a value fits its key is asked by the key's size

pub no_value : (k v : ℕ) → None ≡ size_of k → fits_key k v ≡ false
no_value k v e = ap (λ (o : Option Size). fits_size o v) (sym e)

pub value_fits : (k v : ℕ) (s : Size) → Some s ≡ size_of k → fits_key k v ≡ fits s v
value_fits k v s e = ap (λ (o : Option Size). fits_size o v) (sym e)

-- Key and value, one behind the other at the start of a buffer

module _ (k v : ℕ) (s : Size) (e : Some s ≡ size_of k) where
  pair_is : bytes_of 4 k ++ bytes_of (width_of s) v ≡ pair_bytes (setting k v)
  pair_is = ap (λ (o : Option Size). bytes_of 4 k ++ bytes_of (bytes_at o) v) e

  pub length_pair : 4 + width_of s ≡ length (pair_bytes (setting k v))
  length_pair = sym (sym (ap length pair_is) ∙ length-append (bytes_of 4 k) (bytes_of (width_of s) v) ∙ ap₂ (λ (a b : ℕ). a + b) (length_bytes 4 k) (length_bytes (width_of s) v))

  pub pair_written : (next : ℕ) (first second old : List ℕ) → next ≡ 4 → 4 ≤ length old → first ≡ patched 0 (bytes_of 4 k) old
      → second ≡ patched next (bytes_of (width_of s) v) first → second ≡ patched 0 (pair_bytes (setting k v)) old
  unfolding bytes_of
  pair_written next first second old n room f g =
      let behind : next ≡ 0 + length (bytes_of 4 k) = n ∙ sym (length_bytes 4 k) in
      g ∙ ap₂ (λ (i : ℕ) (l : List ℕ). patched i (bytes_of (width_of s) v) l) behind f
      ∙ patched_append 0 (bytes_of 4 k) (bytes_of (width_of s) v) old (omega (arith, length_bytes 4 k))
      ∙ ap (λ (bs : List ℕ). patched 0 bs old) pair_is

-- What a caller takes from the buffer

pub pair_taken : (s : Setting) (n : ℕ) (old out : List ℕ) → n ≡ length (pair_bytes s) → out ≡ patched 0 (pair_bytes s) old → take n out ≡ pair_bytes s
pair_taken s n old out e h = ap (take n) (h ∙ patched_front (pair_bytes s) old) ∙ take_at (pair_bytes s) (drop (length (pair_bytes s)) old) n (sym e)

size_few : (o : Option Size) → bytes_at o ≤ 8
size_few None = omega arith
size_few (Some s) = width_few s

pub pair_few : (s : Setting) → length (pair_bytes s) ≤ 12
pair_few s =
    let len = length-append (bytes_of 4 s.key) (bytes_of (bytes_at (size_of s.key)) s.value) ∙ ap₂ (λ (a b : ℕ). a + b) (length_bytes 4 s.key) (length_bytes (bytes_at (size_of s.key)) s.value) in
    omega (arith, size_few (size_of s.key))
