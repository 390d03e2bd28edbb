-- A payload is built entry by entry: one entry further, and the end.
use Rattle.std.proofs.Common.{◌≡◌, ℕ, ◌+◌, ◌<◌, ◌≤◌, List, [], ◌++◌, length, get_or, drop, Some, None, Ok, Err, Option, sym, refl, ap, ◌∙◌, append_assoc, append-nil, arith}
use Rattle.std.proofs.lemmas.List.{drop_more, drop_all}
use Rattle.std.specs.Option.{option_or}
use Rattle.item.specs.Values.{bytes_of}
use Rattle.frame.specs.Written.{patched}
use Rattle.frame.proofs.Written.{patched_front}
use Rattle.item.proofs.Values.{length_bytes}
use Rattle.layer.specs.declared.setting.Setting.{Setting}
use Rattle.reference.specs.Receiver.{pair_bytes, pairs_bytes}
use Rattle.host.specs.declared.fault.HostFault.{HostFault}
use Rattle.host.specs.Refusals.{first_fault}
use Rattle.host.specs.Payloads.{unless_fault}
use Rattle.host.specs.Requests.{numbers_bytes}

-- The bytes of one number

pub number_stands : (n : ℕ) (before old four : List ℕ) → length old ≡ 4 → four ≡ patched 0 (bytes_of 4 n) old → before ++ four ≡ before ++ bytes_of 4 n
number_stands n before old four len e =
    let none : drop (length (bytes_of 4 n)) old ≡ [] = drop_all (length (bytes_of 4 n)) old (omega (arith, length_bytes 4 n)) in
    ap (λ (bs : List ℕ). before ++ bs) (e ∙ patched_front (bytes_of 4 n) old ∙ ap (λ (bs : List ℕ). bytes_of 4 n ++ bs) none ∙ append-nil (bytes_of 4 n))

-- The first fault of what is left

fault_here : {A : Type 0} (f : A → Option HostFault) (xs : List A) (i : ℕ) (d : A) → i < length xs → first_fault f (drop i xs) ≡ option_or (f (get_or xs i d)) (first_fault f (drop (i + 1) xs))
fault_here f xs i d lt = ap (first_fault f) (drop_more xs i d lt)

granted : (o : Option HostFault) → Ok tt ≡ unless_fault {A = Unit {0}} o tt → o ≡ None
granted None e = refl
granted (Some x) e = absurd (cc)

refused : (o : Option HostFault) (x : HostFault) → Err x ≡ unless_fault {A = Unit {0}} o tt → o ≡ Some x
refused None x e = absurd (cc)
refused (Some y) x e = cc

pub fault_past : {A : Type 0} (f : A → Option HostFault) (xs : List A) (i : ℕ) (d : A) → i < length xs → Ok tt ≡ unless_fault {A = Unit {0}} (f (get_or xs i d)) tt
    → first_fault f (drop (i + 1) xs) ≡ first_fault f (drop i xs)
fault_past f xs i d lt e = sym (fault_here f xs i d lt ∙ ap (λ o. option_or o (first_fault f (drop (i + 1) xs))) (granted _ e))

pub fault_found : {A : Type 0} (f : A → Option HostFault) (xs : List A) (i : ℕ) (d : A) (x : HostFault) → i < length xs → Err x ≡ unless_fault {A = Unit {0}} (f (get_or xs i d)) tt
    → first_fault f (drop i xs) ≡ Some x
fault_found f xs i d x lt e = fault_here f xs i d lt ∙ ap (λ o. option_or o (first_fault f (drop (i + 1) xs))) (refused _ x e)

pub fault_end : {A : Type 0} (f : A → Option HostFault) (xs : List A) (i : ℕ) → length xs ≤ i → first_fault f (drop i xs) ≡ None
fault_end f xs i le = ap (first_fault f) (drop_all i xs le)

-- The bytes of what is left, behind those that are there

pub pairs_past : (ss : List Setting) (i : ℕ) (d : Setting) (new old : List ℕ) → i < length ss → new ≡ old ++ pair_bytes (get_or ss i d)
    → new ++ pairs_bytes (drop (i + 1) ss) ≡ old ++ pairs_bytes (drop i ss)
unfolding pairs_bytes
pairs_past ss i d new old lt e =
    ap (λ (bs : List ℕ). bs ++ pairs_bytes (drop (i + 1) ss)) e ∙ append_assoc old (pair_bytes (get_or ss i d)) (pairs_bytes (drop (i + 1) ss))
    ∙ sym (ap (λ (xs : List Setting). old ++ pairs_bytes xs) (drop_more ss i d lt))

pub pairs_end : (ss : List Setting) (i : ℕ) (bs : List ℕ) → length ss ≤ i → bs ++ pairs_bytes (drop i ss) ≡ bs
unfolding pairs_bytes
pairs_end ss i bs le = ap (λ (xs : List Setting). bs ++ pairs_bytes xs) (drop_all i ss le) ∙ append-nil bs

pub numbers_past : (ns : List ℕ) (i : ℕ) (d : ℕ) (new old : List ℕ) → i < length ns → new ≡ old ++ bytes_of 4 (get_or ns i d)
    → new ++ numbers_bytes (drop (i + 1) ns) ≡ old ++ numbers_bytes (drop i ns)
unfolding numbers_bytes
numbers_past ns i d new old lt e =
    ap (λ (bs : List ℕ). bs ++ numbers_bytes (drop (i + 1) ns)) e ∙ append_assoc old (bytes_of 4 (get_or ns i d)) (numbers_bytes (drop (i + 1) ns))
    ∙ sym (ap (λ (xs : List ℕ). old ++ numbers_bytes xs) (drop_more ns i d lt))

pub numbers_end : (ns : List ℕ) (i : ℕ) (bs : List ℕ) → length ns ≤ i → bs ++ numbers_bytes (drop i ns) ≡ bs
unfolding numbers_bytes
numbers_end ns i bs le = ap (λ (xs : List ℕ). bs ++ numbers_bytes xs) (drop_all i ns le) ∙ append-nil bs
