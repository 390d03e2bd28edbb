-- One pair of key and value.
use Rattle.std.proofs.Common.{◌≡◌, ℕ, zero, suc, ◌+◌, ◌%◌, ◌<◌, ◌≤◌, Bool, true, false, cond, ◌||◌, ltb, List, [], ◌∷◌, length, get_or, take, drop, set, Some, None, Ok, Err, Option, sym, refl, ap, ◌∙◌, get_or-set_other, arith}
use Rattle.std.proofs.lemmas.Bool.{ltb-false, eq-eqb, ne_eqb}
use Rattle.std.proofs.lemmas.Bool.Decides.{nat_tests}
use Rattle.item.specs.Keys.{size_of}
use Rattle.item.specs.Values.{number}
use Rattle.catalogue.specs.declared.entries.Entry.{Entry}
use Rattle.catalogue.specs.Catalogues.{Listed, blank, FirstWith}
use Rattle.reference.specs.Requests.{Data, Read, cut, unknown, read, read_map, bytes_at, limit_at, is_known, pair_read}
use Rattle.request.specs.declared.change.Change.{Change}
use Rattle.request.specs.declared.change.Change.TheVariants.{Put}
use Rattle.request.specs.declared.data.Pair.{Pair}
use Rattle.request.specs.declared.data.EntryFault.TheVariants.{Cut, Unknown}
use Rattle.request.specs.Changes.{changes_by}
use Rattle.request.specs.Reading.{pair_in, over, Taken}
use Rattle.request.proofs.Settled.{over_one}

-- Whether its key is known

pub known_at : (es : List Entry) (i k : ℕ) → i < length es → (get_or es i blank).key ≡ k → is_known es k ≡ true
unfolding is_known
known_at [] i k lt e = absurd (omega arith)
known_at (x ∷ es) zero k lt e = ap (λ b. b || is_known es k) (eq-eqb x.key k e)
known_at (x ∷ es) (suc i) k lt e = let h = known_at es i k (omega arith) e in grind (arith, nat_tests)

pub known_not : (es : List Entry) (k : ℕ) → FirstWith k es None → is_known es k ≡ false
unfolding is_known
known_not [] k none = refl
known_not (x ∷ es) k none =
    ap (λ b. b || is_known es k) (ne_eqb x.key k (none 0 (omega arith))) ∙ known_not es k (λ j lt e. none (suc j) (omega arith) e)

-- Taking it

some_pair : (b : Bool) (q p : Pair) → Some p ≡ cond b None (Some q) → (b ≡ false) × (p ≡ q)
some_pair true q p e = absurd (cc)
some_pair false q p e = (refl, cc)

none_pair : (b : Bool) (q : Pair) → None ≡ cond b None (Some q) → b ≡ true
none_pair true q e = refl
none_pair false q e = absurd (cc)

abbrev read_pair : List Entry → Pair → Read Data
read_pair es p = cond (is_known es p.key) (read p.len (record { key = p.key; value = Some p.value } ∷ [])) unknown

abbrev pair_of : List ℕ → Pair
pair_of bs = let k : ℕ = number (take 4 bs) in record { key = k; value = number (take (bytes_at (size_of k)) (drop 4 bs)) % limit_at (size_of k); len = 4 + bytes_at (size_of k) }

abbrev is_cut : List ℕ → Bool
is_cut bs = ltb (length bs) (4 + bytes_at (size_of (number (take 4 bs))))

whole_pair : (es : List Entry) (bs : List ℕ) (p : Pair) → Some p ≡ pair_in bs → pair_read es bs ≡ read_pair es p
unfolding pair_read
whole_pair es bs p e =
    let h = some_pair (is_cut bs) (pair_of bs) p e in
    ap (λ b. cond b cut (read_pair es (pair_of bs))) h.0 ∙ sym (ap (read_pair es) h.1)

pair_room : (bs : List ℕ) (p : Pair) → Some p ≡ pair_in bs → (4 ≤ p.len) × (p.len ≤ length bs)
pair_room bs p e =
    let h = some_pair (is_cut bs) (pair_of bs) p e in
    let len : p.len ≡ 4 + bytes_at (size_of (number (take 4 bs))) = ap (λ (q : Pair). q.len) h.1 in
    let room = ltb-false (length bs) (4 + bytes_at (size_of (number (take 4 bs)))) h.0 in
    (omega arith, omega arith)

cut_pair : (es : List Entry) (bs : List ℕ) → None ≡ pair_in bs → pair_read es bs ≡ cut
unfolding pair_read
cut_pair es bs e = ap (λ b. cond b cut (read_pair es (pair_of bs))) (none_pair (is_cut bs) (pair_of bs) e)

pub pair_cut : (es : List Entry) (bs : List ℕ) (before : List (Option Change)) → None ≡ pair_in bs → Taken es (pair_read es bs) (length bs) before before (Err Cut)
pair_cut es bs before e = record { value = sym (ap (read_map (over es before)) (cut_pair es bs e)); within = tt; behind = λ i le. refl }

pub pair_unknown : (es : List Entry) (bs : List ℕ) (before : List (Option Change)) (p : Pair) → Some p ≡ pair_in bs → FirstWith p.key es None
    → Taken es (pair_read es bs) (length bs) before before (Err Unknown)
pair_unknown es bs before p e none = record {
  value = sym (ap (read_map (over es before))
      (whole_pair es bs p e ∙ ap (λ b. cond b (read p.len (record { key = p.key; value = Some p.value } ∷ [])) unknown) (known_not es p.key none)));
  within = tt;
  behind = λ i le. refl;
}

pub pair_taken : (es : List Entry) (bs : List ℕ) (before after : List (Option Change)) (p : Pair) (i : ℕ) → Some p ≡ pair_in bs → FirstWith p.key es (Some i)
    → Listed 0 es → length es ≤ 128 → length before ≡ 128 → after ≡ set before i (Some (Put p.value)) → Taken es (pair_read es bs) (length bs) before after (Ok p.len)
pair_taken es bs before after p i e first listed few whole is =
    let datum : Data = record { key = p.key; value = Some p.value } ∷ [] in
    let known = known_at es i p.key first.0 first.1 in
    record {
      value = ap (λ (cs : List (Option Change)). read p.len (changes_by es cs)) is
          ∙ ap (read p.len) (over_one es before i (Some (Put p.value)) p.key (Some p.value) listed few whole first.0 first.1 refl)
          ∙ sym (ap (read_map (over es before)) (whole_pair es bs p e ∙ ap (λ b. cond b (read p.len datum) unknown) known));
      within = pair_room bs p e;
      behind = λ j le. ap (λ (cs : List (Option Change)). get_or cs j None) is ∙ get_or-set_other before i j (Some (Put p.value)) None (let lt : i < length es = first.0 in omega arith);
    }
