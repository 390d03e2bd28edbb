-- The items that a key or selector names, removed one after the other.
use Rattle.std.proofs.Common.{◌≡◌, ℕ, ◌+◌, ◌<◌, ◌≤◌, Bool, true, false, cond, List, [], ◌∷◌, map, length, get_or, take, drop, set, Some, None, Ok, Err, Option, Result, sym, refl, ap, ◌∙◌, subst, get_or-set_other, arith}
use Rattle.std.proofs.lemmas.List.{drop_more, drop_all}
use Rattle.std.proofs.lemmas.Bool.{lt-ltb, le-ltb}
use Rattle.std.proofs.lemmas.Bool.Decides.{nat_tests}
use Rattle.item.specs.declared.selector.Selector.{Selector}
use Rattle.item.specs.Selectors.{selector_of, names}
use Rattle.item.specs.Values.{number}
use Rattle.catalogue.specs.declared.entries.Entry.{Entry}
use Rattle.catalogue.specs.Catalogues.{Listed, blank, key_at, named}
use Rattle.reference.specs.Requests.{Data, Changes, cut, read, read_map, keys_named, named_read, deleted, key_read, deletion_read, latest, and_later}
use Rattle.request.specs.declared.change.Change.{Change}
use Rattle.request.specs.declared.change.Change.TheVariants.{Remove}
use Rattle.request.specs.declared.data.EntryFault.{EntryFault}
use Rattle.request.specs.declared.data.EntryFault.TheVariants.{Cut, Unknown}
use Rattle.request.specs.Changes.{changes_by}
use Rattle.request.specs.Keys.{key_in}
use Rattle.request.specs.Reading.{over, Within, SameBehind, Taken}
use Rattle.request.proofs.Named.{keys_named_lem}
use Rattle.request.proofs.Settled.{over_append, over_one, over_nil}

-- what is still to be removed, from an item on
abbrev pub removals : Selector → ℕ → List Entry → Data
removals s i es = map deleted (keys_named s (drop i es))

-- The loop: what is left to remove gives what is asked for, and whether an item was named yet.
pub record Removing (es : List Entry) (s : Selector) (before slots : List (Option Change)) (i : ℕ) (named : Bool) : Type 0 where
  pub left : over es slots (removals s i es) ≡ over es before (map deleted (keys_named s es))
  pub some : named ≡ true → 0 < length (keys_named s es)
  pub none : named ≡ false → keys_named s (drop i es) ≡ keys_named s es
  pub behind : SameBehind (length es) before slots

keys_left : (s : Selector) (es : List Entry) (i : ℕ) → i < length es
    → keys_named s (drop i es) ≡ cond (names s (key_at es i)) (key_at es i ∷ keys_named s (drop (i + 1) es)) (keys_named s (drop (i + 1) es))
unfolding keys_named
keys_left s es i lt = ap (keys_named s) (drop_more es i blank lt)

keys_here : (s : Selector) (es : List Entry) (i : ℕ) → i < length es → true ≡ names s (key_at es i)
    → keys_named s (drop i es) ≡ key_at es i ∷ keys_named s (drop (i + 1) es)
keys_here s es i lt e =
    keys_left s es i lt ∙ ap (λ b. cond b (key_at es i ∷ keys_named s (drop (i + 1) es)) (keys_named s (drop (i + 1) es))) (sym e)

keys_past : (s : Selector) (es : List Entry) (i : ℕ) → i < length es → false ≡ names s (key_at es i)
    → keys_named s (drop i es) ≡ keys_named s (drop (i + 1) es)
keys_past s es i lt e =
    keys_left s es i lt ∙ ap (λ b. cond b (key_at es i ∷ keys_named s (drop (i + 1) es)) (keys_named s (drop (i + 1) es))) (sym e)

some_more : (es : List Entry) (s : Selector) (before slots : List (Option Change)) (i k : ℕ) (ks : List ℕ) (named : Bool) → Removing es s before slots i named
    → keys_named s (drop i es) ≡ k ∷ ks → 0 < length (keys_named s es)
some_more es s before slots i k ks true inv e = inv.some refl
some_more es s before slots i k ks false inv e = let len = ap length (sym (inv.none refl) ∙ e) in omega arith

pub removing_named : (es : List Entry) (s : Selector) (before slots after : List (Option Change)) (i : ℕ) (named : Bool) → Removing es s before slots i named
    → Listed 0 es → length es ≤ 128 → length slots ≡ 128 → i < length es → true ≡ names s (key_at es i) → after ≡ set slots i (Some Remove)
    → Removing es s before after (i + 1) true
removing_named es s before slots after i named inv listed few whole lt e is = record {
  left = ap (λ (cs : List (Option Change)). over es cs (removals s (i + 1) es)) is
      ∙ ap (λ (c : Changes). and_later c (latest (removals s (i + 1) es))) (over_one es slots i (Some Remove) (key_at es i) None listed few whole lt refl refl)
      ∙ sym (over_append (changes_by es slots) (deleted (key_at es i) ∷ []) (removals s (i + 1) es))
      ∙ ap (λ (ks : List ℕ). over es slots (map deleted ks)) (sym (keys_here s es i lt e))
      ∙ inv.left;
  some = λ t. some_more es s before slots i (key_at es i) (keys_named s (drop (i + 1) es)) named inv (keys_here s es i lt e);
  none = λ f. absurd (cc);
  behind = λ j le. ap (λ (cs : List (Option Change)). get_or cs j None) is ∙ get_or-set_other slots i j (Some Remove) None (omega arith) ∙ inv.behind j le;
}

pub removing_past : (es : List Entry) (s : Selector) (before slots : List (Option Change)) (i : ℕ) (named : Bool) → Removing es s before slots i named
    → i < length es → false ≡ names s (key_at es i) → Removing es s before slots (i + 1) named
removing_past es s before slots i named inv lt e = record {
  left = ap (λ (ks : List ℕ). over es slots (map deleted ks)) (sym (keys_past s es i lt e)) ∙ inv.left;
  some = inv.some;
  none = λ f. sym (keys_past s es i lt e) ∙ inv.none f;
  behind = inv.behind;
}

-- the end: nothing is left to remove

some_named : (es : List Entry) (before : List (Option Change)) (ks : List ℕ) → 0 < length ks → read_map (over es before) (read_map (map deleted) (named_read ks)) ≡ read 4 (over es before (map deleted ks))
some_named es before [] lt = absurd (omega arith)
some_named es before (k ∷ ks) lt = refl

none_left : (s : Selector) (es : List Entry) (i : ℕ) → length es ≤ i → keys_named s (drop i es) ≡ []
unfolding keys_named
none_left s es i le = ap (keys_named s) (drop_all i es le)

pub removing_end : (es : List Entry) (s : Selector) (before slots : List (Option Change)) (i : ℕ) (named : Bool) → Removing es s before slots i named → length es ≤ i
    → named ≡ true → Taken es (read_map (map deleted) (named_read (keys_named s es))) 4 before slots (Ok 4)
removing_end es s before slots i named inv le e = record {
  value = sym (some_named es before (keys_named s es) (inv.some e)
      ∙ ap (read 4) (sym inv.left ∙ ap (λ (ks : List ℕ). over es slots (map deleted ks)) (none_left s es i le) ∙ over_nil (changes_by es slots)));
  within = (omega arith, omega arith);
  behind = inv.behind;
}

pub removing_none : (es : List Entry) (s : Selector) (before slots : List (Option Change)) (i : ℕ) (named : Bool) → Removing es s before slots i named → length es ≤ i
    → named ≡ false → Taken es (read_map (map deleted) (named_read (keys_named s es))) 4 before slots (Err Unknown)
removing_none es s before slots i named inv le e =
    let empty : keys_named s es ≡ [] = sym (inv.none e) ∙ none_left s es i le in
    record { value = sym (ap (λ (ks : List ℕ). read_map (over es before) (read_map (map deleted) (named_read ks))) empty); within = tt; behind = inv.behind }

-- The key or selector in front

pub removal_cut : (es : List Entry) (bs : List ℕ) (before : List (Option Change)) → None ≡ key_in bs → Taken es (deletion_read es bs) (length bs) before before (Err Cut)
unfolding key_read
removal_cut es bs before e =
    let short : length bs < 4 = grind (arith, nat_tests) in
    record {
      value = sym (ap (λ b. read_map (over es before) (read_map (map deleted) (cond b cut (named_read (keys_named (selector_of (number (take 4 bs))) es))))) (lt-ltb (length bs) 4 short));
      within = tt;
      behind = λ i le. refl;
    }

within_more : (n m : ℕ) (r : Result ℕ EntryFault) → n ≤ m → Within n r → Within m r
within_more n m (Ok k) le w = (w.0, (let h = w.1 in omega arith))
within_more n m (Err f) le w = tt

pub removal_taken : (es : List Entry) (bs : List ℕ) (before after : List (Option Change)) (k : ℕ) (r : Result ℕ EntryFault) → Some k ≡ key_in bs
    → Taken es (read_map (map deleted) (named_read (keys_named (selector_of k) es))) 4 before after r → Taken es (deletion_read es bs) (length bs) before after r
unfolding key_read
removal_taken es bs before after k r e t =
    let long : 4 ≤ length bs = grind (arith, nat_tests) in
    let key : k ≡ number (take 4 bs) = grind (arith, nat_tests) in
    record {
      value = t.value
          ∙ ap (λ n. read_map (over es before) (read_map (map deleted) (named_read (keys_named (selector_of n) es)))) key
          ∙ sym (ap (λ b. read_map (over es before) (read_map (map deleted) (cond b cut (named_read (keys_named (selector_of (number (take 4 bs))) es))))) (le-ltb (length bs) 4 long));
      within = within_more 4 (length bs) r long t.within;
      behind = t.behind;
    }

-- what is removed, by the places that are named
pub taken_places : (es : List Entry) (s : Selector) (before after : List (Option Change)) (r : Result ℕ EntryFault)
    → Taken es (read_map (map deleted) (named_read (keys_named s es))) 4 before after r → Taken es (read_map (map deleted) (named_read (map (key_at es) (named s 0 es)))) 4 before after r
taken_places es s before after r t = subst (λ (ks : List ℕ). Taken es (read_map (map deleted) (named_read ks)) 4 before after r) (keys_named_lem s es 0) t
