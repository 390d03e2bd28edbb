-- The check of a catalogue entry by entry, what an accepted one is, and the walk over the named items.
use Rattle.std.proofs.Common.{◌≡◌, ℕ, zero, suc, ◌+◌, ◌-◌, ◌<◌, ◌≤◌, Bool, true, false, cond, leb, List, [], ◌∷◌, length, get_or, drop, is_ok, Some, None, Ok, Err, Option, Result, sym, refl, ap, ◌∙◌, ⊎_elim, arith}
use Rattle.std.proofs.lemmas.List.{at_drop_more, at_drop_all, get_or-drop, drop-drop, length-drop}
use Rattle.std.proofs.lemmas.Slice.{between_to_end}
use Rattle.std.specs.List.{slice_range}
use Rattle.std.proofs.lemmas.Bool.{cases_lt, cases_order, leb-false, cond-false}
use Rattle.std.specs.List.Sorted.{IsSearchInRange, IsBinarySearchResult, IsNonDecreasingBy}
use Rattle.std.specs.Result.{result_ok}
use Rattle.std.specs.Ordering.{nat_cmp, ordering_index}
use Rattle.std.proofs.lemmas.Cmp.{ranked}
use Rattle.std.proofs.lemmas.List.Sorted.{IsNonDecreasingBy-from_default}
use Rattle.std.proofs.lemmas.Bool.Decides.{nat_tests}
use Rattle.catalogue.specs.declared.entries.CatalogueFault.{CatalogueFault}
use Rattle.catalogue.specs.declared.entries.CatalogueFault.TheVariants.{IllFormedKey, OutOfOrder, Unsound}
use Rattle.catalogue.specs.declared.entries.Entry.{Entry}
use Rattle.item.specs.declared.selector.Selector.{Selector}
use Rattle.item.specs.Keys.{well_formed}
use Rattle.item.specs.Selectors.{names}
use Rattle.catalogue.specs.Catalogues.{is_sound, entry_fault, unless_fault, entry_checked, entries_checked, Listed, blank, OnlyOnce, named, named_from, NextNamed, FirstNamed, FirstWith}

err≢ok : (f : CatalogueFault) → ◌≡◌ {A = Result (Unit {0}) CatalogueFault} (Err f) (Ok tt) → ⊥
err≢ok f e = cc

-- An entry's own check comes before what stands behind it

fault_first : (o : Option CatalogueFault) (rest : Result (Unit {0}) CatalogueFault) (f : CatalogueFault) → Err f ≡ unless_fault o (Ok tt) → Err f ≡ unless_fault o rest
fault_first None rest f e = absurd (err≢ok f e)
fault_first (Some g) rest f e = e

fault_none : (o : Option CatalogueFault) (rest : Result (Unit {0}) CatalogueFault) → Ok tt ≡ unless_fault o (Ok tt) → unless_fault o rest ≡ rest
fault_none None rest e = refl
fault_none (Some g) rest e = absurd (err≢ok g (sym e))

-- The loop of the check, which has found nothing wrong before this place

module _ (es : List Entry) (place below : ℕ) (inv : entries_checked place below (drop place es) ≡ entries_checked 0 0 es) where
  checked_on : place < length es → unless_fault (entry_fault place below (get_or es place blank)) (entries_checked (suc place) (get_or es place blank).key (drop (place + 1) es)) ≡ entries_checked 0 0 es
  checked_on lt = sym (at_drop_more (entries_checked place below) es place blank lt) ∙ inv

  pub checked_fault : (f : CatalogueFault) → place < length es → Err f ≡ entry_checked place below (get_or es place blank) → Err f ≡ entries_checked 0 0 es
  checked_fault f lt e = fault_first (entry_fault place below (get_or es place blank)) (entries_checked (suc place) (get_or es place blank).key (drop (place + 1) es)) f e ∙ checked_on lt

  pub checked_more : place < length es → Ok tt ≡ entry_checked place below (get_or es place blank) → entries_checked (place + 1) (get_or es place blank).key (drop (place + 1) es) ≡ entries_checked 0 0 es
  checked_more lt e =
      let next : place + 1 ≡ suc place = omega arith in
      ap (λ k. entries_checked k (get_or es place blank).key (drop (place + 1) es)) next
      ∙ sym (fault_none (entry_fault place below (get_or es place blank)) (entries_checked (suc place) (get_or es place blank).key (drop (place + 1) es)) e) ∙ checked_on lt

  pub checked_all : length es ≤ place → Ok tt ≡ entries_checked 0 0 es
  checked_all le = sym (at_drop_all (entries_checked place below) es place le) ∙ inv

-- What an accepted catalogue is

-- an entry with nothing wrong
good_entry : (place below : ℕ) (e : Entry) (w o s : Bool) (rest : Result (Unit {0}) CatalogueFault)
    → unless_fault (cond w (cond o (Some (OutOfOrder place)) (cond s None (Some (Unsound place)))) (Some (IllFormedKey place))) rest ≡ Ok tt
    → (w ≡ true) × (o ≡ false) × (s ≡ true) × (rest ≡ Ok tt)
good_entry place below e true true s rest h = absurd (err≢ok _ h)
good_entry place below e true false true rest h = (refl, refl, refl, h)
good_entry place below e true false false rest h = absurd (err≢ok _ h)
good_entry place below e false o s rest h = absurd (err≢ok _ h)

pub listed_from : (place below : ℕ) (es : List Entry) → entries_checked place below es ≡ Ok tt → Listed below es
unfolding Listed
listed_from place below [] h = tt
listed_from place below (e ∷ es) h =
    let g = good_entry place below e (well_formed e.key) (leb e.key below) (is_sound e) (entries_checked (suc place) e.key es) h in
    (leb-false e.key below g.1, g.0, g.2, listed_from (suc place) e.key es g.3)

-- entries that were checked, wherever they stand

ok_is : (r : Result (Unit {0}) CatalogueFault) → is_ok r ≡ true → r ≡ Ok tt
ok_is (Ok tt) e = refl
ok_is (Err f) e = absurd (cc)

pub checked_listed : (es : List Entry) → is_ok (entries_checked 0 0 es) ≡ true → Listed 0 es
checked_listed es e = listed_from 0 0 es (ok_is (entries_checked 0 0 es) e)

above : (n : ℕ) (es : List Entry) (i : ℕ) → Listed n es → i < length es → n < (get_or es i blank).key
unfolding Listed
above n [] i l lt = absurd (omega arith)
above n (e ∷ es) zero l lt = l.0
above n (e ∷ es) (suc i) l lt = let a = above e.key es i l.3 (omega arith) in omega (arith, l.0)

ascends : (n : ℕ) (es : List Entry) (i j : ℕ) → Listed n es → i < j → j < length es → (get_or es i blank).key < (get_or es j blank).key
unfolding Listed
ascends n [] i j l lt in-it = absurd (omega arith)
ascends n (e ∷ es) i zero l lt in-it = absurd (omega arith)
ascends n (e ∷ es) zero (suc j) l lt in-it = above e.key es j l.3 (omega arith)
ascends n (e ∷ es) (suc i) (suc j) l lt in-it = ascends e.key es i j l.3 (omega arith) (omega arith)

pub only_once : (es : List Entry) → Ok tt ≡ entries_checked 0 0 es → OnlyOnce es
only_once es h =
    let l = listed_from 0 0 es (sym h) in
    record {
      listed = l;
      distinct = λ i j in-i in-j same.
          ⊎_elim (λ e. e)
          (⊎_elim (λ lt. let a = ascends 0 es i j l lt in-j in absurd (omega arith)) (λ lt. let a = ascends 0 es j i l lt in-i in absurd (omega arith)))
          (cases_order i j);
    }

-- What a binary search by key finds among ascending entries: the one place of the key, or none

module _ (es : List Entry) (l : Listed 0 es) (k : ℕ) where
  comparisons_rise : IsNonDecreasingBy (λ (e : Entry). ordering_index (nat_cmp e.key k)) es
  comparisons_rise = IsNonDecreasingBy-from_default (λ (e : Entry). ordering_index (nat_cmp e.key k)) es blank (λ i j le in_range.
      let keys_rise : (get_or es i blank).key ≤ (get_or es j blank).key =
      ⊎_elim (λ same. let k = ap (λ n. (get_or es n blank).key) same in omega arith) (⊎_elim (λ lt. let a = ascends 0 es i j l lt in_range in omega arith) (λ lt. absurd (omega arith))) (cases_order i j) in
      grind (arith, nat_tests))

  pub searched : (r : Result ℕ ℕ) → IsSearchInRange r (length es) → IsBinarySearchResult (λ (e : Entry). nat_cmp e.key k) es r → FirstWith k es (result_ok r)
  searched (Ok i) in_range equal =
      let here : (get_or es i blank).key ≡ k = ranked _ k _ (sym (equal blank)) in
      (in_range, here, λ j lt e. let a = ascends 0 es j i l lt in_range in absurd (omega arith))
  searched (Err i) in_range parted =
      λ j lt e. ⊎_elim
      (λ below. let a : (get_or es j blank).key < k = ranked _ k _ (sym ((parted comparisons_rise).0 j blank (omega arith) below)) in absurd (omega arith))
      (λ behind. let a : k < (get_or es j blank).key = ranked _ k _ (sym ((parted comparisons_rise).1 j blank behind lt)) in absurd (omega arith))
      (cases_lt j i)

-- The walk over the named items, which has passed those before this place

module _ (s : Selector) (from place : ℕ) (es : List Entry) (inv : named_from s place es ≡ named_from s from es) where
  named_at : place < length es → cond (names s (get_or es place blank).key) (place ∷ named s (suc place) (drop (place + 1) es)) (named s (suc place) (drop (place + 1) es)) ≡ named_from s from es
  named_at lt = sym (at_drop_more (named s place) es place blank lt) ∙ inv

  next : named_from s (place + 1) es ≡ named s (suc place) (drop (place + 1) es)
  next = let e : place + 1 ≡ suc place = omega arith in ap (λ k. named s k (drop (place + 1) es)) e

  pub named_here : place < length es → true ≡ names s (get_or es place blank).key → named_from s from es ≡ place ∷ named_from s (place + 1) es
  named_here lt e =
      sym (named_at lt) ∙ ap (λ b. cond b (place ∷ named s (suc place) (drop (place + 1) es)) (named s (suc place) (drop (place + 1) es))) (sym e)
      ∙ ap (λ (l : List ℕ). place ∷ l) (sym next)

  pub named_none : length es ≤ place → named_from s from es ≡ []
  named_none le = sym inv ∙ at_drop_all (named s place) es place le

-- The walk goes on in what is left of the entries

named_skip : (s : Selector) (place i : ℕ) (es : List Entry) → i ≤ length es → ((j : ℕ) → j < i → names s (get_or es j blank).key ≡ false) → named s place es ≡ named s (place + i) (drop i es)
named_skip s place zero es le none = let e : place + 0 ≡ place = omega arith in ap (λ k. named s k es) (sym e)
named_skip s place (suc i) [] le none = absurd (omega arith)
named_skip s place (suc i) (e ∷ es) le none =
    let next : suc place + i ≡ place + suc i = omega arith in
    cond-false _ _ _ (none 0 (omega arith)) ∙ named_skip s (suc place) i es (omega arith) (λ j lt. none (suc j) (omega arith)) ∙ ap (λ k. named s k (drop i es)) next

module _ (s : Selector) (from : ℕ) (es rest : List Entry) (part : rest ≡ slice_range es from (length es)) where
  is : rest ≡ drop from es
  is = part ∙ between_to_end es from (length es) (omega arith)

  at_rest : (j : ℕ) → names s (get_or rest j blank).key ≡ names s (get_or es (from + j) blank).key
  at_rest j = ap (λ (l : List Entry). names s (get_or l j blank).key) is ∙ ap (λ (e : Entry). names s e.key) (get_or-drop from es j blank)

  walked : (i : ℕ) → i ≤ length rest → ((j : ℕ) → j < i → names s (get_or rest j blank).key ≡ false) → named_from s (from + i) es ≡ named_from s from es
  walked i le none =
      sym (ap (named s from) (sym is) ∙ named_skip s from i rest le none ∙ ap (λ (l : List Entry). named s (from + i) (drop i l)) is ∙ ap (named s (from + i)) (drop-drop i from es))

  -- what is not named in the rest is not named behind the place
  unnamed : (i : ℕ) → ((j : ℕ) → j < i → names s (get_or rest j blank).key ≡ false) → (j : ℕ) → from ≤ j → j < from + i → names s (get_or es j blank).key ≡ false
  unnamed i none j ge lt =
      let back : from + (j - from) ≡ j = omega arith in
      sym (ap (λ k. names s (get_or es k blank).key) back) ∙ sym (at_rest (j - from)) ∙ none (j - from) (omega arith)

  pub seek_none : FirstNamed s 0 rest None → NextNamed s from es None × FirstNamed s from es None
  seek_none none =
      let len : length rest ≡ length es - from = ap length is ∙ length-drop from es in (
        named_none s from (from + length rest) es (walked (length rest) (omega arith) (λ j lt. none j (omega arith) lt)) (omega arith),
        λ j ge lt. unnamed (length rest) (λ j lt. none j (omega arith) lt) j ge (omega arith),
      )

  pub seek_some : (i : ℕ) → i < length rest → FirstNamed s 0 rest (Some i) → NextNamed s from es (Some (from + i)) × FirstNamed s from es (Some (from + i))
  seek_some i lt first =
      let len : length rest ≡ length es - from = ap length is ∙ length-drop from es in
      let here : names s (get_or es (from + i) blank).key ≡ true = sym (at_rest i) ∙ first.0 in
      let before = walked i (omega arith) (λ j lt. first.1 j (omega arith) lt) in (
        (omega arith, omega arith, named_here s from (from + i) es before (omega arith) (sym here)),
        (here, unnamed i (λ j lt. first.1 j (omega arith) lt)),
      )
