-- The walk over the data, entry by entry.
use Rattle.std.proofs.Common.{◌≡◌, ℕ, zero, suc, ◌+◌, ◌-◌, ◌<◌, ◌≤◌, Bool, true, false, cond, eqb, List, [], ◌∷◌, ◌++◌, length, take, drop, replicate, None, Ok, Err, Option, Result, sym, refl, ap, ◌∙◌, ap₂, arith}
use Rattle.std.proofs.lemmas.List.{drop_more, drop_all, drop-drop, take_rest, length-drop}
use Rattle.catalogue.specs.declared.entries.Entry.{Entry}
use Rattle.reference.specs.declared.refusal.Refusal.{Refusal}
use Rattle.reference.specs.declared.refusal.Refusal.TheVariants.{TooManyEntries}
use Rattle.reference.specs.Requests.{valset, Data, Changes, latest, and_later, Read, cut, unknown, read, read_map, ok_map, walking, walk, pair_read, deletion_read, data_of}
use Rattle.request.specs.declared.change.Change.{Change}
use Rattle.request.specs.declared.data.EntryFault.{EntryFault}
use Rattle.request.specs.declared.data.EntryFault.TheVariants.{Cut, Unknown}
use Rattle.request.specs.Changes.{changes_by}
use Rattle.request.specs.Reading.{entry_read, over, fault_at, taken_as, Taken}
use Rattle.request.proofs.Settled.{over_append, over_none, over_nil}

abbrev behind : Changes → Data → Changes
behind c d = and_later c (latest d)

-- One entry

more_data : (c : Changes) (a : Data) (r : Result Data Refusal) → ok_map (behind c) (ok_map (◌++◌ a) r) ≡ ok_map (behind (behind c a)) r
more_data c a (Ok d) = ap Ok (over_append c a d)
more_data c a (Err f) = refl

walking_on : (x : Read Data) (c d : Changes) (n place : ℕ) (on : ℕ → Result Data Refusal) → read n d ≡ read_map (behind c) x
    → ok_map (behind c) (walking x place on) ≡ ok_map (behind d) (on n)
unfolding walking
walking_on cut c d n place on e = absurd (cc)
walking_on unknown c d n place on e = absurd (cc)
walking_on (read m a) c d n place on e =
    let width : n ≡ m = cc in
    let after : d ≡ behind c a = cc in
    more_data c a (on m) ∙ sym (ap₂ (λ (k : ℕ) (b : Changes). ok_map (behind b) (on k)) width after)

walking_fault : (x : Read Data) (es : List Entry) (c : Changes) (slots : List (Option Change)) (place : ℕ) (f : EntryFault) (on : ℕ → Result Data Refusal)
    → taken_as es slots (Err f) ≡ read_map (behind c) x → ok_map (behind c) (walking x place on) ≡ Err (fault_at place f)
unfolding walking
walking_fault cut es c slots place Cut on e = refl
walking_fault cut es c slots place Unknown on e = absurd (cc)
walking_fault unknown es c slots place Cut on e = absurd (cc)
walking_fault unknown es c slots place Unknown on e = refl
walking_fault (read m a) es c slots place Cut on e = absurd (cc)
walking_fault (read m a) es c slots place Unknown on e = absurd (cc)

walk_step : (one : List ℕ → Read Data) (left place : ℕ) (bs : List ℕ) → 0 < length bs → (left ≡ 0 → ⊥)
    → walk one left place bs ≡ walking (one bs) place (λ n. walk one (left - 1) (place + n) (drop n bs))
unfolding walk
walk_step one zero place bs lt pos = absurd (pos refl)
walk_step one (suc left) place [] lt pos = absurd (omega arith)
walk_step one (suc left) place (b ∷ bs) lt pos =
    let back : suc left - 1 ≡ left = omega arith in
    ap (λ k. walking (one (b ∷ bs)) place (λ n. walk one k (place + n) (drop n (b ∷ bs)))) (sym back)

-- The loop: what is left of a payload, over the changes of the slots

abbrev pub left_over : List Entry → ℕ → List (Option Change) → ℕ → ℕ → List ℕ → Result Changes Refusal
left_over es id slots left place p = ok_map (over es slots) (walk (entry_read es id) left place (drop place p))

walk_nil : (one : List ℕ → Read Data) (left place : ℕ) → walk one left place [] ≡ Ok []
unfolding walk
walk_nil one zero place = refl
walk_nil one (suc left) place = refl

module _ (es : List Entry) (id : ℕ) (slots : List (Option Change)) (left place : ℕ) (p : List ℕ) (all : Result Changes Refusal) (inv : left_over es id slots left place p ≡ all) where
  step : place < length p → (left ≡ 0 → ⊥)
      → ok_map (over es slots) (walking (entry_read es id (drop place p)) place (λ n. walk (entry_read es id) (left - 1) (place + n) (drop n (drop place p)))) ≡ all
  step lt pos =
      let len = length-drop place p in
      ap (ok_map (over es slots)) (sym (walk_step (entry_read es id) left place (drop place p) (omega arith) pos)) ∙ inv

  pub data_more : (room n : ℕ) (after : List (Option Change)) → place < length p → (left ≡ 0 → ⊥)
      → Taken es (entry_read es id (take (length p - place) (drop place p))) room slots after (Ok n) → left_over es id after (left - 1) (place + n) p ≡ all
  data_more room n after lt pos t =
      ap (λ (bs : List ℕ). ok_map (over es after) (walk (entry_read es id) (left - 1) (place + n) bs)) (sym (drop-drop n place p))
      ∙ sym (walking_on (entry_read es id (drop place p)) (changes_by es slots) (changes_by es after) n place
      (λ m. walk (entry_read es id) (left - 1) (place + m) (drop m (drop place p)))
      (t.value ∙ ap (λ (bs : List ℕ). read_map (over es slots) (entry_read es id bs)) (take_rest p place)))
      ∙ step lt pos

  pub data_fault : (room : ℕ) (f : EntryFault) (refusal : Refusal) (after : List (Option Change)) → place < length p → (left ≡ 0 → ⊥)
      → Taken es (entry_read es id (take (length p - place) (drop place p))) room slots after (Err f) → refusal ≡ fault_at place f → Err refusal ≡ all
  data_fault room f refusal after lt pos t e =
      ap Err e
      ∙ sym (walking_fault (entry_read es id (drop place p)) es (changes_by es slots) after place f
      (λ m. walk (entry_read es id) (left - 1) (place + m) (drop m (drop place p)))
      (t.value ∙ ap (λ (bs : List ℕ). read_map (over es slots) (entry_read es id bs)) (take_rest p place)))
      ∙ step lt pos

  pub data_many : place < length p → left ≡ 0 → Err (TooManyEntries place) ≡ all
  unfolding walk
  data_many lt z =
      sym (ap₂ (λ (k : ℕ) (bs : List ℕ). ok_map (over es slots) (walk (entry_read es id) k place bs)) z (drop_more p place 0 lt)) ∙ inv

  pub data_end : length p ≤ place → Ok (changes_by es slots) ≡ all
  data_end le =
      sym (ap (λ (bs : List ℕ). ok_map (over es slots) (walk (entry_read es id) left place bs)) (drop_all place p le)
      ∙ ap (ok_map (over es slots)) (walk_nil (entry_read es id) left place)
      ∙ ap Ok (over_nil (changes_by es slots)))
      ∙ inv

either_walk : (b : Bool) (one other : List ℕ → Read Data) (left place : ℕ) (bs : List ℕ)
    → walk (λ xs. cond b (one xs) (other xs)) left place bs ≡ cond b (walk one left place bs) (walk other left place bs)
either_walk true one other left place bs = refl
either_walk false one other left place bs = refl

pub data_start : (es : List Entry) (id : ℕ) (slots : List (Option Change)) (p : List ℕ) → slots ≡ replicate 128 None → left_over es id slots 64 4 p ≡ ok_map latest (data_of es id p)
unfolding data_of
data_start es id slots p e =
    ap₂ (λ (f : Data → Changes) (r : Result Data Refusal). ok_map f r) (ap (over es) e ∙ over_none es 128)
    (either_walk (eqb id valset) (pair_read es) (deletion_read es) 64 4 (drop 4 p))
