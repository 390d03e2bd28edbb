-- Changes applied entry by entry: since keys ascend, the change under an entry's key is the slot at its place.
use Rattle.std.proofs.Common.{◌≡◌, ℕ, ◌+◌, ◌<◌, ◌≤◌, List, [], ◌∷◌, length, get_or, drop, None, Option, sym, refl, ap, ◌∙◌, arith}
use Rattle.std.proofs.lemmas.Bool.Decides.{nat_tests}
use Rattle.std.proofs.lemmas.List.{drop_all, drop_more}
use Rattle.catalogue.specs.declared.entries.Entry.{Entry}
use Rattle.catalogue.specs.Catalogues.{Listed, blank}
use Rattle.reference.specs.Stores.{Store}
use Rattle.reference.specs.Requests.{Changes}
use Rattle.reference.specs.Receiver.{written_one, written}
use Rattle.request.specs.declared.change.Change.{Change}
use Rattle.request.specs.declared.changes.Outcome.{Outcome}
use Rattle.request.specs.Changes.{change_of, changes_by, slots_in}
use Rattle.request.proofs.Slots.{slots_long}

-- each entry's slot, in their order
abbrev pub written_by : List Entry → List (Option Change) → Store → Store
written_by [] cs s = s
written_by (e ∷ es) [] s = s
written_by (e ∷ es) (c ∷ cs) s = written_by es cs (written_one (change_of c) e.key s)

-- only the keys above n count
written_agree : (n : ℕ) (es : List Entry) (d c : Changes) (s : Store) → Listed n es → ((k : ℕ) → n < k → d k ≡ c k) → written es d s ≡ written es c s
unfolding written Listed
written_agree n [] d c s l same = refl
written_agree n (e ∷ es) d c s l same =
    let lt : n < e.key = l.0 in
    written_agree e.key es d c (written_one (d e.key) e.key s) l.3 (λ k h. same k (omega arith))
    ∙ ap (λ o. written es c (written_one o e.key s)) (same e.key lt)

there : (e : Entry) (es : List Entry) (c : Option Change) (cs : List (Option Change)) (k : ℕ) → e.key < k → changes_by (e ∷ es) (c ∷ cs) k ≡ changes_by es cs k
there e es c cs k lt = grind (arith, nat_tests)

here : (e : Entry) (es : List Entry) (c : Option Change) (cs : List (Option Change)) → changes_by (e ∷ es) (c ∷ cs) e.key ≡ change_of c
here e es c cs = grind (arith, nat_tests)

pub written_by_lem : (n : ℕ) (es : List Entry) (cs : List (Option Change)) (s : Store) → Listed n es → length es ≤ length cs → written es (changes_by es cs) s ≡ written_by es cs s
unfolding written Listed
written_by_lem n [] cs s l le = refl
written_by_lem n (e ∷ es) [] s l le = absurd (omega arith)
written_by_lem n (e ∷ es) (c ∷ cs) s l le =
    let d = changes_by (e ∷ es) (c ∷ cs) in
    ap (λ o. written es d (written_one o e.key s)) (here e es c cs)
    ∙ written_agree e.key es d (changes_by es cs) (written_one (change_of c) e.key s) l.3 (there e es c cs)
    ∙ written_by_lem e.key es cs (written_one (change_of c) e.key s) l.3 (omega arith)

-- one entry is passed
pub by_step : (es : List Entry) (cs : List (Option Change)) (i : ℕ) (s s₂ r : Store) (c : Option Change) → i < length es → i < length cs → c ≡ get_or cs i None
    → s₂ ≡ written_one (change_of c) (get_or es i blank).key s → written_by (drop i es) (drop i cs) s ≡ r → written_by (drop (i + 1) es) (drop (i + 1) cs) s₂ ≡ r
by_step es cs i s s₂ r c in-es in-cs at is inv =
    ap (written_by (drop (i + 1) es) (drop (i + 1) cs)) (is ∙ ap (λ (x : Option Change). written_one (change_of x) (get_or es i blank).key s) at)
    ∙ sym (λ j. written_by (drop_more es i blank in-es j) (drop_more cs i None in-cs j) s) ∙ inv

-- the last entry is passed
pub by_end : (es : List Entry) (os : List Outcome) (vs : List ℕ) (i : ℕ) (s b : Store) → length es ≤ 128 → length os ≡ 128 → length vs ≡ 128 → Listed 0 es → length es ≤ i
    → written_by (drop i es) (drop i (slots_in os vs)) s ≡ written_by es (slots_in os vs) b → s ≡ written es (changes_by es (slots_in os vs)) b
by_end es os vs i s b le whole beside l done inv =
    let long = slots_long os vs whole beside in
    sym (ap (λ (m : List Entry). written_by m (drop i (slots_in os vs)) s) (drop_all i es done)) ∙ inv ∙ sym (written_by_lem 0 es (slots_in os vs) b l (omega arith))
