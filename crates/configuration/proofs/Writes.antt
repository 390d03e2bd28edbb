-- One write for each item that changes, item after item.
use Rattle.std.proofs.Common.{◌≡◌, ℕ, zero, suc, ◌+◌, ◌<◌, ◌≤◌, List, [], ◌∷◌, length, get_or, drop, None, Option, sym, refl, ap, subst, ◌∙◌, arith}
use Rattle.std.proofs.lemmas.Bool.Decides.{nat_tests}
use Rattle.std.proofs.lemmas.List.{drop_all, drop_more}
use Rattle.catalogue.specs.declared.entries.Entry.{Entry}
use Rattle.catalogue.specs.Catalogues.{Listed, blank}
use Rattle.reference.specs.Requests.{Changes}
use Rattle.request.specs.declared.change.Change.{Change}
use Rattle.request.specs.declared.changes.Outcome.{Outcome}
use Rattle.request.specs.Changes.{change_of, changes_by, slots_in}
use Rattle.request.proofs.Settled.{key_above_lem}
use Rattle.request.proofs.Slots.{slots_long}
use Rattle.configuration.specs.Writes.{Memory, WroteOne, Wrote}

-- since keys ascend, the change under an entry's key is the slot at its place
change_at : (n : ℕ) (es : List Entry) (cs : List (Option Change)) (i : ℕ) → Listed n es → i < length es → length es ≤ length cs
    → changes_by es cs (get_or es i blank).key ≡ change_of (get_or cs i None)
unfolding Listed
change_at n [] cs i l lt le = absurd (omega arith)
change_at n (e ∷ es) [] i l lt le = absurd (omega arith)
change_at n (e ∷ es) (c ∷ cs) zero l lt le = grind (arith, nat_tests)
change_at n (e ∷ es) (c ∷ cs) (suc i) l lt le =
    let h = change_at e.key es cs i l.3 (omega arith) (omega arith) in
    let a = key_above_lem e.key es i l.3 (omega arith) in
    grind (arith, nat_tests)

module _ {S : Type 0} (m : Memory S) where
  -- the writes before place i, then those from there on
  abbrev pub Left : List Entry → Changes → ℕ → S → S → Type 0
  Left es d i before s = (after : S) → Wrote m (drop i es) d s after → Wrote m es d before after

  module _ (es : List Entry) (os : List Outcome) (vs : List ℕ) (i : ℕ) (before s : S) (few : length es ≤ 128) (whole : length os ≡ 128) (beside : length vs ≡ 128) where
    abbrev changes : Changes
    changes = changes_by es (slots_in os vs)

    pub wrote_next : (t : S) (c : Option Change) → Listed 0 es → i < length es → c ≡ get_or (slots_in os vs) i None
        → WroteOne m (change_of c) (get_or es i blank).key s t → Left es changes i before s → Left es changes (i + 1) before t
    unfolding Wrote
    wrote_next t c listed lt at one left after rest =
        let long = slots_long os vs whole beside in
        let is = change_at 0 es (slots_in os vs) i listed lt (omega arith) ∙ sym (ap change_of at) in
        left after (subst (λ l. Wrote m l changes s after) (sym (drop_more es i blank lt)) (t, subst (λ o. WroteOne m o (get_or es i blank).key s t) (sym is) one, rest))

  pub wrote_all : (es all : List Entry) (cs : List (Option Change)) (i : ℕ) (before s : S) → es ≡ all → length es ≤ i → Left es (changes_by es cs) i before s
      → Wrote m all (changes_by all cs) before s
  unfolding Wrote
  wrote_all es all cs i before s same done left =
      subst (λ l. Wrote m l (changes_by l cs) before s) same (left s (subst (λ l. Wrote m l (changes_by es cs) s s) (sym (drop_all i es done)) refl))
