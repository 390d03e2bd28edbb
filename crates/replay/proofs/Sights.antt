-- What a watch sees, one call further; and of a receiver that was made of parts.
use Rattle.std.proofs.Common.{◌≡◌, ℕ, ◌+◌, ◌<◌, ◌≤◌, true, List, [], ◌∷◌, map, length, get_or, drop, Some, None, Option, sym, refl, ap, ap₂, ◌∙◌, subst}
use Rattle.std.proofs.lemmas.List.{drop_more, drop_all}
use Rattle.rule.specs.Rules.{Finding}
use Rattle.reference.specs.declared.fault.PartsFault.{PartsFault}
use Rattle.reference.specs.declared.call.Call.{Call}
use Rattle.reference.specs.Requests.{Catalogue}
use Rattle.reference.specs.Events.{Asking, asking_of}
use Rattle.reference.specs.Parts.{Parts, parts_fault}
use Rattle.reference.specs.Receiver.{State, Stepped, step, made_by}
use Rattle.reference.specs.Receiver.{made as made_of}
use Rattle.replay.specs.Seen.{SeesAfter, SeesFrom, SeesRun}
use Rattle.replay.proofs.Runs.{shut_step}

module _ {W : Type 0} (saw : W → State → W → Type 0) where
  -- what has been seen, with what is still to be seen, makes the whole
  abbrev pub Goes : Catalogue → Finding → State → List Asking → W → (W → Type 0) → Type 0
  Goes cat rule s cs w Whole = (last : W) → SeesAfter saw cat rule s cs w last → Whole last

  pub seen_more : (cat cat₁ : Catalogue) (rule rule₁ : Finding) (s t : State) (i : ℕ) (cs : List Call) (d : Call) (w u : W) (Whole : W → Type 0) → cat₁ ≡ cat → rule₁ ≡ rule
      → t ≡ (step cat₁ rule₁ s (asking_of (get_or cs i d))).state → saw w t u
      → Goes cat rule s (map asking_of (drop i cs)) w Whole → i < length cs → Goes cat rule t (map asking_of (drop (i + 1) cs)) u Whole
  unfolding SeesAfter
  seen_more cat cat₁ rule rule₁ s t i cs d w u Whole same-cat same-rule after seen goes lt last rest =
      let c : Asking = asking_of (get_or cs i d) in
      let to : t ≡ (step cat rule s c).state = after ∙ ap₂ (λ (x : Catalogue) (y : Finding). (step x y s c).state) same-cat same-rule in
      goes last
      (subst (λ (l : List Call). SeesAfter saw cat rule s (map asking_of l) w last) (sym (drop_more cs i d lt))
      (u, subst (λ (x : State). saw w x u) to seen, subst (λ (x : State). SeesAfter saw cat rule x (map asking_of (drop (i + 1) cs)) u last) to rest))

  pub seen_all : (cat : Catalogue) (rule : Finding) (s : State) (i : ℕ) (cs : List Call) (w : W) (Whole : W → Type 0)
      → Goes cat rule s (map asking_of (drop i cs)) w Whole → length cs ≤ i → Whole w
  unfolding SeesAfter
  seen_all cat rule s i cs w Whole goes le = goes w (subst (λ (l : List Call). SeesAfter saw cat rule s (map asking_of l) w w) (sym (drop_all i cs le)) refl)

  -- a shut receiver stays as it is, whatever its catalogue and rule
  seen_shut : (cat cat₁ : Catalogue) (rule rule₁ : Finding) (s : State) (cs : List Asking) (w last : W) → s.shut ≡ true → SeesAfter saw cat rule s cs w last → SeesAfter saw cat₁ rule₁ s cs w last
  unfolding SeesAfter
  seen_shut cat cat₁ rule rule₁ s [] w last on e = e
  seen_shut cat cat₁ rule rule₁ s (c ∷ cs) w last on (u, seen, rest) =
      let stays : (step cat rule s c).state ≡ s = ap (λ (n : Stepped). n.state) (shut_step cat rule s c on) in
      let stays₁ : s ≡ (step cat₁ rule₁ s c).state = sym (ap (λ (n : Stepped). n.state) (shut_step cat₁ rule₁ s c on)) in (
        u,
        subst (λ (x : State). saw w x u) stays₁ (subst (λ (x : State). saw w x u) stays seen),
        subst (λ (x : State). SeesAfter saw cat₁ rule₁ x cs u last) stays₁
            (seen_shut cat cat₁ rule rule₁ s cs u last on (subst (λ (x : State). SeesAfter saw cat rule x cs u last) stays rest)),
      )

  -- so it sees what it would see of the reference's run
  pub sees_run : (p : Parts) (cat : Catalogue) (rule : Finding) (cs : List Asking) → (parts_fault p ≡ None → cat ≡ p.catalogue) → rule ≡ p.rule
      → (s : State) → s ≡ made_of p → (w last : W) → SeesFrom saw cat rule s cs w last → SeesRun saw p cs w last
  unfolding made_of
  sees_run p cat rule cs items same-rule s is w last (u, seen, rest) =
      (u, subst (λ (x : State). saw w x u) is seen, go (parts_fault p) refl)
    where
      here : SeesAfter saw cat rule (made_of p) cs u last
      here = subst (λ (x : State). SeesAfter saw cat rule x cs u last) is rest

      go : (o : Option PartsFault) → parts_fault p ≡ o → SeesAfter saw p.catalogue p.rule (made_of p) cs u last
      go None e =
          subst (λ (y : Finding). SeesAfter saw p.catalogue y (made_of p) cs u last) same-rule
          (subst (λ (x : Catalogue). SeesAfter saw x rule (made_of p) cs u last) (items e) here)
      go (Some f) e = seen_shut cat p.catalogue rule p.rule (made_of p) cs u last (ap (λ (o : Option PartsFault). (made_by o p).shut) e) here
