-- Values told without trying: where a store holds a value under each key and each change puts one that fits, the configuration after the changes is these values.
use Rattle.std.proofs.Common.{◌≡◌, ◌≢◌, ℕ, suc, ◌+◌, ◌<◌, ◌≤◌, Bool, true, cond, List, [], ◌∷◌, ◌++◌, length, get_or, Some, None, Ok, Err, Option, MatchOption, sym, refl, ap, ◌∙◌, subst, below_more, arith}
use Rattle.std.proofs.lemmas.List.{get_or_append_left}
use Rattle.std.proofs.Math.Seq.{get_or-append_seam}
use Rattle.std.specs.Option.{unwrap_or}
use Rattle.item.specs.Keys.{well_formed, fits_key}
use Rattle.layer.specs.declared.fault.StoreFault.TheVariants.{Unusable, IllFormedKey, Unfit, Full}
use Rattle.layer.specs.Settings.{is_setting, with_value}
use Rattle.layer.specs.SettingsLemmas.{value_with_same, value_with_other}
use Rattle.layer.specs.Stores.{room, after_put}
use Rattle.layer.proofs.Stores.{setting_key, held_room}
use Rattle.catalogue.specs.declared.entries.Entry.{Entry}
use Rattle.catalogue.specs.Catalogues.{Listed, blank}
use Rattle.reference.specs.Stores.{Store, held, holding, put}
use Rattle.reference.specs.Receiver.{written_one, written, configuration}
use Rattle.request.specs.declared.change.Change.{Change}
use Rattle.request.specs.declared.change.Change.TheVariants.{Put, Remove}
use Rattle.request.specs.Changes.{change_of, changes_by}
use Rattle.request.proofs.Settled.{key_above_lem}
use Rattle.configuration.specs.Trying.{Becomes, StepTo}
use Rattle.configuration.proofs.Written.{written_by, written_by_lem}

-- One change

put_ok : (s : Store) (k h w : ℕ) → s.usable ≡ true → held s k ≡ Some h → is_setting k h ≡ true → fits_key k w ≡ true → put s k w ≡ holding s (with_value k w s.settings)
unfolding put
put_ok s k h w u at is f = go s.usable (well_formed k) (fits_key k w) (room k s.settings) u (setting_key k h is) f (held_room k h s.settings at)
  where
    go : (a b c d : Bool) → a ≡ true → b ≡ true → c ≡ true → d ≡ true
        → holding s (after_put (cond a (cond b (cond c (cond d (Ok tt) (Err Full)) (Err Unfit)) (Err IllFormedKey)) (Err Unusable)) k w s.settings) ≡ holding s (with_value k w s.settings)
    go a b c d e f g h = rw (e, f, g, h) refl

module _ (s : Store) (usable : s.usable ≡ true) where
  abbrev after_one : ℕ → Option Change → Store
  after_one k c = written_one (change_of c) k s

  put_there : (k w h v : ℕ) → held s k ≡ Some h → is_setting k h ≡ true → (v ≡ w) × (fits_key k w ≡ true) → after_one k (Some (Put w)) ≡ holding s (with_value k w s.settings)
  put_there k w h v at is b = put_ok s k h w usable at is b.1

  usable_after : (k v : ℕ) (c : Option Change) → StepTo s k c v → (after_one k c).usable ≡ true
  usable_after k v None t = usable
  usable_after k v (Some Remove) t = absurd t.becomes
  usable_after k v (Some (Put w)) t = ap (λ (x : Store). x.usable) (put_there k w t.before v t.is_held t.fits t.becomes) ∙ usable

  held_after : (k v : ℕ) (c : Option Change) → StepTo s k c v → held (after_one k c) k ≡ Some v
  held_after k v None t = t.is_held ∙ ap Some (sym t.becomes)
  held_after k v (Some Remove) t = absurd t.becomes
  held_after k v (Some (Put w)) t = ap (λ (x : Store). held x k) (put_there k w t.before v t.is_held t.fits t.becomes) ∙ value_with_same k w s.settings ∙ ap Some (sym (t.becomes.0))

  other_after : (k v : ℕ) (c : Option Change) (j : ℕ) → StepTo s k c v → j ≢ k → held (after_one k c) j ≡ held s j
  other_after k v None j t ne = refl
  other_after k v (Some Remove) j t ne = absurd t.becomes
  other_after k v (Some (Put w)) j t ne = ap (λ (x : Store). held x j) (put_there k w t.before v t.is_held t.fits t.becomes) ∙ value_with_other k w j s.settings ne

-- the changes of other keys may be told from the store before
step_behind : (s s₂ : Store) (k v : ℕ) (c : Option Change) → held s₂ k ≡ held s k → StepTo s k c v → StepTo s₂ k c v
step_behind s s₂ k v c same t = record { before = t.before; is_held = same ∙ t.is_held; fits = t.fits; becomes = t.becomes }

-- All changes, in ascending key order

abbrev pub Steps : Store → List Entry → List (Option Change) → List ℕ → ℕ → Type 0
Steps s es cs vs n = (j : ℕ) → j < n → StepTo s (get_or es j blank).key (get_or cs j None) (get_or vs j 0)

module _ (e : Entry) (es : List Entry) (c : Option Change) (cs : List (Option Change)) (v : ℕ) (vs : List ℕ) (s : Store) (listed : Listed e.key es) (u : s.usable ≡ true) (t : Steps s (e ∷ es) (c ∷ cs) (v ∷ vs) (suc (length es))) where
  first : StepTo s e.key c v
  first = t 0 (omega arith)

  behind_first : Steps (after_one s u e.key c) es cs vs (length es)
  behind_first j lt =
      let k : ℕ = (get_or es j blank).key in
      let higher = key_above_lem e.key es j listed lt in
      step_behind s (after_one s u e.key c) k (get_or vs j 0) (get_or cs j None) (other_after s u e.key v c k first (omega arith)) (t (suc j) (omega arith))

-- what is held under lower keys stays
lower_stays : (n : ℕ) (es : List Entry) (cs : List (Option Change)) (vs : List ℕ) (s : Store) (k : ℕ) → Listed n es → k ≤ n → length es ≤ length cs → length vs ≡ length es → s.usable ≡ true
    → Steps s es cs vs (length es) → held (written_by es cs s) k ≡ held s k
unfolding Listed
lower_stays n [] cs vs s k l le lc lv u t = refl
lower_stays n (e ∷ es) [] vs s k l le lc lv u t = absurd (omega arith)
lower_stays n (e ∷ es) (c ∷ cs) [] s k l le lc lv u t = absurd (omega arith)
lower_stays n (e ∷ es) (c ∷ cs) (v ∷ vs) s k l le lc lv u t =
    let lt : n < e.key = l.0 in
    lower_stays e.key es cs vs (after_one s u e.key c) k l.3 (omega arith) (omega arith) (omega arith) (usable_after s u e.key v c (first e es c cs v vs s l.3 u t)) (behind_first e es c cs v vs s l.3 u t)
    ∙ other_after s u e.key v c k (first e es c cs v vs s l.3 u t) (omega arith)

told : (n : ℕ) (es : List Entry) (cs : List (Option Change)) (vs : List ℕ) (s : Store) → Listed n es → length es ≤ length cs → length vs ≡ length es → s.usable ≡ true
    → Steps s es cs vs (length es) → vs ≡ configuration es (written_by es cs s)
unfolding Listed configuration
told n [] cs [] s l lc lv u t = refl
told n [] cs (v ∷ vs) s l lc lv u t = absurd (omega arith)
told n (e ∷ es) [] vs s l lc lv u t = absurd (omega arith)
told n (e ∷ es) (c ∷ cs) [] s l lc lv u t = absurd (omega arith)
told n (e ∷ es) (c ∷ cs) (v ∷ vs) s l lc lv u t =
    let one = first e es c cs v vs s l.3 u t in
    let rest = behind_first e es c cs v vs s l.3 u t in
    let s₂ : Store = after_one s u e.key c in
    let u₂ = usable_after s u e.key v c one in
    let there : held (written_by es cs s₂) e.key ≡ Some v = lower_stays e.key es cs vs s₂ e.key l.3 (omega arith) (omega arith) (omega arith) u₂ rest ∙ held_after s u e.key v c one in
    λ i. sym (ap (λ (o : Option ℕ). unwrap_or o e.default) there) i ∷ told e.key es cs vs s₂ l.3 (omega arith) (omega arith) u₂ rest i

pub values_told : (es : List Entry) (cs : List (Option Change)) (vs : List ℕ) (s : Store) (n : ℕ) → Listed 0 es → length es ≤ length cs → length vs ≡ n → length es ≤ n → n ≤ length es → s.usable ≡ true
    → Steps s es cs vs n → vs ≡ configuration es (written es (changes_by es cs) s)
values_told es cs vs s n l lc lv a b u t =
    told 0 es cs vs s l lc (omega arith) u (λ j lt. t j (omega arith)) ∙ ap (configuration es) (sym (written_by_lem 0 es cs s l lc))

-- One item's value, where the store holds one
pub stepped : (s : Store) (k h : ℕ) (c : Option Change) (r : Option ℕ) → held s k ≡ Some h → is_setting k h ≡ true → MatchOption r (Unit {0}) (λ v. Becomes k h c v)
    → MatchOption r (Unit {0}) (λ v. StepTo s k c v)
stepped s k h c None at fits m = tt
stepped s k h c (Some v) at fits m = record { before = h; is_held = at; fits = fits; becomes = m }

-- one value more
pub steps_more : (s : Store) (es : List Entry) (cs : List (Option Change)) (vs : List ℕ) (n v : ℕ) → length vs ≡ n → Steps s es cs vs n
    → StepTo s (get_or es n blank).key (get_or cs n None) v → Steps s es cs (vs ++ v ∷ []) (n + 1)
steps_more s es cs vs n v long t one = below_more _ _
    (λ j lt. subst (StepTo s (get_or es j blank).key (get_or cs j None)) (sym (get_or_append_left vs (v ∷ []) 0 j (omega arith))) (t j lt))
    (subst (StepTo s (get_or es n blank).key (get_or cs n None)) (sym (ap (λ i. get_or (vs ++ v ∷ []) i 0) (sym long) ∙ get_or-append_seam vs v [] 0)) one)
