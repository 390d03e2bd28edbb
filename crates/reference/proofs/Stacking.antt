-- What a stacking leaves: a value for each item, ascending, and a configuration that the rule finds fit.
use Rattle.std.proofs.Common.{◌≡◌, ℕ, ◌<◌, Bool, true, false, cond, ◌||◌, eqb, List, [], ◌∷◌, map, Some, None, Option, unwrap_or, sym, refl, ap, ◌∙◌, ap₂, arith}
use Rattle.std.specs.List.{AllByRecursion}
use Rattle.std.proofs.ByRecursion.{All-weaker}
use Rattle.std.proofs.lemmas.Bool.{eq-eqb, ne_eqb}
use Rattle.catalogue.specs.declared.entries.Entry.{Entry}
use Rattle.catalogue.specs.Catalogues.{Listed}
use Rattle.layer.specs.Settings.{value_under, Above}
use Rattle.reference.specs.Stores.{Settings, Store, held}
use Rattle.reference.specs.Requests.{Catalogue, is_known}
use Rattle.rule.specs.Rules.{Finding}
use Rattle.reference.specs.Parts.{settings_by, stack_value, default_of, if_fit, stack_fault, stacked}
use Rattle.reference.specs.Receiver.{configuration}
use Rattle.reference.specs.Law.{value_at}
use Rattle.reference.proofs.Settings.{KnownIn, known_first, known_behind}
use Rattle.reference.proofs.Stores.{SoundCatalogue, Tidy}

module _ (f : Entry → ℕ) where
  above_by : (es : Catalogue) (a : ℕ) → Listed a es → Above a (settings_by f es)
  unfolding settings_by Listed
  above_by [] a h = tt
  above_by (e ∷ es) a h = (h.0, above_by es e.key h.3)

  known_by : (es : Catalogue) → AllByRecursion (KnownIn es) (settings_by f es)
  unfolding settings_by is_known
  known_by [] = tt
  known_by (e ∷ es) =
      (known_first e es, All-weaker (KnownIn es) (KnownIn (e ∷ es)) (λ s is. known_behind e es s.key is) (settings_by f es) (known_by es))

  some_by : (es : Catalogue) (k : ℕ) → is_known es k ≡ true → (v : ℕ) × (value_under k (settings_by f es) ≡ Some v)
  unfolding settings_by is_known
  some_by [] k is = cc
  some_by (e ∷ es) k is = go (eqb e.key k) is (some_by es k)
    where
      go : (b : Bool) → (b || is_known es k) ≡ true → (is_known es k ≡ true → (v : ℕ) × (value_under k (settings_by f es) ≡ Some v))
          → (v : ℕ) × (cond b (Some (f e)) (value_under k (settings_by f es)) ≡ Some v)
      go true h ih = (f e, refl)
      go false h ih = ih h

  above_all : (es : Catalogue) (a : ℕ) → Listed a es → AllByRecursion (λ (e : Entry). a < e.key) es
  unfolding Listed
  above_all [] a h = tt
  above_all (e ∷ es) a h = (h.0, All-weaker (λ (x : Entry). e.key < x.key) (λ (x : Entry). a < x.key) (λ x lt. omega (arith, h.0)) es (above_all es e.key h.3))

  -- with ascending keys each item has its own value
  own_by : (es : Catalogue) (a : ℕ) → Listed a es → AllByRecursion (λ (e : Entry). value_under e.key (settings_by f es) ≡ Some (f e)) es
  unfolding settings_by Listed
  own_by [] a h = tt
  own_by (e ∷ es) a h = (
    rw (eq-eqb e.key e.key refl) refl,
    all_both es (above_all es e.key h.3) (own_by es e.key h.3),
  )
    where
      all_both : (xs : Catalogue) → AllByRecursion (λ (x : Entry). e.key < x.key) xs → AllByRecursion (λ (x : Entry). value_under x.key (settings_by f es) ≡ Some (f x)) xs
          → AllByRecursion (λ (x : Entry). cond (eqb e.key x.key) (Some (f e)) (value_under x.key (settings_by f es)) ≡ Some (f x)) xs
      all_both [] p q = tt
      all_both (x ∷ xs) p q = (rw (ne_eqb e.key x.key (λ s. omega (arith, p.0))) q.0, all_both xs p.1 q.1)

  configuration_is : (es : Catalogue) (s : Store) → AllByRecursion (λ (e : Entry). held s e.key ≡ Some (f e)) es → configuration es s ≡ map f es
  unfolding configuration
  configuration_is [] s h = refl
  configuration_is (e ∷ es) s h = ap₂ (λ (x : ℕ) (xs : List ℕ). x ∷ xs) (ap (λ o. unwrap_or o e.default) h.0) (configuration_is es s h.1)

-- RAM as values: all there, and one list
pub all_there : (es : Catalogue) (s : Store) → ((k : ℕ) → is_known es k ≡ true → (v : ℕ) × (held s k ≡ Some v)) → map (value_at s.settings) es ≡ map Some (configuration es s)
unfolding configuration is_known
all_there [] s h = refl
all_there (e ∷ es) s h =
    let v = h e.key (known_first e es) in
    ap₂ (λ (x : Option ℕ) (xs : List (Option ℕ)). x ∷ xs) (v.1 ∙ ap (λ o. Some (unwrap_or o e.default)) (sym v.1)) (all_there es s (λ k is. h k (known_behind e es k is)))

module _ (cat : Catalogue) (rule : Finding) (sound : SoundCatalogue cat) (defaults : rule cat (map default_of cat) ≡ None) where
  tidy_by : (f : Entry → ℕ) → Tidy cat (settings_by f cat)
  tidy_by f = record { above = above_by f cat 0 sound.listed; known = known_by f cat }

  -- P of both settings that a stacking can leave, of which the configuration is fit
  stacked_ways : (b g : ℕ → Option ℕ) (P : Settings → Type 0) → ((f : Entry → ℕ) → rule cat (map f cat) ≡ None → P (settings_by f cat)) → P (stacked cat rule b g)
  unfolding stacked stack_fault
  stacked_ways b g P each = go (rule cat (map (stack_value b g) cat)) refl
    where
      go : (o : Option ℕ) → rule cat (map (stack_value b g) cat) ≡ o → P (if_fit o (settings_by (stack_value b g) cat) (settings_by default_of cat))
      go None e = each (stack_value b g) e
      go (Some i) e = each default_of defaults

  pub stacked_tidy : (b g : ℕ → Option ℕ) → Tidy cat (stacked cat rule b g)
  stacked_tidy b g = stacked_ways b g (Tidy cat) (λ f fit. tidy_by f)

  pub stacked_full : (b g : ℕ → Option ℕ) (k : ℕ) → is_known cat k ≡ true → (v : ℕ) × (value_under k (stacked cat rule b g) ≡ Some v)
  stacked_full b g k is = stacked_ways b g (λ ss. (v : ℕ) × (value_under k ss ≡ Some v)) (λ f fit. some_by f cat k is)

  pub stacked_fit : (b g : ℕ → Option ℕ) (u : Bool) → rule cat (configuration cat (record { usable = u; settings = stacked cat rule b g })) ≡ None
  stacked_fit b g u =
      stacked_ways b g (λ ss. rule cat (configuration cat (record { usable = u; settings = ss })) ≡ None)
      (λ f fit. ap (rule cat) (configuration_is f cat (record { usable = u; settings = settings_by f cat }) (own_by f cat 0 sound.listed)) ∙ fit)
