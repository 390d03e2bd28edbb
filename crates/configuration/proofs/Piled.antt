-- What stands under each entry's key in the pile and in the defaults, and what a rule is asked about them.
use Rattle.std.proofs.Common.{◌≡◌, ℕ, ◌<◌, true, List, [], ◌∷◌, map, is_ok, Some, None, Option, unwrap_or, refl, ap, ◌∙◌, ap₂, arith}
use Rattle.std.specs.Option.{option_or}
use Rattle.std.proofs.lemmas.Bool.{cond-true, cond-false, eq-eqb, ne_eqb}
use Rattle.catalogue.specs.declared.entries.Entry.{Entry}
use Rattle.catalogue.specs.Catalogues.{entries_checked, Listed}
use Rattle.catalogue.proofs.Catalogues.{checked_listed}
use Rattle.layer.specs.declared.setting.Setting.{Setting}
use Rattle.layer.specs.Settings.{setting, value_under, merged}
use Rattle.layer.specs.SettingsLemmas.{value_merged}
use Rattle.rule.specs.Rules.{Finding}
use Rattle.store.specs.Catalogued.{defaults_of}
use Rattle.reference.specs.Stores.{Store, held}
use Rattle.reference.specs.Parts.{settings_by, stack_value, default_of, if_fit, stack_fault, stacked}
use Rattle.reference.specs.Receiver.{configuration, pair_under}
use Rattle.configuration.specs.Meaning.{held_under, item_value}

value_first : (k v : ℕ) (ss : List Setting) → value_under k (setting k v ∷ ss) ≡ Some v
value_first k v ss = cond-true _ _ _ (eq-eqb k k refl)

value_later : (j k v : ℕ) (ss : List Setting) → j < k → value_under k (setting j v ∷ ss) ≡ value_under k ss
value_later j k v ss lt = cond-false _ _ _ (ne_eqb j k (λ same. omega arith))

over_some : (b f : Option ℕ) (d : ℕ) → option_or (option_or b f) (Some d) ≡ Some (unwrap_or (option_or b f) d)
over_some None None d = refl
over_some None (Some v) d = refl
over_some (Some v) f d = refl

module _ (b f : ℕ → Option ℕ) where
  -- where the defaults stand beneath two others, there is a value for each entry
  held_by : (n : ℕ) (es : List Entry) (ls : List Setting) → Listed n es → ((k : ℕ) → n < k → value_under k ls ≡ option_or (option_or (b k) (f k)) (value_under k (defaults_of es)))
      → held_under es ls ≡ settings_by (stack_value b f) es
  unfolding Listed settings_by
  held_by n [] ls l same = refl
  held_by n (e ∷ es) ls l same =
      let lt : n < e.key = l.0 in
      let is : value_under e.key ls ≡ Some (stack_value b f e) =
      same e.key lt ∙ ap (option_or (option_or (b e.key) (f e.key))) (value_first e.key e.default (defaults_of es)) ∙ over_some (b e.key) (f e.key) e.default in
      let rest = held_by e.key es ls l.3 (λ k h. same k (omega arith) ∙ ap (option_or (option_or (b k) (f k))) (value_later e.key k e.default (defaults_of es) h)) in
      ap₂ (pair_under e.key) is rest

pub pile_settings : (es : List Entry) (bs fs ts : List Setting) → is_ok (entries_checked 0 0 es) ≡ true → ts ≡ held_under es (merged (merged bs fs) (defaults_of es))
    → ts ≡ settings_by (stack_value (λ k. value_under k bs) (λ k. value_under k fs)) es
pile_settings es bs fs ts checked is =
    is
    ∙ held_by (λ k. value_under k bs) (λ k. value_under k fs) 0 es (merged (merged bs fs) (defaults_of es)) (checked_listed es checked)
    (λ k lt. value_merged k (merged bs fs) (defaults_of es) ∙ ap (λ o. option_or o (value_under k (defaults_of es))) (value_merged k bs fs))

pub default_settings : (es : List Entry) (ts : List Setting) → is_ok (entries_checked 0 0 es) ≡ true → ts ≡ held_under es (defaults_of es) → ts ≡ settings_by default_of es
default_settings es ts checked is = is ∙ held_by (λ k. None) (λ k. None) 0 es (defaults_of es) (checked_listed es checked) (λ k lt. refl)

-- a store that gives each entry a value is asked about these values
configured_by : (g : Entry → ℕ) (n : ℕ) (es : List Entry) (s : Store) → Listed n es → ((k : ℕ) → n < k → held s k ≡ value_under k (settings_by g es)) → configuration es s ≡ map g es
unfolding Listed configuration settings_by
configured_by g n [] s l same = refl
configured_by g n (e ∷ es) s l same =
    let lt : n < e.key = l.0 in
    let is : item_value s e ≡ g e = ap (λ o. unwrap_or o e.default) (same e.key lt ∙ value_first e.key (g e) (settings_by g es)) in
    let rest = configured_by g e.key es s l.3 (λ k h. same k (omega arith) ∙ value_later e.key k (g e) (settings_by g es) h) in
    ap₂ (λ (v : ℕ) (vs : List ℕ). v ∷ vs) is rest

module _ (es : List Entry) (rule : Finding) (b f : ℕ → Option ℕ) (ss : List Setting) (o : Option ℕ) (is : ss ≡ settings_by (stack_value b f) es) where
  pub fault_is : is_ok (entries_checked 0 0 es) ≡ true → o ≡ rule es (configuration es (record { usable = true; settings = ss })) → o ≡ stack_fault es rule b f
  unfolding stack_fault
  fault_is checked found =
      found
      ∙ ap (rule es) (configured_by (stack_value b f) 0 es (record { usable = true; settings = ss }) (checked_listed es checked) (λ k lt. ap (value_under k) is))

  pub stacked_is : (ts : List Setting) → o ≡ stack_fault es rule b f → ts ≡ if_fit o ss (settings_by default_of es) → ts ≡ stacked es rule b f
  unfolding stacked
  stacked_is ts found e = e ∙ ap₂ (λ (x : Option ℕ) (l : List Setting). if_fit x l (settings_by default_of es)) found is
