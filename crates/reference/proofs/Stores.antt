-- Applying data to a store that holds keys of the catalogue alone: nothing is refused, and each named key has its last value.
use Rattle.std.proofs.Common.{◌≡◌, ℕ, ◌≤◌, Bool, true, false, cond, ◌||◌, eqb, ltb, [], ◌∷◌, length, is_some, Some, None, Ok, Err, Option, unwrap_or, sym, refl, ap, ◌∙◌, subst, arith}
use Rattle.std.specs.Option.{option_or}
use Rattle.std.specs.List.{AllByRecursion}
use Rattle.std.proofs.lemmas.Bool.{eqb-true, lt-ltb, cond_both}
use Rattle.item.specs.Keys.{well_formed, fits_key}
use Rattle.layer.specs.Settings.{value_under, with_value, without, Above}
use Rattle.layer.specs.declared.fault.StoreFault.TheVariants.{Unusable, IllFormedKey, Unfit, Full}
use Rattle.layer.specs.Stores.{room, after_put, after_remove}
use Rattle.layer.specs.SettingsLemmas.{above_with, length_with_new}
use Rattle.catalogue.specs.Catalogues.{Listed}
use Rattle.reference.specs.Stores.{Settings, Store, holding, held, put, removed}
use Rattle.reference.specs.Requests.{Catalogue, is_known, Change, Data, latest, Changes, and_later}
use Rattle.reference.specs.Receiver.{written_one, written}
use Rattle.reference.proofs.Settings.{value_with, value_without, KnownIn, few, known_first, known_behind, known_above, known_formed, above_without, all_with, all_without}

pub record SoundCatalogue (cat : Catalogue) : Type 0 where
  pub at_most : length cat ≤ 128
  pub listed : Listed 0 cat

-- ascending keys of the catalogue
pub record Tidy (cat : Catalogue) (ss : Settings) : Type 0 where
  pub above : Above 0 ss
  pub known : AllByRecursion (KnownIn cat) ss

-- a change that names a known key, with a value that fitsKey; in a set there is one
pub record Good (cat : Catalogue) (set : Bool) (c : Change) : Type 0 where
  pub known : is_known cat c.key ≡ true
  pub fit : (v : ℕ) → c.value ≡ Some v → fits_key c.key v ≡ true
  pub some : set ≡ true → (v : ℕ) × (c.value ≡ Some v)

-- a store that holds f, ascending keys of the catalogue alone, and is usable
pub record Holding (cat : Catalogue) (s : Store) (f : ℕ → Option ℕ) : Type 0 where
  pub tidy : Tidy cat s.settings
  pub usable : s.usable ≡ true
  pub holds : (j : ℕ) → held s j ≡ f j

module _ (cat : Catalogue) (sound : SoundCatalogue cat) where
  tidy_with : (ss : Settings) (k v : ℕ) → is_known cat k ≡ true → Tidy cat ss → Tidy cat (with_value k v ss)
  tidy_with ss k v is t =
      record {
        above = above_with 0 k v ss t.above (known_above cat 0 k sound.listed is);
        known = all_with (KnownIn cat) k v ss is t.known;
      }

  tidy_without : (ss : Settings) (k : ℕ) → Tidy cat ss → Tidy cat (without k ss)
  tidy_without ss k t = record { above = above_without 0 k ss t.above; known = all_without (KnownIn cat) k ss t.known }

  -- no store is full for a key of the catalogue
  has_room : (ss : Settings) (k v : ℕ) → Tidy cat ss → is_known cat k ≡ true → room k ss ≡ true
  has_room ss k v t is = go (value_under k ss) refl
    where
      go : (o : Option ℕ) → value_under k ss ≡ o → cond (is_some o) true (ltb (length ss) 128) ≡ true
      go (Some x) e = refl
      go None e =
          let more = tidy_with ss k v is t in
          let n = few cat (with_value k v ss) 0 0 sound.listed more.above more.known in
          let one = length_with_new k v ss e in
          lt-ltb _ 128 (omega (arith, sound.at_most))

  put_is : (s : Store) (k v : ℕ) → Tidy cat s.settings → s.usable ≡ true → is_known cat k ≡ true → fits_key k v ≡ true → put s k v ≡ holding s (with_value k v s.settings)
  unfolding put
  put_is s k v t u is f = go s.usable (well_formed k) (fits_key k v) (room k s.settings) u (known_formed cat 0 k sound.listed is) f (has_room s.settings k v t is)
    where
      go : (a b c d : Bool) → a ≡ true → b ≡ true → c ≡ true → d ≡ true
          → holding s (after_put (cond a (cond b (cond c (cond d (Ok tt) (Err Full)) (Err Unfit)) (Err IllFormedKey)) (Err Unusable)) k v s.settings) ≡ holding s (with_value k v s.settings)
      go a b c d e f g h = rw (e, f, g, h) refl

  removed_is : (s : Store) (k : ℕ) → s.usable ≡ true → is_known cat k ≡ true → removed s k ≡ holding s (without k s.settings)
  unfolding removed
  removed_is s k u is = go s.usable (well_formed k) u (known_formed cat 0 k sound.listed is)
    where
      go : (a b : Bool) → a ≡ true → b ≡ true → holding s (after_remove (cond a (cond b (Ok tt) (Err IllFormedKey)) (Err Unusable)) k s.settings) ≡ holding s (without k s.settings)
      go a b e f = rw (e, f) refl

  one_written : (s : Store) (k : ℕ) (o : Option (Option ℕ)) → Tidy cat s.settings → s.usable ≡ true → is_known cat k ≡ true
      → ((v : ℕ) → o ≡ Some (Some v) → fits_key k v ≡ true) → Holding cat (written_one o k s) (λ j. cond (eqb k j) (unwrap_or o (held s j)) (held s j))
  one_written s k None t u is f = record { tidy = t; usable = u; holds = λ j. same (eqb k j) (held s j) }
    where
      same : (b : Bool) (x : Option ℕ) → x ≡ cond b x x
      same true x = refl
      same false x = refl
  one_written s k (Some None) t u is f =
      subst (λ s'. Holding cat s' (λ j. cond (eqb k j) None (held s j))) (sym (removed_is s k u is))
      (record { tidy = tidy_without s.settings k t; usable = u; holds = λ j. value_without k j s.settings })
  one_written s k (Some (Some v)) t u is f =
      subst (λ s'. Holding cat s' (λ j. cond (eqb k j) (Some v) (held s j))) (sym (put_is s k v t u is (f v refl)))
      (record { tidy = tidy_with s.settings k v is t; usable = u; holds = λ j. value_with k v j s.settings })

  module _ (d : Changes) (fit : (k v : ℕ) → d k ≡ Some (Some v) → fits_key k v ≡ true) where
    -- es: the entries that are still to come
    all_written : (es : Catalogue) (s : Store) → ((k : ℕ) → is_known es k ≡ true → is_known cat k ≡ true) → Tidy cat s.settings → s.usable ≡ true
        → Holding cat (written es d s) (λ j. cond (is_known es j) (unwrap_or (d j) (held s j)) (held s j))
    unfolding written is_known
    all_written [] s sub t u = record { tidy = t; usable = u; holds = λ j. refl }
    all_written (e ∷ es) s sub t u =
        let one = one_written s e.key (d e.key) t u (sub e.key (known_first e es)) (fit e.key) in
        let all = all_written es (written_one (d e.key) e.key s) (λ k is. sub k (known_behind e es k is)) one.tidy one.usable in
        record {
          tidy = all.tidy;
          usable = all.usable;
          holds = λ j. all.holds j ∙ ap (λ o. cond (is_known es j) (unwrap_or (d j) o) o) (one.holds j) ∙ go j (eqb e.key j) refl;
        }
      where
        -- writing the same value twice is writing it once
        again : (b : Bool) (o : Option (Option ℕ)) (x : Option ℕ) → cond b (unwrap_or o (unwrap_or o x)) (unwrap_or o x) ≡ unwrap_or o x
        again true None x = refl
        again true (Some y) x = refl
        again false o x = refl

        go : (j : ℕ) (b : Bool) → eqb e.key j ≡ b
            → cond (is_known es j) (unwrap_or (d j) (cond b (unwrap_or (d e.key) (held s j)) (held s j))) (cond b (unwrap_or (d e.key) (held s j)) (held s j))
            ≡ cond (b || is_known es j) (unwrap_or (d j) (held s j)) (held s j)
        go j true is = rw (eqb-true e.key j is) (again (is_known es j) (d j) (held s j))
        go j false is = refl

    -- where data name keys of the catalogue alone
    pub written_holds : (s : Store) → ((k : ℕ) → is_known cat k ≡ false → d k ≡ None) → Tidy cat s.settings → s.usable ≡ true
        → Holding cat (written cat d s) (λ j. unwrap_or (d j) (held s j))
    written_holds s only t u =
        let all = all_written cat s (λ k is. is) t u in
        record { tidy = all.tidy; usable = all.usable; holds = λ j. all.holds j ∙ go j (is_known cat j) refl }
      where
        go : (j : ℕ) (b : Bool) → is_known cat j ≡ b → cond b (unwrap_or (d j) (held s j)) (held s j) ≡ unwrap_or (d j) (held s j)
        go j true is = refl
        go j false is = ap (λ o. unwrap_or o (held s j)) (sym (only j is))

-- What good data say of the last value of a key

latest_ways : (P : Option (Option ℕ) → Type 0) (c : Change) (cs : Data) (k : ℕ) → P (latest cs k) → (c.key ≡ k → P (Some c.value)) → P (latest (c ∷ cs) k)
unfolding latest
latest_ways P c cs k p q = go (latest cs k) p
  where
    go : (o : Option (Option ℕ)) → P o → P (option_or o (cond (eqb c.key k) (Some c.value) None))
    go None p = cond_both (eqb c.key k) _ _ P (λ e. q (eqb-true c.key k e)) (λ _. p)
    go (Some x) p = p

-- what may stand under a key: a known key, a value that fitsKey; in a set there is one
abbrev pub GoodAt : Catalogue → Bool → ℕ → Option (Option ℕ) → Type 0
GoodAt cat set k None = Unit {0}
GoodAt cat set k (Some x) = (is_known cat k ≡ true) × ((v : ℕ) → x ≡ Some v → fits_key k v ≡ true) × (set ≡ true → (v : ℕ) × (x ≡ Some v))

abbrev pub GoodChanges : Catalogue → Bool → Changes → Type 0
GoodChanges cat set d = (k : ℕ) → GoodAt cat set k (d k)

module _ (cat : Catalogue) (set : Bool) where
  pub latest_good : (d : Data) → AllByRecursion (Good cat set) d → GoodChanges cat set (latest d)
  unfolding latest
  latest_good [] h k = tt
  latest_good (c ∷ cs) h k =
      latest_ways (GoodAt cat set k) c cs k (latest_good cs h.1 k)
      (λ e. subst (λ n. GoodAt cat set n (Some c.value)) e (h.0.known, h.0.fit, h.0.some))

  pub later_good : (q d : Changes) → GoodChanges cat set q → GoodChanges cat set d → GoodChanges cat set (and_later q d)
  later_good q d a b k = go (d k) (b k)
    where
      go : (o : Option (Option ℕ)) → GoodAt cat set k o → GoodAt cat set k (option_or o (q k))
      go None g = a k
      go (Some x) g = g

  module _ (d : Changes) (good : GoodChanges cat set d) where
    pub good_fits : (k v : ℕ) → d k ≡ Some (Some v) → fits_key k v ≡ true
    good_fits k v e = (subst (GoodAt cat set k) e (good k)).1 v refl

    pub good_known : (k : ℕ) → is_known cat k ≡ false → d k ≡ None
    good_known k out = go (d k) (good k)
      where
        go : (o : Option (Option ℕ)) → GoodAt cat set k o → o ≡ None
        go None g = refl
        go (Some x) g = let known = g.0 in cc

    -- in a set, a named key has a value
    pub good_some : (k : ℕ) (x : Option ℕ) → set ≡ true → d k ≡ Some x → (v : ℕ) × (x ≡ Some v)
    good_some k x is e = (subst (GoodAt cat set k) e (good k)).2 is
