-- Rules: a whole configuration, one value for each item of a catalogue, is fit, or one item is named.
use Rattle.std.specs.Prelude.{◌≡◌, ℕ, suc, ◌<◌, min, Bool, true, false, cond, not, ◌&&◌, List, [], ◌∷◌, map, length, is_ok, Some, None, Option, ◌==◌, ◌≢◌, nat_lt, slice_index, slice_set}
use Rattle.std.specs.Option.{option_or}
use Rattle.std.specs.List.{AllByRecursion}
use Rattle.catalogue.specs.declared.entries.Entry.{Entry}
use Rattle.catalogue.specs.Catalogues.{allows, catalogue_checked}
use Rattle.rule.specs.declared.need.Need.{Need}

-- what a rule means: none where the configuration is fit, else the item that it names
abbrev pub Finding : Type 0
Finding = List Entry → List ℕ → Option ℕ

-- a named item is a place of the catalogue
abbrev pub NamesPlaces : Finding → Type 0
NamesPlaces f = (es : List Entry) (vs : List ℕ) (i : ℕ) → f es vs ≡ Some i → i < length es

-- Ranges: the lowest item outside its bounds. Entries without a value, and values without an entry, are not read.
abbrev pub outside : ℕ → Finding
outside place [] vs = None
outside place (e ∷ es) [] = None
outside place (e ∷ es) (v ∷ vs) = let rest : Option ℕ = outside (suc place) es vs in cond (allows e v) rest (Some place)

abbrev pub ranges : Finding
ranges es vs = outside 0 es vs

-- the defaults of a catalogue that the check accepts are within their bounds
abbrev pub DefaultsFit : List Entry → List ℕ → Type 0
DefaultsFit es vs = is_ok (catalogue_checked es) ≡ true → vs ≡ map (λ (e : Entry). e.default) es → ranges es vs ≡ None

-- Needs: a value other than 0 in a pair's first item needs one in its second. A pair with a number that is no item is never broken.
abbrev pub items : List Entry → List ℕ → ℕ
items es vs = min (length es) (length vs)

abbrev pub is_broken : List Entry → List ℕ → Need → Bool
is_broken es vs n =
    nat_lt n.first (items es vs) && (nat_lt n.second (items es vs) && (not (slice_index vs n.first == 0) && slice_index vs n.second == 0))

-- the first item of the first broken pair
abbrev pub first_broken : List Need → Finding
first_broken [] es vs = None
first_broken (n ∷ ns) es vs = let rest : Option ℕ = first_broken ns es vs in cond (is_broken es vs n) (Some n.first) rest

-- Setting an item that is first in no pair to a value other than 0 breaks no pair.
abbrev pub Eases : List Need → List Entry → List ℕ → Type 0
Eases ns es vs =
    (i v : ℕ) → AllByRecursion (λ n. n.first ≢ i) ns → (v ≢ 0) → first_broken ns es vs ≡ None → first_broken ns es (slice_set vs i v) ≡ None

-- two rules together, the first's finding first
abbrev pub both_find : Finding → Finding → Finding
both_find f g es vs = option_or (f es vs) (g es vs)

-- what a finding says of the configuration
abbrev pub is_fit : Option ℕ → Bool
is_fit None = true
is_fit (Some i) = false
