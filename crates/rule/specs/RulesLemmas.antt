-- Rules: what they name, the walks that find it, and what never makes a configuration unfit.
use Rattle.std.specs.Prelude.{◌≡◌, ℕ, suc, ◌+◌, ◌<◌, Bool, true, false, cond, not, ◌&&◌, List, [], ◌∷◌, map, length, get_or, set, find, position, zip, is_ok, Some, None, Ok, Err, Option, Result, ◌==◌, ◌≢◌, nat_eq, nat_le, nat_lt, slice_index, slice_set, refl}
use Rattle.std.proofs.Common.{sym, ap, subst, ◌∙◌, ⊎_elim, arith}
use Rattle.std.specs.Option.{option_or, option_map}
use Rattle.std.specs.List.{position_or_len}
use Rattle.std.proofs.lemmas.List.{length-set, get_or-set_same, get_or-set_other, set_past}
use Rattle.std.proofs.lemmas.Option.{none-some}
use Rattle.std.proofs.lemmas.Bool.{and_parts, and_right, ltb-true, cond-true, cond-false, cases_eq, cases_lt, ne_eqb, true≢false}
use Rattle.catalogue.specs.declared.entries.CatalogueFault.{CatalogueFault}
use Rattle.catalogue.specs.declared.entries.CatalogueFault.TheVariants.{EntryCount}
use Rattle.catalogue.specs.declared.entries.Entry.{Entry}
use Rattle.catalogue.specs.Catalogues.{allows, kind_suits, read_fits, is_sound, entries_checked, Listed}
use Rattle.catalogue.proofs.Catalogues.{listed_from}
use Rattle.rule.specs.declared.need.Need.{Need}
use Rattle.rule.specs.Rules.{Finding, NamesPlaces, outside, ranges, DefaultsFit, items, is_broken, first_broken, Eases, both_find}

-- Ranges

outside_place : (place : ℕ) (es : List Entry) (vs : List ℕ) (i : ℕ) → outside place es vs ≡ Some i → i < place + length es
outside_place place [] vs i e = absurd (none-some i e)
outside_place place (x ∷ es) [] i e = absurd (none-some i e)
outside_place place (x ∷ es) (v ∷ vs) i e = go (allows x v) (outside_place (suc place) es vs i) e
  where
    go : (b : Bool) → (outside (suc place) es vs ≡ Some i → i < suc place + length es) → cond b (outside (suc place) es vs) (Some place) ≡ Some i → i < place + suc (length es)
    go true ih h = omega (arith, ih h)
    go false ih h = let same : place ≡ i = cc in omega arith

pub ranges_places : NamesPlaces ranges
ranges_places es vs i e = omega (arith, outside_place 0 es vs i e)

-- the first pair of an entry and a value that is not allowed, as its item
seen : ℕ → ℕ → ℕ → Option ℕ
seen place n all = cond (nat_lt n all) (Some (place + n)) None

seen_more : (place n all : ℕ) → seen place (1 + n) (suc all) ≡ seen (suc place) n all
unfolding seen
seen_more place n all = grind arith

seen_here : (place all : ℕ) → seen place 0 (suc all) ≡ Some place
unfolding seen
seen_here place all = grind arith

seen_first : (n all : ℕ) → cond (nat_lt n all) (Some n) None ≡ seen 0 n all
unfolding seen
seen_first n all = grind arith

outside_seen : (place : ℕ) (es : List Entry) (vs : List ℕ)
    → seen place (position_or_len (λ (p : Entry × ℕ). not (allows p.0 p.1)) (zip es vs)) (length (zip es vs)) ≡ outside place es vs
unfolding seen
outside_seen place [] vs = refl
outside_seen place (e ∷ es) [] = refl
outside_seen place (e ∷ es) (v ∷ vs) = go (allows e v) (outside_seen (suc place) es vs)
  where
    go : (b : Bool) → seen (suc place) (position_or_len (λ (p : Entry × ℕ). not (allows p.0 p.1)) (zip es vs)) (length (zip es vs)) ≡ outside (suc place) es vs
        → seen place (cond (not (not b)) (1 + position_or_len (λ (p : Entry × ℕ). not (allows p.0 p.1)) (zip es vs)) 0) (suc (length (zip es vs))) ≡ cond b (outside (suc place) es vs) (Some place)
    go true ih = seen_more place _ _ ∙ ih
    go false ih = seen_here place _

pub outside_is : (es : List Entry) (vs : List ℕ) (r : Option ℕ) → r ≡ position (λ (p : Entry × ℕ). not (allows p.0 p.1)) (zip es vs) → r ≡ ranges es vs
outside_is es vs r e = e ∙ seen_first _ _ ∙ outside_seen 0 es vs

-- the defaults of an accepted catalogue
sound_default : (e : Entry) → is_sound e ≡ true → allows e e.default ≡ true
sound_default e s = (and_parts (read_fits e) (allows e e.default) (and_parts (kind_suits e) _ s).1).1

defaults_within : (place n : ℕ) (es : List Entry) → Listed n es → outside place es (map (λ (e : Entry). e.default) es) ≡ None
unfolding Listed
defaults_within place n [] l = refl
defaults_within place n (e ∷ es) l = cond-true _ _ _ (sound_default e l.2) ∙ defaults_within (suc place) e.key es l.3

accepted_entries_lem : (b : Bool) (r : Result (Unit {0}) CatalogueFault) → is_ok (cond b r (Err EntryCount)) ≡ true → r ≡ Ok tt
accepted_entries_lem true (Ok tt) h = refl
accepted_entries_lem true (Err f) h = absurd (true≢false (sym h))
accepted_entries_lem false r h = absurd (true≢false (sym h))

pub defaults_fit : (es : List Entry) (vs : List ℕ) → DefaultsFit es vs
defaults_fit es vs ok e =
    ap (ranges es) e
    ∙ defaults_within 0 0 es (listed_from 0 0 es (accepted_entries_lem (nat_le 1 (length es) && nat_le (length es) 128) (entries_checked 0 0 es) ok))

-- Needs

broken_place : (es : List Entry) (vs : List ℕ) (n : Need) → is_broken es vs n ≡ true → n.first < length es
broken_place es vs n e = omega (arith, ltb-true n.first (items es vs) (and_parts _ _ e).0)

pub needs_places : (ns : List Need) → NamesPlaces (first_broken ns)
needs_places [] es vs i e = absurd (none-some i e)
needs_places (n ∷ ns) es vs i e = go (is_broken es vs n) refl (needs_places ns es vs i) e
  where
    go : (b : Bool) → is_broken es vs n ≡ b → (first_broken ns es vs ≡ Some i → i < length es) → cond b (Some n.first) (first_broken ns es vs) ≡ Some i → i < length es
    go true is ih h = let same : n.first ≡ i = cc in subst (λ k. k < length es) same (broken_place es vs n is)
    go false is ih h = ih h

-- the first pair that is broken, as its first item
broken_found : (ns : List Need) (es : List Entry) (vs : List ℕ) → option_map (λ (n : Need). n.first) (find (is_broken es vs) ns) ≡ first_broken ns es vs
broken_found [] es vs = refl
broken_found (n ∷ ns) es vs = go (is_broken es vs n) (broken_found ns es vs)
  where
    go : (b : Bool) → option_map (λ (n : Need). n.first) (find (is_broken es vs) ns) ≡ first_broken ns es vs
        → option_map (λ (n : Need). n.first) (cond b (Some n) (find (is_broken es vs) ns)) ≡ cond b (Some n.first) (first_broken ns es vs)
    go true ih = refl
    go false ih = ih

pub broken_is : (ns : List Need) (es : List Entry) (vs : List ℕ) (r : Option ℕ) → r ≡ option_map (λ (n : Need). n.first) (find (is_broken es vs) ns) → r ≡ first_broken ns es vs
broken_is ns es vs r e = e ∙ broken_found ns es vs

-- a value other than 0 where a pair is not first
unbroken_set : (es : List Entry) (vs : List ℕ) (n : Need) (i v : ℕ) → (n.first ≢ i) → (v ≢ 0) → is_broken es vs n ≡ false → is_broken es (slice_set vs i v) n ≡ false
unbroken_set es vs n i v other some e =
    let len : length (slice_set vs i v) ≡ length vs = length-set vs i v in
    let first : get_or (slice_set vs i v) n.first 0 ≡ get_or vs n.first 0 = get_or-set_other vs i n.first v 0 other in
    ⊎_elim
    (λ same.
    ⊎_elim
    (λ lt.
    let value : get_or (slice_set vs i v) n.second 0 ≡ v = ap (λ k. slice_index (slice_set vs i v) k) same ∙ get_or-set_same vs i v 0 lt in
    let zero-no : nat_eq (slice_index (slice_set vs i v) n.second) 0 ≡ false = ap (λ x. nat_eq x 0) value ∙ ne_eqb v 0 some in
    let ws = set vs i v in
    and_right (nat_lt n.first (items es ws)) _ (and_right (nat_lt n.second (items es ws)) _ (and_right (not (slice_index ws n.first == 0)) _ zero-no)))
    (λ past. subst (λ (ws : List ℕ). is_broken es ws n ≡ false) (sym (set_past vs i v past)) e)
    (cases_lt i (length vs)))
    (λ apart.
    let second : get_or (slice_set vs i v) n.second 0 ≡ get_or vs n.second 0 = get_or-set_other vs i n.second v 0 apart in
    rw (len, first, second) e)
    (cases_eq n.second i)

pub eases : (ns : List Need) (es : List Entry) (vs : List ℕ) → Eases ns es vs
eases [] es vs i v others some e = refl
eases (n ∷ ns) es vs i v others some e = go (is_broken es vs n) refl (eases ns es vs i v others.1 some) e
  where
    go : (b : Bool) → is_broken es vs n ≡ b → (first_broken ns es vs ≡ None → first_broken ns es (slice_set vs i v) ≡ None)
        → cond b (Some n.first) (first_broken ns es vs) ≡ None → first_broken (n ∷ ns) es (slice_set vs i v) ≡ None
    go true is ih h = absurd (none-some n.first (sym h))
    go false is ih h = cond-false _ _ _ (unbroken_set es vs n i v others.0 some is) ∙ ih h

-- Both

pub both_places : (f g : Finding) → NamesPlaces f → NamesPlaces g → NamesPlaces (both_find f g)
both_places f g p q es vs i e = go (f es vs) refl e
  where
    go : (o : Option ℕ) → f es vs ≡ o → option_or o (g es vs) ≡ Some i → i < length es
    go None is h = q es vs i h
    go (Some j) is h = p es vs i (is ∙ h)

pub both_assoc : (f g h : Finding) (es : List Entry) (vs : List ℕ) → both_find (both_find f g) h es vs ≡ both_find f (both_find g h) es vs
both_assoc f g h es vs = go (f es vs)
  where
    go : (o : Option ℕ) → option_or (option_or o (g es vs)) (h es vs) ≡ option_or o (option_or (g es vs) (h es vs))
    go None = refl
    go (Some j) = refl
