-- The definitions computed on worked configurations, and what is not as they say.
use Rattle.std.proofs.Common.{◌≡◌, ℕ, List, [], ◌∷◌, map, Some, None, Option, refl, arith}
use Rattle.catalogue.specs.declared.kind.Kind.TheVariants.{Unsigned, Signed}
use Rattle.catalogue.specs.Bench.{entry, bench}
use Rattle.rule.specs.declared.need.Need.{Need}
use Rattle.rule.specs.Rules.{NamesPlaces, ranges, DefaultsFit, first_broken, Eases, both_find}

abbrev need : ℕ → ℕ → Need
need i j = record { first = i; second = j }

-- the bench rule, on values of items 0 to 6
abbrev judged : List ℕ → Option ℕ
judged vs = both_find ranges (first_broken (need 0 1 ∷ [])) bench vs

findings : map judged (
    (0 ∷ 1 ∷ 65 ∷ 0 ∷ 0 ∷ 0 ∷ 0 ∷ []) ∷ (0 ∷ 1 ∷ 8 ∷ 10 ∷ 10 ∷ 255 ∷ 255 ∷ []) ∷ (0 ∷ 1 ∷ 7 ∷ 11 ∷ 0 ∷ 0 ∷ 0 ∷ []) ∷ (1 ∷ 0 ∷ 65 ∷ 0 ∷ 0 ∷ 0 ∷ 0 ∷ [])
    ∷ (1 ∷ 1 ∷ 65 ∷ 0 ∷ 0 ∷ 0 ∷ 0 ∷ []) ∷ (1 ∷ 0 ∷ 65 ∷ 0 ∷ 11 ∷ 0 ∷ 0 ∷ []) ∷ [])
    ≡ None ∷ None ∷ Some 2 ∷ Some 0 ∷ None ∷ Some 4 ∷ []
findings = refl

-- two's complement, from -2 to 3
signed : map (λ (v : ℕ). ranges (entry 0x20010001 Signed 0 0xfe 3 ∷ []) (v ∷ [])) (0xfd ∷ 0xfe ∷ 0xff ∷ 0 ∷ 3 ∷ 4 ∷ []) ≡ Some 0 ∷ None ∷ None ∷ None ∷ None ∷ Some 0 ∷ []
signed = refl

-- items that lack an entry or a value are not read
no_values : ranges bench (0 ∷ 1 ∷ []) ≡ None
no_values = refl

no_entries : ranges [] (999 ∷ []) ≡ None
no_entries = refl

some_values : ranges bench (0 ∷ 1 ∷ 7 ∷ []) ≡ Some 2
some_values = refl

needs_value : first_broken (need 0 1 ∷ []) bench (1 ∷ []) ≡ None
needs_value = refl

needs_entry : first_broken (need 0 1 ∷ []) (entry 0x20010001 Unsigned 0 0 9 ∷ []) (1 ∷ 0 ∷ []) ≡ None
needs_entry = refl

-- any value other than 0 needs one; the first broken pair counts, and the last item is one
needs_any : first_broken (need 0 9 ∷ need 1 6 ∷ need 0 2 ∷ []) bench (2 ∷ 3 ∷ 0 ∷ 0 ∷ 0 ∷ 0 ∷ 0 ∷ []) ≡ Some 1
needs_any = refl

-- The laws are not of every finding

-- one that names an item of an empty catalogue
names_none : NamesPlaces (λ es vs. Some 0) → ⊥
names_none n = absurd (omega (arith, n [] [] 0 refl))

-- the defaults of the bench catalogue
bench_defaults : DefaultsFit bench (0 ∷ 1 ∷ 65 ∷ 0 ∷ 0 ∷ 0 ∷ 0 ∷ []) → ranges bench (0 ∷ 1 ∷ 65 ∷ 0 ∷ 0 ∷ 0 ∷ 0 ∷ []) ≡ None
bench_defaults d = d refl refl

-- an item that is second in a pair, or in none, may be set to any value but 0
eased : Eases (need 0 1 ∷ []) bench (1 ∷ 1 ∷ 65 ∷ 0 ∷ 0 ∷ 0 ∷ 0 ∷ []) → first_broken (need 0 1 ∷ []) bench (1 ∷ 2 ∷ 65 ∷ 0 ∷ 0 ∷ 0 ∷ 0 ∷ []) ≡ None
eased e = e 1 2 ((λ (h : ◌≡◌ {A = ℕ} 0 1). absurd (omega arith)), tt) (λ (h : ◌≡◌ {A = ℕ} 2 0). absurd (omega arith)) refl
