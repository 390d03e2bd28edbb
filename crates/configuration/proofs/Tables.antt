-- What a layer holds, gathered entry by entry: keys ascend, so each setting comes behind those before it, and no put is refused.
use Rattle.std.proofs.Common.{◌≡◌, ℕ, ◌+◌, ◌<◌, ◌≤◌, Bool, true, false, cond, ltb, List, [], ◌∷◌, ◌++◌, length, drop, is_some, Some, None, Ok, Option, sym, refl, ap, ◌∙◌, append_assoc, append-nil, arith}
use Rattle.std.proofs.lemmas.List.{at_drop_all, length_push}
use Rattle.std.proofs.lemmas.Bool.{cond-true, lt-ltb}
use Rattle.catalogue.specs.declared.entries.Entry.{Entry}
use Rattle.catalogue.specs.Catalogues.{Listed}
use Rattle.layer.specs.declared.setting.Setting.{Setting}
use Rattle.layer.specs.Settings.{setting, is_setting, value_under, with_value, Sound}
use Rattle.layer.specs.Stores.{room, put_answer, after_put}
use Rattle.layer.specs.SettingsLemmas.{with_past}
use Rattle.layer.proofs.Stores.{setting_key, setting_fits}
use Rattle.reference.specs.Receiver.{pair_under}
use Rattle.configuration.specs.Meaning.{held_under, gathering}

-- a put behind all that is held

abbrev Below : ℕ → List Setting → Type 0
Below n [] = Unit {0}
Below n (s ∷ ss) = (s.key ≤ n) × Below n ss

below_more : (n m : ℕ) (ss : List Setting) → n ≤ m → Below n ss → Below m ss
below_more n m [] h b = tt
below_more n m (s ∷ ss) h b = let at_most = b.0 in (omega arith, below_more n m ss h b.1)

below_push : (n : ℕ) (ss : List Setting) (s : Setting) → Below n ss → s.key ≤ n → Below n (ss ++ s ∷ [])
below_push n [] s b h = (h, tt)
below_push n (t ∷ ts) s b h = (b.0, below_push n ts s b.1 h)

with_last : (n k v : ℕ) (ss : List Setting) → Below n ss → n < k → with_value k v ss ≡ ss ++ setting k v ∷ []
with_last n k v [] b h = refl
with_last n k v (s ∷ ss) b h =
    let at_most = b.0 in
    with_past k v s ss (omega arith) ∙ ap (λ (l : List Setting). s ∷ l) (with_last n k v ss b.1 h)

either : (b c : Bool) → c ≡ true → cond b true c ≡ true
either true c e = refl
either false c e = e

put_last : (n k v : ℕ) (ss : List Setting) → is_setting k v ≡ true → Below n ss → n < k → length ss < 128 → gathering k (Some v) ss ≡ ss ++ setting k v ∷ []
put_last n k v ss is b h few =
    let free : room k ss ≡ true = either (is_some (value_under k ss)) (ltb (length ss) 128) (lt-ltb (length ss) 128 few) in
    let granted : put_answer true k v ss ≡ Ok tt = cond-true _ _ _ (setting_key k v is) ∙ cond-true _ _ _ (setting_fits k v is) ∙ cond-true _ _ _ free in
    ap (λ r. after_put r k v ss) granted ∙ with_last n k v ss b h

-- all entries, one after the other
abbrev pub gathered_from : List Setting → List Entry → List Setting → List Setting
gathered_from ls [] ss = ss
gathered_from ls (e ∷ es) ss = gathered_from ls es (gathering e.key (value_under e.key ls) ss)

gathered_behind : (ls : List Setting) → Sound ls → (n : ℕ) (es : List Entry) (ss : List Setting) → Listed n es → Below n ss → length ss + length es ≤ 128
    → gathered_from ls es ss ≡ ss ++ held_under es ls
unfolding Listed
gathered_behind ls sound n [] ss l b few = sym (append-nil ss)
gathered_behind ls sound n (e ∷ es) ss l b few =
    let above : n < e.key = l.0 in
    go (below_more n e.key ss (omega arith) b) above (λ ts. gathered_behind ls sound e.key es ts l.3) (value_under e.key ls) refl
  where
    go : Below e.key ss → n < e.key → ((ts : List Setting) → Below e.key ts → length ts + length es ≤ 128 → gathered_from ls es ts ≡ ts ++ held_under es ls)
        → (o : Option ℕ) → value_under e.key ls ≡ o → gathered_from ls es (gathering e.key o ss) ≡ ss ++ pair_under e.key o (held_under es ls)
    go below above rest None is = rest ss below (omega arith)
    go below above rest (Some v) is =
        let last = setting e.key v in
        let longer = length_push ss last in
        ap (gathered_from ls es) (put_last n e.key v ss (sound e.key v is) b above (omega arith))
        ∙ rest (ss ++ last ∷ []) (below_push e.key ss last below (omega arith)) (omega arith)
        ∙ append_assoc ss (last ∷ []) (held_under es ls)

-- the last entry is passed
pub gathered_all : (ls : List Setting) (es : List Entry) (i : ℕ) (ss : List Setting) → Sound ls → Listed 0 es → length es ≤ 128 → length es ≤ i
    → gathered_from ls (drop i es) ss ≡ gathered_from ls es [] → ss ≡ held_under es ls
gathered_all ls es i ss sound l few done inv =
    sym (at_drop_all (λ (m : List Entry). gathered_from ls m ss) es i done) ∙ inv ∙ gathered_behind ls sound 0 es [] l tt (omega arith)
