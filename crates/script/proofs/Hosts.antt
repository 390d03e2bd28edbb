-- Laws of the settings that keys and values are.
use Rattle.std.proofs.Common.{◌≡◌, ℕ, ◌+◌, ◌*◌, ◌<◌, ◌≤◌, List, [], ◌∷◌, ◌++◌, length, drop, Ok, sym, ap, ◌∙◌, length-drop, length-append, arith}
use Rattle.std.proofs.lemmas.List.{drop_at, drop-drop}
use Rattle.std.proofs.lemmas.Grind.{common_steps}
use Rattle.layer.specs.declared.setting.Setting.{Setting}
use Rattle.script.specs.Fields.{key_read, value_read}
use Rattle.script.specs.Words.{Words, word}
use Rattle.script.specs.Hosts.{setting_read, ArePairs}

-- a pair that comes off the front of what is left
pub word_behind : (words pair rest : Words) (m i : ℕ) → drop m words ≡ pair ++ rest → i < length pair → word words (m + i) ≡ word pair i
word_behind words pair rest m i e lt = grind (arith, common_steps)

pub pair_read : (words pair rest : Words) (n key value : ℕ) → drop (2 * n) words ≡ pair ++ rest → length pair ≡ 2 → Ok key ≡ key_read (word pair 0) → Ok value ≡ value_read (word pair 1)
    → setting_read words n ≡ Ok (record { key = key; value = value })
pair_read words pair rest n key value e two k v =
    let first : word words (2 * n + 0) ≡ word pair 0 = word_behind words pair rest (2 * n) 0 e (omega arith) in
    let second : word words (2 * n + 1) ≡ word pair 1 = word_behind words pair rest (2 * n) 1 e (omega arith) in
    grind (arith)

pub pair_gone : (words pair rest : Words) (n m : ℕ) → drop (2 * n) words ≡ pair ++ rest → length pair ≡ 2 → m ≡ n + 1 → rest ≡ drop (2 * m) words
pair_gone words pair rest n m e two more =
    let next : 2 * n + 2 ≡ 2 * m = omega arith in
    sym (drop_at pair rest 2 two) ∙ ap (drop 2) (sym e) ∙ drop-drop 2 (2 * n) words ∙ ap (λ k. drop k words) next

pub pair_within : (words pair rest : Words) (n m : ℕ) → drop (2 * n) words ≡ pair ++ rest → length pair ≡ 2 → m ≡ n + 1 → 2 * m ≤ length words
pair_within words pair rest n m e two more = let long = simp (length-drop, length-append) at (ap length e) in omega arith

-- one more setting
pub pairs_more : (words : Words) (ss : List Setting) (s : Setting) → ArePairs words ss → setting_read words (length ss) ≡ Ok s → ArePairs words (ss ++ s ∷ [])
pairs_more words ss s are is i d lt = grind (arith, common_steps, are i d)
