-- Reading the words of a buffer in order.
use Rattle.std.proofs.Common.{◌≡◌, ℕ, suc, ◌+◌, ◌<◌, ◌≤◌, List, length, get_or, drop, Ok, Err, Result, sym, ap, ◌∙◌, arith}
use Rattle.std.proofs.lemmas.List.{at_drop_more, at_drop_all}
use Rattle.journal.specs.declared.fault.JournalFault.{JournalFault}
use Rattle.journal.specs.Inspecting.{Progress, after_word, after_words}

-- the walk over all words, which has come to a place
module _ (place : ℕ) (ws : List ℕ) (p : Progress) (all : Result Progress JournalFault) (inv : after_words place (drop place ws) (Ok p) ≡ all) where
  read_on : place < length ws → after_words (suc place) (drop (place + 1) ws) (after_word place (get_or ws place 0) p) ≡ all
  unfolding after_words
  read_on lt = sym (at_drop_more (λ (rest : List ℕ). after_words place rest (Ok p)) ws place 0 lt) ∙ inv

  pub read_more : (q : Progress) → place < length ws → Ok q ≡ after_word place (get_or ws place 0) p → after_words (place + 1) (drop (place + 1) ws) (Ok q) ≡ all
  read_more q lt e =
      let next : place + 1 ≡ suc place = omega arith in
      ap (λ k. after_words k (drop (place + 1) ws) (Ok q)) next ∙ ap (after_words (suc place) (drop (place + 1) ws)) e ∙ read_on lt

  pub read_fault : (f : JournalFault) → place < length ws → Err f ≡ after_word place (get_or ws place 0) p → Err f ≡ all
  unfolding after_words
  read_fault f lt e = ap (after_words (suc place) (drop (place + 1) ws)) e ∙ read_on lt

  pub read_all : length ws ≤ place → Ok p ≡ all
  unfolding after_words
  read_all le = sym (at_drop_all (λ (rest : List ℕ). after_words place rest (Ok p)) ws place le) ∙ inv
