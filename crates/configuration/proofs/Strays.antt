-- The walk over the keys that a layer holds.
use Rattle.std.proofs.Common.{◌≡◌, ℕ, true, false, cond, List, Some, None, Option, is_some, sym, ap, ◌∙◌}
use Rattle.std.proofs.lemmas.Bool.{cond-true, cond-false}
use Rattle.catalogue.specs.declared.entries.Entry.{Entry}
use Rattle.catalogue.specs.Catalogues.{FirstWith}
use Rattle.layer.specs.declared.setting.Setting.{Setting}
use Rattle.layer.specs.Settings.{key_above, above, Ascends, Sound}
use Rattle.layer.proofs.Walking.{above_zero, above_all, above_next, above_none}
use Rattle.reference.specs.Requests.{is_known}
use Rattle.request.proofs.Pairs.{known_at, known_not}
use Rattle.reference.specs.Parts.{stray_key}

-- whether an item has a key, by the finder
pub known_where : (k : ℕ) (es : List Entry) (place : Option ℕ) → FirstWith k es place → is_some place ≡ is_known es k
known_where k es None none = sym (known_not es k none)
known_where k es (Some i) found = sym (known_at es i k found.0 found.1)

module _ (es : List Entry) (n k : ℕ) (ss : List Setting) (a : Ascends ss) (sound : Sound ss) (e : Some k ≡ key_above n ss) where
  next_on : stray_key es (above n ss) ≡ cond (is_known es k) (stray_key es (above k ss)) (Some k)
  unfolding stray_key
  next_on = let next = above_next 0 n k ss (above_zero ss a sound) e in ap (stray_key es) next.1.0

  -- it is the stray one
  pub stray_here : false ≡ is_known es k → stray_key es (above n ss) ≡ Some k
  stray_here none = next_on ∙ cond-false _ _ _ (sym none)

  -- or that is behind it
  pub stray_past : true ≡ is_known es k → stray_key es (above k ss) ≡ stray_key es (above n ss)
  stray_past known = sym (next_on ∙ cond-true _ _ _ (sym known))

pub stray_none : (es : List Entry) (n : ℕ) (ss : List Setting) → None ≡ key_above n ss → stray_key es (above n ss) ≡ None
unfolding stray_key
stray_none es n ss e = ap (stray_key es) (above_none n ss e)

-- at the start all is left
pub stray_start : (es : List Entry) (ss : List Setting) → Ascends ss → Sound ss → stray_key es (above 0 ss) ≡ stray_key es ss
stray_start es ss a sound = ap (stray_key es) (above_all 0 ss (above_zero ss a sound))
