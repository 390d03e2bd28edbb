-- What `map` makes of what `find` found.
use Rattle.std.proofs.Common.{◌≡◌, None, Some, Option, ap, ◌∙◌}
use Rattle.std.specs.Option.{option_map}

-- v reads the item behind the reference that was found
pub found_then : {A B C : Type 0} (v : A → B) (h : B → C) (o : Option A) (r : Option C) (w : Option B) → r ≡ option_map (λ a. h (v a)) o → option_map v o ≡ w → r ≡ option_map h w
found_then v h None r w told found = told ∙ ap (option_map h) found
found_then v h (Some a) r w told found = told ∙ ap (option_map h) found
