-- Which keys a number of the wire names.
use Rattle.std.specs.Prelude.{ℕ, ◌/◌, ◌%◌, ◌^◌, Bool, true, cond, ◌&&◌, ◌==◌}
use Rattle.item.specs.Keys.{group_of}
use Rattle.item.specs.declared.selector.Selector.{Selector}
use Rattle.item.specs.declared.selector.Selector.TheVariants.{All, Group, Key}

-- bits 27..16 all ones: every item; else bits 15..0 all ones and bits 27..24 zero: a group's items; else the item with that key
abbrev pub selector_of : ℕ → Selector
selector_of n = cond (n / 2 ^ 16 % 0x1000 == 0xfff) All (cond (n % 2 ^ 16 == 0xffff && n / 2 ^ 24 % 16 == 0) (Group (group_of n)) (Key n))

abbrev pub names : Selector → ℕ → Bool
names All k = true
names (Group g) k = g == group_of k
names (Key j) k = j == k
