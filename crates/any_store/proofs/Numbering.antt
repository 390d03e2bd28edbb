-- The six have numbers of their own, and those under a saver come last.
use Rattle.std.proofs.Common.{◌≡◌, [], ◌∷◌, map, nat_le, refl}
use Rattle.layer.specs.declared.absent.Absent.{Absent}
use Rattle.layer.specs.declared.saver.Saver.{Saver}
use Rattle.store.specs.declared.table.SlotTable.{SlotTable}
use Rattle.journal.specs.declared.journal.Journal.{Journal}
use Rattle.any_store.specs.declared.any.AnyStore.{AnyStore}
use Rattle.any_store.specs.declared.any.AnyStore.TheVariants.{Slots, Nowhere, Words, SavedSlots, SavedNowhere, SavedWords}
use Rattle.any_store.specs.Any.{any_kind, is_saved}

pub numbered : (t : SlotTable) (a : Absent) (j : Journal) (st : Saver SlotTable) (sa : Saver Absent) (sj : Saver Journal)
    → map any_kind (Slots t ∷ Nowhere a ∷ Words j ∷ SavedSlots st ∷ SavedNowhere sa ∷ SavedWords sj ∷ []) ≡ 0 ∷ 1 ∷ 2 ∷ 3 ∷ 4 ∷ 5 ∷ []
numbered t a j st sa sj = refl

pub saved_last : (a : AnyStore) → is_saved a ≡ nat_le 3 (any_kind a)
saved_last (Slots t) = refl
saved_last (Nowhere a) = refl
saved_last (Words j) = refl
saved_last (SavedSlots s) = refl
saved_last (SavedNowhere s) = refl
saved_last (SavedWords s) = refl
