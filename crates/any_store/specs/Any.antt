-- What a store that is chosen at run time means: what the one that it is means.
use Rattle.std.specs.Prelude.{ℕ, Bool, true, false, List, [], cond, Some, None, Option}
use Rattle.journal.specs.Inspecting.{held_in, is_accepted}
use Rattle.journal.specs.Writing.{words_put, words_removed, words_cleared}
use Rattle.layer.specs.Settings.{value_under}
use Rattle.layer.specs.Stores.{is_held}
use Rattle.layer.specs.declared.setting.Setting.{Setting}
use Rattle.any_store.specs.declared.any.AnyStore.{AnyStore}
use Rattle.any_store.specs.declared.any.AnyStore.TheVariants.{Slots, Nowhere, Words, SavedSlots, SavedNowhere, SavedWords}
use Rattle.store.specs.Slots.{settings_of}

abbrev pub any_settings : AnyStore → List Setting
any_settings (Slots t) = settings_of t.slots
any_settings (Nowhere a) = []
any_settings (Words j) = held_in j.words.items
any_settings (SavedSlots s) = settings_of s.store.slots
any_settings (SavedNowhere s) = []
any_settings (SavedWords s) = held_in s.store.words.items

abbrev pub any_usable : AnyStore → Bool
any_usable (Slots t) = true
any_usable (Nowhere a) = false
any_usable (Words j) = is_accepted j.words.items
any_usable (SavedSlots s) = true
any_usable (SavedNowhere s) = false
any_usable (SavedWords s) = is_accepted s.store.words.items

-- which of the six it is; that never changes
abbrev pub any_kind : AnyStore → ℕ
any_kind (Slots t) = 0
any_kind (Nowhere a) = 1
any_kind (Words j) = 2
any_kind (SavedSlots s) = 3
any_kind (SavedNowhere s) = 4
any_kind (SavedWords s) = 5

-- whether it stands under a saver
abbrev pub is_saved : AnyStore → Bool
is_saved (Slots t) = false
is_saved (Nowhere a) = false
is_saved (Words j) = false
is_saved (SavedSlots s) = true
is_saved (SavedNowhere s) = true
is_saved (SavedWords s) = true

-- the words of a journal
abbrev pub any_words : AnyStore → Option (List ℕ)
any_words (Slots t) = None
any_words (Nowhere a) = None
any_words (Words j) = Some j.words.items
any_words (SavedSlots s) = None
any_words (SavedNowhere s) = None
any_words (SavedWords s) = Some s.store.words.items

-- the words that each call leaves in a journal; a saver puts nothing that is held already
abbrev pub any_words_put : ℕ → ℕ → AnyStore → Option (List ℕ)
any_words_put k v (Slots t) = None
any_words_put k v (Nowhere a) = None
any_words_put k v (Words j) = Some (words_put k v j.words.items)
any_words_put k v (SavedSlots s) = None
any_words_put k v (SavedNowhere s) = None
any_words_put k v (SavedWords s) =
    cond (is_held v (value_under k (held_in s.store.words.items))) (Some s.store.words.items) (Some (words_put k v s.store.words.items))

abbrev pub any_words_removed : ℕ → AnyStore → Option (List ℕ)
any_words_removed k (Slots t) = None
any_words_removed k (Nowhere a) = None
any_words_removed k (Words j) = Some (words_removed k j.words.items)
any_words_removed k (SavedSlots s) = None
any_words_removed k (SavedNowhere s) = None
any_words_removed k (SavedWords s) = Some (words_removed k s.store.words.items)

abbrev pub any_words_cleared : AnyStore → Option (List ℕ)
any_words_cleared (Slots t) = None
any_words_cleared (Nowhere a) = None
any_words_cleared (Words j) = Some (words_cleared j.words.items)
any_words_cleared (SavedSlots s) = None
any_words_cleared (SavedNowhere s) = None
any_words_cleared (SavedWords s) = Some (words_cleared s.store.words.items)
