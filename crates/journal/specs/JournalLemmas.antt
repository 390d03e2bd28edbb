-- What a journal holds, as its laws as a store need it.
use Rattle.std.proofs.Common.{◌≡◌, ℕ, ◌≤◌, true, false, List, [], length, true≢false, Some, Ok, Err, Result, is_ok, refl, subst, ap, ◌∙◌}
use Rattle.layer.specs.declared.setting.Setting.{Setting}
use Rattle.layer.specs.Settings.{is_setting, value_under, Ascends}
use Rattle.layer.specs.Stores.{Shows}
use Rattle.store.specs.SlotsLemmas.{ascends_settings, value_sound, table_shows}
use Rattle.journal.specs.declared.fault.JournalFault.{JournalFault}
use Rattle.journal.specs.declared.journal.Journal.{Journal}
use Rattle.journal.specs.Inspecting.{inspected, held_or_none, held_in, is_accepted}

pub held_ascends : (j : Journal) → Ascends (held_in j.words.items)
held_ascends j = subst Ascends j.holds (ascends_settings j.held.slots)

pub held_sound : (j : Journal) (k v : ℕ) → value_under k (held_in j.words.items) ≡ Some v → is_setting k v ≡ true
held_sound j k v e = value_sound k v j.held.slots j.held.fit (ap (value_under k) j.holds ∙ e)

pub held_shows : (j : Journal) → Shows (is_accepted j.words.items) (held_in j.words.items)
held_shows j =
    let table = table_shows j.held.slots j.held.whole j.held.distinct in
    record { few = subst (λ ss. length ss ≤ 128) j.holds table.few; idle = none (inspected j.words.items) }
  where
    none : (r : Result (List Setting) JournalFault) → is_ok r ≡ false → held_or_none r ≡ []
    none (Ok ss) e = absurd (true≢false e)
    none (Err f) e = refl
