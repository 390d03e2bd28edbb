use Rattle.std.proofs.Common.{◌≡◌, false, is_some, rules}
use Rattle.store.specs.Slots.{settings_of}
use Rattle.journal.proofs.Changes.{remove_recorded, not_held}
use Rattle.journal.proofs.Least.{removal_writes_least}
use Rattle.journal.proofs.journal.calls.JournalStore.remove.Goals as goal

pub invariant_of-self-then-not-was_held : goal.invariant_of-self-then-not-was_held
invariant_of-self-then-not-was_held c =
    let usable = c.in_ok-check_usable.ensures in
    let removed = c.in_ok-remove.ensures in
    let none : false ≡ is_some c.value.result = c.if-not-was_held.ensures in
    let same : settings_of c.remove.new.self.slots ≡ settings_of c.args.self.now.held.slots = not_held _ _ _ _ removed.after c.value.ensures none in search rules

pub returns-clause-words : goal.returns-clause-words
returns-clause-words c =
    let removed = c.in_ok-remove.ensures in
    remove_recorded c.args.self.now.held _ _ _ _ _ _ c.write_change-self.ensures.words c.in_ok-check_usable.ensures.accepted removed.answer removed.after c.removal_word.ensures c.value.ensures c.if-not-was_held.ensures

pub returns-clause-least : goal.returns-clause-least
returns-clause-least c =
    removal_writes_least _ _ _ _ _ c.args.self.now.counted c.write_change-self.ensures.written.counted c.write_change-self.ensures.most
