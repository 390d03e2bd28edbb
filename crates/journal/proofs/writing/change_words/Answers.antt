use Rattle.std.proofs.Common.{arith}
use Rattle.store.specs.SlotsLemmas.{ascends_settings, value_sound, table_shows}
use Rattle.journal.proofs.Changes.{change_within, written_behind, written_anew}
use Rattle.journal.proofs.writing.change_words.Goals as goal

pub returns-then-change-room-clause-written : goal.returns-then-change-room-clause-written
returns-then-change-room-clause-written c =
    written_behind _ _ _ _ _ _ (ascends_settings c.args.held.now.slots) (λ k v. value_sound k v c.args.held.now.slots c.args.held.now.fit) (table_shows c.args.held.now.slots c.args.held.now.whole c.args.held.now.distinct).few c.requires
    _ _ (omega (arith, c.if-change-room.true)) (change_within _ _ _ _ _ _ c.requires) c.write_words.ensures.words c.write_words.ensures.place

pub returns-else-change-room-clause-written : goal.returns-else-change-room-clause-written
returns-else-change-room-clause-written c =
    written_anew _ _ _ _ _ _ (ascends_settings c.args.held.now.slots) (λ k v. value_sound k v c.args.held.now.slots c.args.held.now.fit) (table_shows c.args.held.now.slots c.args.held.now.whole c.args.held.now.distinct).few c.requires _ _ c.rewrite.ensures.words c.rewrite.ensures.used
