use Rattle.std.proofs.Common.{◌∙◌, sym}
use Rattle.store.specs.SlotsLemmas.{ascends_settings, value_sound}
use Rattle.layer.proofs.Walking.{above_shorter}
use Rattle.journal.proofs.Walking.{walked_none, next_held, walked_past, walked_room, walked_next, walked_all}
use Rattle.journal.proofs.writing.write_others.Goals as goal

pub loop-key-init : goal.loop-key-init
loop-key-init c = walked_none _ _ _ (ascends_settings c.args.held.now.slots) (λ k v. value_sound k v c.args.held.now.slots c.args.held.now.fit)

pub unwrap-value-requires : goal.unwrap-value-requires
unwrap-value-requires c = next_held _ _ _ _ (ascends_settings c.args.held.now.slots) (λ k v. value_sound k v c.args.held.now.slots c.args.held.now.fit) c.in-Some.ensures c.value.ensures

pub write_words-place-requires : goal.write_words-place-requires
write_words-place-requires c =
    walked_room _ _ _ _ _ _ _ (ascends_settings c.args.held.now.slots) (λ k v. value_sound k v c.args.held.now.slots c.args.held.now.fit) c.loop-key.invariant c.in-Some.ensures _ _ c.if-key-except.true
    (sym c.unwrap-value.ensures ∙ c.value.ensures) (c.as_slice.ensures.value ∙ c.setting_record.ensures) c.requires

pub loop-key-smaller : goal.loop-key-smaller
loop-key-smaller c = above_shorter _ _ _ (ascends_settings c.args.held.now.slots) (λ k v. value_sound k v c.args.held.now.slots c.args.held.now.fit) c.in-Some.ensures

pub loop-key-preserved : goal.loop-key-preserved
loop-key-preserved c = walked_past _ _ _ _ _ _ _ (ascends_settings c.args.held.now.slots) (λ k v. value_sound k v c.args.held.now.slots c.args.held.now.fit) c.loop-key.invariant c.in-Some.ensures c.if-key-except.false

pub loop-key-smaller-then-key-except : goal.loop-key-smaller-then-key-except
loop-key-smaller-then-key-except c = above_shorter _ _ _ (ascends_settings c.args.held.now.slots) (λ k v. value_sound k v c.args.held.now.slots c.args.held.now.fit) c.in-Some.ensures

pub loop-key-preserved-then-key-except : goal.loop-key-preserved-then-key-except
loop-key-preserved-then-key-except c =
    walked_next _ _ _ _ _ _ _ (ascends_settings c.args.held.now.slots) (λ k v. value_sound k v c.args.held.now.slots c.args.held.now.fit) c.loop-key.invariant c.in-Some.ensures _ _ c.if-key-except.true
    (sym c.unwrap-value.ensures ∙ c.value.ensures) (c.as_slice.ensures.value ∙ c.setting_record.ensures) c.requires _ _ c.write_words-place.ensures.place c.write_words-place.ensures.words

pub returns-clause-count : goal.returns-clause-count
returns-clause-count c = (walked_all _ _ _ _ _ _ c.loop-key.invariant c.in_default.ensures).0

pub returns-clause-words : goal.returns-clause-words
returns-clause-words c = (walked_all _ _ _ _ _ _ c.loop-key.invariant c.in_default.ensures).1
