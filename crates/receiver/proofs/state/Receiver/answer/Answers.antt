use Rattle.std.proofs.Common.{◌≡◌, ◌<◌, ◌≤◌, sym, ◌∙◌, ◌++◌, length, take, drop, Ok, rules}
use Rattle.std.proofs.lemmas.Result.{err_from_is_err_and}
use Rattle.reference.specs.declared.fault.CallFault.TheVariants.{BufferTooShort}
use Rattle.receiver.specs.State.{items_of, state_of}
use Rattle.receiver.specs.Handled.{answering_of}
use Rattle.receiver.proofs.Calls.{answer_fits, not_shut, shut_state, shut_event, short_state, short_event, refused_count, refused_buffer, answer_state, answer_event_lem, answer_count, answer_buffer}
use Rattle.receiver.proofs.Small.{nak_leaves, all_or_none}
use Rattle.receiver.proofs.Lent.{lent_ok, lent_err, answered_in}
use Rattle.receiver.proofs.state.Receiver.answer.Goals as goal

pub returns-in_err-check_open : goal.returns-in_err-check_open
returns-in_err-check_open g c =
    let p = err_from_is_err_and c.from_residual.result c.from_residual.ensures.1 in
    let told = c.in_err-check_open.ensures in
    rw (p.1, p.2) (search (rules, shut_state, shut_event, refused_count, refused_buffer))

pub returns-in_err-room : goal.returns-in_err-room
returns-in_err-room g c =
    let p = err_from_is_err_and c.from_residual-in_err-room.result c.from_residual-in_err-room.ensures.1 in
    let off = not_shut c.args.self.now.shut c.in_ok-check_open.ensures in
    let refused = lent_err c.args.out.now 790 c.first_chunk_mut.result BufferTooShort c.first_chunk_mut.ensures.cases c.in_err-room.field-0.0 (sym c.in_err-room.was ∙ c.ok_or.ensures.value) in
    let short : length c.args.out.now < 790 = refused.1 in
    rw (p.1, p.2) (search (rules, short_state, short_event, refused_count, refused_buffer))

pub returns : goal.returns
returns g c =
    let before = c.args.self.now in
    let cat = items_of before in
    let rule = g.R.Rule.finding before.rule in
    let s = state_of g.B.Store.usable g.B.Layer.settings g.F.Store.usable g.F.Layer.settings before in
    let t = state_of g.B.Store.usable g.B.Layer.settings g.F.Store.usable g.F.Layer.settings c.answer_first.new.self in
    let old = c.args.out.now in
    let a = c.answer_first.result in
    let told = c.answer_first.ensures in
    let off = not_shut before.shut c.in_ok-check_open.ensures in
    let lent = lent_ok old 790 c.first_chunk_mut.result BufferTooShort c.first_chunk_mut.ensures.cases c.in_ok-room.room (sym c.in_ok-room.was ∙ c.ok_or.ensures.value) in
    let enough : 790 ≤ length old = lent.enough in
    let front : c.in_ok-room.room.now ≡ take 790 old = lent.same in
    let out = c.answer_first.new.out ++ drop 790 old in
    let answered = answered_in (answering_of cat rule s) t a old c.in_ok-room.room.now c.answer_first.new.out 790 enough front (answer_fits cat rule s (length old) off enough) told.answering in
    let state = answer_state cat rule s (length old) t old out a off enough answered in
    let event = answer_event_lem cat rule s (length old) t old out a off enough answered in
    record {
      after = state;
      event = event;
      count = answer_count cat rule s (length old) t old out a off enough answered;
      buffer = answer_buffer cat rule s (length old) t old out a off enough answered;
      refused = tt;
      nak = nak_leaves cat rule s (length old) t out (Ok a) state event;
      all = all_or_none cat rule s (length old) t out (Ok a) state event;
      kept = told.kept;
      stores = told.stores;
    }
