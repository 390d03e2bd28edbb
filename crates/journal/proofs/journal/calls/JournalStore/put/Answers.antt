use Rattle.std.proofs.Common.{◌∙◌}
use Rattle.journal.proofs.Changes.{put_recorded}
use Rattle.journal.proofs.Least.{put_writes_least}
use Rattle.journal.proofs.journal.calls.JournalStore.put.Goals as goal

pub returns-clause-words : goal.returns-clause-words
returns-clause-words c =
    let put = c.in_ok-put.ensures in
    put_recorded c.args.self.now.held _ _ _ _ _ _ c.write_change-self.ensures.words c.in_ok-check_usable.ensures.accepted put.answer put.after (c.as_slice-words.ensures.value ∙ c.setting_record-record.ensures)

pub returns-clause-least : goal.returns-clause-least
returns-clause-least c =
    put_writes_least _ _ _ _ _ _ _ (c.as_slice-words.ensures.value ∙ c.setting_record-record.ensures) c.args.self.now.counted c.write_change-self.ensures.written.counted c.write_change-self.ensures.most
