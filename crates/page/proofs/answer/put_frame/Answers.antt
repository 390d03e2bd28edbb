use Rattle.std.proofs.Common.{rules}
use Rattle.frame.specs.Frames.{carrying}
use Rattle.frame.proofs.Frames.{frame_length}
use Rattle.reference.specs.Requests.{configuration_class, valget}
use Rattle.page.specs.Drafts.{payload_of}
use Rattle.page.proofs.answer.put_frame.Goals as goal

pub returns-clause-value : goal.returns-clause-value
returns-clause-value c =
    let len = frame_length (carrying configuration_class valget (payload_of c.args.draft.now)) in
    search rules
