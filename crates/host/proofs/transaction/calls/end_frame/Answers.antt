use Rattle.std.proofs.Common.{ℕ, [], ◌∷◌, replicate, refl, ◌∙◌, ap₂}
use Rattle.frame.specs.Frames.{frame_bytes}
use Rattle.host.specs.Requests.{request}
use Rattle.host.proofs.Heard.{wholly_written}
use Rattle.host.proofs.transaction.calls.end_frame.Goals as goal

pub returns-clause-value : goal.returns-clause-value
returns-clause-value c =
    let by = λ (v a : ℕ). request c.args.id (v ∷ c.args.layers ∷ a ∷ 0 ∷ []) in
    wholly_written (by c.version.result c.action.result) c.send.new.out (replicate 12 0) c.send.result c.send.ensures.answer c.send.ensures.out refl
    ∙ ap₂ (λ (v a : ℕ). frame_bytes (by v a)) c.version.ensures c.action.ensures
