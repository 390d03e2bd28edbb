-- The texts of refusals.
use Rattle.std.specs.Prelude.{ℕ, List, codes}
use Rattle.reference.specs.Texts.{refusal_text}
use Rattle.page.specs.declared.answer.PageFault.{PageFault}
use Rattle.page.specs.declared.answer.PageFault.TheVariants.{Refused, NoRoom}

abbrev pub page_fault_text : PageFault → List ℕ
page_fault_text (Refused refusal) = refusal_text refusal
page_fault_text NoRoom = codes "the buffer has not room for every frame"
