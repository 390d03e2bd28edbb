-- The lines of a listing, and the texts of refusals.
use Rattle.std.specs.Prelude.{ℕ, List, ◌++◌, codes, decimal}
use Rattle.frame.specs.Texts.{hexadecimal}
use Rattle.monitor.specs.declared.row.Row.{Row}
use Rattle.monitor.specs.declared.row.Counts.{Counts}
use Rattle.monitor.specs.declared.state.calls.FeedFault.{FeedFault}
use Rattle.monitor.specs.declared.state.calls.FeedFault.TheVariants.{LineTooLong, NoMemory}

-- a frame's place, class and ID, and the length of its payload
abbrev pub row_text : Row → List ℕ
row_text r = decimal r.place ++ (codes " " ++ (hexadecimal 2 r.class ++ (codes " " ++ (hexadecimal 2 r.id ++ (codes " " ++ decimal r.len)))))

abbrev pub counts_text : Counts → List ℕ
counts_text c = codes "frames " ++ decimal c.frames ++ codes " noise " ++ decimal c.noise ++ codes " held " ++ decimal c.held

abbrev pub feed_fault_text : FeedFault → List ℕ
feed_fault_text LineTooLong = codes "the line has too many bytes to count"
feed_fault_text NoMemory = codes "no memory is left"
