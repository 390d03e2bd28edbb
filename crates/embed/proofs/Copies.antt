-- Words that were copied hold what they held.
use Rattle.std.proofs.Common.{◌≡◌, ℕ, List, length}
use Rattle.reference.specs.Stores.{Store}
use Rattle.embed.specs.Made.{words_store, in_front_if_room, CopiedTo}

pub copied_words : (flash : Store) (ws old new : List ℕ) (count : ℕ) → words_store ws ≡ flash → count ≡ length ws → new ≡ in_front_if_room ws old → CopiedTo flash old new count
copied_words flash ws old new count held counted copied = record { words = ws; held = held; counted = counted; copied = copied }
