-- What a draft of a page means: the payload that it becomes with the settings that are still to be added.
use Rattle.std.specs.Prelude.{ℕ, List, ◌++◌, take, drop}
use Rattle.frame.specs.Frames.{frame_bytes, carrying}
use Rattle.layer.specs.declared.setting.Setting.{Setting}
use Rattle.reference.specs.Requests.{configuration_class, valget}
use Rattle.reference.specs.Receiver.{held_pairs, pairs_bytes}
use Rattle.page.specs.declared.draft.Draft.{Draft}

abbrev pub payload_of : Draft → List ℕ
payload_of d = d.bytes.items

-- the frame of a draft to which nothing is added any more
abbrev pub draft_frame : Draft → List ℕ
draft_frame d = frame_bytes (carrying configuration_class valget (payload_of d))

-- the payload once these pairs are added
unfoldable pub finished : Draft → List Setting → List ℕ
finished d pairs = payload_of d ++ pairs_bytes (take d.left (drop d.skip pairs))

-- and once what a layer holds under these keys is added
abbrev pub finished_by : List Setting → Draft → List ℕ → List ℕ
finished_by ss d ks = finished d (held_pairs ss ks)
