-- One name that opens every definition of the reference receiver, for equations that are computed.
use Rattle.frame.specs.Checksum.{summed}
use Rattle.frame.specs.Frames.{frame_bytes, at_check_bytes, at_payload, at_header, at_second, standing}
use Rattle.frame.specs.Scanning.{finding_at, finding, scanned_at}
use Rattle.item.specs.Values.{number, bytes_of}
use Rattle.reference.specs.Stores.{put, removed, cleared}
use Rattle.reference.specs.Requests.{layers_of, action_of, is_known, keys_named, latest, pair_read, key_read, walking, walk, data_of, keys_of}
use Rattle.reference.specs.Parts.{settings_by, stack_fault, stacked, stray_key, parts_fault}
use Rattle.reference.specs.Receiver.{written, configuration, unless, apply_fault, judged_change, layer_of, held_pairs, pairs_bytes, page, judged_get, judged, applied, handled, restarting, taking, served, step, made, run_from}

unfoldable pub everything : Unit {0}
unfolding summed frame_bytes at_check_bytes at_payload at_header at_second standing finding_at finding scanned_at number bytes_of put removed cleared layers_of action_of is_known keys_named latest pair_read key_read walking walk data_of keys_of settings_by stack_fault stacked stray_key parts_fault written configuration unless apply_fault judged_change layer_of held_pairs pairs_bytes page judged_get judged applied handled restarting taking served step made run_from
everything = tt
