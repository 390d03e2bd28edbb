-- The bench cases, computed.
use Rattle.std.proofs.Common.{refl}
use Rattle.reference.specs.Bench.{BenchCases}
use Rattle.reference.proofs.Computing.{everything}

pub bench_cases : BenchCases
unfolding everything
bench_cases =
    record {
      accepted = refl;
      case1 = refl;
      case2 = refl;
      case2_number = refl;
      case2_item = refl;
      case3 = refl;
      case4 = refl;
      case4_more = refl;
      case4_number = refl;
      case5 = refl;
      case5_number = refl;
      case6 = refl;
      case6_told = refl;
      case6_noise = refl;
      case6_more = refl;
      case6_dropped = refl;
      case7 = refl;
      case7_got = refl;
      case7_group = refl;
      case7_group_got = refl;
      case7_none = refl;
      case7_number = refl;
      case8 = refl;
      case8_ram = refl;
      case8_looks = refl;
      case8_lost = refl;
      noise_counted = refl;
      applied_last = refl;
      applied_then = refl;
      added_applied = refl;
      last_stands = refl;
      get_cancels = refl;
      nak_cancels = refl;
      restart_cancels = refl;
      deleted_gone = refl;
      lost_cleared = refl;
      over_flash = refl;
      over_defaults = refl;
      over_again = refl;
      under_lost = refl;
      short_payload = refl;
      set_version = refl;
      get_version = refl;
      no_layer = refl;
      delete_from_ram = refl;
      set_flash = refl;
      get_flash = refl;
      get_layer = refl;
      none_open = refl;
      other_layers_refused = refl;
      nothing_added = refl;
      cut_key = refl;
      cut_value = refl;
    }
