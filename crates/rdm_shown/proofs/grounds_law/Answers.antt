use Rattle.rdm_shown.proofs.Grounds.{nothing_shows, reg_shows, hold_shows, drop_shows, names_count}
use Rattle.rdm_shown.proofs.HomeBytes.{part_is_out, bytes_show, bytes_stay}
use Rattle.rdm_shown.proofs.Leases.{lease_shows, back_shows}
use Rattle.rdm_shown.proofs.Refused.{hold_refusals, lease_refusals}
use Rattle.rdm_shown.proofs.grounds_law.Goals as goal

pub returns : goal.returns
returns c =
    record {
      nothing = nothing_shows;
      reg = reg_shows;
      lease = lease_shows;
      out = part_is_out;
      back = back_shows;
      hold = hold_shows;
      drop = drop_shows;
      names = names_count;
      hold_refusals = hold_refusals;
      lease_refusals = lease_refusals;
      bytes = bytes_show;
      bytes_stay = bytes_stay;
    }
