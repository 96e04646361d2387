-- The limits of a job whose script names none.
use Rattle.rdm_num.specs.declared.limits.EpLimits.{EpLimits}

abbrev pub default_limits : EpLimits
default_limits =
    record {
      mtu = 8192;
      medium = 65536;
      read_limit = 1048576;
      runt = 0;
      credits = 32;
      first = 0;
      tx = 64;
      rx = 64;
      early = 64;
      cq = 128;
    }
