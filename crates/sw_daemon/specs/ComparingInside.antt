-- Suffixes at primaries, by their fields.
use Rattle.sw_daemon.specs.Comparing.{Comparing}
use Rattle.sw_daemon.specs.declared.comparing.Comparing.TheInside.{Inside}

abbrev pub comparing_seen : Inside → Comparing
comparing_seen comparing = record {
  part = comparing.part;
  own = comparing.own;
  differing = comparing.differing;
  device = comparing.device;
  others = comparing.others.items;
}
