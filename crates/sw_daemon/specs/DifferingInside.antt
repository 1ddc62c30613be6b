-- Suffixes that differ, by their fields.
use Rattle.sw_daemon.specs.Comparing.{Differing}
use Rattle.sw_daemon.specs.declared.differing.Differing.TheInside.{Inside}

abbrev pub differing_seen : Inside → Differing
differing_seen differing = record { is_all = differing.is_all; suffixes = differing.suffixes.items }
