-- A repair by its fields.
use Rattle.sw_sync.specs.Parts.{Repair}
use Rattle.sw_sync.specs.declared.repair.Repair.TheInside.{Inside}

abbrev pub repair_seen : Inside → Repair
repair_seen repair = record {
  stamp = repair.stamp;
  lacking = repair.lacking.items;
  choices = repair.choices.items;
  listed = repair.listed;
  tried = repair.tried.items;
  lost = repair.lost.items;
  archives = repair.gathered.archives;
  misses = repair.misses.items;
  commits = repair.commits;
  rebuilt = repair.rebuilt;
  failed = repair.failed.items;
}
