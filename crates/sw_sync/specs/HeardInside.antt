-- What was heard, by its fields.
use Rattle.sw_sync.specs.Parts.{Heard}
use Rattle.sw_sync.specs.declared.heard.Heard.TheInside.{Inside}

abbrev pub heard_seen : Inside → Heard
heard_seen heard = record { lists = heard.lists.items; misses = heard.misses.items }
