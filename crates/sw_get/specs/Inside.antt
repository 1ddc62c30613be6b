-- A round by its fields.
use Rattle.sw_get.specs.Round.{RoundModel}
use Rattle.sw_get.specs.declared.round.Round.TheInside.{Inside}

abbrev pub round_seen : Inside → RoundModel
round_seen round = record {
  facts = record {
    asked = round.asked;
    answered = round.answered;
    lists = round.lists.items;
    tried = round.tried.items;
    sources = round.sources.items;
    archives = round.gathered.archives;
    gone = round.gone.items;
    failed = round.failed.items;
    misses = round.misses.items;
  };
  object = round.gathered.object;
  has_room = round.has_room;
}
