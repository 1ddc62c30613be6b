-- Why no other connection is served.
use Rattle.std.specs.Prelude.{◌≢◌, ℕ}
use Rattle.sw_pass.specs.declared.known.Known.{Known}
use Rattle.sw_server.specs.Acceptor.{HasServed}
use Rattle.sw_server.specs.Served.{Serving}
use Rattle.sw_server.specs.Visits.{DoorsMembers, DoorsSeen}
use Rattle.sw_server.specs.declared.acceptor.DoorsState.{DoorsState}
use Rattle.sw_server.specs.declared.acceptor.DoorsState.TheVariants as doors_state
use Rattle.sw_server.specs.declared.end.Stop.{Stop}
use Rattle.sw_server.specs.declared.end.Stop.TheVariants.{Ended, Failed, NoMemory}

module _ {A N T : Type 0} (doors : DoorsMembers A N) (serving : Serving N T) (times : ℕ → Type 0) (began : DoorsSeen) where
  -- How the doors stand then, and what is known: where so many connections came and none comes any more, as many are back.
  abbrev pub IsStop : Stop → (now : A) → Known → Type 0
  IsStop (Ended count) now known = HasServed doors serving times began now doors_state.Ended count count known
  IsStop Failed now known = (handed : ℕ) × (back : ℕ) × HasServed doors serving times began now doors_state.Failed handed back known
  IsStop NoMemory now known = (state : DoorsState) × (handed : ℕ) × (back : ℕ) × (state ≢ doors_state.Failed) × HasServed doors serving times began now state handed back known
