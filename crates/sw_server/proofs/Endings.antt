-- How the doors stand as no other connection is served.
use Rattle.std.proofs.Common.{◌≡◌, ◌≢◌, ℕ, subst}
use Rattle.sw_pass.specs.declared.known.Known.{Known}
use Rattle.sw_server.specs.Acceptor.{HasServed}
use Rattle.sw_server.specs.Ending.{IsStop}
use Rattle.sw_server.specs.Served.{Serving}
use Rattle.sw_server.specs.Visits.{DoorsMembers, DoorsSeen}
use Rattle.sw_server.specs.declared.acceptor.DoorsState.{DoorsState}
use Rattle.sw_server.specs.declared.acceptor.DoorsState.TheVariants as doors_state
use Rattle.sw_server.specs.declared.end.Stop.TheVariants as stop

module _ {A N T : Type 0} (doors : DoorsMembers A N) (serving : Serving N T) (times : ℕ → Type 0) (began : DoorsSeen) (now : A) (state : DoorsState) (handed back : ℕ) (known : Known) (has : HasServed doors serving times began now state handed back known) where
  pub has_ended : state ≡ doors_state.Ended → back ≡ handed → IsStop doors serving times began (stop.Ended handed) now known
  has_ended ended even = subst (λ (count : ℕ). HasServed doors serving times began now doors_state.Ended handed count known) even (subst (λ (how : DoorsState). HasServed doors serving times began now how handed back known) ended has)

  pub has_failed : state ≡ doors_state.Failed → IsStop doors serving times began stop.Failed now known
  has_failed failed = (handed, back, subst (λ (how : DoorsState). HasServed doors serving times began now how handed back known) failed has)

  pub has_stopped : state ≢ doors_state.Failed → IsStop doors serving times began stop.NoMemory now known
  has_stopped other = (state, handed, back, other, has)
