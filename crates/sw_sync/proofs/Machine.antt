-- What holds of a sync after every transcript of its machine.
use Rattle.std.proofs.Common.{◌≡◌, true, false, List, []}
use Rattle.std.specs.List.{All}
use Rattle.sw_message.specs.Learnt.{AreKnown, Learnt}
use Rattle.sw_message.specs.Running.{IsOf}
use Rattle.sw_message.specs.Transcript.{IsRun, Step, is_waiting}
use Rattle.sw_message.specs.Warrant.{IsWarranted}
use Rattle.sw_message.specs.declared.sent.Sent.{Sent}
use Rattle.sw_sync.specs.Standing.{ends}
use Rattle.sw_sync.specs.State.{State}
use Rattle.sw_sync.specs.Sync.{Begun, Fits, Hands, IsBegun, IsNext, IsState}
use Rattle.sw_sync.proofs.Ending as ending
use Rattle.sw_sync.proofs.Fitting as fitting
use Rattle.sw_sync.proofs.Warrants as warrants

-- what is due fits its stage
pub fits : (begun : Begun) → IsBegun begun → (past : List Step) (state : State) → IsState begun past state → All (Fits state.stage) state.due
fits begun valid past state is = fitting.fits begun valid.rules past state is

-- once it is over, nothing is open and nothing is due
pub over_settled : (begun : Begun) → IsBegun begun → (past : List Step) (state : State) → IsState begun past state → ends state.stage ≡ true → (is_waiting past ≡ false) × (state.due ≡ [])
over_settled begun valid past state is over = ending.over_settled begun valid past state is over

-- where nothing is open and nothing is due, it is over
pub settled_over : (begun : Begun) → IsBegun begun → (past : List Step) (state : State) → IsState begun past state → is_waiting past ≡ false → state.due ≡ [] → ends state.stage ≡ true
settled_over begun valid past state is waiting due = ending.settled_ends begun valid past state is waiting due

-- what is handed out after a transcript of its machine goes to a device of the cluster, and is warranted
pub hands_of : (begun : Begun) → IsBegun begun → (past : List Step) (state after : State) (sent : Sent) → IsRun (IsNext begun) past → IsState begun past state → Hands begun state sent after
    → IsOf begun.cluster sent.device sent.msg
hands_of begun valid past state after sent run is hands = warrants.hands_of begun valid past state after sent run is hands

pub hands_warranted : (begun : Begun) → IsBegun begun → (past : List Step) (state after : State) (sent : Sent) (learnt : Learnt) → IsRun (IsNext begun) past → IsState begun past state → Hands begun state sent after
    → AreKnown begun.cluster learnt past → IsWarranted begun.cluster learnt sent.msg
hands_warranted begun valid past state after sent learnt run is hands known = warrants.hands_warranted begun valid past state after sent run is hands learnt known
