-- Connections that were served, as a seat of the stamp table knows.
use Rattle.std.specs.Prelude.{◌≡◌, ℕ, Bool, true, List, Option, Contains, IfSome}
use Rattle.sw_ring.specs.Cluster.{ClusterModel}
use Rattle.sw_pass.specs.Known.{Covers}
use Rattle.sw_pass.specs.Steps.{old_of}
use Rattle.sw_pass.specs.declared.known.Known.{Known}
use Rattle.sw_serve.specs.Ends.{CountsEnd}
use Rattle.sw_serve.specs.Soundly.{ServesSoundly}
use Rattle.sw_serve.specs.declared.end.ConnEnd.{ConnEnd}
use Rattle.sw_server.specs.Visits.{Bytes, ConnMembers, IsFresh}

-- what contracts see of connections and of a clock, the cluster that is served, and whether its disks tell what they hold
pub record Serving (N T : Type 0) : Type 1 where
  pub conns : ConnMembers N
  pub shows : T → ℕ → Type 0
  pub cluster : ClusterModel
  pub tells : Bool

-- bytes that come are those of one that was to come, where that is told
abbrev pub HasArrived : (arrivals : Option (List Bytes)) → Bytes → Type 0
HasArrived arrivals bytes = IfSome arrivals (λ all. Contains all bytes)

-- another seat knows what a seat knew
abbrev pub GoesOn : (known before : Known) → Type 0
GoesOn known before = Covers known (old_of before)

module _ {N T : Type 0} (serving : Serving N T) (times : ℕ → Type 0) (arrivals : Option (List Bytes)) where
  -- A connection is as it may be left: one that was to come came as new, and was served to an end, by a clock that shows these times. What was known
  -- then is known still.
  pub record IsServed (known : Known) (went : N) : Type 0 where
    pub came : N
    pub fresh : IsFresh serving.conns came
    pub arrived : HasArrived arrivals (serving.conns.remaining came)
    pub clock : T
    pub shown : (time : ℕ) → serving.shows clock time → times time
    pub before : Known
    pub end : ConnEnd
    pub after : Known
    pub serves : ServesSoundly serving.cluster serving.tells serving.shows clock (serving.conns.remaining came) (serving.conns.remaining went) (serving.conns.written came) (serving.conns.written went)
        (serving.conns.faults came) (serving.conns.faults went) before end after
    pub counts : CountsEnd end (serving.conns.faults came) (serving.conns.faults went)
    pub closed : serving.conns.closed went ≡ true
    pub known_still : GoesOn known after
