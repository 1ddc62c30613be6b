-- What is known goes on.
use Rattle.std.proofs.Common.{◌≡◌}
use Rattle.sw_ring.specs.Cluster.{ClusterModel}
use Rattle.sw_pass.specs.Steps.{Knows, joined, learned, noted, old_of}
use Rattle.sw_pass.specs.declared.known.Known.{Known}
use Rattle.sw_cell.proofs.Joined.{covers_first, covers_noted}
use Rattle.sw_cell.proofs.Lasting.{covers_still}
use Rattle.sw_law_served.proofs.Calls.{grown_same}
use Rattle.sw_server.specs.Served.{GoesOn}

pub goes_same : (known : Known) → GoesOn known known
goes_same known = (grown_same known).covers

pub goes_both : (first second third : Known) → GoesOn second first → GoesOn third second → GoesOn third first
goes_both first second third one other = covers_still (old_of first) second third one other

-- a seat takes in a note
module _ (cluster : ClusterModel) (one note after : Known) (rest : after ≡ learned (joined one note)) (learnt : Knows cluster (joined one note)) where
  pub goes_own : GoesOn after one
  goes_own = covers_first one note after rest cluster learnt

  pub goes_told : (known : Known) → note ≡ noted known → GoesOn after known
  goes_told known is = covers_noted one note after rest cluster learnt known is
