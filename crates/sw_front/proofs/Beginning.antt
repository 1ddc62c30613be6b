-- An operation that has handed out nothing may begin over a link of its cluster.
use Rattle.std.proofs.Common.{◌≡◌, ℕ, List, Option, Some, None, refl}
use Rattle.std.proofs.lemmas.Option.{none-some, same_Some}
use Rattle.sw_types.specs.Name.{NameModel}
use Rattle.sw_types.specs.Object.{ObjectModel}
use Rattle.sw_ring.specs.Cluster.{ClusterModel}
use Rattle.sw_message.specs.Learnt.{HasOwn, Learnt, Nothing, Own}
use Rattle.sw_message.specs.Running.{Draws, LearnsOwn, MayBegin, MayRun, StillKnows}
use Rattle.sw_message.specs.Transcript.{Step}

-- one that has started nothing itself
pub may_begin : (cluster : ClusterModel) (of : Option ClusterModel) (learnt : Option Learnt) → ((other : ClusterModel) → of ≡ Some other → cluster ≡ other) → MayBegin cluster Nothing of learnt
may_begin cluster of learnt same = record { same_cluster = same; known = λ known tells. tt }

drew : (learnt : Option Learnt) (name : NameModel) (object : Option ObjectModel) (stamp : ℕ) → Draws learnt name object stamp → (known : Learnt) → learnt ≡ Some known → LearnsOwn known name object stamp
drew None name object stamp draws known tells = absurd (none-some known tells)
drew (Some learnt) name object stamp draws known tells = rw (same_Some learnt known tells) at draws

-- what a link that tells still has learnt by the end of a run
pub still_knows : (cluster : ClusterModel) (own : Own) (past : List Step) (of : Option ClusterModel) (learnt : Option Learnt) → MayRun cluster own past of learnt → StillKnows cluster own past learnt
still_knows cluster own past of None may = tt
still_knows cluster own past of (Some known) may = may.known known refl

-- one whose put or delete was learnt as its stamp was drawn
pub may_begin_drawn : (cluster : ClusterModel) (of of' : Option ClusterModel) (learnt : Option Learnt) (own : Own) (name : NameModel) (object : Option ObjectModel) (stamp : ℕ)
    → ((known : Learnt) → LearnsOwn known name object stamp → HasOwn own known) → Draws learnt name object stamp → of' ≡ of → ((other : ClusterModel) → of ≡ Some other → cluster ≡ other) → MayBegin cluster own of' learnt
may_begin_drawn cluster of of' learnt own name object stamp is_own draws moved same = record {
  same_cluster = λ other is. let it : of ≡ Some other = cc in same other it;
  known = λ known tells. is_own known (drew learnt name object stamp draws known tells);
}
