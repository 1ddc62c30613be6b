-- A put and a get over a link that tells, and what the get shows of the put.
use Rattle.std.specs.Prelude.{◌≡◌, ◌≢◌, ℕ, false, length, List, [], None, Some, Ok}
use Rattle.std.specs.List.{AllPairs}
use Rattle.sw_types.specs.Name.{NameModel}
use Rattle.sw_types.specs.Object.{ObjectModel}
use Rattle.sw_types.specs.Policy.{PolicyModel}
use Rattle.sw_ring.specs.Cluster.{ClusterModel}
use Rattle.sw_message.specs.declared.target.Target.{Target}
use Rattle.sw_sim_nodes.specs.Nodes.{devices_of}
use Rattle.sw_put.specs.declared.end.PutEnd.{PutEnd}
use Rattle.sw_get.specs.declared.end.GetEnd.{GetEnd}
use Rattle.sw_front.specs.Over.{GetsOver, PutsOver}
use Rattle.sw_telling.specs.Telling.{Calls, Draws, TellingModel, learnt_by, losses, nothing_known}

-- A link over nodes on empty disks, all up; no stamp was drawn, and it tells that nothing was learnt.
pub record IsNew (cluster : ClusterModel) (clock : ℕ) (link : TellingModel) : Type 0 where
  pub cluster_is : link.nodes.cluster ≡ cluster
  pub up : link.nodes.down ≡ []
  pub empty : (device : ℕ) (name : List ℕ) → devices_of link.nodes.nodes device name ≡ []
  pub none_lost : link.nodes.lost ≡ 0
  pub goes_on : link.nodes.is_wanting ≡ false
  pub clock_is : link.clock ≡ clock
  pub none_drawn : link.last ≡ None
  pub none_refused : link.refused ≡ 0
  pub tells : learnt_by link ≡ Some nothing_known
  pub known_is : link.known ≡ nothing_known

-- A put ran to its end over a new link, and then a get. No node wanted memory, so that each reply is that of the step of a node, and the
-- link tells still.
pub record PutAndGot (cluster : ClusterModel) (clock : ℕ) (name : NameModel) (object : ObjectModel) (created : PutEnd) (found : GetEnd) : Type 0 where
  pub first : TellingModel
  pub between : TellingModel
  pub last : TellingModel
  pub is_new : IsNew cluster clock first
  pub puts : PutsOver Draws Calls losses learnt_by cluster name object first (Ok created) between
  pub gets : GetsOver Calls losses learnt_by (record { cluster = cluster; name = name }) between (Ok found) last
  pub speaks : last.is_silent ≡ false
  pub goes_on : last.nodes.is_wanting ≡ false
  pub tells : learnt_by last ≡ Some last.known

-- It is the object of the put, at its stamp, from k sources of different indices.
pub record IsThatPut (policy : PolicyModel) (put_stamp : ℕ) (put : ObjectModel) (stamp : ℕ) (object : ObjectModel) (sources : List Target) : Type 0 where
  pub stamp_is : stamp ≡ put_stamp
  pub object_is : object ≡ put
  pub count : length sources ≡ policy.k
  pub apart : AllPairs (λ one other. one.index ≢ other.index) sources
