-- An operation that is a get, or a head: its machine is that of the get, which was begun as it may be.
use Rattle.std.proofs.Common.{◌≡◌, List, sym, subst, ◌∙◌}
use Rattle.sw_ring.specs.Cluster.{ClusterModel}
use Rattle.sw_message.specs.Transcript.{IsRun, Step}
use Rattle.sw_get.specs.Get as gets
use Rattle.sw_operation.specs.Operating.{Begun, Get, Head, IsBegun, IsGetOf, IsNext, cluster_of}

module _ (cluster : ClusterModel) (past : List Step) where
  abbrev pub IsGetRun : gets.Begun → Type 0
  IsGetRun get = (get.cluster ≡ cluster) × gets.IsBegun get × IsRun (gets.IsNext get) past

  pub get_run : (get : gets.Begun) (begun : Begun) → cluster_of begun ≡ cluster → IsBegun begun → IsRun (IsNext begun) past → IsGetOf begun get → IsGetRun get
  get_run get (Get one) same valid run is = subst IsGetRun is (same, valid, run)
  get_run get (Head one) same valid run is = subst IsGetRun is (same, valid, run)
  get_run get other same valid run none = absurd none

-- it is one get
pub one_get : (one other : gets.Begun) (begun : Begun) → IsGetOf begun one → IsGetOf begun other → one ≡ other
one_get one other (Get it) first second = sym first ∙ second
one_get one other (Head it) first second = sym first ∙ second
one_get one other begun none second = absurd none
