-- The ends of operations that are gets, or heads.
use Rattle.std.proofs.Common.{ℕ, Bool, true, false, List, refl, subst}
use Rattle.sw_types.specs.Name.{NameModel}
use Rattle.sw_ring.specs.Cluster.{ClusterModel, place_of_name}
use Rattle.sw_message.specs.Message.{is_primary}
use Rattle.sw_message.specs.Transcript.{Step}
use Rattle.sw_get.specs.Get as gets
use Rattle.sw_get.specs.declared.end.GetEnd.{GetEnd}
use Rattle.sw_core.specs.Event as core
use Rattle.sw_operation.specs.Operating.{Begun, Delete, Get, Head, IsGetOf, Put, Revert, Sync, recon_of}
use Rattle.sw_core.specs.World.{World}
use Rattle.sw_operation.specs.Ends.{IsEndOf}
use Rattle.sw_law_alone.specs.Alone.{AGet, AHead, IsReading}
use Rattle.sw_operation.specs.declared.end.OpEnd.{OpEnd}
use Rattle.sw_operation.specs.declared.end.OpEnd.TheVariants as end
use Rattle.sw_play.specs.Promised.{IsGetEnd}
use Rattle.sw_play.proofs.OwnStarts.{begun_by}

-- an operation that ended as a get does is a get, or a head
pub get_told : (begun : Begun) (past : List Step) (told : OpEnd) (how : GetEnd) → IsGetEnd told how → IsEndOf begun past told → (get : gets.Begun) × IsGetOf begun get × gets.IsEnd get past how
get_told (Get begun) past (end.Get one) how same is = (begun, refl, subst (gets.IsEnd begun past) same is)
get_told (Head begun) past (end.Head one) how same is = (begun, refl, subst (gets.IsEnd begun past) same is)
get_told (Put begun) past (end.Get one) how same none = absurd none
get_told (Head begun) past (end.Get one) how same none = absurd none
get_told (Delete begun) past (end.Get one) how same none = absurd none
get_told (Sync begun) past (end.Get one) how same none = absurd none
get_told (Revert begun) past (end.Get one) how same none = absurd none
get_told (Put begun) past (end.Head one) how same none = absurd none
get_told (Get begun) past (end.Head one) how same none = absurd none
get_told (Delete begun) past (end.Head one) how same none = absurd none
get_told (Sync begun) past (end.Head one) how same none = absurd none
get_told (Revert begun) past (end.Head one) how same none = absurd none
get_told begun past (end.Put one) how none is = absurd none
get_told begun past (end.Delete one) how none is = absurd none
get_told begun past (end.Sync one) how none is = absurd none
get_told begun past (end.Revert one) how none is = absurd none

-- and a get, or a head, ended as one does
pub told_get : (begun : Begun) (past : List Step) (told : OpEnd) (get : gets.Begun) → IsGetOf begun get → IsEndOf begun past told → (how : GetEnd) × IsGetEnd told how × gets.IsEnd get past how
told_get (Get begun) past (end.Get how) get same is = (how, refl, subst (λ (one : gets.Begun). gets.IsEnd one past how) same is)
told_get (Head begun) past (end.Head how) get same is = (how, refl, subst (λ (one : gets.Begun). gets.IsEnd one past how) same is)
told_get (Put begun) past told get none is = absurd none
told_get (Delete begun) past told get none is = absurd none
told_get (Sync begun) past told get none is = absurd none
told_get (Revert begun) past told get none is = absurd none
told_get (Get begun) past other get same none = absurd none
told_get (Head begun) past other get same none = absurd none

-- what a reconstructor starts is none
never_recon : (primary : Bool) (cluster : ClusterModel) (device : ℕ) (name : NameModel) (get : gets.Begun) → IsGetOf (recon_of primary cluster device name) get → ⊥
never_recon true cluster device name get none = none
never_recon false cluster device name get none = none

-- a job that is begun as one reads a name
pub reads : (world : World) (job : core.Job) (get : gets.Begun) → IsGetOf (begun_by world job) get → (name : NameModel) × IsReading name job
reads world (core.Get name) get same = (name, AGet name)
reads world (core.Head name) get same = (name, AHead name)
reads world (core.Put name object) get none = absurd none
reads world (core.Delete name) get none = absurd none
reads world (core.Recon device name) get none = absurd (never_recon (is_primary world.scene.cluster device (place_of_name world.scene.cluster name)) world.scene.cluster device name get none)
