-- Each operation comes to rest from every transcript that it can have.
use Rattle.std.proofs.Common.{ℕ, List, sym, subst}
use Rattle.sw_ring.specs.Cluster.{ClusterModel}
use Rattle.sw_message.specs.Learnt.{Booked, IsSoundBook}
use Rattle.sw_message.specs.Transcript.{IsRun, Step}
use Rattle.sw_law_scene.specs.Scene.{Scene, known_to}
use Rattle.sw_law_scene.specs.Sound.{IsSoundScene}
use Rattle.sw_operation.specs.Operating.{Begun, Delete, Get, Head, IsBegun, IsNext, Put, Revert, Sync, cluster_of}
use Rattle.sw_core.specs.Sound.{Stands}
use Rattle.sw_core.specs.World.{Operating}
use Rattle.sw_law_going.proofs.Brought.{AreStored, operation_stored}
use Rattle.sw_law_going.proofs.Gets.{get_rests, head_rests}
use Rattle.sw_law_going.proofs.Replies.{AllRight}
use Rattle.sw_law_going.proofs.Rests.{ComesToRest}
use Rattle.sw_law_going.proofs.Reverts.{revert_rests}
use Rattle.sw_law_going.proofs.Syncs.{sync_rests}
use Rattle.sw_law_going.proofs.Writes.{delete_rests, put_rests}

-- where what was fetched are archives of puts
pub rests_of : (begun : Begun) → IsBegun begun → (book : List Booked) → IsSoundBook (cluster_of begun).policy book → (past : List Step) → IsRun (IsNext begun) past → AreStored (cluster_of begun) book past → ComesToRest begun past
rests_of (Put begun) valid book sound past run stored = put_rests begun past
rests_of (Get begun) valid book sound past run stored = get_rests begun valid book sound past run stored
rests_of (Head begun) valid book sound past run stored = head_rests begun valid book sound past run stored
rests_of (Delete begun) valid book sound past run stored = delete_rests begun past
rests_of (Sync begun) valid book sound past run stored = sync_rests begun valid book sound past run stored
rests_of (Revert begun) valid book sound past run stored = revert_rests begun book past run stored

-- so it is in a scene in which each reply is right
pub standing_rests : (scene : Scene) → IsSoundScene scene → AllRight scene → (number : ℕ) (operation : Operating) → Stands scene number operation → ComesToRest operation.begun operation.past
standing_rests scene sound right number operation stands =
    let book = (known_to scene).book in
    rests_of operation.begun stands.valid book (subst (λ (cluster : ClusterModel). IsSoundBook cluster.policy book) (sym stands.cluster) sound.book) operation.past stands.run
    (subst (λ (cluster : ClusterModel). AreStored cluster book operation.past) (sym stands.cluster) (operation_stored scene sound right number operation stands))
