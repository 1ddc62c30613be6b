-- What a crash within a handling leaves is one thing.
use Rattle.std.proofs.Common.{◌≡◌, ℕ, map, sym, ap, subst, take, ◌∙◌}
use Rattle.std.proofs.Math.Path.{fun_ext}
use Rattle.sw_disk.specs.Calls.{Do}
use Rattle.sw_disk.specs.State.{run}
use Rattle.sw_hashpath.specs.Place.{PlaceModel, folder_of}
use Rattle.sw_ring.specs.Cluster.{ClusterModel}
use Rattle.sw_message.specs.Message.{is_primary}
use Rattle.sw_message.specs.Step.{Folders, IsFound}
use Rattle.sw_message.specs.Table.{Found, Handling, IsHandled}
use Rattle.sw_message.specs.declared.message.Msg.{Msg}
use Rattle.sw_message.specs.declared.message.Msg.TheVariants as message
use Rattle.sw_message.proofs.Handlings.{one_commit, one_delete, one_put, one_remove}
use Rattle.sw_law_scene.specs.Devices.{capacity_of}
use Rattle.sw_sim_nodes.specs.Crashing.{IsCut, IsCutShort, calls_done, crashed_files, disk_of}
use Rattle.sw_law_determined.proofs.Rooms.{one_room}

module _ (cluster : ClusterModel) (device calls pick : ℕ) (before one other : Folders) where
  -- where the message is handled in one way
  cut_short : (msg : Msg) (place : PlaceModel)
      → ((room : ℕ) (first second : Found) → IsFound (before (folder_of place)) room first → IsFound (before (folder_of place)) room second
      → (a b : Handling) → IsHandled cluster device first msg a → IsHandled cluster device second msg b → a ≡ b)
      → IsCutShort cluster device msg place calls pick before one → IsCutShort cluster device msg place calls pick before other → one ≡ other
  cut_short msg place one_way x y =
      let found = subst (λ (room : ℕ). IsFound (before (folder_of place)) room y.found) (one_room (capacity_of cluster device) before y.room x.room y.free x.free) y.is_found in
      let same = one_way x.room x.found y.found x.is_found found x.handling y.handling x.handled y.handled in
      fun_ext (λ name.
      x.left name
      ∙ ap (λ (handling : Handling). crashed_files pick ((run (map Do (take calls (calls_done handling.reply handling.calls))) (disk_of before)).folder name)) same
      ∙ sym (y.left name))

  pub one_cut : (msg : Msg) → IsCut cluster device msg calls pick before one → IsCut cluster device msg calls pick before other → one ≡ other
  one_cut (message.PutFrag place stamp index bytes) x y =
      cut_short (message.PutFrag place stamp index bytes) place (λ room first second is also a b. one_put cluster (before (folder_of place)) room first second is also place stamp index bytes a b) x y
  one_cut (message.Commit place stamp index) x y =
      cut_short (message.Commit place stamp index) place (λ room first second is also a b. one_commit cluster (before (folder_of place)) room first second is also (is_primary cluster device place) place stamp index a b) x y
  one_cut (message.Delete place stamp) x y =
      cut_short (message.Delete place stamp) place (λ room first second is also a b. one_delete cluster (before (folder_of place)) room first second is also (is_primary cluster device place) place stamp a b) x y
  one_cut (message.Remove place stamp index) x y =
      cut_short (message.Remove place stamp index) place (λ room first second is also a b. one_remove cluster (before (folder_of place)) room first second is also (is_primary cluster device place) place stamp index a b) x y
  one_cut other_msg x y = fun_ext (λ name. x name ∙ sym (y name))
