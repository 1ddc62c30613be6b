-- What holds of the worlds on the way of an operation that runs alone holds from its start to its end.
use Rattle.std.proofs.Common.{◌≡◌, ℕ, Bool, true, false, Contains, List, [], ◌∷◌, ◌++◌, Option, Some, refl, sym, subst}
use Rattle.std.specs.Prelude.{MatchBool}
use Rattle.std.specs.List.{All}
use Rattle.std.proofs.lemmas.Bool.{and_parts}
use Rattle.std.proofs.lemmas.List.Elements.{All-head, All-tail}
use Rattle.sw_ring.specs.Cluster.{ClusterModel, ids_of}
use Rattle.sw_ring.specs.Ring.{is_among}
use Rattle.sw_message.specs.Message.{IsMember}
use Rattle.sw_message.specs.Step.{Folders}
use Rattle.sw_message.specs.Transcript.{after_answer}
use Rattle.sw_message.specs.declared.message.Msg.{Msg}
use Rattle.sw_message.specs.declared.reply.Reply.{Reply}
use Rattle.sw_message.specs.declared.sent.Sent.{Sent}
use Rattle.sw_law_scene.specs.Devices.{IsDeviceStep}
use Rattle.sw_law_scene.specs.Disks.{Disk, IsFoundOn}
use Rattle.sw_law_scene.specs.Moves.{Handles}
use Rattle.sw_law_scene.specs.Scene.{Answer, Message, Request, Scene, disk_of, is_up}
use Rattle.sw_core.specs.Event.{Comes, Event, Happens, IsRun, TakesAnswer, OnScene, Proceeds, idle, with_scene}
use Rattle.sw_operation.specs.Operating.{Begun}
use Rattle.sw_core.specs.Sound.{IsSoundWorld}
use Rattle.sw_core.specs.World.{Operating, World, numbered}
use Rattle.sw_core.proofs.Happening.{run-sound}
use Rattle.sw_core.proofs.Numbered.{numbered-contains}
use Rattle.sw_core.proofs.Leads.{run-more}
use Rattle.sw_law_owed.specs.Decided.{KeepsStamps}
use Rattle.sw_law_decided.proofs.Runs.{run_keeps}
use Rattle.sw_law_alone.specs.Alone.{Delivers, GivesUp, IsOf, IsOwnEvent, LeadsAlone}
use Rattle.sw_law_complete.specs.Complete.{IsDelivery}
use Rattle.sw_law_complete.proofs.AnsweredWorlds.{IsFine, IsServed, goes_on, handled_serving, idles, scene_served}

-- ---- operations that run alone

module _ (of : ClusterModel) (cluster : ClusterModel) (number : ℕ) (begun : Begun) (stamp : ℕ) (Holds : ℕ → Disk → Type 0) (Serves : ℕ → Disk → Msg → Reply → Type 0) where
  abbrev Served : World → Type 0
  Served = IsServed cluster number begun stamp Holds Serves

  -- a device that handles a message of the operation does so as it should
  abbrev pub HandlesWell : Type 0
  HandlesWell = (world : World) → IsSoundWorld of world → KeepsStamps world.scene → Served world → (at : ℕ) (sent : Sent) → Contains world.scene.messages (Request at number sent) → IsMember cluster sent.device
      → (found folders : Folders) (reply : Reply) → IsFoundOn cluster sent.device (disk_of world.scene sent.device) found → IsDeviceStep cluster sent.device sent.msg reply found folders
      → IsFine cluster number begun stamp Holds Serves world.scene sent reply folders

  module _ (well : HandlesWell) where
    module _ (world : World) (sound : IsSoundWorld of world) (stamps : KeepsStamps world.scene) (is : Served world) where
      nothing : (after : World) → after ≡ idle world → Served after
      nothing = idles cluster number begun stamp Holds Serves world is

      -- ---- replies

      told_by : (ticket : ℕ) (reply : Reply) (after : World) (is_over : Bool) → MatchBool is_over (after ≡ idle world) (Proceeds world number is.operation (after_answer is.operation.past ticket (Some reply)) after) → Served after
      told_by ticket reply after true same = nothing after same
      told_by ticket reply after false goes = goes_on cluster number begun stamp Holds Serves world is ticket reply after goes

      tells : (ticket : ℕ) (reply : Reply) (after : World) → TakesAnswer (numbered world.operations number) number ticket (Some reply) world after → Served after
      tells ticket reply after goes =
          told_by ticket reply after is.operation.is_over (subst (λ (found : Option Operating). TakesAnswer found number ticket (Some reply) world after) is.there goes)

      -- ---- requests

      handles : (at : ℕ) (sent : Sent) → Contains world.scene.messages (Request at number sent) → is_up world.scene sent.device ≡ true → (scene : Scene) → Handles world.scene number sent scene → Served (with_scene scene world)
      handles at sent has up scene handling =
          let same = is.scene.same_cluster in
          let member = subst (λ (one : ClusterModel). IsMember one sent.device) same (and_parts (is_among (ids_of world.scene.cluster) sent.device) (world.scene.devices sent.device).is_up up).0 in
          let finds = subst (λ (one : ClusterModel). IsFoundOn one sent.device (disk_of world.scene sent.device) handling.found) same handling.finds in
          let step = subst (λ (one : ClusterModel). IsDeviceStep one sent.device sent.msg handling.reply handling.found handling.folders) same handling.step in
          let fine = well world sound stamps is at sent has member handling.found handling.folders handling.reply finds step in
          subst (λ (after : Scene). Served (with_scene after world)) (sym handling.after_is)
          (scene_served cluster number begun stamp Holds Serves world is _ (handled_serving cluster number begun stamp Holds Serves world.scene is.scene sent handling.reply handling.folders fine))

      on_scene : (does : Scene → Type 0) (after : World) (may : Bool) → (may ≡ true → (scene : Scene) → does scene → Served (with_scene scene world)) → OnScene may does world after → Served after
      on_scene does after false keeps same = nothing after same
      on_scene does after true keeps (scene, done, same) = subst Served (sym same) (keeps refl scene done)

      -- ---- events

      comes : (message : ℕ) (posted : Message) → numbered world.scene.messages message ≡ Some posted → IsOf number posted → (after : World) → Comes (Some posted) world after → Served after
      comes message (Request at operation sent) found own after done =
          let has = subst (λ (n : ℕ). Contains world.scene.messages (Request at n sent)) own (numbered-contains world.scene.messages message (Request at operation sent) found) in
          on_scene (Handles world.scene number sent) after (is_up world.scene sent.device) (handles at sent has)
          (subst (λ (n : ℕ). OnScene (is_up world.scene sent.device) (Handles world.scene n sent) world after) own done)
      comes message (Answer at operation sent reply) found own after goes =
          tells sent.ticket reply after (subst (λ (n : ℕ). TakesAnswer (numbered world.operations n) n sent.ticket (Some reply) world after) own goes)

      happens : (event : Event) → IsOwnEvent world number event → IsDelivery event → (after : World) → Happens event world after → Served after
      happens event (Delivers message posted found own) delivers after goes = comes message posted found own after (subst (λ (one : Option Message). Comes one world after) found goes)
      happens event (GivesUp ticket) delivers after goes = absurd delivers

    -- many events
    pub leads_served : (before : World) (own : List Event) (after : World) (earlier : List Event) → IsRun of earlier before → Served before → All IsDelivery own → LeadsAlone number before own after
        → IsSoundWorld of after × Served after
    leads_served before [] after earlier run is all same = subst (λ (one : World). IsSoundWorld of one × Served one) (sym same) (run-sound of earlier before run, is)
    leads_served before (event ∷ events) after earlier run is all (own, between, goes, lead) =
        leads_served between events after (earlier ++ event ∷ []) (run-more of earlier before event between run goes)
        (happens before (run-sound of earlier before run) (run_keeps of earlier before run) is event own (All-head IsDelivery event events all) between goes) (All-tail IsDelivery event events all) lead
