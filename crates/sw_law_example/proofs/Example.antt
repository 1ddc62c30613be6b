-- A run of three events: a put starts, a device stores its first fragment, and the answer comes to the put.
use Rattle.std.proofs.Common.{◌≡◌, ℕ, ◌+◌, ◌<◌, ◌≤◌, Bool, true, false, ◌&&◌, Contains, List, [], ◌∷◌, length, Option, Some, refl, sym, ap, subst, ◌∙◌, arith}
use Rattle.std.specs.List.{All}
use Rattle.std.proofs.lemmas.List.{length-map}
use Rattle.std.proofs.lemmas.List.Elements.{All-head}
use Rattle.sw_types.specs.Name.{NameModel}
use Rattle.sw_types.specs.Object.{ObjectModel}
use Rattle.sw_types.proofs.Policies.{bounds}
use Rattle.sw_archive.specs.Put.{IsPut, put_archive}
use Rattle.sw_diskfile.proofs.Lists.{Contains-first}
use Rattle.sw_ring.specs.Cluster.{ClusterModel, KeepsRules, column_of, ids_of, place_of_name}
use Rattle.sw_ring.specs.Ring.{is_among}
use Rattle.sw_ring.proofs.Roles.{column_length}
use Rattle.sw_message.specs.Message.{IsMember}
use Rattle.sw_message.specs.Step.{Folders}
use Rattle.sw_message.specs.Transcript.{Closed, Step, after_answer, open_at}
use Rattle.sw_message.specs.Warrant.{IsPrimaryOf}
use Rattle.sw_message.specs.declared.reply.Reply.TheVariants as reply
use Rattle.sw_message.specs.declared.sent.Sent.{Sent}
use Rattle.sw_quorum.proofs.Places.{part_small}
use Rattle.sw_quorum.proofs.Transcripts.{told-open}
use Rattle.sw_put.specs.Put.{Begun}
use Rattle.sw_law_scene.specs.Devices.{IsDeviceStep, capacity_of, no_folders}
use Rattle.sw_law_scene.specs.Disks.{Sure}
use Rattle.sw_law_scene.specs.Moves.{Handles, books, replies, requests_of, sends}
use Rattle.sw_law_scene.specs.Scene.{Answer, Message, Scene, empty_scene, set_disk}
use Rattle.sw_core.specs.Event.{Comes, Deliver, Happens, IsRun, OnScene, Proceeds, Put, Start, with_scene}
use Rattle.sw_operation.specs.Operating.{Put as PutBegun}
use Rattle.sw_core.specs.World.{Operating, World, empty_world, first_clock, numbered}
use Rattle.sw_core.proofs.Numbered.{pushed-last}
use Rattle.sw_law_complete.proofs.PutDevices.{put_archive_is}
use Rattle.sw_law_example.specs.Example.{stores_first}
use Rattle.sw_law_example.proofs.Handing.{opened}
use Rattle.sw_law_example.proofs.Hearing.{IsWaiting, first, handed_out, others, waiting}
use Rattle.sw_law_example.proofs.Storing.{stored_folders, stores_it}

-- ---- the worlds

module _ (cluster : ClusterModel) (name : NameModel) (object : ObjectModel) (sent : Sent) (more : List Sent) (past : List Step) (folders : Folders) where
  abbrev begun : Begun
  begun = record { cluster = cluster; stamp = first_clock; name = name; object = object }

  -- the put as it waits, and once it was told
  abbrev waiting_put : Operating
  waiting_put = record { begun = PutBegun begun; start = 0; past = past; is_over = false }

  abbrev told_put : Operating
  told_put = record { begun = PutBegun begun; start = 0; past = Closed sent (Some reply.Synced) ∷ past; is_over = false }

  -- once the put has started
  abbrev started : World
  started = record { scene = sends 1 (sent ∷ more) (books first_clock name object (empty_scene cluster)); clock = first_clock; operations = waiting_put ∷ [] }

  -- once the device has stored
  abbrev stored : World
  stored = with_scene (replies 1 sent reply.Synced (set_disk sent.device (Sure folders) started.scene)) started

  -- once the put has heard of it
  abbrev heard : World
  heard = record { scene = sends 1 [] stored.scene; clock = first_clock; operations = told_put ∷ [] }

  -- ---- the events

  starts : IsPut cluster.policy first_clock name object → IsWaiting begun sent more past → Happens (Start (Put name object)) (empty_world cluster) started
  starts put waits = (
    omega arith,
    put,
    record { sents = sent ∷ more; later = waiting_put; goes_on = record { handed = waits.handed; rests = waits.waits; same = refl }; after_is = refl },
  )

  on_scene : (member : Bool) → member ≡ true → (Does : Scene → Type 0) (before : World) (scene : Scene) → Does scene → OnScene (member && true) Does before (with_scene scene before)
  on_scene true is Does before scene does = (scene, does, refl)
  on_scene false is Does before scene does = absurd (cc)

  stores : IsMember cluster sent.device → IsDeviceStep cluster sent.device sent.msg reply.Synced no_folders folders → Happens (Deliver 1) started stored
  stores member step =
      on_scene (is_among (ids_of cluster) sent.device) member (Handles started.scene 1 sent) started stored.scene
      (record { found = no_folders; finds = refl; reply = reply.Synced; folders = folders; step = step; after_is = refl })

  goes_on : sent.ticket ≡ 0 → IsWaiting begun sent more past → Comes (Some (Answer 1 1 sent reply.Synced)) stored heard
  goes_on first_ticket waits =
      let path : after_answer past sent.ticket (Some reply.Synced) ≡ Closed sent (Some reply.Synced) ∷ past =
      told-open past sent.ticket (Some reply.Synced) sent (ap (λ n. open_at n past) first_ticket ∙ waits.first_open) in
      subst (λ after. Proceeds stored 1 waiting_put after heard) (sym path)
      (record { sents = []; later = told_put; goes_on = record { handed = refl; rests = waits.still; same = refl }; after_is = refl })

  hears : (count : ℕ) → length (sent ∷ more) ≡ count → sent.ticket ≡ 0 → IsWaiting begun sent more past → Happens (Deliver (count + 1)) stored heard
  hears count all first_ticket waits =
      let requests = requests_of 0 1 (sent ∷ more) in
      let size : length requests ≡ count = length-map (sent ∷ more) _ ∙ all in
      let last : numbered stored.scene.messages (count + 1) ≡ Some (Answer 1 1 sent reply.Synced) =
      subst (λ n. numbered stored.scene.messages (n + 1) ≡ Some (Answer 1 1 sent reply.Synced)) size (pushed-last requests (Answer 1 1 sent reply.Synced)) in
      subst (λ (found : Option Message). Comes found stored heard) (sym last) (goes_on first_ticket waits)

-- ---- the run

-- in every cluster that keeps the rules there is such a run
pub example : (cluster : ClusterModel) (name : NameModel) (object : ObjectModel) (device : ℕ) → KeepsRules cluster → IsPut cluster.policy first_clock name object → IsPrimaryOf cluster (place_of_name cluster name) 0 device
    → length (put_archive cluster.policy first_clock name object 0) ≤ capacity_of cluster device
    → (world : World) × IsRun cluster (Start (Put name object) ∷ Deliver 1 ∷ Deliver (cluster.policy.k + cluster.policy.m + 1) ∷ []) world
    × ((operation : Operating) × (numbered world.operations 1 ≡ Some operation) × Contains operation.past (Closed (stores_first cluster name object device) (Some reply.Synced)))
example cluster name object device rules put primary fits =
    let place = place_of_name cluster name in
    let begun : Begun = record { cluster = cluster; stamp = first_clock; name = name; object = object } in
    let devices = opened (column_of cluster place.part) device primary in
    let size = column_length cluster place.part rules in
    let fit = bounds cluster.policy rules.policy in
    let some : 0 < cluster.policy.k + cluster.policy.m = omega (arith, fit.some_data) in
    let sent = first begun device devices.0 in
    let more = others begun device devices.0 in
    let past = handed_out begun device devices.0 in
    let waits = waiting begun device devices.0 devices.1 (omega (arith, size, fit.some_data, fit.some_parity)) in
    let member = All-head (IsMember cluster) device devices.0 (subst (All (IsMember cluster)) devices.1 (rules.known place.part (part_small cluster name))) in
    let bytes = put_archive cluster.policy first_clock name object 0 in
    let folders = stored_folders cluster device place first_clock 0 bytes in
    let step = stores_it cluster device place first_clock 0 bytes (put_archive_is cluster first_clock name object 0 put some) fits in
    let second = stores cluster name object sent more past folders member step in
    let third = hears cluster name object sent more past folders (cluster.policy.k + cluster.policy.m) (waits.count ∙ size) refl waits in (
      heard cluster name object sent more past folders,
      record {
        rules = rules;
        lead = (
          started cluster name object sent more past folders,
          starts cluster name object sent more past folders put waits,
          (stored cluster name object sent more past folders, second, (heard cluster name object sent more past folders, third, refl)),
        );
      },
      (told_put cluster name object sent more past folders, refl, Contains-first _ past),
    )
