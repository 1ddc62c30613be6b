-- A view as a scene in which all happened at one step: what is said there of names and replies by a step is said of the view.
use Rattle.std.proofs.Common.{◌≡◌, ⊎_elim, ℕ, ◌≤◌, Contains, List, [], ◌∷◌, length, map, None, refl, ap, subst, ◌∙◌, arith}
use Rattle.std.specs.List.{All}
use Rattle.std.proofs.lemmas.List.Elements.{All-head, All-weaker}
use Rattle.sw_hashpath.specs.Place.{PlaceModel}
use Rattle.sw_diskfile.proofs.Lists.{Contains-map, mapped}
use Rattle.sw_ring.specs.Cluster.{ClusterModel, ids_of, place_of_name}
use Rattle.sw_message.specs.Learnt.{Booked, Heard, Learnt, Marked}
use Rattle.sw_message.specs.Warrant.{IsDecided, IsOfDelete, IsOfPut, IsSynced}
use Rattle.sw_message.specs.declared.message.Msg.{Msg}
use Rattle.sw_message.specs.declared.message.Msg.TheVariants as message
use Rattle.sw_message.specs.declared.reply.Reply.{Reply}
use Rattle.sw_message.specs.declared.reply.Reply.TheVariants as reply
use Rattle.sw_message.specs.declared.sent.Sent.{Sent}
use Rattle.sw_message.specs.declared.target.Target.{Target}
use Rattle.sw_quorum.proofs.Quorums.{quorums}
use Rattle.sw_law_scene.specs.Scene.{Answer, Message, Scene, StartedDelete, StartedPut, empty_device}
use Rattle.sw_law_owed.specs.Decided.{IsMessageBy, WasDecided, WasDeleted, WasPut, WasStored}
use Rattle.sw_law_owed.specs.Promise.{Made, WasMade}
use Rattle.sw_view.specs.View.{IsFirm, IsSoundView, View, known_to}
use Rattle.sw_view.specs.declared.event.Event.TheVariants.{Handled}
use Rattle.sw_view.proofs.Known.{from_known}
use Rattle.sw_law_view.specs.Replies.{IsPutAt}

-- ---- the scene

abbrev started : Booked → StartedPut
started booked = record { booked = booked; start = 0 }

abbrev deleted : Marked → StartedDelete
deleted marked = record { marked = marked; start = 0 }

abbrev answer_of : Heard → Message
answer_of heard = Answer 0 0 (record { ticket = 0; device = heard.device; msg = heard.msg }) heard.reply

-- what is known, all of it at the first step
abbrev pub scene_of : ClusterModel → Learnt → Scene
scene_of cluster learnt = record {
  cluster = cluster;
  devices = λ device. empty_device;
  messages = map answer_of learnt.heard;
  book = map started learnt.book;
  marks = map deleted learnt.marks;
  losses = [];
  last = None;
  now = 1;
}

module _ (cluster : ClusterModel) (learnt : Learnt) where
  abbrev scene : Scene
  scene = scene_of cluster learnt

  -- ---- from what is known to the scene

  put_in : (place : PlaceModel) (stamp : ℕ) → IsPutAt cluster learnt place stamp → WasPut scene place stamp 1
  put_in place stamp (booked, known, same, placed) = (started booked, Contains-map started learnt.book booked known, same, placed, omega arith)

  pub deleted_in : (place : PlaceModel) (stamp : ℕ) → IsOfDelete cluster learnt.marks place stamp → WasDeleted scene place stamp 1
  deleted_in place stamp (marked, known, same, placed) = (deleted marked, Contains-map deleted learnt.marks marked known, same, placed, omega arith)

  stored_in : (place : PlaceModel) (stamp : ℕ) (target : Target) → IsSynced learnt.heard place stamp target → WasStored scene place stamp 1 target
  stored_in place stamp target (bytes, known) =
      let heard : Heard = record { device = target.device; msg = message.PutFrag place stamp target.index bytes; reply = reply.Synced } in (
        record { at = 0; device = heard.device; msg = heard.msg; reply = heard.reply },
        (0, record { ticket = 0; device = heard.device; msg = heard.msg }, Contains-map answer_of learnt.heard heard known, refl, refl),
        omega arith,
        refl,
        bytes,
        refl,
        refl,
      )

  decided_in : (place : PlaceModel) (stamp : ℕ) → IsDecided cluster learnt.heard place stamp → WasDecided scene place stamp 1
  decided_in place stamp is = record {
    targets = is.targets;
    enough = is.enough;
    apart = record { indices = is.indices; devices = is.devices; homes = is.homes };
    stored = All-weaker (IsSynced learnt.heard place stamp) (WasStored scene place stamp 1) (stored_in place stamp) is.targets is.synced;
  }

  -- ---- and back

  pub put_out : (place : PlaceModel) (stamp : ℕ) → WasPut scene place stamp 1 → IsPutAt cluster learnt place stamp
  put_out place stamp (put, has, same, placed, before) =
      let from = mapped started learnt.book put has in
      (from.0, from.1, ap (λ (one : StartedPut). one.booked.stamp) from.2 ∙ same, ap (λ (one : StartedPut). place_of_name cluster one.booked.name) from.2 ∙ placed)

  pub deleted_out : (place : PlaceModel) (stamp : ℕ) → WasDeleted scene place stamp 1 → IsOfDelete cluster learnt.marks place stamp
  deleted_out place stamp (delete, has, same, placed, before) =
      let from = mapped deleted learnt.marks delete has in
      (from.0, from.1, ap (λ (one : StartedDelete). one.marked.stamp) from.2 ∙ same, ap (λ (one : StartedDelete). place_of_name cluster one.marked.name) from.2 ∙ placed)

  -- a reply of the scene is one that is known
  heard_of : (made : Made) → WasMade scene made → Contains learnt.heard (record { device = made.device; msg = made.msg; reply = made.reply })
  heard_of made (operation, sent, has, devices, messages) =
      let from = mapped answer_of learnt.heard (Answer made.at operation sent made.reply) has in
      let own : Sent = record { ticket = 0; device = from.0.device; msg = from.0.msg } in
      let sents : own ≡ sent = cc (from.2) in
      let replies : from.0.reply ≡ made.reply = cc (from.2) in
      let one : from.0.device ≡ made.device = ap (λ (s : Sent). s.device) sents ∙ devices in
      let two : from.0.msg ≡ made.msg = ap (λ (s : Sent). s.msg) sents ∙ messages in
      subst (λ (d : ℕ). Contains learnt.heard (record { device = d; msg = made.msg; reply = made.reply })) one
      (subst (λ (m : Msg). Contains learnt.heard (record { device = from.0.device; msg = m; reply = made.reply })) two
      (subst (λ (r : Reply). Contains learnt.heard (record { device = from.0.device; msg = from.0.msg; reply = r })) replies from.1))

  synced_out : (place : PlaceModel) (stamp : ℕ) (target : Target) → WasStored scene place stamp 1 target → IsSynced learnt.heard place stamp target
  synced_out place stamp target (made, was_made, before, device, bytes, messages, replies) = (
    bytes,
    subst (λ (d : ℕ). Contains learnt.heard (record { device = d; msg = message.PutFrag place stamp target.index bytes; reply = reply.Synced })) device
        (subst (λ (m : Msg). Contains learnt.heard (record { device = made.device; msg = m; reply = reply.Synced })) messages
        (subst (λ (r : Reply). Contains learnt.heard (record { device = made.device; msg = made.msg; reply = r })) replies (heard_of made was_made))),
  )

  pub decided_out : (place : PlaceModel) (stamp : ℕ) → WasDecided scene place stamp 1 → IsDecided cluster learnt.heard place stamp
  decided_out place stamp is = record {
    targets = is.targets;
    enough = is.enough;
    indices = is.apart.indices;
    devices = is.apart.devices;
    homes = is.apart.homes;
    synced = All-weaker (WasStored scene place stamp 1) (IsSynced learnt.heard place stamp) (synced_out place stamp) is.targets is.stored;
  }

-- ---- messages

-- of some there is one
first_of : (P : Target → Type 0) (targets : List Target) → 1 ≤ length targets → All P targets → (target : Target) × P target
first_of P [] some all = absurd (omega (arith, some))
first_of P (target ∷ targets) some all = (target, All-head P target targets all)

module _ (cluster : ClusterModel) (view : View) (sound : IsSoundView cluster view) where
  abbrev learnt : Learnt
  learnt = known_to cluster view

  put_at : (place : PlaceModel) (stamp index : ℕ) (bytes : List ℕ) → IsOfPut cluster learnt.book place stamp index bytes → IsPutAt cluster learnt place stamp
  put_at place stamp index bytes is = (is.booked, is.known, is.stamp_is, is.place_is)

  -- what a device stored was put
  pub stored_put : (place : PlaceModel) (stamp : ℕ) (target : Target) → IsSynced learnt.heard place stamp target → IsPutAt cluster learnt place stamp
  stored_put place stamp target (bytes, known) = ⊎_elim
      (λ has. put_at place stamp target.index bytes (sound.closed.fair target.device (Handled (message.PutFrag place stamp target.index bytes) reply.Synced) has).1)
      (λ failed. absurd (cc (failed.1)))
      (from_known (ids_of cluster) view _ known)

  -- a decided stamp is of a put
  pub decided_put : (place : PlaceModel) (stamp : ℕ) → IsDecided cluster learnt.heard place stamp → IsPutAt cluster learnt place stamp
  decided_put place stamp is =
      let quorum = quorums cluster.policy sound.rules.policy in
      let first = first_of (IsSynced learnt.heard place stamp) is.targets (omega (arith, quorum.some_commits, quorum.committed, is.enough)) is.synced in
      stored_put place stamp first.0 first.1

  -- a message that is firmly warranted stores, makes durable and buries only what is known
  pub message_by : (msg : Msg) → IsFirm cluster learnt msg → IsMessageBy (scene_of cluster learnt) 1 msg
  message_by (message.PutFrag place stamp index bytes) is = put_in cluster learnt place stamp (put_at place stamp index bytes is)
  message_by (message.Commit place stamp index) is = record { put = put_in cluster learnt place stamp (decided_put place stamp is); decided = λ durable. decided_in cluster learnt place stamp is }
  message_by (message.Delete place stamp) is = deleted_in cluster learnt place stamp is
  message_by (message.Ask place) is = tt
  message_by (message.Fetch place stamp index) is = tt
  message_by (message.Remove place stamp index) is = tt
  message_by message.Parts is = tt
  message_by (message.Suffixes part) is = tt
  message_by (message.Places part) is = tt
