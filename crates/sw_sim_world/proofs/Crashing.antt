-- The device of a request stops within its handling: what that does to a world.
use Rattle.std.proofs.Common.{◌≡◌, ◌⊎◌, ⊎_elim, ℕ, zero, suc, ◌==◌, ◌||◌, Bool, true, false, true≢false, not, List, [], ◌∷◌, length, slice_get, slice_set, Option, None, Some, Result, Err, IfErr, refl, sym, ap, subst, ◌∙◌, arith}
use Rattle.std.proofs.Math.Bool.{or-false}
use Rattle.std.proofs.lemmas.Bool.{cond-true, eq-eqb, ne_eqb}
use Rattle.std.specs.List.{AllZip}
use Rattle.std.proofs.lemmas.Option.{none-some}
use Rattle.sw_ring.specs.Cluster.{ClusterModel}
use Rattle.sw_ring.specs.Ring.{is_among}
use Rattle.sw_message.specs.Message.{IsMember}
use Rattle.sw_message.specs.Step.{Folders}
use Rattle.sw_message.specs.declared.message.Msg.{Msg}
use Rattle.sw_message.specs.declared.reply.Reply.{Reply}
use Rattle.sw_message.specs.declared.sent.Sent.{Sent}
use Rattle.sw_law_scene.specs.Disks.{Disk, IsHeldWithin, IsLeftOf, Sure}
use Rattle.sw_law_scene.specs.Moves.{Crashes as CrashesScene, ticked}
use Rattle.sw_law_scene.specs.Scene.{Answer, DeviceState, Message, Request, Scene, disk_of, is_up, set_device}
use Rattle.sw_core.specs.Event as core
use Rattle.sw_core.specs.Event.{Happens, OnRequest, OnScene}
use Rattle.sw_core.specs.World.{numbered}
use Rattle.sw_sim_nodes.specs.Crashing.{Crashes, IsCut}
use Rattle.sw_sim_nodes.specs.Nodes.{NodesModel, devices_of}
use Rattle.sw_sim_nodes.proofs.CrashedNodes.{is_down as is_among_down}
use Rattle.sw_sim_exchange.specs.Letters.{marked}
use Rattle.sw_sim_exchange.specs.declared.letter.Content.TheVariants as content
use Rattle.sw_sim_exchange.specs.declared.letter.Letter.{Letter}
use Rattle.sw_script.specs.declared.event.Event.{Event}
use Rattle.sw_script.specs.declared.event.Event.TheVariants as event
use Rattle.sw_script.specs.declared.fault.LineFault.TheVariants.{NoMessage}
use Rattle.sw_sim_world.specs.declared.told.Told.{Told}
use Rattle.sw_sim_world.specs.Doing.{event_fault, request_fault}
use Rattle.sw_sim_world.specs.Leading.{DoesIt, FaultsBy}
use Rattle.sw_sim_world.specs.ScriptedWorld.{ScriptedWorld}
use Rattle.sw_sim_world.specs.Standing.{StandsFor, WorldModel}
use Rattle.sw_sim_world.specs.Unfolding.{IsCutAt}
use Rattle.sw_sim_world.specs.declared.fault.StepFault.{StepFault}
use Rattle.sw_sim_world.specs.declared.fault.StepFault.TheVariants.{NoSuchMessage}
use Rattle.sw_sim_world.proofs.Deliveries.{may, with_nodes}
use Rattle.sw_sim_world.proofs.DeviceChanges.{IsNow, each-now, left_with, moved, moved-stands, none-now, with_one}
use Rattle.sw_sim_world.proofs.DeviceEvents.{disk_is, up_is}
use Rattle.sw_sim_world.proofs.LetterMessages.{IsRequestOf, reply-of, request-of}
use Rattle.sw_sim_world.proofs.Likeness.{AreClosed, alike}
use Rattle.sw_sim_world.proofs.OneEvents.{one-event}
use Rattle.sw_sim_world.proofs.Slots.{Contains-cases}
use Rattle.sw_sim_world.proofs.Posts.{IsPost, one-delivered}

-- ---- messages that there are not

module _ {A B : Type 0} (R : A → B → Type 0) where
  -- where two lists stand side by side, what the first has not the second has not
  none-at : (xs : List A) (ys : List B) → AllZip R xs ys → (slot : ℕ) → slice_get xs slot ≡ None → slice_get ys slot ≡ None
  none-at [] [] all slot none = refl
  none-at [] (y ∷ ys) all slot none = absurd all
  none-at (x ∷ xs) [] all slot none = absurd all
  none-at (x ∷ xs) (y ∷ ys) all zero none = absurd (none-some x (sym none))
  none-at (x ∷ xs) (y ∷ ys) all (suc slot) none = none-at xs ys all.1 slot none

  -- nor, of a number, what the first has not
  pub none-numbered : (xs : List A) (ys : List B) → AllZip R xs ys → (number : ℕ) → numbered xs number ≡ None → numbered ys number ≡ None
  none-numbered xs ys all zero none = refl
  none-numbered xs ys all (suc slot) none = none-at xs ys all slot none

-- a message that there is not is named by a faulty line
pub no-message : {Answered : Type 0} (line : Event) (before : ScriptedWorld) (result : Result Answered StepFault) (fault : StepFault) → result ≡ Err fault → fault ≡ NoSuchMessage → event_fault before line ≡ Some NoMessage
    → (old new : WorldModel) → new ≡ old → IfErr result (λ given. FaultsBy line before given old new)
no-message line before result fault is same faulty old new kept = subst (λ (one : Result _ StepFault). IfErr one (λ given. FaultsBy line before given old new)) (sym (is ∙ ap Err same)) (faulty, kept)

-- the letter of an answer is that of no request
pub no-request : (model : WorldModel) (before : ScriptedWorld) (stands : StandsFor model before) (slot : ℕ) (letter : Letter) → slice_get model.letters slot ≡ Some letter → (given : Option Reply) → letter.content ≡ content.Answer given
    → request_fault (slice_get before.world.scene.messages slot) ≡ Some NoMessage
no-request model before stands slot letter here given says = ap request_fault (reply-of model before stands slot letter here given says).made

-- ---- a crash

-- The device was down and nothing happened to the nodes, or it was up and crashed.
abbrev pub CrashesOrNot : (before : NodesModel) → (device : ℕ) → Msg → (calls pick : ℕ) → (after : NodesModel) → Type 0
CrashesOrNot before device msg calls pick after = ((is_among before.down device ≡ true) × (after ≡ before)) ⊎ ((is_among before.down device ≡ false) × Crashes before device msg calls pick after)

module _ (all : NodesModel) (rest : WorldModel) (before : ScriptedWorld) (stands : StandsFor (with_nodes rest all) before) (slot : ℕ) (letter : Letter) (here : slice_get rest.letters slot ≡ Some letter) (msg : Msg) (content_is : letter.content ≡ content.Request msg)
    (calls pick : ℕ) (told : Told) (none : told ≡ record { sent = []; ends = []; shown = [] }) where
  abbrev model : WorldModel
  model = with_nodes rest all

  abbrev scene : Scene
  scene = before.world.scene

  abbrev ask : IsRequestOf before.world.scene.messages slot letter msg
  ask = request-of model before stands slot letter here msg content_is

  abbrev sent : Sent
  sent = ask.sent

  abbrev line : Event
  line = event.Crash (suc slot) calls pick

  abbrev letters : List Letter
  letters = slice_set rest.letters slot (marked letter)

  abbrev delivered : List ℕ
  delivered = suc slot ∷ before.delivered

  -- its device is one of the cluster, and the line names it
  member : IsMember all.cluster sent.device
  member = (may model before stands slot letter here ask.at ask.number sent ask.made).member

  fine : event_fault before line ≡ None
  fine = ap request_fault ask.made

  -- it counts as delivered
  post : IsPost all.cluster letters rest.first (length rest.operations) scene.messages delivered
  post = one-delivered all.cluster rest.letters rest.first (length rest.operations) scene.messages before.delivered (alike model before stands).post slot letter (marked letter) (Request ask.at ask.number sent) here ask.made ask.is_letter refl refl

  -- and no reply more does
  closed : AreClosed scene.messages delivered before.world.operations
  closed other at number one reply is has = ⊎_elim
      (λ same.
      let equal : other ≡ slot = omega (arith, same) in
      let apart : Some (Request ask.at ask.number sent) ≡ Some (Answer at number one reply) = sym ask.made ∙ subst (λ (n : ℕ). slice_get scene.messages n ≡ Some (Answer at number one reply)) equal is in
      absurd (cc))
      (λ later. stands.closed other at number one reply is later)
      (Contains-cases (suc slot) before.delivered (suc other) has)

  -- there is one request of the number
  same_sent : (at number : ℕ) (one : Sent) → slice_get scene.messages slot ≡ Some (Request at number one) → sent ≡ one
  same_sent at number one made =
      let both : Some (Request ask.at ask.number sent) ≡ Some (Request at number one) = sym ask.made ∙ made in
      cc

  -- what may happen to a request happened
  happened : (after : ScriptedWorld) (up : Bool) → is_up scene sent.device ≡ up → OnScene up (CrashesScene scene sent) before.world after.world → Happens (core.Crash (suc slot)) before.world after.world
  happened after up is happens =
      subst (λ (found : Option Message). OnRequest found (λ operation one. CrashesScene scene one) before.world after.world) (sym ask.made)
      (subst (λ (may : Bool). OnScene may (CrashesScene scene sent) before.world after.world) (sym is) happens)

  -- ---- where the device is down already

  module _ (was_down : is_among all.down sent.device ≡ true) where
    abbrev passed : ScriptedWorld
    passed = moved before scene.devices scene.losses delivered

    -- nothing happens, and nothing is cut short
    not_up : is_up scene sent.device ≡ false
    not_up = up_is model before stands sent.device member ∙ ap not was_down

    not_cut : IsCutAt before (suc slot) calls pick passed
    not_cut = record {
      cut = λ at number one folders image made up sure image_is.
          absurd (true≢false (sym up ∙ ap (λ (that : Sent). is_up scene that.device) (sym (same_sent at number one made)) ∙ not_up));
    }

    pub down-does : DoesIt line before told (left_with model all.nodes all.down letters)
    down-does =
        let happens = happened passed false not_up refl in
        one-event line before fine refl told (core.Crash (suc slot)) passed (left_with model all.nodes all.down letters) (record { happens = happens; delivered = refl }) (refl, not_cut) refl refl refl none
        (moved-stands model before stands scene.losses delivered all.nodes all.down letters (core.Crash (suc slot)) scene.devices happens
        (none-now model before stands scene.losses delivered all.nodes all.down letters (λ other name. refl) (λ other. refl)) post closed)

  -- ---- where it is up

  module _ (up : is_among all.down sent.device ≡ false) (later : NodesModel) (crashes : Crashes all sent.device sent.msg calls pick later) where
    abbrev state : DeviceState
    state = record { disk = Sure (devices_of later.nodes sent.device); is_up = false }

    abbrev crashed : ScriptedWorld
    crashed = moved before (with_one before sent.device state) scene.losses delivered

    -- the device is down, on the disk that is left
    now : IsNow model later.nodes later.down sent.device state
    now = record {
      folders = devices_of later.nodes sent.device;
      sure = refl;
      same = λ name. refl;
      is_up = sym (ap not (is_among_down all sent.device later.down crashes.down));
      others = crashes.others;
      others_down = λ other differs. crashes.down other ∙ ap (λ (b : Bool). is_among all.down other || b) (ne_eqb other sent.device differs) ∙ or-false (is_among all.down other);
    }

    -- what was on its disk
    was : disk_of scene sent.device ≡ Sure (devices_of all.nodes sent.device)
    was = disk_is model before stands sent.device member

    -- that is a crash within the handling
    crashes_scene : CrashesScene scene sent (ticked (set_device sent.device state scene))
    crashes_scene = record {
      image = devices_of later.nodes sent.device;
      left = subst (λ (cluster : ClusterModel). IsLeftOf cluster sent.device (IsHeldWithin cluster sent.device sent.msg (disk_of scene sent.device)) (devices_of later.nodes sent.device)) (sym stands.cluster_is)
          (subst (λ (disk : Disk). IsLeftOf all.cluster sent.device (IsHeldWithin all.cluster sent.device sent.msg disk) (devices_of later.nodes sent.device)) (sym was) crashes.left);
      after_is = refl;
    }

    happens : Happens (core.Crash (suc slot)) before.world crashed.world
    happens = happened crashed true (up_is model before stands sent.device member ∙ ap not up) (ticked (set_device sent.device state scene), crashes_scene, refl)

    -- the disk was cut short
    cut_mine : (folders image : Folders) → disk_of scene sent.device ≡ Sure folders → disk_of crashed.world.scene sent.device ≡ Sure image → IsCut scene.cluster sent.device sent.msg calls pick folders image
    cut_mine folders image sure image_is =
        let found : with_one before sent.device state sent.device ≡ state = cond-true (sent.device == sent.device) state (scene.devices sent.device) (eq-eqb sent.device sent.device refl) in
        let first : Sure (devices_of all.nodes sent.device) ≡ Sure folders = sym was ∙ sure in
        let second : Sure (devices_of later.nodes sent.device) ≡ Sure image = sym (ap (λ (one : DeviceState). one.disk) found) ∙ image_is in
        let from : devices_of all.nodes sent.device ≡ folders = cc in
        let to : devices_of later.nodes sent.device ≡ image = cc in
        subst (λ (cluster : ClusterModel). IsCut cluster sent.device sent.msg calls pick folders image) (sym stands.cluster_is)
        (subst (λ (before : Folders). IsCut all.cluster sent.device sent.msg calls pick before image) from
        (subst (λ (after : Folders). IsCut all.cluster sent.device sent.msg calls pick (devices_of all.nodes sent.device) after) to crashes.cut))

    is_cut : IsCutAt before (suc slot) calls pick crashed
    is_cut = record {
      cut = λ at number one folders image made is_up.
          subst (λ (that : Sent). disk_of scene that.device ≡ Sure folders → disk_of crashed.world.scene that.device ≡ Sure image → IsCut scene.cluster that.device that.msg calls pick folders image) (same_sent at number one made)
          (cut_mine folders image);
    }

    pub up-does : DoesIt line before told (record (with_nodes rest later) { letters = letters })
    up-does =
        subst (λ (nodes : NodesModel). DoesIt line before told (record (with_nodes rest nodes) { letters = letters })) (sym crashes.after_is)
        (one-event line before fine refl told (core.Crash (suc slot)) crashed (left_with model later.nodes later.down letters) (record { happens = happens; delivered = refl }) (refl, is_cut) refl refl refl none
        (moved-stands model before stands scene.losses delivered later.nodes later.down letters (core.Crash (suc slot)) (with_one before sent.device state) happens
        (each-now model before stands scene.losses delivered later.nodes later.down letters sent.device state now) post closed))

  -- ---- either

  -- the line is done
  pub crashes-does : (later : NodesModel) → CrashesOrNot all letter.device msg calls pick later → DoesIt line before told (record (with_nodes rest later) { letters = letters })
  crashes-does later either = ⊎_elim
      (λ is.
      subst (λ (nodes : NodesModel). DoesIt line before told (record (with_nodes rest nodes) { letters = letters })) (sym is.1)
      (down-does (subst (λ (device : ℕ). is_among all.down device ≡ true) ask.is_letter.2 is.0)))
      (λ is.
      up-does (subst (λ (device : ℕ). is_among all.down device ≡ false) ask.is_letter.2 is.0) later
      (subst (λ (device : ℕ). Crashes all device sent.msg calls pick later) ask.is_letter.2 (subst (λ (one : Msg). Crashes all letter.device one calls pick later) (sym ask.msg_is) is.1)))
      either
