-- A message that is delivered: a request to a device that is up or down, and a reply to its operation.
use Rattle.std.proofs.Common.{◌≡◌, ◌≢◌, inl, inr, ⊎_elim, ℕ, suc, ◌<◌, ◌≤◌, ◌==◌, Bool, true, false, true≢false, not, List, [], ◌∷◌, ◌++◌, length, set, slice_get, Option, Some, None, refl, sym, ap, subst, ◌∙◌, append-nil, arith}
use Rattle.std.proofs.Math.Path.{fun_ext}
use Rattle.std.specs.List.{AllZip}
use Rattle.std.proofs.lemmas.Bool.{and_from, and_right, cases_Bool, cases_eq, cond-false, cond-true, eq-eqb, ne_eqb, true_from_ne_false}
use Rattle.std.proofs.lemmas.Option.{none-some, same_Some, slice_get_within}
use Rattle.sw_ring.specs.Cluster.{ClusterModel, ids_of}
use Rattle.sw_ring.specs.Ring.{is_among}
use Rattle.sw_message.specs.Message.{IsMember}
use Rattle.sw_message.specs.Running.{IsOf}
use Rattle.sw_message.specs.Step.{Folders}
use Rattle.sw_message.specs.Transcript.{after_answer, open_at}
use Rattle.sw_message.specs.declared.reply.Reply.{Reply}
use Rattle.sw_message.specs.declared.sent.Sent.{Sent}
use Rattle.sw_law_scene.specs.Devices.{IsDeviceStep}
use Rattle.sw_law_scene.specs.Disks.{Disk, IsFoundOn, Sure}
use Rattle.sw_law_scene.specs.Moves.{Handles, replies}
use Rattle.sw_law_scene.specs.Scene.{Answer, DeviceState, Message, Request, Scene, is_up, set_disk, with_device}
use Rattle.sw_core.specs.Event.{Comes, Deliver, Happens, TakesAnswer, OnScene, idle, with_scene}
use Rattle.sw_core.specs.World as worlds
use Rattle.sw_core.proofs.Numbered.{numbered-contains}
use Rattle.sw_sim_nodes.specs.Nodes.{CallsUp, NodesModel, devices_of}
use Rattle.sw_sim_exchange.specs.declared.lines.EndLine.{EndLine}
use Rattle.sw_sim_world.specs.Leading.{LeadsByOne}
use Rattle.sw_sim_exchange.specs.Exchange.{Proceeded}
use Rattle.sw_sim_exchange.specs.Letters.{answer_letter, emptied, marked}
use Rattle.sw_sim_world.specs.ScriptedWorld.{ScriptedWorld}
use Rattle.sw_sim_world.specs.Standing.{IsClosed, IsDeviceOf, IsKeptOf, IsLetterOf, StandsFor, WorldModel, exchange_of}
use Rattle.sw_sim_world.specs.Unfolding.{Ended, TellsEnd}
use Rattle.sw_sim_exchange.specs.declared.letter.Content.TheVariants as content
use Rattle.sw_sim_exchange.specs.declared.letter.Letter.{Letter}
use Rattle.sw_sim_exchange.specs.declared.operating.Operating.{Operating}
use Rattle.sw_sim_world.proofs.Ended.{none_ended}
use Rattle.sw_sim_world.proofs.Likeness.{AreClosed, IsLike, alike, leads}
use Rattle.sw_sim_world.proofs.Slots.{Contains-cases, behind-cases, contained, one-item, zip-at, zip-length}
use Rattle.sw_sim_world.proofs.Posts.{IsFresh, IsPost, more-letters, one-delivered}
use Rattle.sw_sim_world.proofs.Telling.{idle-leads, ignored, not-told, told-leads}
use Rattle.sw_sim_world.proofs.HasTold.{HasTold, IsThere, did-nothing, operation-of, went-on}

-- the nodes of a world, and a world with others
abbrev pub nodes_in : WorldModel → (lost : ℕ) → NodesModel
nodes_in model lost = record { cluster = model.cluster; nodes = model.nodes; down = model.down; lost = lost; is_wanting = model.is_wanting }

-- the world with these nodes
abbrev pub with_nodes : WorldModel → NodesModel → WorldModel
with_nodes model nodes = record model { cluster = nodes.cluster; nodes = nodes.nodes; down = nodes.down; is_wanting = nodes.is_wanting }

-- a request was answered: the world of the program, and that of a script
abbrev pub answered_by : WorldModel → (slot : ℕ) → Letter → Reply → NodesModel → WorldModel
answered_by model slot letter reply nodes = record (with_nodes model nodes) { letters = set model.letters slot (marked letter) ++ answer_letter letter.operation letter.ticket letter.device reply ∷ [] }

-- the device with the folders that its node left
abbrev state_of : ScriptedWorld → (device : ℕ) → NodesModel → DeviceState
state_of scripted device nodes = record (scripted.world.scene.devices device) { disk = Sure (devices_of nodes.nodes device) }

-- the scene with the reply
abbrev scene_of : ScriptedWorld → (number : ℕ) → Sent → Reply → NodesModel → Scene
scene_of scripted number sent reply nodes = replies number sent reply (set_disk sent.device (Sure (devices_of nodes.nodes sent.device)) scripted.world.scene)

-- the world of the script in which the request was delivered
abbrev answered : ScriptedWorld → (slot number : ℕ) → Sent → Reply → NodesModel → ScriptedWorld
answered scripted slot number sent reply nodes = record { world = with_scene (scene_of scripted number sent reply nodes) scripted.world; delivered = suc slot ∷ scripted.delivered }

module _ (model : WorldModel) (before : ScriptedWorld) (stands : StandsFor model before) (slot : ℕ) (letter : Letter) (here : slice_get model.letters slot ≡ Some letter) where
  -- a message that was delivered is told no more
  closed-more : ((at number : ℕ) (sent : Sent) (reply : Reply) → slice_get before.world.scene.messages slot ≡ Some (Answer at number sent reply) → IsClosed (worlds.numbered before.world.operations number) sent.ticket)
      → AreClosed before.world.scene.messages (suc slot ∷ before.delivered) before.world.operations
  closed-more this other at number sent reply is has = ⊎_elim
      (λ same. let equal : other ≡ slot = omega (arith, same) in this at number sent reply (subst (λ (n : ℕ). slice_get before.world.scene.messages n ≡ Some (Answer at number sent reply)) equal is))
      (λ later. stands.closed other at number sent reply is later)
      (Contains-cases (suc slot) before.delivered (suc other) has)

  -- ---- a request

  module _ (at number : ℕ) (sent : Sent) (made : slice_get before.world.scene.messages slot ≡ Some (Request at number sent)) where
    -- the letter is that of the request
    is-letter : IsLetterOf letter (Request at number sent)
    is-letter = zip-at IsLetterOf model.letters before.world.scene.messages stands.letters slot letter (Request at number sent) here made

    -- the request may be sent
    pub may : IsOf model.cluster sent.device sent.msg
    may = stands.requests at number sent (numbered-contains before.world.scene.messages (suc slot) (Request at number sent) made)

    -- the letters stand for the messages once it is marked
    post-marked : IsPost model.cluster (set model.letters slot (marked letter)) model.first (length model.operations) before.world.scene.messages (suc slot ∷ before.delivered)
    post-marked = one-delivered model.cluster model.letters model.first (length model.operations) before.world.scene.messages before.delivered (alike model before stands).post slot letter (marked letter) (Request at number sent) here made is-letter refl refl

    -- each reply that was delivered is told no more, for a request is none
    none-closed : AreClosed before.world.scene.messages (suc slot ∷ before.delivered) before.world.operations
    none-closed = closed-more (λ when other one reply is. let apart : Some (Request at number sent) ≡ Some (Answer when other one reply) = sym made ∙ is in absurd (cc))

    -- it is lost where its device is down
    pub lost-leads : is_among model.down sent.device ≡ true → (ends : List EndLine) → LeadsByOne (Deliver (suc slot)) before (record model { letters = set model.letters slot (marked letter) }) ends ends
    lost-leads down ends =
        let is = stands.devices sent.device may.member in
        let not_up : is_up before.world.scene sent.device ≡ false = and_right (is_among (ids_of before.world.scene.cluster) sent.device) (before.world.scene.devices sent.device).is_up (is.is_up ∙ ap not down) in
        idle-leads model before stands (Deliver (suc slot)) (set model.letters slot (marked letter)) (suc slot ∷ before.delivered) post-marked refl ends
        (subst (λ (found : Option Message). Comes found before.world (idle before.world)) (sym made)
        (subst (λ (up : Bool). OnScene up (Handles before.world.scene number sent) before.world (idle before.world)) (sym not_up) refl))
        none-closed

    -- a device that is up handles it, and replies
    module _ (lost : ℕ) (reply : Reply) (after : NodesModel) (calls : CallsUp (nodes_in model lost) sent.device sent.msg reply after) (quiet : after.is_wanting ≡ false) where
      -- the device is up
      up : is_up before.world.scene sent.device ≡ true
      up =
          let is = stands.devices sent.device may.member in
          and_from (is_among (ids_of before.world.scene.cluster) sent.device) (before.world.scene.devices sent.device).is_up
          (subst (λ (cluster : ClusterModel). is_among (ids_of cluster) sent.device ≡ true) (sym stands.cluster_is) may.member) (is.is_up ∙ ap not calls.up)

      -- it handles the request
      handles : Handles before.world.scene number sent (scene_of before number sent reply after)
      handles =
          let is = stands.devices sent.device may.member in
          let same : is.folders ≡ devices_of model.nodes sent.device = fun_ext (λ name. is.same name) in
          record {
            found = is.folders;
            finds = subst (λ (disk : Disk). IsFoundOn before.world.scene.cluster sent.device disk is.folders) (sym is.sure) refl;
            reply = reply;
            folders = devices_of after.nodes sent.device;
            step = subst (λ (cluster : ClusterModel). IsDeviceStep cluster sent.device sent.msg reply is.folders (devices_of after.nodes sent.device)) (sym stands.cluster_is)
                (subst (λ (folders : Folders). IsDeviceStep model.cluster sent.device sent.msg reply folders (devices_of after.nodes sent.device)) (sym same) (calls.handled quiet).handles);
            after_is = refl;
          }

      -- that is what the delivery does
      happens : Happens (Deliver (suc slot)) before.world (answered before slot number sent reply after).world
      happens =
          subst (λ (found : Option Message). Comes found before.world (answered before slot number sent reply after).world) (sym made)
          (subst (λ (is : Bool). OnScene is (Handles before.world.scene number sent) before.world (answered before slot number sent reply after).world) (sym up) (scene_of before number sent reply after, handles, refl))

      -- the device is what its node is
      at-device : IsDeviceOf (answered_by model slot letter reply (record after { cluster = model.cluster; down = model.down })) (answered before slot number sent reply after) sent.device
      at-device =
          let is = stands.devices sent.device may.member in
          let found : with_device sent.device (state_of before sent.device after) before.world.scene.devices sent.device ≡ state_of before sent.device after = cond-true (sent.device == sent.device) (state_of before sent.device after) (before.world.scene.devices sent.device) (eq-eqb sent.device sent.device refl) in
          record {
            folders = devices_of after.nodes sent.device;
            sure = ap (λ (one : DeviceState). one.disk) found;
            same = λ name. refl;
            is_up = ap (λ (one : DeviceState). one.is_up) found ∙ is.is_up;
          }

      -- and so is each other
      at-other : (device : ℕ) → device ≢ sent.device → IsMember model.cluster device → IsDeviceOf (answered_by model slot letter reply (record after { cluster = model.cluster; down = model.down })) (answered before slot number sent reply after) device
      at-other device apart member =
          let is = stands.devices device member in
          let found : with_device sent.device (state_of before sent.device after) before.world.scene.devices device ≡ before.world.scene.devices device = cond-false (device == sent.device) (state_of before sent.device after) (before.world.scene.devices device) (ne_eqb device sent.device apart) in
          record {
            folders = is.folders;
            sure = ap (λ (one : DeviceState). one.disk) found ∙ is.sure;
            same = λ name. is.same name ∙ sym ((calls.handled quiet).others device apart name);
            is_up = ap (λ (one : DeviceState). one.is_up) found ∙ is.is_up;
          }

      -- the letters stand for the messages, with the reply behind them
      post-answered : IsPost model.cluster (set model.letters slot (marked letter) ++ answer_letter letter.operation letter.ticket letter.device reply ∷ []) model.first (length model.operations) (before.world.scene.messages ++ Answer before.world.scene.now number sent reply ∷ []) (suc slot ∷ before.delivered)
      post-answered =
          let range = stands.numbers slot letter here in
          more-letters model.cluster (set model.letters slot (marked letter)) model.first (length model.operations) before.world.scene.messages (suc slot ∷ before.delivered) post-marked
          (answer_letter letter.operation letter.ticket letter.device reply ∷ []) (Answer before.world.scene.now number sent reply ∷ []) ((is-letter.0, is-letter.1, is-letter.2, Some reply, refl, (λ fresh. refl)), tt)
          (one-item (IsFresh (length model.operations)) (answer_letter letter.operation letter.ticket letter.device reply) (refl, range.0, range.1))
          (λ when other one has.
          let found = contained (Answer before.world.scene.now number sent reply ∷ []) (Request when other one) has in
          absurd (one-item (λ (posted : Message). posted ≡ Request when other one → ⊥) (Answer before.world.scene.now number sent reply) (λ apart. absurd (cc)) found.0 (Request when other one) found.1 refl))

      -- the world of the program is like that of the script then
      like : IsLike (answered_by model slot letter reply (record after { cluster = model.cluster; down = model.down })) (answered before slot number sent reply after)
      like = record {
        goes_on = quiet;
        cluster_is = stands.cluster_is;
        clock_is = stands.clock_is;
        last_is = stands.last_is;
        devices = λ device member. ⊎_elim (λ same. subst (IsDeviceOf (answered_by model slot letter reply (record after { cluster = model.cluster; down = model.down })) (answered before slot number sent reply after)) (sym same) at-device) (λ apart. at-other device apart member) (cases_eq device sent.device);
        post = post-answered;
        operations = stands.operations;
        clusters = stands.clusters;
      }

      -- each reply that was delivered is told no more, for the new one was not delivered
      closed : AreClosed (before.world.scene.messages ++ Answer before.world.scene.now number sent reply ∷ []) (suc slot ∷ before.delivered) before.world.operations
      closed other when from one given is has = ⊎_elim
          (λ old. none-closed other when from one given old has)
          (λ new. absurd (⊎_elim
          (λ same. omega (arith, same, new.1, slice_get_within before.world.scene.messages slot (Request at number sent) made))
          (λ later. omega (arith, new.1, stands.within (suc other) later, zip-length IsLetterOf model.letters before.world.scene.messages stands.letters))
          (Contains-cases (suc slot) before.delivered (suc other) has)))
          (behind-cases before.world.scene.messages (Answer before.world.scene.now number sent reply ∷ []) other (Answer when from one given) is)

      -- so the world is led on by the delivery
      pub handled-leads : (ends : List EndLine) → LeadsByOne (Deliver (suc slot)) before (answered_by model slot letter reply after) ends ends
      handled-leads ends =
          subst (λ (cluster : ClusterModel). LeadsByOne (Deliver (suc slot)) before (answered_by model slot letter reply (record after { cluster = cluster })) ends ends) (sym calls.same_cluster)
          (subst (λ (down : List ℕ). LeadsByOne (Deliver (suc slot)) before (answered_by model slot letter reply (record after { cluster = model.cluster; down = down })) ends ends) (sym calls.same_down)
          (leads model before stands (Deliver (suc slot)) (answered_by model slot letter reply (record after { cluster = model.cluster; down = model.down })) (answered before slot number sent reply after) refl happens like closed [] ends ends refl (sym (append-nil ends))
          (subst (λ (ended : List Ended). AllZip TellsEnd ended []) (sym (none_ended 1 before.world.operations)) tt)))

  -- ---- a reply

  module _ (at number : ℕ) (sent : Sent) (reply : Reply) (made : slice_get before.world.scene.messages slot ≡ Some (Answer at number sent reply)) where
    -- the letter is that of the reply
    is-reply : IsLetterOf letter (Answer at number sent reply)
    is-reply = zip-at IsLetterOf model.letters before.world.scene.messages stands.letters slot letter (Answer at number sent reply) here made

    -- the letters stand for the messages once the reply was taken out
    post-emptied : IsPost model.cluster (set model.letters slot (emptied letter)) model.first (length model.operations) before.world.scene.messages (suc slot ∷ before.delivered)
    post-emptied =
        one-delivered model.cluster model.letters model.first (length model.operations) before.world.scene.messages before.delivered (alike model before stands).post slot letter (emptied letter) (Answer at number sent reply) here made
        (is-reply.0, is-reply.1, is-reply.2, None, refl, (λ fresh. absurd (true≢false fresh))) refl refl

    -- what happens as the operation is told is what the delivery does
    comes : (after : worlds.World) → TakesAnswer (worlds.numbered before.world.operations number) number sent.ticket (Some reply) before.world after → Happens (Deliver (suc slot)) before.world after
    comes after is = subst (λ (found : Option Message). Comes found before.world after) (sym made) is

    -- its operation is over
    over-leads : (operation : worlds.Operating) → worlds.numbered before.world.operations number ≡ Some operation → operation.is_over ≡ true → (ends : List EndLine)
        → LeadsByOne (Deliver (suc slot)) before (record model { letters = set model.letters slot (emptied letter) }) ends ends
    over-leads operation there over ends =
        idle-leads model before stands (Deliver (suc slot)) (set model.letters slot (emptied letter)) (suc slot ∷ before.delivered) post-emptied refl ends
        (comes (idle before.world) (not-told before.world (idle before.world) number sent.ticket (Some reply) operation there over refl))
        (closed-more (λ when other one given is.
        let both : Some (Answer at number sent reply) ≡ Some (Answer when other one given) = sym made ∙ is in
        let same : number ≡ other = cc in
        subst (λ (n : ℕ). IsClosed (worlds.numbered before.world.operations n) one.ticket) same
        (subst (λ (found : Option worlds.Operating). IsClosed found one.ticket) (sym there) (λ running. absurd (true≢false (sym over ∙ running))))))

    -- it is running, and is told
    running-leads : (operation : worlds.Operating) → worlds.numbered before.world.operations number ≡ Some operation → operation.is_over ≡ false → (new : WorldModel) (old_ends new_ends : List EndLine)
        → Proceeded number operation.begun (after_answer operation.past sent.ticket (Some reply)) (exchange_of (record model { letters = set model.letters slot (emptied letter) })) (exchange_of new) old_ends new_ends
        → new ≡ record model { letters = new.letters; operations = new.operations } → LeadsByOne (Deliver (suc slot)) before new old_ends new_ends
    running-leads operation there running new old_ends new_ends proceeded rest =
        told-leads model before stands (Deliver (suc slot)) (set model.letters slot (emptied letter)) (suc slot ∷ before.delivered) post-emptied refl
        number sent.ticket (Some reply) operation there running
        (λ other when from one replied made_there contains. ⊎_elim
        (λ same.
        let equal : other ≡ slot = omega (arith, same) in
        let both : Some (Answer at number sent reply) ≡ Some (Answer when from one replied) = sym made ∙ subst (λ (n : ℕ). slice_get before.world.scene.messages n ≡ Some (Answer when from one replied)) equal made_there in
        let one_number : from ≡ number = cc in
        let one_sent : one ≡ sent = cc in
        inr (one_number, ap (λ (that : Sent). that.ticket) one_sent))
        (λ later. inl later)
        (Contains-cases (suc slot) before.delivered (suc other) contains))
        comes new old_ends new_ends proceeded rest

    -- where the letter is marked already, the ticket is closed
    closed-before : (operation : worlds.Operating) → worlds.numbered before.world.operations number ≡ Some operation → operation.is_over ≡ false → letter.is_delivered ≡ true → open_at sent.ticket operation.past ≡ None
    closed-before operation there running delivered =
        subst (λ (one : Option worlds.Operating). IsClosed one sent.ticket) there (stands.closed slot at number sent reply made ((stands.marked slot letter here).0 delivered)) running

    -- and else the letter has the reply that was made
    fresh-reply : (given : Option Reply) → letter.content ≡ content.Answer given → letter.is_delivered ≡ false → given ≡ Some reply
    fresh-reply given has_content fresh =
        let whole : content.Answer given ≡ content.Answer is-reply.3 = sym has_content ∙ is-reply.4 in
        let same : given ≡ is-reply.3 = cc in
        same ∙ is-reply.5 fresh

    -- what is kept of its operation
    at_number : IsThere model before number
    at_number =
        let range = stands.numbers slot letter here in
        operation-of model before stands number (subst (λ (n : ℕ). 0 < n) is-reply.0 range.0) (subst (λ (n : ℕ). n ≤ length model.operations) is-reply.0 range.1)

    module _ (given : Option Reply) (has_content : letter.content ≡ content.Answer given) (kept : Operating) (found : worlds.numbered model.operations number ≡ Some kept) (new : WorldModel) (old_ends new_ends : List EndLine)
        (has : HasTold number sent.ticket given kept (record model { letters = set model.letters slot (emptied letter) }) new old_ends new_ends) where
      -- it is kept of the operation of the number
      is-kept : IsKeptOf kept at_number.operation
      is-kept = subst (λ (one : Operating). IsKeptOf one at_number.operation) (same_Some at_number.kept kept (sym at_number.here ∙ found)) at_number.is

      -- the world is led on, whether the operation is over or not
      by_over : (is_over : Bool) → at_number.operation.is_over ≡ is_over → LeadsByOne (Deliver (suc slot)) before new old_ends new_ends
      by_over true over =
          let nothing = did-nothing number sent.ticket given kept (record model { letters = set model.letters slot (emptied letter) }) new old_ends new_ends has at_number.operation is-kept over in
          subst (λ (left : WorldModel). LeadsByOne (Deliver (suc slot)) before left old_ends new_ends) (sym nothing.0)
          (subst (λ (ends : List EndLine). LeadsByOne (Deliver (suc slot)) before (record model { letters = set model.letters slot (emptied letter) }) old_ends ends) (sym nothing.1)
          (over-leads at_number.operation at_number.there over old_ends))
      by_over false running =
          running-leads at_number.operation at_number.there running new old_ends new_ends
          (went-on number sent.ticket given kept (record model { letters = set model.letters slot (emptied letter) }) new old_ends new_ends has at_number.operation is-kept (Some reply)
          (λ waiting opened. ⊎_elim
          (λ delivered.
          let apart : Some waiting ≡ None = sym opened ∙ closed-before at_number.operation at_number.there running delivered in
          absurd (cc))
          (λ fresh. fresh-reply given has_content fresh)
          (cases_Bool letter.is_delivered))
          found running)
          has.rest

      -- the operation is told it
      pub reply-leads : LeadsByOne (Deliver (suc slot)) before new old_ends new_ends
      reply-leads = by_over at_number.operation.is_over refl

    -- one that was taken out before
    pub empty-leads : letter.content ≡ content.Answer None → (ends : List EndLine) → LeadsByOne (Deliver (suc slot)) before (record model { letters = set model.letters slot (emptied letter) }) ends ends
    empty-leads empty ends = by_over at_number.operation.is_over refl
      where
        was_delivered : letter.is_delivered ≡ true
        was_delivered = true_from_ne_false letter.is_delivered (λ fresh. none-some reply (fresh-reply None empty fresh))

        by_over : (is_over : Bool) → at_number.operation.is_over ≡ is_over → LeadsByOne (Deliver (suc slot)) before (record model { letters = set model.letters slot (emptied letter) }) ends ends
        by_over true over = over-leads at_number.operation at_number.there over ends
        by_over false running =
            running-leads at_number.operation at_number.there running (record model { letters = set model.letters slot (emptied letter) }) ends ends
            (ignored number sent.ticket (Some reply) at_number.operation (exchange_of (record model { letters = set model.letters slot (emptied letter) })) at_number.kept ends at_number.here at_number.is running
            (closed-before at_number.operation at_number.there running was_delivered))
            refl
