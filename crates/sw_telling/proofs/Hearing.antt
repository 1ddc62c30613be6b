-- A call of a link that tells: it has learnt the reply, and its files are those of puts still.
use Rattle.std.proofs.Common.{◌≡◌, ◌∙◌, ℕ, Bool, true, false, Contains, List, Option, Some, None, refl, sym, ap, subst}
use Rattle.std.proofs.lemmas.List.Elements.{Contains-append_left, Contains-push}
use Rattle.sw_types.specs.Policy.{PolicyModel}
use Rattle.sw_message.specs.Learnt.{Keeps, Learnt}
use Rattle.sw_message.specs.Message.{IsPlaceOf, place_in}
use Rattle.sw_message.specs.Running.{Hears, StillTells}
use Rattle.sw_message.specs.Soundly.{is_sound_learnt, stamps_of}
use Rattle.sw_message.specs.Warrant.{IsWarranted}
use Rattle.sw_message.specs.declared.message.Msg.{Msg}
use Rattle.sw_message.specs.declared.reply.Reply.{Reply}
use Rattle.sw_ring.specs.Cluster.{KeepsRules}
use Rattle.sw_sim_nodes.specs.Nodes as nodes
use Rattle.sw_sim_nodes.specs.Nodes.{MemNode, NodesModel, devices_of}
use Rattle.sw_law_scene.specs.Filed.{AreFiled}
use Rattle.sw_law_scene.proofs.Filed.{filed, genuine}
use Rattle.sw_law_scene.proofs.Knowledge.{genuine_kept}
use Rattle.sw_telling.specs.Telling.{IsTelling, Tells, TellingModel, learnt_by, with_reply}
use Rattle.sw_telling.proofs.Tells.{silent_none, sound_book, still_by, tells_all}

module _ (known : Learnt) (device : ℕ) (msg : Msg) where
  pub same_book : (answer : Option Reply) → (with_reply known device msg answer).book ≡ known.book
  same_book None = refl
  same_book (Some reply) = refl

  same_stamps : (answer : Option Reply) → stamps_of (with_reply known device msg answer) ≡ stamps_of known
  same_stamps None = refl
  same_stamps (Some reply) = refl

  same_sound : (policy : PolicyModel) (answer : Option Reply) → is_sound_learnt policy (with_reply known device msg answer) ≡ is_sound_learnt policy known
  same_sound policy None = refl
  same_sound policy (Some reply) = refl

  pub keeps_reply : (answer : Option Reply) → Keeps known (with_reply known device msg answer)
  keeps_reply None = record { book = λ booked has. has; marks = λ marked has. has; heard = λ heard has. has }
  keeps_reply (Some reply) = record { book = λ booked has. has; marks = λ marked has. has; heard = λ heard has. Contains-append_left known.heard _ heard has }

module _ (before : TellingModel) (was : IsTelling before) (device : ℕ) (msg : Msg) (answer : Option Reply) (nodes' : NodesModel)
    (cluster_is : nodes'.cluster ≡ before.nodes.cluster) (calls : nodes.Calls before.nodes device msg answer nodes') (right : IsPlaceOf before.nodes.cluster (place_in msg))
    (warranted : (known : Learnt) → learnt_by before ≡ Some known → IsWarranted before.nodes.cluster known msg) where
  -- ---- the files

  module _ (speaks : before.is_silent ≡ false) (goes_on : nodes'.is_wanting ≡ false) where
    filed_after : (answer : Option Reply) → nodes.Calls before.nodes device msg answer nodes' → AreFiled before.nodes.cluster before.known.book (devices_of nodes'.nodes)
    filed_after None down = subst (λ (all : List MemNode). AreFiled before.nodes.cluster before.known.book (devices_of all)) (sym (ap (λ (model : NodesModel). model.nodes) down.after_is)) (was.tells speaks).filed
    filed_after (Some reply) up = filed before.nodes.cluster before.known device msg reply (devices_of before.nodes.nodes) (devices_of nodes'.nodes)
        (sound_book before (was.tells speaks)) (was.tells speaks).filed right (warranted before.known (tells_all before was speaks)) (up.handled goes_on)

    hears_after : (answer : Option Reply) → nodes.Calls before.nodes device msg answer nodes' → Hears (Some before.nodes.cluster) (Some (with_reply before.known device msg answer)) device msg answer
    hears_after None down = tt
    hears_after (Some reply) up = (
      λ other. Contains-push before.known.heard _,
      genuine_kept before.nodes.cluster before.known (with_reply before.known device msg (Some reply)) (keeps_reply before.known device msg (Some reply)) reply
          (genuine before.nodes.cluster before.known device msg reply (devices_of before.nodes.nodes) (devices_of nodes'.nodes) (sound_book before (was.tells speaks)) (was.tells speaks).filed right (up.handled goes_on)),
    )

  module _ (known' : Learnt) (is_silent' : Bool) (goes : is_silent' ≡ false → (before.is_silent ≡ false) × (nodes'.is_wanting ≡ false) × (known' ≡ with_reply before.known device msg answer)) where
    abbrev after : TellingModel
    after = record before { nodes = nodes'; known = known'; is_silent = is_silent' }

    tells_after : is_silent' ≡ false → Tells after
    tells_after silent =
        let all = goes silent in
        let tells = was.tells all.0 in
        let book : known'.book ≡ before.known.book = ap (λ (known : Learnt). known.book) all.2 ∙ same_book before.known device msg answer in
        record {
          goes_on = all.1;
          sound = rw (cluster_is, all.2) (same_sound before.known device msg before.nodes.cluster.policy answer ∙ tells.sound);
          drawn = λ stamp has. tells.drawn stamp (subst (λ (stamps : List ℕ). Contains stamps stamp) (ap stamps_of all.2 ∙ same_stamps before.known device msg answer) has);
          filed = rw (cluster_is, book) (filed_after all.0 all.1 answer calls);
        }

    after_call : IsTelling after
    after_call = record { rules = subst KeepsRules (sym cluster_is) was.rules; tells = tells_after }

    still_after : StillTells (is_silent' ≡ true) (learnt_by before) (learnt_by after)
    still_after = still_by before after was after_call (λ silent. ((goes silent).0, subst (Keeps before.known) (sym (goes silent).2) (keeps_reply before.known device msg answer)))

    heard_after : Hears (Some nodes'.cluster) (learnt_by after) device msg answer
    heard_after = by_case is_silent' refl
      where
        by_case : (b : Bool) → is_silent' ≡ b → Hears (Some nodes'.cluster) (learnt_by after) device msg answer
        by_case true silent = rw (silent_none after silent) tt
        by_case false silent = rw (tells_all after after_call silent, cluster_is, (goes silent).2) (hears_after (goes silent).0 (goes silent).1 answer calls)

  -- ---- what holds after it

  module _ (after : TellingModel) (after_is : after ≡ record before { nodes = nodes'; known = after.known; is_silent = after.is_silent })
      (goes : after.is_silent ≡ false → (before.is_silent ≡ false) × (nodes'.is_wanting ≡ false) × (after.known ≡ with_reply before.known device msg answer)) where
    pub is_telling : IsTelling after
    is_telling = subst IsTelling (sym after_is) (after_call after.known after.is_silent goes)

    pub still_tells : StillTells (after.is_silent ≡ true) (learnt_by before) (learnt_by after)
    still_tells = subst (λ (one : TellingModel). StillTells (after.is_silent ≡ true) (learnt_by before) (learnt_by one)) (sym after_is) (still_after after.known after.is_silent goes)

    pub hears : Hears (Some after.nodes.cluster) (learnt_by after) device msg answer
    hears = subst (λ (one : TellingModel). Hears (Some one.nodes.cluster) (learnt_by one) device msg answer) (sym after_is) (heard_after after.known after.is_silent goes)
