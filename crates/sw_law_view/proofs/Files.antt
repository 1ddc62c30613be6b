-- Along each history of a sound view: each archive in the files is that of a put that is known, and each name is of what is known.
use Rattle.std.proofs.Common.{◌≡◌, inl, ⊎_elim, ℕ, ◌<◌, ◌+◌, Contains, List, [], ◌∷◌, Option, Some, refl, sym, subst}
use Rattle.std.proofs.lemmas.List.Elements.{All-contains}
use Rattle.sw_hashdir.specs.Listing.{IsListingOf as ListsNames, ListingModel}
use Rattle.sw_hashdir.specs.declared.entry.Entry.{Entry}
use Rattle.sw_hashdir.proofs.Laws.{entry_there}
use Rattle.sw_hashpath.specs.Place.{PlaceModel, folder_of}
use Rattle.sw_hashpath.specs.declared.file_name.FileName.TheVariants.{Data}
use Rattle.sw_diskfile.proofs.Lists.{Contains-cases, Contains-first, Contains-later, Contains-none, mapped}
use Rattle.sw_ring.specs.Cluster.{ClusterModel}
use Rattle.sw_message.specs.Learnt.{IsGenuine, Learnt}
use Rattle.sw_message.specs.Message.{IsPlaceOf, place_in}
use Rattle.sw_message.specs.Step.{Folders, IsPlaceStep, IsStepAt}
use Rattle.sw_message.specs.Warrant.{HasListing, IsWarranted}
use Rattle.sw_message.specs.declared.message.Msg.{Msg}
use Rattle.sw_message.specs.declared.message.Msg.TheVariants as message
use Rattle.sw_message.specs.declared.reply.Reply.{Reply}
use Rattle.sw_law_claim.specs.Claim.{ATombstone, Claim}
use Rattle.sw_law_claim.proofs.Rows.{FineAt, handled-fine}
use Rattle.sw_law_scene.specs.Devices.{IsDeviceStep, no_folders}
use Rattle.sw_law_scene.specs.Disks.{Disk, Sure}
use Rattle.sw_law_scene.specs.Filed.{FoldersFiled, IsDiskFiled, IsFiled}
use Rattle.sw_law_scene.proofs.Filed.{stepped as step_filed}
use Rattle.sw_law_scene.proofs.Held.{failed-filed, found-filed, sure-filed}
use Rattle.sw_law_scene.proofs.Sounds.{empty-filed}
use Rattle.sw_law_owed.specs.Decided.{AreNamesBy, IsReplyBy}
use Rattle.sw_law_owed.proofs.Held.{DiskNames, failed_names, found_names, sure_names}
use Rattle.sw_law_owed.proofs.Steps.{stepped as step_named}
use Rattle.sw_view.specs.History.{Replays}
use Rattle.sw_view.specs.View.{IsFairEvent, IsFirm, IsSoundView, View, known_to}
use Rattle.sw_view.specs.declared.event.Event.{Event}
use Rattle.sw_view.specs.declared.event.Event.TheVariants.{Faulted, Handled, Mounted, Replaced}
use Rattle.sw_view.proofs.Within.{before_of}
use Rattle.sw_law_view.proofs.Fates.{firm_stamped}
use Rattle.sw_law_view.proofs.Timeless.{message_by, scene_of}

-- a firm warrant is a warrant
pub firm_warranted : (cluster : ClusterModel) (learnt : Learnt) (msg : Msg) → IsFirm cluster learnt msg → IsWarranted cluster learnt msg
firm_warranted cluster learnt (message.PutFrag place stamp index bytes) is = is
firm_warranted cluster learnt (message.Commit place stamp index) is = inl is
firm_warranted cluster learnt (message.Delete place stamp) is = inl is
firm_warranted cluster learnt (message.Ask place) is = is
firm_warranted cluster learnt (message.Fetch place stamp index) is = is
firm_warranted cluster learnt (message.Remove place stamp index) is = is
firm_warranted cluster learnt message.Parts is = is
firm_warranted cluster learnt (message.Suffixes part) is = is
firm_warranted cluster learnt (message.Places part) is = is

module _ (cluster : ClusterModel) (view : View) (sound : IsSoundView cluster view) (device : ℕ) where
  abbrev learnt : Learnt
  learnt = known_to cluster view

  abbrev Fair : List Event → Type 0
  Fair events = (event : Event) → Contains events event → IsFairEvent cluster learnt event

  fair_first : (event : Event) (past : List Event) → Fair (event ∷ past) → IsFairEvent cluster learnt event
  fair_first event past fair = fair event (Contains-first event past)

  fair_later : (event : Event) (past : List Event) → Fair (event ∷ past) → Fair past
  fair_later event past fair = λ one has. fair one (Contains-later event past one has)

  -- ---- archives

  pub filed : (events : List Event) (disk : Disk) → Fair events → Replays cluster device events disk → IsDiskFiled cluster learnt.book disk
  filed [] disk fair same = subst (IsDiskFiled cluster learnt.book) (sym same) (empty-filed cluster learnt.book)
  filed (Handled msg given ∷ past) disk fair is =
      let may = fair_first (Handled msg given) past fair in
      let before = filed past (Sure is.0) (fair_later (Handled msg given) past fair) is.2 is.0 refl in
      subst (IsDiskFiled cluster learnt.book) (sym is.4)
      (sure-filed cluster learnt device is.1 ((step_filed cluster learnt is.0 is.1 before device msg given sound.book may.0 is.3).0 (firm_warranted cluster learnt msg may.1)))
  filed (Faulted msg ∷ past) disk fair is =
      let may = fair_first (Faulted msg) past fair in
      failed-filed cluster learnt device msg sound.book may.0 (firm_warranted cluster learnt msg may.1) is.0 disk is.2 (filed past is.0 (fair_later (Faulted msg) past fair) is.1)
  filed (Mounted ∷ past) disk fair is =
      subst (IsDiskFiled cluster learnt.book) (sym is.4)
      (sure-filed cluster learnt device is.1 (found-filed cluster learnt device is.0 is.1 is.3 (filed past is.0 (fair_later Mounted past fair) is.2)))
  filed (Replaced loss ∷ past) disk fair is = subst (IsDiskFiled cluster learnt.book) (sym is.2) (empty-filed cluster learnt.book)

  -- ---- names

  abbrev NamesOf : Disk → Type 0
  NamesOf = DiskNames (scene_of cluster learnt) 1

  none_named : NamesOf (Sure no_folders)
  none_named = sure_names (scene_of cluster learnt) 1 no_folders (λ place name is_place spelt has. absurd (Contains-none _ has))

  pub named : (events : List Event) (disk : Disk) → Fair events → Replays cluster device events disk → NamesOf disk
  named [] disk fair same = subst NamesOf (sym same) none_named
  named (Handled msg given ∷ past) disk fair is =
      let may = fair_first (Handled msg given) past fair in
      let before = named past (Sure is.0) (fair_later (Handled msg given) past fair) is.2 is.0 refl in
      subst NamesOf (sym is.4) (sure_names (scene_of cluster learnt) 1 is.1
      (step_named (scene_of cluster learnt) 1 is.0 is.1 before device msg given may.0 (firm_stamped cluster learnt sound.stamped msg may.1) (message_by cluster view sound msg may.1) is.3).0)
  named (Faulted msg ∷ past) disk fair is =
      let may = fair_first (Faulted msg) past fair in
      failed_names (scene_of cluster learnt) 1 device msg may.0 (firm_stamped cluster learnt sound.stamped msg may.1) (message_by cluster view sound msg may.1) is.0 disk is.2 (named past is.0 (fair_later (Faulted msg) past fair) is.1)
  named (Mounted ∷ past) disk fair is =
      subst NamesOf (sym is.4)
      (sure_names (scene_of cluster learnt) 1 is.1 (found_names (scene_of cluster learnt) 1 device is.0 is.1 is.3 (named past is.0 (fair_later Mounted past fair) is.2)))
  named (Replaced loss ∷ past) disk fair is = subst NamesOf (sym is.2) none_named

  -- ---- replies

  -- a reply comes from a step of the device on folders that are so
  pub record IsStepped (msg : Msg) (given : Reply) : Type 0 where
    pub found : Folders
    pub after : Folders
    pub step : IsDeviceStep cluster device msg given found after
    pub may : IsFairEvent cluster learnt (Handled msg given)
    pub filed : FoldersFiled cluster learnt.book found
    pub named : AreNamesBy (scene_of cluster learnt) 1 found

  pub stepped_at : (msg : Msg) (given : Reply) (events : List Event) (disk : Disk) → Fair events → Replays cluster device events disk → Contains events (Handled msg given) → IsStepped msg given
  stepped_at msg given [] disk fair replays has = absurd (Contains-none _ has)
  stepped_at msg given (event ∷ past) disk fair replays has = ⊎_elim
      (λ same. here (subst (λ one. Fair (one ∷ past)) same fair) (subst (λ one. Replays cluster device (one ∷ past) disk) same replays))
      (λ later. let before = before_of cluster device event past disk replays in stepped_at msg given past before.0 (fair_later event past fair) before.1 later)
      (Contains-cases event past (Handled msg given) has)
    where
      here : Fair (Handled msg given ∷ past) → Replays cluster device (Handled msg given ∷ past) disk → IsStepped msg given
      here fair_so is = record {
        found = is.0;
        after = is.1;
        step = is.3;
        may = fair_first (Handled msg given) past fair_so;
        filed = filed past (Sure is.0) (fair_later (Handled msg given) past fair_so) is.2 is.0 refl;
        named = named past (Sure is.0) (fair_later (Handled msg given) past fair_so) is.2 is.0 refl;
      }

  -- so it shows what is known
  module _ (msg : Msg) (given : Reply) (has : Contains (view.history device) (Handled msg given)) where
    abbrev one : IsStepped msg given
    one = let replay = sound.closed.replayed device in stepped_at msg given (view.history device) replay.0 (sound.closed.fair device) replay.1 has

    pub genuine : IsGenuine cluster learnt given
    genuine = (step_filed cluster learnt one.found one.after one.filed device msg given sound.book one.may.0 one.step).1

    pub reply_by : (place : PlaceModel) → place_in msg ≡ Some place → IsReplyBy (scene_of cluster learnt) place 1 given
    reply_by place there =
        (step_named (scene_of cluster learnt) 1 one.found one.after one.named device msg given one.may.0 (firm_stamped cluster learnt sound.stamped msg one.may.1) (message_by cluster view sound msg one.may.1) one.step).1 place there

    -- and entries of indices below the total alone
    pub below : (place : PlaceModel) (listing : ListingModel) → place_in msg ≡ Some place → HasListing given listing → (entry : Entry) → Contains listing.entries entry → entry.index < cluster.policy.k + cluster.policy.m
    below place listing there shows entry among =
        let claim : Claim = record { stamp = 0; what = ATombstone } in
        let step : IsPlaceStep cluster device one.step.room msg place one.found one.after given = subst (λ (about : Option PlaceModel). IsStepAt cluster device one.step.room msg about one.found one.after given) there one.step.step in
        let fine = subst (FineAt cluster device one.step.room one.found claim msg step.found step.handling) there (handled-fine cluster device one.step.room one.found claim step.found step.handling msg step.handled) in
        let lists : ListsNames step.found.names listing = (fine step.is_found).2 listing (subst (λ (r : Reply). HasListing r listing) step.replied shows) in
        let spelt = (step.is_found.directory (Data entry.stamp entry.index entry.durable)).0 (entry_there step.found.names entry.stamp entry.index entry.durable ((lists.entries entry).0 among)) in
        let file = mapped _ (one.found (folder_of place)) _ spelt.1 in
        (All-contains (IsFiled cluster learnt.book place) (one.found (folder_of place)) file.0 (one.filed place (subst (IsPlaceOf cluster) there one.may.0)) file.1 entry.stamp entry.index entry.durable spelt.0 file.2).index_below
