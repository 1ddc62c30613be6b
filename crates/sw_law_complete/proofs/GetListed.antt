-- What a get was shown is what devices have at its place, and its last round lists all of that.
use Rattle.std.proofs.Common.{◌≡◌, inl, inr, ℕ, ◌+◌, ◌<◌, Bool, true, Contains, List, [], ◌∷◌, Some, refl, sym, ap, subst, ◌∙◌}
use Rattle.std.specs.List.{All}
use Rattle.std.proofs.lemmas.List.Elements.{All-head, All-tail, Contains-append_cases, Contains-append_left, Contains-append_right}
use Rattle.sw_types.specs.Name.{NameModel}
use Rattle.sw_disk.specs.Folder.{File}
use Rattle.sw_hashpath.specs.FileName.{file_name_text}
use Rattle.sw_hashpath.specs.Place.{PlaceModel, folder_of}
use Rattle.sw_hashpath.specs.declared.file_name.FileName.{FileName}
use Rattle.sw_hashpath.specs.declared.file_name.FileName.TheVariants.{Data, Tombstone}
use Rattle.sw_hashdir.specs.Listing.{IsListingOf, ListingModel}
use Rattle.sw_hashdir.specs.declared.floor.Floor.{Floor}
use Rattle.sw_hashdir.specs.declared.floor.FloorKind.{FloorKind}
use Rattle.sw_hashdir.specs.declared.floor.FloorKind.TheVariants as kind
use Rattle.sw_hashdir.specs.Directory.{HasFloorAt}
use Rattle.sw_diskfile.proofs.Lists.{Contains-cases, Contains-first, Contains-none, mapped}
use Rattle.sw_diskfile.proofs.Obsoletes.{AreSame}
use Rattle.sw_message.specs.Floors.{floors_in}
use Rattle.sw_message.specs.Message.{IsMember}
use Rattle.sw_message.specs.Transcript.{Closed, Step}
use Rattle.sw_message.specs.Warrant.{IsOfPut}
use Rattle.sw_message.specs.declared.message.Msg.{Msg}
use Rattle.sw_message.specs.declared.message.Msg.TheVariants as message
use Rattle.sw_message.specs.declared.reply.Reply.{Reply}
use Rattle.sw_message.specs.declared.reply.Reply.TheVariants as reply
use Rattle.sw_message.specs.declared.sent.Sent.{Sent}
use Rattle.sw_quorum.proofs.Places.{place_right}
use Rattle.sw_gather.proofs.Lists.{All-contains}
use Rattle.sw_get.specs.Causes.{IsShown, LastRound, ListsAt}
use Rattle.sw_get.specs.Get.{Begun, Hears, IsMeant, Sends, Turn, ask_message, facts_in, facts_of, floors_shown, listed_by, place_of, shown_by}
use Rattle.sw_get.specs.Meaning.{Brings, Lacks, Lists, Meaning, Misses, asked_meaning}
use Rattle.sw_get.proofs.Shown.{IsTold, all_told, parts}
use Rattle.sw_get.proofs.Turns.{all, now}
use Rattle.sw_law_scene.specs.Disks.{Disk, IsSide}
use Rattle.sw_law_scene.specs.Filed.{IsFiled}
use Rattle.sw_law_scene.specs.Scene.{Scene, known_to}
use Rattle.sw_law_scene.specs.Sound.{IsSoundScene}
use Rattle.sw_law_complete.specs.Complete.{HasDirectory, IsFloorThere, IsHeldThere}
use Rattle.sw_law_complete.proofs.GetFloors.{entry_listed, floor_listed, floor_there}
use Rattle.sw_law_complete.proofs.GetReplies.{AreTrue, IsTrue, fetched_by, held_by}
use Rattle.sw_law_complete.proofs.GetThere.{IsListedAt, get_of, held_true, same_directory}

-- ---- lists

-- what a turn lists is among what all list
in_lists : (turns : List Turn) (sent : Sent) (meaning : Meaning) (one : ℕ × ListingModel) → Contains turns (Hears sent meaning) → Contains (listed_by sent.device sent.msg meaning) one → Contains (facts_of turns).lists one
in_lists [] sent meaning one has is = absurd (Contains-none (Hears sent meaning) has)
in_lists (Sends other ∷ turns) sent meaning one has is = elim (Contains-cases (Sends other) turns (Hears sent meaning) has) [
  | inl this ↦ absurd (cc this)
  | inr later ↦ in_lists turns sent meaning one later is
]
in_lists (Hears other means ∷ turns) sent meaning one has is = elim (Contains-cases (Hears other means) turns (Hears sent meaning) has) [
  | inl this ↦
      let sents : other ≡ sent = cc this in
      let meanings : means ≡ meaning = cc this in
      Contains-append_right (facts_of turns).lists (listed_by other.device other.msg means) one
      (subst (λ (it : Sent). Contains (listed_by it.device it.msg means) one) (sym sents) (subst (λ what. Contains (listed_by sent.device sent.msg what) one) (sym meanings) is))
  | inr later ↦ Contains-append_left (facts_of turns).lists (listed_by other.device other.msg means) one (in_lists turns sent meaning one later is)
]

-- floors of the same names are the same
floor_same : (names others : List FileName) → AreSame names others → (stamp : ℕ) (of : FloorKind) → HasFloorAt names stamp of → HasFloorAt others stamp of
floor_same names others same stamp kind.Durable has = (has.0, (same (Data stamp has.0 true)).0 has.1)
floor_same names others same stamp kind.Tombstone has = (same (Tombstone stamp)).0 has

module _ (scene : Scene) (name : NameModel) (past : List Step) (truly : AreTrue scene (place_of (get_of scene name)) past) where
  abbrev get : Begun
  get = get_of scene name

  abbrev place : PlaceModel
  place = place_of get

  -- ---- what was shown is there

  -- a floor of a listing that a true reply has
  of_listing : (sent : Sent) (given : Reply) → (is : IsTrue scene place sent given) → (listing : ListingModel) → IsListingOf is.names listing → (floor : Floor) → Contains (floors_in listing) floor → IsFloorThere scene place floor
  of_listing sent given is listing lists floor has = (sent.device, is.names, is.there, floor_there is.names listing lists floor has)

  -- a floor that an answer shows
  shown_there : (before : List Turn) (ticket device : ℕ) (msg : Msg) (given : Reply) → IsTrue scene place (record { ticket = ticket; device = device; msg = msg }) given → (meaning : Meaning) → IsMeant get before msg (Some given) meaning
      → (floor : Floor) → Contains (shown_by meaning) floor → IsFloorThere scene place floor
  shown_there before ticket device msg given is (Brings archive) means floor has = absurd (Contains-none floor has)
  shown_there before ticket device msg given is (Misses how) means floor has = absurd (Contains-none floor has)
  shown_there before ticket device (message.Ask other) given is meaning means floor has =
      let held = held_by scene.cluster (known_to scene).book place is.names other given is.says in
      let lists : meaning ≡ Lists held.0 = means ∙ ap (λ one. asked_meaning (Some one)) held.1 in
      of_listing (record { ticket = ticket; device = device; msg = message.Ask other }) given is held.0 held.2 floor (subst (λ what. Contains (shown_by what) floor) lists has)
  shown_there before ticket device (message.Fetch other stamp index) given is meaning means floor has = elim (fetched_by scene.cluster (known_to scene).book place is.names other stamp index given is.says) [
    | inl gone ↦
        let lacks : meaning ≡ Lacks gone.0 = subst (λ one. IsMeant get before (message.Fetch other stamp index) (Some one) meaning) gone.1 means in
        of_listing (record { ticket = ticket; device = device; msg = message.Fetch other stamp index }) given is gone.0 gone.2 floor (subst (λ what. Contains (shown_by what) floor) lacks has)
    | inr sends ↦ absurd (of_fragment sends.0 meaning (subst (λ one. IsMeant get before (message.Fetch other stamp index) (Some one) meaning) sends.1 means) has)
  ]
    where
      of_fragment : (bytes : List ℕ) (what : Meaning) → IsMeant get before (message.Fetch other stamp index) (Some (reply.Fragment bytes)) what → Contains (shown_by what) floor → ⊥
      of_fragment bytes (Brings archive) means has = Contains-none floor has
      of_fragment bytes (Misses how) means has = Contains-none floor has
      of_fragment bytes (Lists listing) none has = none
      of_fragment bytes (Lacks listing) none has = none
  shown_there before ticket device msg given is meaning none floor has = absurd none

  -- floors that turns show
  pub turns_there : (turns : List Turn) → All (IsTold get past) turns → (floor : Floor) → Contains (floors_shown turns) floor → IsFloorThere scene place floor
  turns_there [] told floor has = absurd (Contains-none floor has)
  turns_there (Sends sent ∷ turns) told floor has = turns_there turns (All-tail (IsTold get past) (Sends sent) turns told) floor has
  turns_there (Hears sent meaning ∷ turns) told floor has = elim (Contains-append_cases (floors_shown turns) (shown_by meaning) floor has) [
    | inl before ↦ turns_there turns (All-tail (IsTold get past) (Hears sent meaning) turns told) floor before
    | inr this ↦
        let is = All-head (IsTold get past) (Hears sent meaning) turns told in
        let given = truly sent is.0 is.1 in
        shown_there is.2 sent.ticket sent.device sent.msg given.0 given.2 meaning (subst (λ one. IsMeant get is.2 sent.msg one meaning) given.1 is.3) floor this
  ]

  -- ---- what is there was listed

  -- a listing that a round knows of a device, which was shown
  pub record IsListedIn (turns : List Turn) (device : ℕ) : Type 0 where
    pub listing : ListingModel
    pub known : Contains (facts_in get turns).lists (device, listing)
    pub at : IsListedAt scene name past truly device listing
    pub shown : IsShown past listing

  -- the answer to a question that a round heard
  by_answer : (turns : List Turn) (ticket device : ℕ) (meaning : Meaning) → Contains (now get turns) (Hears (ask_message get ticket device) meaning) → (given : Reply) → IsTrue scene place (ask_message get ticket device) given
      → Contains past (Closed (ask_message get ticket device) (Some given)) → meaning ≡ asked_meaning (Some given) → IsListedIn turns device
  by_answer turns ticket device meaning heard given is told means =
      let held = held_by scene.cluster (known_to scene).book place is.names place given is.says in
      let listing = held.0 in
      let ask = ask_message get ticket device in
      let listed : Contains past (Closed ask (Some (reply.Held listing))) = subst (λ one. Contains past (Closed ask (Some one))) held.1 told in
      let lists : meaning ≡ Lists listing = means ∙ ap (λ one. asked_meaning (Some one)) held.1 in
      let heard_it : Contains (now get turns) (Hears ask (Lists listing)) = subst (λ what. Contains (now get turns) (Hears ask what)) lists heard in
      record {
        listing = listing;
        known = in_lists (now get turns) ask (Lists listing) (device, listing) heard_it (Contains-first (device, listing) []);
        at = held_true scene name past truly ticket device listing listed;
        shown = record { sent = ask; given = reply.Held listing; told = listed; shows = refl };
      }

  module _ (last : LastRound get past) where
    -- each device has answered
    each_listed : (device : ℕ) → IsMember scene.cluster device → IsListedIn last.turns device
    each_listed device member =
        let asked = last.all_answered.each device member in
        let ask = ask_message get asked.ticket device in
        let told_now = (parts (IsTold get past) (all get last.turns) last.turns (all_told get past last.turns last.are)).0 in
        let is = All-contains (IsTold get past) (now get last.turns) (Hears ask asked.meaning) told_now asked.heard in
        let given = truly ask is.0 is.1 in
        by_answer last.turns asked.ticket device asked.meaning asked.heard given.0 given.2 (subst (λ one. Contains past (Closed ask one)) given.1 is.1) (is.3 ∙ ap asked_meaning given.1)

    -- a floor that is there
    pub floor_listed_in : (floor : Floor) → IsFloorThere scene place floor → (device : ℕ) × (is : IsListedIn last.turns device) × Contains (floors_in is.listing) floor
    floor_listed_in floor (device, names, there, has) =
        let is = each_listed device there.member in
        let same = same_directory scene place device names is.at.names there is.at.there in
        (device, is, floor_listed is.at.names is.listing is.at.lists floor (floor_same names is.at.names same floor.stamp floor.kind has))

    module _ (sound : IsSoundScene scene) where
      -- the index of an entry is below the total
      below : (device : ℕ) (names : List FileName) → HasDirectory scene place device names → (stamp index : ℕ) (durable : Bool) → Contains names (Data stamp index durable) → index < scene.cluster.policy.k + scene.cluster.policy.m
      below device names there stamp index durable has =
          let spelled = (there.directory (Data stamp index durable)).0 has in
          let from = mapped (λ (file : File). file.name) (there.folders (folder_of place)) (file_name_text (Data stamp index durable)) spelled.1 in
          let filed = sound.filed device there.folders (subst (λ (disk : Disk). IsSide disk there.folders) (sym there.sure) refl) place (place_right scene.cluster name) in
          let of : IsOfPut scene.cluster (known_to scene).book place stamp index from.0.content.bytes =
          All-contains (IsFiled scene.cluster (known_to scene).book place) (there.folders (folder_of place)) from.0 filed from.1 stamp index durable spelled.0 from.2 in
          of.index_below

      -- an entry that is held
      pub held_listed : (stamp index : ℕ) → IsHeldThere scene place stamp index → (device : ℕ) × ListsAt scene.cluster.policy (facts_in get last.turns).lists stamp (record { index = index; device = device })
      held_listed stamp index (device, names, durable, there, has) =
          let is = each_listed device there.member in
          let same = same_directory scene place device names is.at.names there is.at.there in
          let entry = entry_listed is.at.names is.listing is.at.lists stamp index durable ((same (Data stamp index durable)).0 has) in
          (device, record { below = below device names there stamp index durable has; listing = is.listing; listed = is.known; durable = entry.0; entry = entry.1 })
