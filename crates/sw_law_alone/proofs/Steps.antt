-- A node that handles a message that reads leaves the folder as it was, and shows the listing of it.
use Rattle.std.proofs.Common.{◌≡◌, inl, inr, ℕ, List, [], refl, sym, ap, subst, ◌∙◌}
use Rattle.sw_disk.specs.Answers.{names_of}
use Rattle.sw_disk.specs.Folder.{Change, File, all_changed}
use Rattle.sw_hashpath.specs.Place.{PlaceModel, folder_of}
use Rattle.sw_hashdir.specs.Directory.{IsDirectory}
use Rattle.sw_hashdir.proofs.Laws.{entry_there}
use Rattle.sw_hashdir.specs.Listing.{IsListingOf, ListingModel}
use Rattle.sw_ring.specs.Cluster.{ClusterModel}
use Rattle.sw_message.specs.Step.{Folders, IsNodeStep, IsPlaceStep}
use Rattle.sw_message.specs.Table.{AskListed, FetchGone, FetchRead, FetchSpoiled, Handling}
use Rattle.sw_message.specs.declared.message.Msg.{Msg}
use Rattle.sw_message.specs.declared.message.Msg.TheVariants as message
use Rattle.sw_message.specs.declared.reply.Reply.{Reply}
use Rattle.sw_get.specs.Causes.{Shows}
use Rattle.sw_law_scene.specs.Disks.{Sure}
use Rattle.sw_law_alone.proofs.Handed.{Reads}
use Rattle.sw_law_alone.proofs.Shown.{Lacks, Tells}

module _ (cluster : ClusterModel) (device room : ℕ) (before after : Folders) (reply : Reply) where
  -- the folder stays, and a listing that the reply shows is that of it
  abbrev pub IsReadOnly : PlaceModel → Msg → Type 0
  IsReadOnly place msg = (after (folder_of place) ≡ before (folder_of place)) × Tells place (Sure after) msg reply

  -- a handling without changes, whose reply shows a listing of the names that were found
  read : (place : PlaceModel) (msg : Msg) (step : IsPlaceStep cluster device room msg place before after reply) (handling : Handling) → step.handling ≡ handling → handling.changes ≡ []
      → ((listing : ListingModel) → Shows msg handling.reply listing → IsListingOf step.found.names listing × Lacks msg listing) → IsReadOnly place msg
  read place msg step handling is none tells =
      let changes : step.handling.changes ≡ [] = ap (λ (one : Handling). one.changes) is ∙ none in
      let same : after (folder_of place) ≡ before (folder_of place) = step.changed.changed ∙ ap (λ (these : List Change). all_changed these (before (folder_of place))) changes in
      let replied : reply ≡ handling.reply = step.replied ∙ ap (λ (one : Handling). one.reply) is in (
        same,
        λ listing shows.
            let was = tells listing (subst (λ (one : Reply). Shows msg one listing) replied shows) in (
              record {
                folders = after;
                sure = refl;
                names = step.found.names;
                directory = subst (λ (files : List File). IsDirectory (names_of files) step.found.names) (sym same) step.is_found.directory;
                lists = was.0;
              },
              was.1,
            ),
      )

  asks : (place : PlaceModel) → IsPlaceStep cluster device room (message.Ask place) place before after reply → IsReadOnly place (message.Ask place)
  asks place step = elim step.handled [
    | AskListed made lists is ↦ read place (message.Ask place) step _ is refl (λ listing shows. (subst (IsListingOf step.found.names) shows lists, tt))
  ]

  fetches : (place : PlaceModel) (stamp index : ℕ) → IsPlaceStep cluster device room (message.Fetch place stamp index) place before after reply → IsReadOnly place (message.Fetch place stamp index)
  fetches place stamp index step = elim step.handled [
    | FetchGone lacks made of_names is ↦
        read place (message.Fetch place stamp index) step _ is refl (λ listing shows.
        let lists = subst (IsListingOf step.found.names) shows of_names in
        (lists, λ durable has. lacks durable (entry_there step.found.names stamp index durable ((lists.entries (record { stamp = stamp; index = index; durable = durable })).0 has))))
    | FetchRead durable has archive is ↦ read place (message.Fetch place stamp index) step _ is refl (λ listing none. absurd none)
    | FetchSpoiled durable has spoil spoils is ↦ read place (message.Fetch place stamp index) step _ is refl (λ listing none. absurd none)
  ]

  -- so does each message that reads the place's folder
  pub read_only : (place : PlaceModel) (msg : Msg) → Reads place msg → IsNodeStep cluster device room msg before after reply → IsReadOnly place msg
  read_only place (message.Ask other) same step = subst (λ (it : PlaceModel). IsReadOnly it (message.Ask other)) same (asks other step)
  read_only place (message.Fetch other stamp index) same step = subst (λ (it : PlaceModel). IsReadOnly it (message.Fetch other stamp index)) same (fetches other stamp index step)
  read_only place (message.PutFrag other stamp index bytes) none step = absurd none
  read_only place (message.Commit other stamp index) none step = absurd none
  read_only place (message.Delete other stamp) none step = absurd none
  read_only place (message.Remove other stamp index) none step = absurd none
  read_only place message.Parts none step = absurd none
  read_only place (message.Suffixes part) none step = absurd none
  read_only place (message.Places part) none step = absurd none
