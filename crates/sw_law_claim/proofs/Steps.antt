-- What a device's folders bear after it handled a message, and what its reply claims and lists.
use Rattle.std.proofs.Common.{◌≡◌, inl, inr, ℕ, ◌≤◌, false, Contains, Option, Some, None, sym, subst}
use Rattle.sw_types.specs.Stamp.{greatest_stamp}
use Rattle.sw_hashpath.specs.Place.{IsPlace, PlaceModel, folder_of}
use Rattle.sw_hashpath.specs.declared.file_name.FileName.TheVariants.{Tombstone}
use Rattle.sw_hashdir.specs.Listing.{ListingModel}
use Rattle.sw_diskfile.proofs.Directories.{same_or_other}
use Rattle.sw_ring.specs.Cluster.{ClusterModel}
use Rattle.sw_message.specs.Message.{IsPlaceOf, is_primary, place_in}
use Rattle.sw_message.specs.Step.{Folders, IsNodeStep, IsPlaceStep, IsStepAt}
use Rattle.sw_message.specs.Table.{Found, Handling, IsHandled}
use Rattle.sw_message.specs.Warrant.{HasListing}
use Rattle.sw_message.specs.declared.message.Msg.{Msg}
use Rattle.sw_message.specs.declared.reply.Reply.{Reply}
use Rattle.sw_objsrv.specs.Handling.{IsStamped}
use Rattle.sw_hashpath.proofs.Folders.{one_place}
use Rattle.sw_law_claim.specs.Claim.{AsksAway, Claim, Claims, IsBorneBy, IsListedIn}
use Rattle.sw_law_claim.proofs.Rows.{FineAt, ListsNames, handled-fine}
use Rattle.sw_law_claim.proofs.Shown.{listing_has}

module _ (cluster : ClusterModel) (device room : ℕ) (msg : Msg) (before after : Folders) (answer : Reply) (claim : Claim) where
  -- the folder of a place bears the claim
  abbrev Bears : Folders → PlaceModel → Type 0
  Bears folders place = IsBorneBy (is_primary cluster device place) claim (folders (folder_of place))

  -- each row does what its handling does
  abbrev AreFine : Option PlaceModel → Type 0
  AreFine about = (found : Found) (handling : Handling) → IsHandled cluster device found msg handling → FineAt cluster device room before claim msg found handling about

  -- it bears it still, but for an entry that a handoff is asked to remove
  abbrev IsKept : PlaceModel → Type 0
  IsKept place = (is_primary cluster device place ≡ false → AsksAway place claim msg → ⊥) → Bears before place → Bears after place

  -- in the place that the message is about
  kept_here : IsStamped msg → (place : PlaceModel) → AreFine (Some place) → IsPlaceStep cluster device room msg place before after answer → IsKept place
  kept_here stamped place fine step aside borne =
      subst (IsBorneBy (is_primary cluster device place) claim) (sym step.changed.changed) ((fine step.found step.handling step.handled step.is_found).0 stamped aside borne)

  -- and in any
  kept_at : IsStamped msg → (about : Option PlaceModel) → IsPlaceOf cluster about → AreFine about → IsStepAt cluster device room msg about before after answer → (place : PlaceModel) → IsPlace cluster.part_power place → IsKept place
  kept_at stamped None right fine step place is_place = λ aside borne. subst (IsBorneBy (is_primary cluster device place) claim) (sym (step.same (folder_of place))) borne
  kept_at stamped (Some at) right fine step place is_place = elim (same_or_other (folder_of place) (folder_of at)) [
    | inl same ↦ subst IsKept (one_place cluster.part_power at place right is_place (sym same.1)) (kept_here stamped at fine step)
    | inr apart ↦ λ aside borne. subst (IsBorneBy (is_primary cluster device place) claim) (sym (step.changed.others (folder_of place) apart.1)) borne
  ]

  -- what a folder bears it bears still
  pub step_keeps : IsStamped msg → (place : PlaceModel) → IsPlaceOf cluster (place_in msg) → IsPlace cluster.part_power place → IsNodeStep cluster device room msg before after answer → IsKept place
  step_keeps stamped place right is_place step = kept_at stamped (place_in msg) right (λ found handling. handled-fine cluster device room before claim found handling msg) step place is_place

  module _ (place : PlaceModel) (about : place_in msg ≡ Some place) (step : IsNodeStep cluster device room msg before after answer) where
    stepped : IsPlaceStep cluster device room msg place before after answer
    stepped = subst (λ (at : Option PlaceModel). IsStepAt cluster device room msg at before after answer) about step

    fine_here : AreFine (Some place)
    fine_here = subst AreFine about (λ found handling. handled-fine cluster device room before claim found handling msg)

    -- what the reply claims the folder bears
    pub step_bears : IsStamped msg → Claims (is_primary cluster device place) msg answer claim → Bears after place
    step_bears stamped claims =
        subst (IsBorneBy (is_primary cluster device place) claim) (sym stepped.changed.changed)
        ((fine_here stepped.found stepped.handling stepped.handled stepped.is_found).1 stamped (subst (λ (r : Reply). Claims (is_primary cluster device place) msg r claim) stepped.replied claims))

    -- a listing is that of the names that were found
    lists_names : ListsNames stepped.found.names answer
    lists_names listing has = (fine_here stepped.found stepped.handling stepped.handled stepped.is_found).2 listing (subst (λ (r : Reply). HasListing r listing) stepped.replied has)

    -- so it bears what the folder bore
    pub step_lists : (listing : ListingModel) → HasListing answer listing → Bears before place → IsListedIn (is_primary cluster device place) claim listing
    step_lists listing has = listing_has (is_primary cluster device place) claim (before (folder_of place)) stepped.found.names stepped.is_found.directory listing (lists_names listing has)

    -- and the stamp of each tombstone in it is one that there is
    pub step_stamped : (listing : ListingModel) → HasListing answer listing → (stamp : ℕ) → Contains listing.tombstones stamp → stamp ≤ greatest_stamp
    step_stamped listing has stamp there = ((stepped.is_found.directory (Tombstone stamp)).0 (((lists_names listing has).tombstones stamp).0 there)).0
