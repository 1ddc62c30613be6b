-- What a scene has to bring about for the promises of the one before it to be kept.
use Rattle.std.proofs.Common.{◌≡◌, ◌⊎◌, ⊎_elim, ℕ, ◌<◌, ◌≤◌, Contains, Some, sym, subst, arith}
use Rattle.sw_types.specs.Stamp.{greatest_stamp}
use Rattle.sw_hashdir.specs.Listing.{ListingModel}
use Rattle.sw_hashpath.specs.Place.{PlaceModel}
use Rattle.sw_ring.specs.Cluster.{ClusterModel}
use Rattle.sw_message.specs.Message.{is_primary, place_in}
use Rattle.sw_message.specs.Warrant.{HasListing}
use Rattle.sw_law_claim.specs.Claim.{Claim, IsListedIn}
use Rattle.sw_law_scene.specs.Scene.{Scene}
use Rattle.sw_law_owed.specs.Promise.{BearsAt, Borne, HandedOn, HandedOnBefore, IsClaimed, IsKept, IsListedStill, KeepsPromises, Listed, Lost, LostSince, Made, WasMade}
use Rattle.sw_law_kept.specs.Kept.{AreMarksStamped}
use Rattle.sw_law_kept.proofs.Grown.{GoesOn, claimed_before, handed_still, listed_still, lost_still}

-- ---- stamps

-- the stamp of each tombstone that a reply lists is one that there is
abbrev pub IsListingStamped : Made → Type 0
IsListingStamped made = (place : PlaceModel) (listing : ListingModel) (stamp : ℕ) → place_in made.msg ≡ Some place → HasListing made.reply listing → Contains listing.tombstones stamp → stamp ≤ greatest_stamp

-- what every scene of a run keeps: the promises, and the bounds of stamps
pub record IsPromising (scene : Scene) : Type 0 where
  pub keeps : KeepsPromises scene
  pub marks : AreMarksStamped scene
  pub tombstones : (made : Made) → WasMade scene made → IsListingStamped made

-- ---- news

-- A scene goes on to another, with some new replies. What was borne is kept; the new replies were made now, the last of all, and so
-- what they claim is borne; and their listings bear what was borne, with stamps that there are.
pub record News (before after : Scene) (IsNew : Made → Type 0) : Type 0 where
  pub goes : GoesOn before after
  pub replies : (made : Made) → WasMade after made → WasMade before made ⊎ IsNew made
  pub time : (made : Made) → IsNew made → made.at ≡ before.now
  pub last : (made later : Made) → IsNew made → WasMade after later → made.at < later.at → ⊥
  pub kept : (made : Made) (place : PlaceModel) (claim : Claim) → WasMade before made → place_in made.msg ≡ Some place → BearsAt before made.device place claim → IsKept after made place claim
  pub claimed : (made : Made) (place : PlaceModel) (claim : Claim) → IsNew made → IsClaimed after made place claim → BearsAt after made.device place claim
  pub listed : (made later : Made) (place : PlaceModel) (claim : Claim) (listing : ListingModel) → IsNew later → later.device ≡ made.device → place_in later.msg ≡ Some place → HasListing later.reply listing
      → BearsAt before made.device place claim → IsListedIn (is_primary before.cluster made.device place) claim listing
  pub marks : AreMarksStamped before → AreMarksStamped after
  pub tombstones : (made : Made) → IsNew made → IsListingStamped made

module _ (before after : Scene) (IsNew : Made → Type 0) (news : News before after IsNew) where
  -- what was kept is kept
  kept_on : (made : Made) (place : PlaceModel) (claim : Claim) → WasMade before made → place_in made.msg ≡ Some place → IsKept before made place claim → IsKept after made place claim
  kept_on made place claim was_made there (Lost lost) = Lost (lost_still before after news.goes made.device made.at lost)
  kept_on made place claim was_made there (Borne borne) = news.kept made place claim was_made there borne
  kept_on made place claim was_made there (HandedOn handed) = HandedOn (handed_still before after news.goes made.device place claim before.now after.now news.goes.now handed)

  -- a new listing bears it
  newly_listed : (made later : Made) (place : PlaceModel) (claim : Claim) (listing : ListingModel) → IsNew later → later.device ≡ made.device → place_in later.msg ≡ Some place → HasListing later.reply listing
      → IsKept before made place claim → IsListedStill after made later place claim listing
  newly_listed made later place claim listing new device there has (Lost lost) = LostSince (lost_still before after news.goes made.device made.at lost)
  newly_listed made later place claim listing new device there has (Borne borne) =
      Listed (subst (λ (cluster : ClusterModel). IsListedIn (is_primary cluster made.device place) claim listing) (sym news.goes.cluster) (news.listed made later place claim listing new device there has borne))
  newly_listed made later place claim listing new device there has (HandedOn handed) =
      HandedOnBefore (handed_still before after news.goes made.device place claim before.now later.at (omega (arith, news.time later new)) handed)

  -- the promises are kept
  keeps_on : KeepsPromises before → KeepsPromises after
  keeps_on keeps = record {
    kept = λ made place claim claimed. ⊎_elim
        (λ old. kept_on made place claim old claimed.there (keeps.kept made place claim (claimed_before before after news.goes made place claim old claimed)))
        (λ new. Borne (news.claimed made place claim new claimed))
        (news.replies made claimed.was_made);
    listed = λ made later place claim listing claimed was_made earlier device there has. ⊎_elim
        (λ old.
        let claimed_old = claimed_before before after news.goes made place claim old claimed in
        ⊎_elim
        (λ too. listed_still before after news.goes made later place claim listing (keeps.listed made later place claim listing claimed_old too earlier device there has))
        (λ new. newly_listed made later place claim listing new device there has (keeps.kept made place claim claimed_old))
        (news.replies later was_made))
        (λ new. absurd (news.last made later new was_made earlier))
        (news.replies made claimed.was_made);
  }

  -- and so are the bounds of stamps
  pub promising_on : IsPromising before → IsPromising after
  promising_on promising = record {
    keeps = keeps_on promising.keeps;
    marks = news.marks promising.marks;
    tombstones = λ made was_made. ⊎_elim (promising.tombstones made) (news.tombstones made) (news.replies made was_made);
  }
