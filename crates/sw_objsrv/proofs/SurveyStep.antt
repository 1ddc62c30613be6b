-- Messages that are about no place: a node that is in order answers them by its files, and changes none.
use Rattle.std.proofs.Common.{◌≡◌, ◌≢◌, ◌↔◌, ℕ, Contains, List, [], Option, refl, sym, subst}
use Rattle.sw_disk.specs.Answers.{IsBusy}
use Rattle.sw_disk.specs.Folder.{Content}
use Rattle.sw_disk.specs.State.{State}
use Rattle.sw_hashpath.specs.Place.{IsPlace, PlaceModel, folder_of}
use Rattle.sw_hashdir.specs.declared.floor.Floor.{Floor}
use Rattle.sw_diskfile.specs.Changes.{IsAsBefore}
use Rattle.sw_diskfile.proofs.Steps.{changes_by}
use Rattle.sw_ring.specs.Cluster.{ClusterModel}
use Rattle.sw_message.specs.Step.{AreFloors, IsSurveyStep}
use Rattle.sw_message.specs.Survey.{AreParts, ArePlaces, IsSurveyed, survey_calls}
use Rattle.sw_message.specs.declared.message.Msg.{Msg}
use Rattle.sw_message.specs.declared.message.Msg.TheVariants as message
use Rattle.sw_message.specs.declared.reply.Reply.{Reply}
use Rattle.sw_objsrv.specs.Folder.{AreInOrder}
use Rattle.sw_objsrv.specs.Handling.{AreListed, AreKept, IsAnswer, folders_of}
use Rattle.sw_objsrv.proofs.Floors.{are_floors}

-- ---- the answers, told by other words for the same folders and floors

module _ (power : ℕ) (Has Holds : List ℕ → Type 0) (same : (place : PlaceModel) → IsPlace power place → Has (folder_of place) ↔ Holds (folder_of place)) where
  same_parts : (parts : List ℕ) → AreParts power Has parts → AreParts power Holds parts
  same_parts parts are = record {
    all = λ part. (
      λ has. let from = (are.all part).0 has in (from.0, from.1, (same from.0 from.1).0 from.2, from.3),
      λ of. (are.all part).1 (of.0, of.1, (same of.0 of.1).1 of.2, of.3),
    );
    ascend = are.ascend;
  }

  same_places : (part : ℕ) (places : List PlaceModel) → ArePlaces power part Has places → ArePlaces power part Holds places
  same_places part places are = record {
    all = λ place. (
      λ has. let from = (are.all place).0 has in (from.0, (same place from.0).0 from.1, from.2),
      λ of. (are.all place).1 (of.0, (same place of.0).1 of.1, of.2),
    );
    ascend = are.ascend;
  }

  surveyed_too : (Are Also : List (PlaceModel × Floor) → Type 0) → ((floors : List (PlaceModel × Floor)) → Are floors → Also floors) → (message : Msg) (reply : Reply)
      → IsSurveyed power Has Are message reply → IsSurveyed power Holds Also message reply
  surveyed_too Are Also also message.Parts reply is = (is.0, same_parts is.0 is.1, is.2)
  surveyed_too Are Also also (message.Suffixes part) reply is = (is.0, also is.0 is.1, is.2, is.3, is.4)
  surveyed_too Are Also also (message.Places part) reply is = (is.0, same_places part is.0 is.1, is.2)
  surveyed_too Are Also also (message.PutFrag place stamp index bytes) reply is = is
  surveyed_too Are Also also (message.Commit place stamp index) reply is = is
  surveyed_too Are Also also (message.Delete place stamp) reply is = is
  surveyed_too Are Also also (message.Ask place) reply is = is
  surveyed_too Are Also also (message.Fetch place stamp index) reply is = is
  surveyed_too Are Also also (message.Remove place stamp index) reply is = is

-- they are answers
pub survey_answers : (power : ℕ) (Has : List ℕ → Type 0) (Are : List (PlaceModel × Floor) → Type 0) (message : Msg) (reply : Reply) → IsSurveyed power Has Are message reply → IsAnswer reply
survey_answers power Has Are message.Parts reply is = subst IsAnswer (sym is.2) tt
survey_answers power Has Are (message.Suffixes part) reply is = subst IsAnswer (sym is.4) tt
survey_answers power Has Are (message.Places part) reply is = subst IsAnswer (sym is.2) tt
survey_answers power Has Are (message.PutFrag place stamp index bytes) reply is = absurd is
survey_answers power Has Are (message.Commit place stamp index) reply is = absurd is
survey_answers power Has Are (message.Delete place stamp) reply is = absurd is
survey_answers power Has Are (message.Ask place) reply is = absurd is
survey_answers power Has Are (message.Fetch place stamp index) reply is = absurd is
survey_answers power Has Are (message.Remove place stamp index) reply is = absurd is

-- ---- the step

-- where nothing is pending a folder is busy if it has a file
busy_or_not : (cluster : ClusterModel) (device : ℕ) (floors : List (PlaceModel × Floor)) (state : State) (listed : List (List ℕ)) → AreInOrder cluster device floors state
    → ((folder : List ℕ) → Contains listed folder ↔ IsBusy (state.folder folder))
    → (place : PlaceModel) → IsPlace cluster.part_power place → Contains listed (folder_of place) ↔ (folders_of state (folder_of place) ≢ [])
busy_or_not cluster device floors state listed orders busy place is_place = (
  λ has none. (busy (folder_of place)).0 has (none, (orders place is_place).nothing_pending),
  λ some. (busy (folder_of place)).1 (λ both. some both.0),
)

-- of the folders that were listed
folders_step : (cluster : ClusterModel) (device : ℕ) (floors : List (PlaceModel × Floor)) (message : Msg) (reply : Reply) (before after : State) (listed : List (List ℕ)) → AreInOrder cluster device floors before
    → ((folder : List ℕ) → Contains listed folder ↔ IsBusy (before.folder folder)) → IsSurveyed cluster.part_power (Contains listed) (AreKept cluster.part_power floors) message reply
    → ((name : List ℕ) → IsAsBefore (before.folder name) (after.folder name)) → IsSurveyStep cluster message (folders_of before) (folders_of after) reply
folders_step cluster device floors message reply before after listed orders busy surveyed kept = record {
  surveyed = surveyed_too cluster.part_power (Contains listed) (λ folder. folders_of before folder ≢ []) (busy_or_not cluster device floors before listed orders busy)
      (AreKept cluster.part_power floors) (AreFloors cluster.part_power (folders_of before)) (λ others are. are_floors cluster device floors others before are orders) message reply surveyed;
  same = λ name. (kept name).files;
}

pub survey_step : (cluster : ClusterModel) (device : ℕ) (floors : List (PlaceModel × Floor)) (message : Msg) (reply : Reply) (before after : State) (listed : List (List ℕ)) → AreInOrder cluster device floors before
    → AreListed message listed before → IsSurveyed cluster.part_power (Contains listed) (AreKept cluster.part_power floors) message reply
    → ((name : List ℕ) → IsAsBefore (before.folder name) (after.folder name)) → IsSurveyStep cluster message (folders_of before) (folders_of after) reply
survey_step cluster device floors (message.Suffixes part) reply before after listed orders busy surveyed kept = record {
  surveyed = (surveyed.0, are_floors cluster device floors surveyed.0 before surveyed.1 orders, surveyed.2, surveyed.3, surveyed.4);
  same = λ name. (kept name).files;
}
survey_step cluster device floors message.Parts reply before after listed orders busy surveyed kept = folders_step cluster device floors message.Parts reply before after listed orders busy surveyed kept
survey_step cluster device floors (message.Places part) reply before after listed orders busy surveyed kept = folders_step cluster device floors (message.Places part) reply before after listed orders busy surveyed kept
survey_step cluster device floors (message.PutFrag place stamp index bytes) reply before after listed orders busy surveyed kept = absurd surveyed
survey_step cluster device floors (message.Commit place stamp index) reply before after listed orders busy surveyed kept = absurd surveyed
survey_step cluster device floors (message.Delete place stamp) reply before after listed orders busy surveyed kept = absurd surveyed
survey_step cluster device floors (message.Ask place) reply before after listed orders busy surveyed kept = absurd surveyed
survey_step cluster device floors (message.Fetch place stamp index) reply before after listed orders busy surveyed kept = absurd surveyed
survey_step cluster device floors (message.Remove place stamp index) reply before after listed orders busy surveyed kept = absurd surveyed

-- its device calls change no folder
pub survey_quiet : (message : Msg) (name : List ℕ) (temporary : Option Content) → changes_by name (survey_calls message) temporary ≡ []
survey_quiet message.Parts name temporary = refl
survey_quiet (message.Suffixes part) name temporary = refl
survey_quiet (message.Places part) name temporary = refl
survey_quiet (message.PutFrag place stamp index bytes) name temporary = refl
survey_quiet (message.Commit place stamp index) name temporary = refl
survey_quiet (message.Delete place stamp) name temporary = refl
survey_quiet (message.Ask place) name temporary = refl
survey_quiet (message.Fetch place stamp index) name temporary = refl
survey_quiet (message.Remove place stamp index) name temporary = refl
