-- What a disk holds goes on standing for the history where its places are mounted, and an empty disk that is mounted stays empty.
use Rattle.std.proofs.Common.{◌≡◌, inl, inr, ℕ, Bool, true, false, List, [], ◌∷◌, Option, None, Some, refl, sym, ap, subst, ◌∙◌}
use Rattle.std.proofs.Math.Path.{fun_ext}
use Rattle.sw_disk.specs.Folder.{File}
use Rattle.sw_disk.specs.Runs.{IfTold, Past, Seen}
use Rattle.sw_disk.specs.State.{State}
use Rattle.sw_hashpath.specs.Place.{IsPlace, PlaceModel, folder_of}
use Rattle.sw_diskfile.specs.Normal.{AreThoseLeft, IsNormalForm}
use Rattle.sw_diskfile.proofs.Normal.{same_trans}
use Rattle.sw_ring.specs.Cluster.{ClusterModel}
use Rattle.sw_message.specs.Message.{is_primary}
use Rattle.sw_message.specs.Step.{Folders}
use Rattle.sw_message.specs.declared.message.Msg.{Msg}
use Rattle.sw_objsrv.specs.Handling.{folders_of}
use Rattle.sw_objsrv.specs.Mounting.{Mounts}
use Rattle.sw_objsrv.specs.declared.fault.MountFault.{MountFault}
use Rattle.sw_objsrv.specs.declared.fault.MountFault.TheVariants as fault
use Rattle.sw_law_scene.specs.Devices.{capacity_of, no_folders}
use Rattle.sw_law_scene.specs.Disks.{IsFoundOn, IsMounted, IsOfNoPlace, IsSide, Sure, Undecided}
use Rattle.sw_view.specs.History.{Replays}
use Rattle.sw_view.specs.declared.event.Event.{Event}
use Rattle.sw_view.specs.declared.event.Event.TheVariants.{Faulted, Mounted, Replaced}
use Rattle.sw_law_replayed.specs.Keeping.{BeginsReplayed, IsEmptyFor, KeepsRemounted, mounted_events}
use Rattle.sw_law_replayed.specs.Standing.{IsLike, IsReplayed, StandsFor}
use Rattle.sw_law_replayed.proofs.Told.{GoesOn, mounts_told}

-- ---- disks that tell

-- what is so of each state that was told and the one behind it, is so of what is told now
carried : (old new : Option State) (Was Is : State → Type 0) → GoesOn old new → IfTold old Was
    → ((s t : State) → old ≡ Some s → new ≡ Some t → t.capacity ≡ s.capacity → Was s → Is t) → IfTold new Is
carried None new Was Is goes was so = subst (λ (told : Option State). IfTold told Is) (sym goes) tt
carried (Some s) new Was Is goes was so = subst (λ (told : Option State). IfTold told Is) (sym goes.1) (so s goes.0 refl goes.1 goes.2 was)

-- a fact of both states, where both are told
both_told : (old new : Option State) (s t : State) → old ≡ Some s → new ≡ Some t → (P : State → State → Type 0) → IfTold old (λ before. IfTold new (λ after. P before after)) → P s t
both_told old new s t was is P fact =
    subst (λ (told : Option State). IfTold told (P s)) is (subst (λ (told : Option State). IfTold told (λ before. IfTold new (λ after. P before after))) was fact)

-- of no files none are left
none_left : (Goes : List ℕ → Type 0) (files left : List File) → files ≡ [] → AreThoseLeft Goes files left → left ≡ []
none_left Goes files left none those = subst (λ (all : List File). AreThoseLeft Goes all left) none those

-- ---- a mount of a disk that tells

module _ {D : Type 0} (seen : D → Seen) (left_since : D → Past) where
  module _ (cluster : ClusterModel) (device : ℕ) (reason : Option MountFault) (old new : D) (mounts : Mounts seen left_since cluster device reason old new)
      (s t : State) (was : (seen old).told ≡ Some s) (is : (seen new).told ≡ Some t) where
    -- folders of no place are as before
    others : (name : List ℕ) → IsOfNoPlace cluster name → folders_of t name ≡ folders_of s name
    others name none = (both_told (seen old).told (seen new).told s t was is _ (mounts.others.stands name (λ place folder. none place folder.0 folder.1))).files

    -- a side of which the folders are like, they are like behind it
    like_behind : (side : Folders) → IsLike cluster device side (folders_of s) → IsLike cluster device side (folders_of t)
    like_behind side like = record {
      normal = λ place here. same_trans (is_primary cluster device place) (side (folder_of place)) (folders_of s (folder_of place)) (folders_of t (folder_of place))
          (like.normal place here) (both_told (seen old).told (seen new).told s t was is _ (mounts.stands place here));
      others = λ name none. others name none ∙ like.others name none;
    }

    -- each place's folder is in normal form
    normal : reason ≡ None → (place : PlaceModel) → IsPlace cluster.part_power place → IsNormalForm (is_primary cluster device place) (folders_of s (folder_of place)) (folders_of t (folder_of place))
    normal done place here = (both_told (seen old).told (seen new).told s t was is _ (mounts.mounted done place here)).0

    -- once it is done, it has mounted the side of which the folders are like
    found : reason ≡ None → (side : Folders) → IsLike cluster device side (folders_of s) → IsMounted cluster device side (folders_of t)
    found done side like = record {
      normal = λ place here. (like.normal place here (folders_of t (folder_of place))).1 (normal done place here);
      others = λ name none. others name none ∙ like.others name none;
    }

  -- ---- a node mounts its places again

  module _ (cluster : ClusterModel) (device : ℕ) (events : List Event) (msg : Msg) (old new : D) (s t : State) (was : (seen old).told ≡ Some s) (is : (seen new).told ≡ Some t) where
    -- it finds the side of which the folders are like
    is_found : (before after side : Folders) → IsMounted cluster device side (folders_of t) → IsSide (Undecided before after) side → IsFoundOn cluster device (Undecided before after) (folders_of t)
    is_found before after side mounted (inl first) = inl (subst (λ (from : Folders). IsMounted cluster device from (folders_of t)) first mounted)
    is_found before after side mounted (inr second) = inr (subst (λ (from : Folders). IsMounted cluster device from (folders_of t)) second mounted)

    -- what the disk holds stands for the history with the mount, or with the failure
    stands_behind : (reason : Option MountFault) (is_due : Bool) → Mounts seen left_since cluster device reason old new → (reason ≡ None → is_due ≡ false) → ((why : MountFault) → reason ≡ Some why → is_due ≡ true)
        → StandsFor cluster device events true (folders_of s) → StandsFor cluster device (mounted_events msg reason events) is_due (folders_of t)
    stands_behind None is_due mounts done due (before, after, side, replays, is_side, like) =
        subst (λ (due : Bool). StandsFor cluster device (Mounted ∷ events) due (folders_of t)) (sym (done refl))
        (Undecided before after, folders_of t, replays, is_found before after side (found cluster device None old new mounts s t was is refl side like) is_side, refl)
    stands_behind (Some fault.Failed) is_due mounts done due (before, after, side, replays, is_side, like) =
        subst (λ (due : Bool). StandsFor cluster device (Faulted msg ∷ events) due (folders_of t)) (sym (due fault.Failed refl))
        (before, after, side, (Undecided before after, replays, inl refl), is_side, like_behind cluster device (Some fault.Failed) old new mounts s t was is side like)
    stands_behind (Some fault.NoMemory) is_due mounts done due (before, after, side, replays, is_side, like) =
        subst (λ (due : Bool). StandsFor cluster device events due (folders_of t)) (sym (due fault.NoMemory refl))
        (before, after, side, replays, is_side, like_behind cluster device (Some fault.NoMemory) old new mounts s t was is side like)

  -- a node that mounts its places again goes on standing for the history of its device
  pub remounted : KeepsRemounted seen left_since
  remounted cluster events msg reason old new due replayed remounts =
      let goes = mounts_told seen left_since cluster old.device reason old.disk new.disk remounts.mounts in
      record {
        folders = subst (λ (device : ℕ). IfTold (seen new.disk).told (λ state. StandsFor cluster device (mounted_events msg reason events) new.is_due (folders_of state))) (sym remounts.device)
            (carried (seen old.disk).told (seen new.disk).told (λ state. StandsFor cluster old.device events true (folders_of state))
            (λ state. StandsFor cluster old.device (mounted_events msg reason events) new.is_due (folders_of state)) goes
            (subst (λ (is_due : Bool). IfTold (seen old.disk).told (λ state. StandsFor cluster old.device events is_due (folders_of state))) due replayed.folders)
            (λ s t was is size stands. stands_behind cluster old.device events msg old.disk new.disk s t was is reason new.is_due remounts.mounts remounts.is_due remounts.due stands));
        capacity = subst (λ (device : ℕ). IfTold (seen new.disk).told (λ state. state.capacity ≡ capacity_of cluster device)) (sym remounts.device)
            (carried (seen old.disk).told (seen new.disk).told (λ state. state.capacity ≡ capacity_of cluster old.device) (λ state. state.capacity ≡ capacity_of cluster old.device) goes
            replayed.capacity (λ s t was is size holds. size ∙ holds));
      }

  -- ---- an empty disk is mounted

  module _ (cluster : ClusterModel) (device : ℕ) (old new : D) (mounts : Mounts seen left_since cluster device None old new)
      (s t : State) (was : (seen old).told ≡ Some s) (is : (seen new).told ≡ Some t) (empty : (name : List ℕ) → folders_of s name ≡ []) where
    -- a folder with a file is of no place, as nothing is left of one that was empty
    of_no_place : (name : List ℕ) (file : File) (files : List File) → folders_of t name ≡ file ∷ files → IsOfNoPlace cluster name
    of_no_place name file files has place here folder =
        let left = none_left _ _ _ (empty (folder_of place)) (normal cluster device None old new mounts s t was is refl place here).left in
        cc (ap (folders_of t) folder)

    -- so there is none, as a folder of no place is as before
    none_in : (name : List ℕ) (files : List File) → folders_of t name ≡ files → files ≡ []
    none_in name [] has = refl
    none_in name (file ∷ files) has = sym has ∙ others cluster device None old new mounts s t was is name (of_no_place name file files has) ∙ empty name

    stays_empty : folders_of t ≡ no_folders
    stays_empty = fun_ext (λ name. none_in name (folders_of t name) refl)

  -- a node that mounts an empty disk stands for a history that begins there, and for one that goes on with a replacement
  pub begins : BeginsReplayed seen left_since
  begins cluster disk node empty mounted mounts = (replayed (Mounted ∷ []) (Sure no_folders, no_folders, refl, refl, refl), λ events before loss replays. replayed (Replaced loss ∷ events) (before, replays, refl))
    where
      goes : GoesOn (seen disk).told (seen node.disk).told
      goes = mounts_told seen left_since cluster node.device None disk node.disk mounts

      -- of a history after which the disk is empty
      replayed : (events : List Event) → Replays cluster node.device events (Sure no_folders) → IsReplayed cluster seen events node
      replayed events replays = record {
        folders = carried (seen disk).told (seen node.disk).told (IsEmptyFor cluster node.device) (λ state. StandsFor cluster node.device events node.is_due (folders_of state)) goes empty
            (λ s t was is size none. subst (λ (is_due : Bool). StandsFor cluster node.device events is_due (folders_of t)) (sym mounted)
            (subst (λ (folders : Folders). Replays cluster node.device events (Sure folders)) (sym (stays_empty cluster node.device disk node.disk mounts s t was is none.empty)) replays));
        capacity = carried (seen disk).told (seen node.disk).told (IsEmptyFor cluster node.device) (λ state. state.capacity ≡ capacity_of cluster node.device) goes empty
            (λ s t was is size none. size ∙ none.capacity);
      }
