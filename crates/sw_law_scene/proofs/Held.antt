-- What a disk may hold after a mount, a failure and a crash: each archive in it is that of a put, where it was so before.
use Rattle.std.proofs.Common.{inl, inr, ℕ, Contains, List, [], ◌∷◌, refl, sym, subst}
use Rattle.std.specs.List.{All}
use Rattle.std.proofs.lemmas.List.Elements.{All-cons, All-contains, All-contains_itself, All-head, All-tail, All-weaker}
use Rattle.sw_disk.specs.Folder.{File}
use Rattle.sw_hashpath.specs.Place.{folder_of}
use Rattle.sw_diskfile.specs.Normal.{AreThoseLeft, IsObsoleteText}
use Rattle.sw_ring.specs.Cluster.{ClusterModel}
use Rattle.sw_message.specs.Learnt.{IsSoundBook, Learnt}
use Rattle.sw_message.specs.Message.{IsPlaceOf, is_primary, place_in}
use Rattle.sw_message.specs.Step.{Folders}
use Rattle.sw_message.specs.Warrant.{IsWarranted}
use Rattle.sw_message.specs.declared.message.Msg.{Msg}
use Rattle.sw_message.specs.declared.reply.Reply.{Reply}
use Rattle.sw_law_scene.specs.Devices.{IsDeviceStep}
use Rattle.sw_law_scene.specs.Disks.{Disk, IsFailedBy, IsFoundOn, IsHeldWithin, IsLeftOf, IsMounted, Sure, Undecided}
use Rattle.sw_law_scene.specs.Filed.{FoldersFiled, IsDiskFiled, IsFiled}
use Rattle.sw_law_scene.proofs.Filed.{stepped}

-- what holds of each file of a folder holds of those that are left
left-kept : (P : File → Type 0) (Goes : List ℕ → Type 0) (files left : List File) → AreThoseLeft Goes files left → All P files → All P left
left-kept P Goes [] left is all = subst (All P) (sym is) all
left-kept P Goes (file ∷ files) left (inl (goes, rest)) all = left-kept P Goes files left rest (All-tail P file files all)
left-kept P Goes (file ∷ files) left (inr (stays, rest, same, are)) all =
    subst (All P) (sym same) (All-cons P file rest (All-head P file files all) (left-kept P Goes files rest are (All-tail P file files all)))

module _ (cluster : ClusterModel) (learnt : Learnt) (device : ℕ) where
  abbrev AreOfPuts : Folders → Type 0
  AreOfPuts folders = FoldersFiled cluster learnt.book folders

  abbrev HoldsFiled : Disk → Type 0
  HoldsFiled disk = IsDiskFiled cluster learnt.book disk

  pub sure-filed : (folders : Folders) → AreOfPuts folders → HoldsFiled (Sure folders)
  sure-filed folders filed = λ side is. subst AreOfPuts (sym is) filed

  undecided-filed : (before after : Folders) → AreOfPuts before → AreOfPuts after → HoldsFiled (Undecided before after)
  undecided-filed before after first second side (inl is) = subst AreOfPuts (sym is) first
  undecided-filed before after first second side (inr is) = subst AreOfPuts (sym is) second

  -- ---- mounts

  pub mounted-filed : (before after : Folders) → IsMounted cluster device before after → AreOfPuts before → AreOfPuts after
  mounted-filed before after is filed = λ place right.
      let normal = is.normal place right in
      left-kept (IsFiled cluster learnt.book place) (IsObsoleteText (is_primary cluster device place) normal.names) (before (folder_of place)) (after (folder_of place)) normal.left (filed place right)

  pub found-filed : (disk : Disk) (found : Folders) → IsFoundOn cluster device disk found → HoldsFiled disk → AreOfPuts found
  found-filed (Sure folders) found is filed = filed found is
  found-filed (Undecided before after) found (inl mounted) filed = mounted-filed before found mounted (filed before (inl refl))
  found-filed (Undecided before after) found (inr mounted) filed = mounted-filed after found mounted (filed after (inr refl))

  -- ---- crashes

  pub left-filed : (These : Folders → Type 0) (image : Folders) → IsLeftOf cluster device These image → ((these : Folders) → These these → AreOfPuts these) → AreOfPuts image
  left-filed These image is filed = λ place right.
      All-weaker (Contains (image (folder_of place))) (IsFiled cluster learnt.book place)
      (λ file there.
      let from = is.files place file right there in
      All-contains (IsFiled cluster learnt.book place) (from.0 (folder_of place)) file (filed from.0 from.1 place right) from.2)
      (image (folder_of place)) (All-contains_itself (image (folder_of place)))

  -- ---- what happens within a handling

  module _ (msg : Msg) (sound : IsSoundBook cluster.policy learnt.book) (right : IsPlaceOf cluster (place_in msg)) (warranted : IsWarranted cluster learnt msg) where
    step-filed : (reply : Reply) (before after : Folders) → AreOfPuts before → IsDeviceStep cluster device msg reply before after → AreOfPuts after
    step-filed reply before after filed step = (stepped cluster learnt before after filed device msg reply sound right step).0 warranted

    pub held-filed : (disk : Disk) → HoldsFiled disk → (these : Folders) → IsHeldWithin cluster device msg disk these → AreOfPuts these
    held-filed disk filed these (inl side) = filed these side
    held-filed disk filed these (inr (found, reply, is_found, step)) = step-filed reply found these (found-filed disk found is_found filed) step

    pub failed-filed : (before after : Disk) → IsFailedBy cluster device msg before after → HoldsFiled before → HoldsFiled after
    failed-filed (Sure folders) failed (reply, after, step, same) filed =
        subst HoldsFiled (sym same) (undecided-filed folders after (filed folders refl) (step-filed reply folders after (filed folders refl) step))
    failed-filed (Undecided before after) failed (inl same) filed = subst HoldsFiled (sym same) filed
    failed-filed (Undecided before after) failed (inr (found, later, reply, is_found, step, same)) filed =
        let here = found-filed (Undecided before after) found is_found filed in
        subst HoldsFiled (sym same) (undecided-filed found later here (step-filed reply found later here step))
