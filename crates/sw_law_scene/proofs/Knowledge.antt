-- As more is known, what was warranted, genuine and filed stays so.
use Rattle.std.proofs.Common.{inl, inr, ℕ, List}
use Rattle.std.proofs.lemmas.List.Elements.{All-weaker}
use Rattle.sw_hashpath.specs.Place.{PlaceModel, folder_of}
use Rattle.sw_ring.specs.Cluster.{ClusterModel}
use Rattle.sw_message.specs.Learnt.{HasOwn, Heard, IsGenuine, Keeps, Learnt, Nothing, Own, OwnDelete, OwnPut}
use Rattle.sw_message.specs.Step.{Folders}
use Rattle.sw_message.specs.Warrant.{HeardAt, IsDecided, IsOfDelete, IsOfPut, IsSynced, IsWarranted}
use Rattle.sw_message.specs.declared.message.Msg.{Msg}
use Rattle.sw_message.specs.declared.message.Msg.TheVariants as message
use Rattle.sw_message.specs.declared.reply.Reply.{Reply}
use Rattle.sw_message.specs.declared.reply.Reply.TheVariants as reply
use Rattle.sw_law_scene.specs.Disks.{Disk}
use Rattle.sw_law_scene.specs.Filed.{FoldersFiled, IsDiskFiled, IsFiled}
use Rattle.sw_law_scene.specs.Scene.{Answer, Message, Request}
use Rattle.sw_law_scene.specs.Sound.{MayBeMade}

module _ (old new : Learnt) (keeps : Keeps old new) where
  pub own_kept : (own : Own) → HasOwn own old → HasOwn own new
  own_kept (OwnPut booked) has = keeps.book booked has
  own_kept (OwnDelete marked) has = keeps.marks marked has
  own_kept Nothing has = tt

  heard_kept : (place : PlaceModel) (Shows : Heard → Type 0) → HeardAt old place Shows → HeardAt new place Shows
  heard_kept place Shows at = record { heard = at.heard; known = keeps.heard at.heard at.known; same_place = at.same_place; shows = at.shows }

module _ (cluster : ClusterModel) (old new : Learnt) (keeps : Keeps old new) where
  pub genuine_kept : (given : Reply) → IsGenuine cluster old given → IsGenuine cluster new given
  genuine_kept (reply.Fragment bytes) genuine = λ archive is. let found = genuine archive is in (found.0, keeps.book found.0 found.1, found.2)
  genuine_kept other genuine = tt

  -- ---- warrants

  of_put_kept : (place : PlaceModel) (stamp index : ℕ) (bytes : List ℕ) → IsOfPut cluster old.book place stamp index bytes → IsOfPut cluster new.book place stamp index bytes
  of_put_kept place stamp index bytes is = record {
    booked = is.booked;
    known = keeps.book is.booked is.known;
    stamp_is = is.stamp_is;
    place_is = is.place_is;
    index_below = is.index_below;
    archive = is.archive;
  }

  of_delete_kept : (place : PlaceModel) (stamp : ℕ) → IsOfDelete cluster old.marks place stamp → IsOfDelete cluster new.marks place stamp
  of_delete_kept place stamp (marked, known, same, placed) = (marked, keeps.marks marked known, same, placed)

  decided_kept : (place : PlaceModel) (stamp : ℕ) → IsDecided cluster old.heard place stamp → IsDecided cluster new.heard place stamp
  decided_kept place stamp is = record {
    targets = is.targets;
    enough = is.enough;
    indices = is.indices;
    devices = is.devices;
    homes = is.homes;
    synced = All-weaker (IsSynced old.heard place stamp) (IsSynced new.heard place stamp) (λ target was. (was.0, keeps.heard _ was.1)) is.targets is.synced;
  }

  pub warranted_kept : (msg : Msg) → IsWarranted cluster old msg → IsWarranted cluster new msg
  warranted_kept (message.PutFrag place stamp index bytes) is = of_put_kept place stamp index bytes is
  warranted_kept (message.Commit place stamp index) (inl decided) = inl (decided_kept place stamp decided)
  warranted_kept (message.Commit place stamp index) (inr shown) = inr (heard_kept old new keeps place _ shown)
  warranted_kept (message.Delete place stamp) (inl started) = inl (of_delete_kept place stamp started)
  warranted_kept (message.Delete place stamp) (inr shown) = inr (heard_kept old new keeps place _ shown)
  warranted_kept (message.Remove place stamp index) is = heard_kept old new keeps place _ is
  warranted_kept (message.Ask place) is = tt
  warranted_kept (message.Fetch place stamp index) is = tt
  warranted_kept message.Parts is = tt
  warranted_kept (message.Suffixes part) is = tt
  warranted_kept (message.Places part) is = tt

  -- ---- files

  filed_kept : (folders : Folders) → FoldersFiled cluster old.book folders → FoldersFiled cluster new.book folders
  filed_kept folders filed = λ place right.
      All-weaker (IsFiled cluster old.book place) (IsFiled cluster new.book place)
      (λ file is stamp index durable named same. of_put_kept place stamp index file.content.bytes (is stamp index durable named same))
      (folders (folder_of place)) (filed place right)

  pub disk_kept : (disk : Disk) → IsDiskFiled cluster old.book disk → IsDiskFiled cluster new.book disk
  disk_kept disk filed = λ side is. filed_kept side (filed side is)

  -- ---- messages

  pub made_kept : (posted : Message) → MayBeMade cluster old posted → MayBeMade cluster new posted
  made_kept (Request at operation sent) may = (may.0, warranted_kept sent.msg may.1)
  made_kept (Answer at operation sent given) may = genuine_kept given may
