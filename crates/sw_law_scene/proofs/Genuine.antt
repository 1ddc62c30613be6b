-- An archive that is read from the files of a place is that of a put.
use Rattle.std.proofs.Common.{◌≡◌, ℕ, Bool, true≢false, List, Option, Some, None, refl, sym, ap, subst, ◌∙◌}
use Rattle.std.specs.Prelude.{IsSome}
use Rattle.std.specs.List.{All}
use Rattle.sw_disk.specs.Folder.{Content, File, content_at}
use Rattle.sw_hashpath.specs.FileName.{file_name_text}
use Rattle.sw_hashpath.specs.Place.{PlaceModel}
use Rattle.sw_hashpath.specs.declared.file_name.FileName.TheVariants.{Data}
use Rattle.sw_hashdir.specs.Directory.{HasEntryAt}
use Rattle.sw_hashdir.proofs.Laws.{entry_there}
use Rattle.sw_diskfile.proofs.Directories.{has_content}
use Rattle.sw_ring.specs.Cluster.{ClusterModel}
use Rattle.sw_archive.specs.Archive.{ArchiveModel, IsArchive}
use Rattle.sw_archive.specs.Put.{put_archive, put_fields}
use Rattle.sw_archive.proofs.Archives.{one_archive, put_is_archive}
use Rattle.sw_message.specs.Learnt.{IsGenuine, IsSoundBook, Learnt}
use Rattle.sw_message.specs.Step.{IsFound}
use Rattle.sw_message.specs.Table.{Found}
use Rattle.sw_message.specs.Warrant.{IsOfPut}
use Rattle.sw_message.specs.declared.reply.Reply.TheVariants as reply
use Rattle.sw_law_scene.specs.Filed.{IsFiled}
use Rattle.sw_law_scene.proofs.Changed.{found_file}

module _ (cluster : ClusterModel) (learnt : Learnt) (sound : IsSoundBook cluster.policy learnt.book) where
  -- the bytes of a put are one archive alone
  of_put : (place : PlaceModel) (stamp index : ℕ) (bytes : List ℕ) → IsOfPut cluster learnt.book place stamp index bytes → IsGenuine cluster learnt (reply.Fragment bytes)
  of_put place stamp index bytes is = λ archive spelled.
      let put = is.booked in
      let text : bytes ≡ put_archive cluster.policy put.stamp put.name put.object index = is.archive ∙ ap (λ (s : ℕ). put_archive cluster.policy s put.name put.object index) (sym is.stamp_is) in
      let one : archive ≡ put_fields cluster.policy put.stamp put.name put.object index =
      one_archive (put_archive cluster.policy put.stamp put.name put.object index) archive (put_fields cluster.policy put.stamp put.name put.object index)
      (subst (λ (b : List ℕ). IsArchive b archive) text spelled)
      (put_is_archive cluster.policy put.stamp put.name put.object index (sound.puts put is.known) is.index_below) in
      (put, is.known, one ∙ ap (λ (i : ℕ). put_fields cluster.policy put.stamp put.name put.object i) (sym (ap (λ (a : ArchiveModel). a.index) one)))

  module _ (place : PlaceModel) (files : List File) (filed : All (IsFiled cluster learnt.book place) files) (room : ℕ) (found : Found) (is : IsFound files room found) (stamp index : ℕ) (durable : Bool) (has : HasEntryAt found.names stamp index durable) where
    by_content : (there : Option Content) → content_at (file_name_text (Data stamp index durable)) files ≡ there → IsSome there → IsOfPut cluster learnt.book place stamp index (found.bytes (Data stamp index durable))
    by_content None same some = absurd (true≢false (sym some))
    by_content (Some content) same some =
        let is_name = ((is.directory (Data stamp index durable)).0 (entry_there found.names stamp index durable has)).0 in
        let from = found_file (IsFiled cluster learnt.book place) files (file_name_text (Data stamp index durable)) content same filed in
        let read : from.0.content.bytes ≡ found.bytes (Data stamp index durable) = ap (λ (c : Content). c.bytes) from.3 ∙ sym (is.bytes (Data stamp index durable) content same) in
        subst (IsOfPut cluster learnt.book place stamp index) read (from.1 stamp index durable is_name from.2)

    -- the bytes of an entry that is there are those of a put
    pub read_of_put : IsOfPut cluster learnt.book place stamp index (found.bytes (Data stamp index durable))
    read_of_put =
        by_content (content_at (file_name_text (Data stamp index durable)) files) refl
        (has_content files (file_name_text (Data stamp index durable)) ((is.directory (Data stamp index durable)).0 (entry_there found.names stamp index durable has)).1)

    -- and so is the archive that is fetched
    pub fetched : IsGenuine cluster learnt (reply.Fragment (found.bytes (Data stamp index durable)))
    fetched = of_put place stamp index (found.bytes (Data stamp index durable)) read_of_put
