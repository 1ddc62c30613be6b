-- A message is handled in one way.
use Rattle.std.proofs.Common.{◌≡◌, ℕ, Bool, true, false, true≢false, refl, Contains, List, IsSome, Option, Some, None, sym, ap, subst, ◌∙◌, arith}
use Rattle.sw_disk.specs.Answers.{names_of}
use Rattle.sw_disk.specs.Folder.{Content, File, content_at}
use Rattle.sw_hashpath.specs.FileName.{file_name_text}
use Rattle.sw_hashpath.specs.Place.{PlaceModel}
use Rattle.sw_hashpath.specs.declared.file_name.FileName.{FileName}
use Rattle.sw_hashpath.specs.declared.file_name.FileName.TheVariants.{Data, Tombstone}
use Rattle.sw_hashdir.specs.Directory.{HasEntryAt}
use Rattle.sw_hashdir.proofs.Laws.{entry_there}
use Rattle.sw_diskfile.proofs.Directories.{has_content}
use Rattle.sw_diskfile.proofs.Obsoletes.{AreSame, one_directory}
use Rattle.sw_ring.specs.Cluster.{ClusterModel}
use Rattle.sw_message.specs.Spoil.{IsArchiveOf, IsSpoil}
use Rattle.sw_message.specs.Step.{IsFound}
use Rattle.sw_message.specs.Table.{AskListed, CommitMissing, CommitRenamed, CommitSuperseded, CommitThere, DeleteSuperseded, DeleteThere, DeleteWritten, FetchGone, FetchRead, FetchSpoiled, Found, Handling, HandlesAsk, HandlesCommit, HandlesDelete, HandlesFetch, HandlesPutFrag, HandlesRemove, IsHandled, PutFragFull, PutFragSpoiled, PutFragStored, PutFragSuperseded, PutFragThere, RemoveDropped, RemoveKept, RemoveMissing}
use Rattle.sw_message.specs.declared.message.Msg.{Msg}
use Rattle.sw_message.specs.declared.message.Msg.TheVariants.{PutFrag, Commit, Delete, Ask, Fetch, Remove, Parts, Suffixes, Places}
use Rattle.sw_message.specs.declared.spoil.Spoil.{Spoil}
use Rattle.sw_message.proofs.Directories.{covered_or_not, one_durable, one_existed, one_floor, one_listing, one_purge, refused_or_allowed, there_or_lacks, turned}
use Rattle.sw_message.proofs.Spoils.{asked_or_spoiled, one_spoil}

-- ---- what is found in a folder

some_content : (content : Option Content) → IsSome content → (c : Content) × (content ≡ Some c)
some_content None some = absurd (true≢false (sym some))
some_content (Some c) some = (c, refl)

module _ (files : List File) (room : ℕ) (first second : Found) (is : IsFound files room first) (also : IsFound files room second) where
  pub same_names : AreSame first.names second.names
  same_names = one_directory (names_of files) first.names second.names is.directory also.directory

  pub same_bytes : (name : FileName) → Contains first.names name → first.bytes name ≡ second.bytes name
  same_bytes name has =
      let there = some_content (content_at (file_name_text name) files) (has_content files (file_name_text name) ((is.directory name).0 has).1) in
      is.bytes name there.0 there.1 ∙ sym (also.bytes name there.0 there.1)

-- ---- row by row

module _ (cluster : ClusterModel) (files : List File) (room : ℕ) (first second : Found) (is : IsFound files room first) (also : IsFound files room second) where
  same : AreSame first.names second.names
  same = same_names files room first second is also

  back : AreSame second.names first.names
  back = turned first.names second.names same

  module _ (place : PlaceModel) (stamp index : ℕ) (bytes : List ℕ) (a b : Handling) where
    spoilt : (spoil : Spoil) → IsArchiveOf cluster place stamp index bytes → IsSpoil cluster place stamp index bytes spoil → ⊥
    spoilt = asked_or_spoiled cluster place stamp index bytes

    level : first.room ≡ second.room
    level = is.room_is ∙ sym also.room_is

    pub one_put : HandlesPutFrag cluster place stamp index bytes first a → HandlesPutFrag cluster place stamp index bytes second b → a ≡ b
    one_put (PutFragSpoiled spoil spoils x) (PutFragSpoiled other spoiled y) = let e = one_spoil cluster place stamp index bytes spoil other spoils spoiled in cc
    one_put (PutFragSpoiled spoil spoils x) (PutFragSuperseded is_archive other covers y) = absurd (spoilt spoil is_archive spoils)
    one_put (PutFragSpoiled spoil spoils x) (PutFragThere is_archive uncovered other there y) = absurd (spoilt spoil is_archive spoils)
    one_put (PutFragSpoiled spoil spoils x) (PutFragFull is_archive uncovered none full y) = absurd (spoilt spoil is_archive spoils)
    one_put (PutFragSpoiled spoil spoils x) (PutFragStored is_archive uncovered none fits y) = absurd (spoilt spoil is_archive spoils)
    one_put (PutFragSuperseded archive floor covered x) (PutFragSpoiled other spoiled y) = absurd (spoilt other archive spoiled)
    one_put (PutFragSuperseded archive floor covered x) (PutFragSuperseded is_archive other covers y) = let e = one_floor first.names second.names same floor other covered.0 covers.0 in cc
    one_put (PutFragSuperseded archive floor covered x) (PutFragThere is_archive uncovered other there y) = absurd (covered_or_not first.names second.names same stamp floor covered uncovered)
    one_put (PutFragSuperseded archive floor covered x) (PutFragFull is_archive uncovered none full y) = absurd (covered_or_not first.names second.names same stamp floor covered uncovered)
    one_put (PutFragSuperseded archive floor covered x) (PutFragStored is_archive uncovered none fits y) = absurd (covered_or_not first.names second.names same stamp floor covered uncovered)
    one_put (PutFragThere archive free durable has x) (PutFragSpoiled other spoiled y) = absurd (spoilt other archive spoiled)
    one_put (PutFragThere archive free durable has x) (PutFragSuperseded is_archive other covers y) = absurd (covered_or_not second.names first.names back stamp other covers free)
    one_put (PutFragThere archive free durable has x) (PutFragThere is_archive uncovered other there y) = cc
    one_put (PutFragThere archive free durable has x) (PutFragFull is_archive uncovered none full y) = absurd (there_or_lacks first.names second.names same stamp index durable has none)
    one_put (PutFragThere archive free durable has x) (PutFragStored is_archive uncovered none fits y) = absurd (there_or_lacks first.names second.names same stamp index durable has none)
    one_put (PutFragFull archive free lacks less x) (PutFragSpoiled other spoiled y) = absurd (spoilt other archive spoiled)
    one_put (PutFragFull archive free lacks less x) (PutFragSuperseded is_archive other covers y) = absurd (covered_or_not second.names first.names back stamp other covers free)
    one_put (PutFragFull archive free lacks less x) (PutFragThere is_archive uncovered other there y) = absurd (there_or_lacks second.names first.names back stamp index other there lacks)
    one_put (PutFragFull archive free lacks less x) (PutFragFull is_archive uncovered none full y) = let e = level in cc
    one_put (PutFragFull archive free lacks less x) (PutFragStored is_archive uncovered none fits y) = absurd (omega (arith, level, less, fits))
    one_put (PutFragStored archive free lacks enough x) (PutFragSpoiled other spoiled y) = absurd (spoilt other archive spoiled)
    one_put (PutFragStored archive free lacks enough x) (PutFragSuperseded is_archive other covers y) = absurd (covered_or_not second.names first.names back stamp other covers free)
    one_put (PutFragStored archive free lacks enough x) (PutFragThere is_archive uncovered other there y) = absurd (there_or_lacks second.names first.names back stamp index other there lacks)
    one_put (PutFragStored archive free lacks enough x) (PutFragFull is_archive uncovered none full y) = absurd (omega (arith, level, enough, full))
    one_put (PutFragStored archive free lacks enough x) (PutFragStored is_archive uncovered none fits y) = cc

  module _ (primary : Bool) (place : PlaceModel) (stamp index : ℕ) (a b : Handling) where
    pub one_commit : HandlesCommit primary place stamp index first a → HandlesCommit primary place stamp index second b → a ≡ b
    one_commit (CommitThere has x) (CommitThere there y) = cc
    one_commit (CommitThere has x) (CommitRenamed is_plain others purges y) = absurd (is_plain.1 ((same (Data stamp index true)).0 has))
    one_commit (CommitThere has x) (CommitSuperseded none other covers y) = absurd (there_or_lacks first.names second.names same stamp index true has none)
    one_commit (CommitThere has x) (CommitMissing none uncovered y) = absurd (there_or_lacks first.names second.names same stamp index true has none)
    one_commit (CommitRenamed plain obsolete purged x) (CommitThere there y) = absurd (plain.1 ((same (Data stamp index true)).1 there))
    one_commit (CommitRenamed plain obsolete purged x) (CommitRenamed is_plain others purges y) = let e = one_purge first.names second.names same primary (Data stamp index true) obsolete others purged purges in cc
    one_commit (CommitRenamed plain obsolete purged x) (CommitSuperseded none other covers y) = absurd (there_or_lacks first.names second.names same stamp index false plain none)
    one_commit (CommitRenamed plain obsolete purged x) (CommitMissing none uncovered y) = absurd (there_or_lacks first.names second.names same stamp index false plain none)
    one_commit (CommitSuperseded lacks floor covered x) (CommitThere there y) = absurd (there_or_lacks second.names first.names back stamp index true there lacks)
    one_commit (CommitSuperseded lacks floor covered x) (CommitRenamed is_plain others purges y) = absurd (there_or_lacks second.names first.names back stamp index false is_plain lacks)
    one_commit (CommitSuperseded lacks floor covered x) (CommitSuperseded none other covers y) = let e = one_floor first.names second.names same floor other covered.0 covers.0 in cc
    one_commit (CommitSuperseded lacks floor covered x) (CommitMissing none uncovered y) = absurd (covered_or_not first.names second.names same stamp floor covered uncovered)
    one_commit (CommitMissing lacks free x) (CommitThere there y) = absurd (there_or_lacks second.names first.names back stamp index true there lacks)
    one_commit (CommitMissing lacks free x) (CommitRenamed is_plain others purges y) = absurd (there_or_lacks second.names first.names back stamp index false is_plain lacks)
    one_commit (CommitMissing lacks free x) (CommitSuperseded none other covers y) = absurd (covered_or_not second.names first.names back stamp other covers free)
    one_commit (CommitMissing lacks free x) (CommitMissing none uncovered y) = cc

  module _ (primary : Bool) (place : PlaceModel) (stamp : ℕ) (a b : Handling) where
    pub one_delete : HandlesDelete primary place stamp first a → HandlesDelete primary place stamp second b → a ≡ b
    one_delete (DeleteSuperseded floor refuses x) (DeleteSuperseded other refused y) = let e = one_floor first.names second.names same floor other refuses.0 refused.0 in cc
    one_delete (DeleteSuperseded floor refuses x) (DeleteThere allowed was told there y) = absurd (refused_or_allowed first.names second.names same stamp floor refuses allowed)
    one_delete (DeleteSuperseded floor refuses x) (DeleteWritten allowed was told none others purges y) = absurd (refused_or_allowed first.names second.names same stamp floor refuses allowed)
    one_delete (DeleteThere allows existed tells has x) (DeleteSuperseded other refused y) = absurd (refused_or_allowed second.names first.names back stamp other refused allows)
    one_delete (DeleteThere allows existed tells has x) (DeleteThere allowed was told there y) = let e = one_existed first.names second.names same existed was tells told in cc
    one_delete (DeleteThere allows existed tells has x) (DeleteWritten allowed was told none others purges y) = absurd (none ((same (Tombstone stamp)).0 has))
    one_delete (DeleteWritten allows existed tells lacks obsolete purged x) (DeleteSuperseded other refused y) = absurd (refused_or_allowed second.names first.names back stamp other refused allows)
    one_delete (DeleteWritten allows existed tells lacks obsolete purged x) (DeleteThere allowed was told there y) = absurd (lacks ((same (Tombstone stamp)).1 there))
    one_delete (DeleteWritten allows existed tells lacks obsolete purged x) (DeleteWritten allowed was told none others purges y) = let e = one_existed first.names second.names same existed was tells told in let o = one_purge first.names second.names same primary (Tombstone stamp) obsolete others purged purges in cc

  one_ask : (place : PlaceModel) (a b : Handling) → HandlesAsk place first a → HandlesAsk place second b → a ≡ b
  one_ask place a b (AskListed listing lists x) (AskListed other listed y) = let e = one_listing first.names second.names same listing other lists listed in cc

  module _ (place : PlaceModel) (stamp index : ℕ) (a b : Handling) where
    read_alike : (durable other : Bool) → HasEntryAt first.names stamp index durable → HasEntryAt second.names stamp index other → first.bytes (Data stamp index durable) ≡ second.bytes (Data stamp index other)
    read_alike durable other has there =
        same_bytes files room first second is also (Data stamp index durable) (entry_there first.names stamp index durable has)
        ∙ ap (λ (d : Bool). second.bytes (Data stamp index d)) (one_durable first.names second.names same stamp index durable other has there)

    one_fetch : HandlesFetch cluster place stamp index first a → HandlesFetch cluster place stamp index second b → a ≡ b
    one_fetch (FetchGone lacks listing lists x) (FetchGone none other listed y) = let e = one_listing first.names second.names same listing other lists listed in cc
    one_fetch (FetchGone lacks listing lists x) (FetchRead other there is_archive y) = absurd (there_or_lacks second.names first.names back stamp index other there lacks)
    one_fetch (FetchGone lacks listing lists x) (FetchSpoiled other there found spoiled y) = absurd (there_or_lacks second.names first.names back stamp index other there lacks)
    one_fetch (FetchRead durable has archive x) (FetchGone none other listed y) = absurd (there_or_lacks first.names second.names same stamp index durable has none)
    one_fetch (FetchRead durable has archive x) (FetchRead other there is_archive y) = let d = one_durable first.names second.names same stamp index durable other has there in let e = read_alike durable other has there in cc
    one_fetch (FetchRead durable has archive x) (FetchSpoiled other there found spoiled y) = absurd (asked_or_spoiled cluster place stamp index (second.bytes (Data stamp index other)) found (subst (IsArchiveOf cluster place stamp index) (read_alike durable other has there) archive) spoiled)
    one_fetch (FetchSpoiled durable has spoil spoils x) (FetchGone none other listed y) = absurd (there_or_lacks first.names second.names same stamp index durable has none)
    one_fetch (FetchSpoiled durable has spoil spoils x) (FetchRead other there is_archive y) = absurd (asked_or_spoiled cluster place stamp index (first.bytes (Data stamp index durable)) spoil (subst (IsArchiveOf cluster place stamp index) (sym (read_alike durable other has there)) is_archive) spoils)
    one_fetch (FetchSpoiled durable has spoil spoils x) (FetchSpoiled other there found spoiled y) = let d = one_durable first.names second.names same stamp index durable other has there in let e = read_alike durable other has there in let o = one_spoil cluster place stamp index (second.bytes (Data stamp index other)) spoil found (subst (λ bytes. IsSpoil cluster place stamp index bytes spoil) e spoils) spoiled in cc

  module _ (primary : Bool) (place : PlaceModel) (stamp index : ℕ) (a b : Handling) where
    pub one_remove : HandlesRemove primary place stamp index first a → HandlesRemove primary place stamp index second b → a ≡ b
    one_remove (RemoveKept own x) (RemoveKept kept y) = cc
    one_remove (RemoveKept own x) (RemoveMissing other none y) = absurd (true≢false (sym own ∙ other))
    one_remove (RemoveKept own x) (RemoveDropped other is_durable there y) = absurd (true≢false (sym own ∙ other))
    one_remove (RemoveMissing handoff lacks x) (RemoveKept kept y) = absurd (true≢false (sym kept ∙ handoff))
    one_remove (RemoveMissing handoff lacks x) (RemoveMissing other none y) = cc
    one_remove (RemoveMissing handoff lacks x) (RemoveDropped other is_durable there y) = absurd (there_or_lacks second.names first.names back stamp index is_durable there lacks)
    one_remove (RemoveDropped handoff durable has x) (RemoveKept kept y) = absurd (true≢false (sym kept ∙ handoff))
    one_remove (RemoveDropped handoff durable has x) (RemoveMissing other none y) = absurd (there_or_lacks first.names second.names same stamp index durable has none)
    one_remove (RemoveDropped handoff durable has x) (RemoveDropped other is_durable there y) = let d = one_durable first.names second.names same stamp index durable is_durable has there in cc

  pub one_handling : (device : ℕ) (message : Msg) (a b : Handling) → IsHandled cluster device first message a → IsHandled cluster device second message b → a ≡ b
  one_handling device (PutFrag place stamp index bytes) a b x y = one_put place stamp index bytes a b x y
  one_handling device (Commit place stamp index) a b x y = one_commit _ place stamp index a b x y
  one_handling device (Delete place stamp) a b x y = one_delete _ place stamp a b x y
  one_handling device (Ask place) a b x y = one_ask place a b x y
  one_handling device (Fetch place stamp index) a b x y = one_fetch place stamp index a b x y
  one_handling device (Remove place stamp index) a b x y = one_remove _ place stamp index a b x y
  one_handling device Parts a b x y = absurd x
  one_handling device (Suffixes part) a b x y = absurd x
  one_handling device (Places part) a b x y = absurd x
