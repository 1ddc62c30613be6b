-- A device that has one archive makes it durable, lists it, and reads it.
use Rattle.std.proofs.Common.{◌≡◌, ◌⊎◌, inl, inr, ⊎_elim, ℕ, ◌<◌, ◌-◌, Bool, true, false, cond, Contains, List, [], ◌∷◌, sum_by, Some, None, refl, sym, ap, subst, ◌∙◌, arith}
use Rattle.std.proofs.lemmas.Option.{none-some, same_Some}
use Rattle.sw_disk.specs.Calls.{ReadFile}
use Rattle.sw_disk.specs.Folder.{Content, File, Rename, all_changed, content_of, same_name}
use Rattle.sw_disk.proofs.Images.{same_name-refl}
use Rattle.sw_hashpath.specs.FileName.{IsFileName, file_name_text}
use Rattle.sw_hashpath.specs.Place.{PlaceModel, folder_of}
use Rattle.sw_hashpath.specs.declared.file_name.FileName.{FileName}
use Rattle.sw_hashpath.specs.declared.file_name.FileName.TheVariants.{Data, Tombstone}
use Rattle.sw_hashdir.specs.Directory.{HasEntry, HasFloorAt, IsDirectory}
use Rattle.sw_hashdir.proofs.Laws.{entry_there}
use Rattle.sw_hashdir.specs.Listing.{IsListingOf, ListingModel}
use Rattle.sw_hashdir.specs.Obsolete.{IsObsolete}
use Rattle.sw_hashdir.specs.declared.entry.Entry.{Entry}
use Rattle.sw_hashdir.specs.declared.floor.FloorKind.{FloorKind}
use Rattle.sw_hashdir.specs.declared.floor.FloorKind.TheVariants as kind
use Rattle.sw_hashdir.proofs.Texts.{one_text}
use Rattle.sw_diskfile.specs.Calls.{commit_calls}
use Rattle.sw_diskfile.proofs.Directories.{other_name}
use Rattle.sw_diskfile.proofs.Lists.{Contains-cases, Contains-first, Contains-none}
use Rattle.sw_ring.specs.Cluster.{ClusterModel}
use Rattle.sw_message.specs.Message.{is_primary}
use Rattle.sw_message.specs.Spoil.{IsArchiveOf}
use Rattle.sw_message.specs.Step.{AreChanged, Folders, IsFound}
use Rattle.sw_message.specs.Table.{ArePurged, AskListed, CommitRenamed, FetchRead, Found, answers, answers_after, durable_text, plain_text}
use Rattle.sw_message.specs.declared.message.Msg.TheVariants as message
use Rattle.sw_message.specs.declared.reply.Reply.TheVariants as reply
use Rattle.sw_law_scene.specs.Devices.{IsDeviceStep, IsFree, capacity_of, no_folders, size_of}
use Rattle.sw_law_example.proofs.Storing.{all_free, only_file}

-- ---- lists of one item

pub only : {X : Type 0} (x y : X) → Contains (x ∷ []) y → x ≡ y
only x y has = ⊎_elim (λ same. same) (λ none. absurd (Contains-none y none)) (Contains-cases x [] y has)

-- the text of a name spells it alone
spells_one : (one : FileName) → IsFileName one → IsDirectory (file_name_text one ∷ []) (one ∷ [])
spells_one one is = λ name. (
  λ has. let same = only one name has in (subst IsFileName same is, subst (λ (other : FileName). Contains (file_name_text one ∷ []) (file_name_text other)) same (Contains-first (file_name_text one) [])),
  λ spelt. subst (Contains (one ∷ [])) (one_text one name is spelt.0 (only (file_name_text one) (file_name_text name) spelt.1)) (Contains-first one []),
)

-- what a directory of no names lists
abbrev pub lists_nothing : ListingModel
lists_nothing = record { entries = []; tombstones = [] }

module _ (stamp index : ℕ) where
  abbrev plain : FileName
  plain = Data stamp index false

  abbrev durable : FileName
  durable = Data stamp index true

  -- what it lists once it is durable
  abbrev pub listed_entry : Entry
  listed_entry = record { stamp = stamp; index = index; durable = true }

  abbrev pub lists_one : ListingModel
  lists_one = record { entries = listed_entry ∷ []; tombstones = [] }

  -- ---- what the durable name makes obsolete

  floor_is : (other : ℕ) (which : FloorKind) → HasFloorAt (durable ∷ []) other which → (other ≡ stamp) × (which ≡ kind.Durable)
  floor_is other kind.Durable has = let same = only durable (Data other has.0 true) has.1 in (cc same, refl)
  floor_is other kind.Tombstone has = absurd (cc (only durable (Tombstone other) has))

  -- nothing: it is no plain name, and its stamp is the floor's
  never_below : (other : ℕ) (which : FloorKind) → HasFloorAt (durable ∷ []) other which → (stamp < other) ⊎ ((stamp ≡ other) × (which ≡ kind.Tombstone)) → ⊥
  never_below other which has (inl less) = absurd (omega (arith, less, (floor_is other which has).0))
  never_below other which has (inr tied) = absurd (cc (sym tied.1 ∙ (floor_is other which has).1))

  nothing_goes : (primary : Bool) (name : FileName) → IsObsolete primary (durable ∷ []) name → ⊥
  nothing_goes primary name is = goes (subst (λ (one : FileName). IsObsolete primary (durable ∷ []) one) (sym (only durable name is.0)) is)
    where
      goes : IsObsolete primary (durable ∷ []) durable → ⊥
      goes (has, inl twin) = twin
      goes (has, inr below) = let floor = below.1.0 in never_below floor.stamp floor.kind below.1.1.0 below.1.2

  purges_none : (primary : Bool) → ArePurged primary durable (plain ∷ []) []
  purges_none primary = record {
    later = durable ∷ [];
    after = λ name. (
      λ has. inl (sym (only durable name has)),
      λ is. ⊎_elim (λ made. subst (Contains (durable ∷ [])) (sym made) (Contains-first durable [])) (λ kept. absurd (kept.1 (sym (only plain name kept.0)))) is,
    );
    all = λ text. ((λ has. absurd (Contains-none text has)), (λ is. absurd (nothing_goes primary is.0 is.1)));
    ascend = λ i j d less within. absurd (omega (arith, within));
  }

  -- ---- what is listed

  entry_is : (entry : Entry) → HasEntry (durable ∷ []) entry → listed_entry ≡ entry
  entry_is entry has =
      let same = only durable (Data entry.stamp entry.index entry.durable) (entry_there (durable ∷ []) entry.stamp entry.index entry.durable has) in
      let stamps : stamp ≡ entry.stamp = cc same in
      let indices : index ≡ entry.index = cc same in
      let durables : true ≡ entry.durable = cc same in
      ap (λ (s : ℕ). record { stamp = s; index = index; durable = true }) stamps
      ∙ ap (λ (i : ℕ). record { stamp = entry.stamp; index = i; durable = true }) indices
      ∙ ap (λ (d : Bool). record { stamp = entry.stamp; index = entry.index; durable = d }) durables

  lists_it : IsListingOf (durable ∷ []) lists_one
  lists_it = record {
    entries = λ entry. (
      λ has. subst (HasEntry (durable ∷ [])) (only listed_entry entry has) (Contains-first durable []),
      λ has. subst (Contains (listed_entry ∷ [])) (entry_is entry has) (Contains-first listed_entry []),
    );
    entries_ascend = λ i j d less within. absurd (omega (arith, less, within));
    tombstones = λ other. ((λ has. absurd (Contains-none other has)), (λ has. absurd (cc (only durable (Tombstone other) has))));
    tombstones_ascend = λ i j d less within. absurd (omega (arith, within));
  }

-- a directory of no names has nothing to list
lists_no_name : IsListingOf [] lists_nothing
lists_no_name = record {
  entries = λ entry. ((λ has. absurd (Contains-none entry has)), (λ has. absurd (Contains-none _ (entry_there [] entry.stamp entry.index entry.durable has))));
  entries_ascend = λ i j d less within. absurd (omega (arith, within));
  tombstones = λ other. ((λ has. absurd (Contains-none other has)), (λ has. absurd (Contains-none _ has)));
  tombstones_ascend = λ i j d less within. absurd (omega (arith, within));
}

-- ---- the device

module _ (cluster : ClusterModel) (device : ℕ) (place : PlaceModel) (stamp index : ℕ) (bytes : List ℕ) where
  abbrev named : Bool → FileName
  named is_durable = Data stamp index is_durable

  -- the archive under one of its two names, alone on the disk
  abbrev kept_file : Bool → File
  kept_file is_durable = record { name = file_name_text (named is_durable); content = record { bytes = bytes; synced = true } }

  abbrev pub kept_folders : Bool → Folders
  kept_folders is_durable = only_file (folder_of place) (kept_file is_durable)

  abbrev folder : List ℕ
  folder = folder_of place

  here : (is_durable : Bool) → kept_folders is_durable folder ≡ kept_file is_durable ∷ []
  here is_durable = ap (λ is_same. cond is_same (kept_file is_durable ∷ []) []) (same_name-refl folder)

  elsewhere : (is_durable : Bool) (other : List ℕ) → (other ≡ folder → ⊥) → kept_folders is_durable other ≡ []
  elsewhere is_durable other apart = ap (λ is_same. cond is_same (kept_file is_durable ∷ []) []) (other_name other folder apart)

  abbrev left : Bool → ℕ
  left is_durable = capacity_of cluster device - sum_by (λ name. size_of (kept_folders is_durable name)) (folder ∷ [])

  is_left : (is_durable : Bool) → IsFree (capacity_of cluster device) (kept_folders is_durable) (left is_durable)
  is_left is_durable = record {
    names = folder ∷ [];
    distinct = λ i j d less within. absurd (omega (arith, less, within));
    others = λ name none. elsewhere is_durable name (λ same. none (subst (Contains (folder ∷ [])) (sym same) (Contains-first folder [])));
    room_is = refl;
  }

  -- ---- what it finds

  abbrev finds : Bool → Found
  finds is_durable = record { names = named is_durable ∷ []; bytes = λ name. bytes; room = left is_durable }

  found_bytes : (is_durable is_named : Bool) (content : Content) → content_of (cond is_named (Some (kept_file is_durable)) None) ≡ Some content → bytes ≡ content.bytes
  found_bytes is_durable true content is = ap (λ (one : Content). one.bytes) (same_Some _ content is)
  found_bytes is_durable false content is = absurd (none-some content is)

  is_found : (is_durable : Bool) → IsFileName (named is_durable) → IsFound (kept_folders is_durable folder) (left is_durable) (finds is_durable)
  is_found is_durable is = subst (λ (files : List File). IsFound files (left is_durable) (finds is_durable)) (sym (here is_durable)) (record {
    directory = spells_one (named is_durable) is;
    bytes = λ name content. found_bytes is_durable (same_name (file_name_text (named is_durable)) (file_name_text name)) content;
    room_is = refl;
  })

  -- ---- what it does

  becomes_durable : AreChanged folder (Rename (plain_text stamp index) (durable_text stamp index) ∷ []) (kept_folders false) (kept_folders true)
  becomes_durable = record {
    changed = here true
        ∙ sym (ap (all_changed (Rename (plain_text stamp index) (durable_text stamp index) ∷ [])) (here false)
        ∙ ap (λ is_same. record (kept_file false) { name = cond is_same (durable_text stamp index) (plain_text stamp index) } ∷ []) (same_name-refl (plain_text stamp index)));
    others = λ other apart. elsewhere true other apart ∙ sym (elsewhere false other apart);
  }

  -- its plain name becomes the durable one
  pub commits_it : IsFileName (named false) → IsDeviceStep cluster device (message.Commit place stamp index) reply.Committed (kept_folders false) (kept_folders true)
  commits_it is = record {
    room = left false;
    free = is_left false;
    step = record {
      found = finds false;
      is_found = is_found false is;
      handling = answers_after folder (commit_calls folder (plain_text stamp index) (durable_text stamp index)) (Rename (plain_text stamp index) (durable_text stamp index) ∷ []) reply.Committed;
      handled = CommitRenamed (Contains-first (named false) [], λ has. absurd (cc (only (named false) (named true) has))) [] (purges_none stamp index (is_primary cluster device place)) refl;
      replied = refl;
      changed = becomes_durable;
    };
  }

  unchanged : (before : Folders) → AreChanged folder [] before before
  unchanged before = record { changed = refl; others = λ other apart. refl }

  -- it lists its durable name
  pub lists_durable : IsFileName (named true) → IsDeviceStep cluster device (message.Ask place) (reply.Held (lists_one stamp index)) (kept_folders true) (kept_folders true)
  lists_durable is = record {
    room = left true;
    free = is_left true;
    step = record {
      found = finds true;
      is_found = is_found true is;
      handling = answers folder (reply.Held (lists_one stamp index));
      handled = AskListed (lists_one stamp index) (lists_it stamp index) refl;
      replied = refl;
      changed = unchanged (kept_folders true);
    };
  }

  -- it reads its archive
  pub reads_it : IsFileName (named true) → IsArchiveOf cluster place stamp index bytes → IsDeviceStep cluster device (message.Fetch place stamp index) (reply.Fragment bytes) (kept_folders true) (kept_folders true)
  reads_it is archive = record {
    room = left true;
    free = is_left true;
    step = record {
      found = finds true;
      is_found = is_found true is;
      handling = answers_after folder (ReadFile folder (durable_text stamp index) ∷ []) [] (reply.Fragment bytes);
      handled = FetchRead true (Contains-first (named true) []) archive refl;
      replied = refl;
      changed = unchanged (kept_folders true);
    };
  }

-- a device that has no file lists nothing
pub lists_none : (cluster : ClusterModel) (device : ℕ) (place : PlaceModel) → IsDeviceStep cluster device (message.Ask place) (reply.Held lists_nothing) no_folders no_folders
lists_none cluster device place = record {
  room = capacity_of cluster device;
  free = all_free (capacity_of cluster device);
  step = record {
    found = record { names = []; bytes = λ name. []; room = capacity_of cluster device };
    is_found = record {
      directory = λ name. ((λ has. absurd (Contains-none name has)), (λ has. absurd (Contains-none _ has.1)));
      bytes = λ name content is. absurd (none-some content is);
      room_is = refl;
    };
    handling = answers (folder_of place) (reply.Held lists_nothing);
    handled = AskListed lists_nothing lists_no_name refl;
    replied = refl;
    changed = record { changed = refl; others = λ other apart. refl };
  };
}
