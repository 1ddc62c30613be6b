-- Which changes the lists of calls make.
use Rattle.std.proofs.Common.{◌≡◌, inl, inr, ℕ, Bool, cond, List, [], ◌∷◌, ◌++◌, map, Option, refl, ◌∙◌, ap, ◌≢◌, false}
use Rattle.sw_disk.specs.Calls.{Call, ListNames, WriteTmp, SyncTmp, PublishTmp, RenameFile, RemoveFile, SyncDir}
use Rattle.sw_disk.specs.Folder.{Change, Rename, Remove, Content, same_name}
use Rattle.sw_disk.proofs.Images.{same_name-refl}
use Rattle.sw_diskfile.specs.Calls.{store_calls, commit_calls, drop_calls, purge_calls, tidy_calls}
use Rattle.sw_diskfile.specs.Changes.{new_file}
use Rattle.sw_diskfile.proofs.Changed.{Makes}
use Rattle.sw_diskfile.proofs.Directories.{other_name}
use Rattle.sw_diskfile.proofs.Steps.{changes_by}
use Rattle.sw_diskfile.proofs.Synced.{AreSyncedChanges}

module _ (folder : List ℕ) where
  pub makes_store : (name bytes : List ℕ) → Makes folder (store_calls folder name bytes) (new_file name bytes ∷ [])
  makes_store name bytes = record {
    made = λ temporary. rw (same_name-refl folder) refl;
    synced = (refl, tt);
    ends = inr (WriteTmp bytes ∷ SyncTmp ∷ PublishTmp folder name ∷ [], refl);
  }

  pub makes_commit : (plain durable : List ℕ) → Makes folder (commit_calls folder plain durable) (Rename plain durable ∷ [])
  makes_commit plain durable = record {
    made = λ temporary. rw (same_name-refl folder) refl;
    synced = (tt, tt);
    ends = inr (RenameFile folder plain durable ∷ [], refl);
  }

  pub makes_drop : (name : List ℕ) → Makes folder (drop_calls folder name) (Remove name ∷ [])
  makes_drop name = record {
    made = λ temporary. rw (same_name-refl folder) refl;
    synced = (tt, tt);
    ends = inr (RemoveFile folder name ∷ [], refl);
  }

  removals : (names : List (List ℕ)) (temporary : Option Content) → changes_by folder (map (RemoveFile folder) names ++ SyncDir folder ∷ []) temporary ≡ map Remove names
  removals [] temporary = refl
  removals (name ∷ names) temporary =
      ap (λ (b : Bool). cond b (Remove name ∷ []) [] ++ changes_by folder (map (RemoveFile folder) names ++ SyncDir folder ∷ []) temporary) (same_name-refl folder)
      ∙ ap (λ (cs : List Change). Remove name ∷ cs) (removals names temporary)

  purges : (names : List (List ℕ)) (temporary : Option Content) → changes_by folder (purge_calls folder names) temporary ≡ map Remove names
  purges [] temporary = refl
  purges (name ∷ names) temporary = removals (name ∷ names) temporary

  removals_synced : (names : List (List ℕ)) → AreSyncedChanges (map Remove names)
  removals_synced [] = tt
  removals_synced (name ∷ names) = (tt, removals_synced names)

  pub makes_purge : (names : List (List ℕ)) → Makes folder (purge_calls folder names) (map Remove names)
  makes_purge [] = record { made = purges []; synced = tt; ends = inl refl }
  makes_purge (name ∷ names) = record { made = purges (name ∷ names); synced = removals_synced (name ∷ names); ends = inr (map (RemoveFile folder) (name ∷ names), refl) }

  pub tidy_ends : (names : List (List ℕ)) → (front : List Call) × (tidy_calls folder names ≡ front ++ SyncDir folder ∷ [])
  tidy_ends [] = (ListNames folder ∷ [], refl)
  tidy_ends (name ∷ names) = (ListNames folder ∷ SyncDir folder ∷ map (RemoveFile folder) (name ∷ names), refl)

  pub makes_tidy : (names : List (List ℕ)) → Makes folder (tidy_calls folder names) (map Remove names)
  makes_tidy names = record { made = purges names; synced = removals_synced names; ends = inr (tidy_ends names) }

  -- none before the first removal
  pub makes_none : Makes folder (ListNames folder ∷ SyncDir folder ∷ []) []
  makes_none = record { made = λ temporary. refl; synced = tt; ends = inl refl }

-- they change no other folder
module _ (folder other : List ℕ) (differs : other ≢ folder) where
  alone : same_name other folder ≡ false
  alone = other_name other folder differs

  pub store_alone : (name bytes : List ℕ) (temporary : Option Content) → changes_by other (store_calls folder name bytes) temporary ≡ []
  store_alone name bytes temporary = rw alone refl

  pub commit_alone : (plain durable : List ℕ) (temporary : Option Content) → changes_by other (commit_calls folder plain durable) temporary ≡ []
  commit_alone plain durable temporary = rw alone refl

  pub drop_alone : (name : List ℕ) (temporary : Option Content) → changes_by other (drop_calls folder name) temporary ≡ []
  drop_alone name temporary = rw alone refl

  removals_alone : (names : List (List ℕ)) (temporary : Option Content) → changes_by other (map (RemoveFile folder) names ++ SyncDir folder ∷ []) temporary ≡ []
  removals_alone [] temporary = refl
  removals_alone (name ∷ names) temporary =
      ap (λ (b : Bool). cond b (Remove name ∷ []) [] ++ changes_by other (map (RemoveFile folder) names ++ SyncDir folder ∷ []) temporary) alone ∙ removals_alone names temporary

  pub purge_alone : (names : List (List ℕ)) (temporary : Option Content) → changes_by other (purge_calls folder names) temporary ≡ []
  purge_alone [] temporary = refl
  purge_alone (name ∷ names) temporary = removals_alone (name ∷ names) temporary

  -- a look and a sync change none, whatever follows
  pub tidy_alone : (names : List (List ℕ)) (temporary : Option Content) → changes_by other (tidy_calls folder names) temporary ≡ []
  tidy_alone names temporary = purge_alone names temporary
