-- The reading of an entry: its file was read, or that was stopped.
use Rattle.std.proofs.Common.{◌≡◌, inl, inr, ℕ, List, [], ◌∷◌, Option, None, Some, Ok, Err, refl, sym, ap, subst, ◌∙◌, Result}
use Rattle.sw_disk.specs.Answers.{HasBytes, IsNotFull}
use Rattle.sw_disk.specs.Calls.{Call, ListNames, ReadFile}
use Rattle.sw_disk.specs.Folder.{Content, File, content_at, files_of}
use Rattle.sw_disk.specs.Runs.{IfTold, Past, Runs, Seen}
use Rattle.sw_disk.specs.declared.refusal.DiskRefusal.{DiskRefusal}
use Rattle.sw_disk.specs.declared.refusal.DiskRefusal.TheVariants.{Failed, Full, NoMemory}
use Rattle.sw_disk.proofs.Chains.{runs_more, told_map}
use Rattle.sw_hashpath.specs.FileName.{file_name_text}
use Rattle.sw_hashpath.specs.Place.{PlaceModel, folder_of}
use Rattle.sw_hashpath.specs.declared.file_name.FileName.{FileName}
use Rattle.sw_hashpath.specs.declared.file_name.FileName.TheVariants.{Data}
use Rattle.sw_hashdir.specs.Directory.{HasEntry, HasEntryAt}
use Rattle.sw_hashdir.specs.declared.entry.Entry.{Entry}
use Rattle.sw_diskfile.specs.Names.{IsDirectoryOf, RunsUnlessMemory}
use Rattle.sw_diskfile.proofs.Tidied.{look_done}
use Rattle.sw_ring.specs.Cluster.{ClusterModel}
use Rattle.sw_message.specs.Spoil.{IsArchiveOf, IsSpoil}
use Rattle.sw_message.specs.Table.{FetchRead, FetchSpoiled, Found, HandlesFetch, answers_after, read_calls}
use Rattle.sw_message.specs.declared.reply.Reply.{Reply}
use Rattle.sw_message.specs.declared.reply.Reply.TheVariants.{Fragment}
use Rattle.sw_message.specs.declared.message.Msg.TheVariants as message
use Rattle.sw_objsrv.specs.Handling.{Follows, IsAnswer, StopsReading, StopsAt}
use Rattle.sw_objsrv.specs.Reading.{IsReplied}
use Rattle.sw_objsrv.proofs.AfterLook.{files_before}
use Rattle.sw_objsrv.proofs.Found.{entry_at, found_in, is_found, read_is}
use Rattle.sw_diskfile.proofs.Steps.{changes_by}
use Rattle.sw_message.specs.declared.message.Msg.{Msg}

-- a file of this name has these bytes
abbrev HasContent : (text bytes : List ℕ) → List File → Type 0
HasContent text bytes files = (content : Content) × (content_at text files ≡ Some content) × (content.bytes ≡ bytes)

module _ (cluster : ClusterModel) (place : PlaceModel) (stamp index : ℕ) where
  is_answer : (bytes : List ℕ) (reply : Reply) → IsReplied cluster place stamp index bytes reply → IsAnswer reply
  is_answer bytes reply (inl asked) = subst IsAnswer (sym asked.1) tt
  is_answer bytes reply (inr spoiled) = subst IsAnswer (sym spoiled.2) tt

  module _ (names : List FileName) (entry : Entry) (at : entry.stamp ≡ stamp) (of : entry.index ≡ index) (has : HasEntry names entry) where
    abbrev name : FileName
    name = Data stamp index entry.durable

    named : Data entry.stamp entry.index entry.durable ≡ name
    named = λ i. Data (at i) (of i) entry.durable

    there_is : HasEntryAt names stamp index entry.durable
    there_is = entry_at names entry stamp index (at, of, has)

    module _ {D : Type 0} (seen : D → Seen) (left_since : D → Past) (a b c : D) (directory : IfTold (seen a).told (λ s. IsDirectoryOf (s.folder (folder_of place)) names))
        (looked : RunsUnlessMemory seen left_since (ListNames (folder_of place) ∷ []) None a b) (folder : List ℕ) (spelled : folder ≡ folder_of place) (bytes : List ℕ)
        (there : IfTold (seen b).told (λ s. HasBytes s folder (file_name_text (Data entry.stamp entry.index entry.durable)) bytes))
        (read : Runs seen left_since (read_calls folder (Data entry.stamp entry.index entry.durable)) None b c) where
      look : Runs seen left_since (ListNames (folder_of place) ∷ []) None a b
      look = look_done seen left_since (folder_of place) a b looked

      abbrev found : Found
      found = found_in (seen a).told (folder_of place) names bytes 0

      bytes_found : found.bytes name ≡ bytes
      bytes_found =
          let here = subst (λ (n : FileName). IfTold (seen b).told (λ s. HasBytes s (folder_of place) (file_name_text n) bytes)) named
          (subst (λ (f : List ℕ). IfTold (seen b).told (λ s. HasBytes s f (file_name_text (Data entry.stamp entry.index entry.durable)) bytes)) spelled there) in
          read_is (seen a).told (folder_of place) bytes name
          (told_map (seen a).told (λ s. HasContent (file_name_text name) bytes (files_of (s.folder (folder_of place)))) (λ s. HasBytes s (folder_of place) (file_name_text name) bytes)
          (files_before seen left_since (folder_of place) a b look (folder_of place) (HasContent (file_name_text name) bytes)
          (told_map (seen b).told (λ s. HasBytes s (folder_of place) (file_name_text name) bytes) (λ s. HasContent (file_name_text name) bytes (files_of (s.folder (folder_of place)))) here (λ s has. (has.content, has.there, has.bytes_are))))
          (λ s has. record { content = has.0; there = has.1; bytes_are = has.2 }))

      -- the row of the table
      row : (reply : Reply) → IsReplied cluster place stamp index bytes reply → HandlesFetch cluster place stamp index found (answers_after (folder_of place) (read_calls (folder_of place) name) [] reply)
      row reply (inl asked) =
          FetchRead entry.durable there_is (subst (IsArchiveOf cluster place stamp index) (sym bytes_found) asked.0) (ap (answers_after (folder_of place) (read_calls (folder_of place) name) []) (asked.1 ∙ ap (λ bs. Fragment bs) (sym bytes_found)))
      row reply (inr spoiled) =
          FetchSpoiled entry.durable there_is spoiled.0 (subst (λ bs. IsSpoil cluster place stamp index bs spoiled.0) (sym bytes_found) spoiled.1) (ap (answers_after (folder_of place) (read_calls (folder_of place) name) []) spoiled.2)

      runs : Runs seen left_since (ListNames (folder_of place) ∷ read_calls (folder_of place) name) None a c
      runs = runs_more seen left_since (ListNames (folder_of place) ∷ []) (read_calls (folder_of place) name) None a b c look
          (subst (λ (n : FileName). Runs seen left_since (read_calls (folder_of place) n) None b c) named
          (subst (λ (f : List ℕ). Runs seen left_since (read_calls f (Data entry.stamp entry.index entry.durable)) None b c) spelled read))

      pub fetched : (reply : Reply) → IsReplied cluster place stamp index bytes reply → Follows seen left_since (folder_of place) (HandlesFetch cluster place stamp index) (Ok reply) a c
      fetched reply replied = record {
        found = found;
        is_found = is_found (seen a).told (folder_of place) names bytes 0 directory;
        handling = answers_after (folder_of place) (read_calls (folder_of place) name) [] reply;
        row = row reply replied;
        runs = (is_answer bytes reply replied, refl, runs);
      }

    -- reading it was stopped
    module _ {D : Type 0} (seen : D → Seen) (left_since : D → Past) (a b c : D) (directory : IfTold (seen a).told (λ s. IsDirectoryOf (s.folder (folder_of place)) names))
        (looked : RunsUnlessMemory seen left_since (ListNames (folder_of place) ∷ []) None a b) (folder : List ℕ) (spelled : folder ≡ folder_of place) where
      read_runs : (refusal : Option DiskRefusal) → Runs seen left_since (read_calls folder (Data entry.stamp entry.index entry.durable)) refusal b c → Runs seen left_since (ListNames (folder_of place) ∷ read_calls (folder_of place) name) refusal a c
      read_runs refusal read =
          runs_more seen left_since (ListNames (folder_of place) ∷ []) (read_calls (folder_of place) name) refusal a b c (look_done seen left_since (folder_of place) a b looked)
          (subst (λ (n : FileName). Runs seen left_since (read_calls (folder_of place) n) refusal b c) named
          (subst (λ (f : List ℕ). Runs seen left_since (read_calls f (Data entry.stamp entry.index entry.durable)) refusal b c) spelled read))

      pub stops_read : (reason : DiskRefusal) → IsNotFull reason → Runs seen left_since (read_calls folder (Data entry.stamp entry.index entry.durable)) (Some reason) b c → StopsReading seen left_since (message.Fetch place stamp index) (Err reason) a c
      stops_read Failed other read = (names, directory, entry.durable, there_is, read_runs (Some Failed) read)
      stops_read (Full need free) other read = absurd other
      stops_read NoMemory other read = (names, directory, entry.durable, there_is, inl (read_runs (Some NoMemory) read))

-- ---- read_calls that were stopped

module _ {D : Type 0} (seen : D → Seen) (left_since : D → Past) (a b : D) where
  -- they gave no answer
  pub no_answer : (asked : Msg) (reply : Reply) → StopsReading seen left_since asked (Ok reply) a b → ⊥
  no_answer (message.Fetch place stamp index) reply read = read.4
  no_answer (message.PutFrag place stamp index bytes) reply read = read
  no_answer (message.Commit place stamp index) reply read = read
  no_answer (message.Delete place stamp) reply read = read
  no_answer (message.Ask place) reply read = read
  no_answer (message.Remove place stamp index) reply read = read
  no_answer message.Parts reply read = read
  no_answer (message.Suffixes part) reply read = read
  no_answer (message.Places part) reply read = read

  -- and their calls change nothing
  pub stops_reading : (asked : Msg) (result : Result Reply DiskRefusal) → StopsReading seen left_since asked result a b
      → (calls : List Call) × ((name : List ℕ) (temporary : Option Content) → changes_by name calls temporary ≡ []) × StopsAt seen left_since calls result a b
  stops_reading (message.Fetch place stamp index) result read =
      (ListNames (folder_of place) ∷ ReadFile (folder_of place) (file_name_text (Data stamp index read.2)) ∷ [], (λ name temporary. refl), read.4)
  stops_reading (message.PutFrag place stamp index bytes) result read = absurd read
  stops_reading (message.Commit place stamp index) result read = absurd read
  stops_reading (message.Delete place stamp) result read = absurd read
  stops_reading (message.Ask place) result read = absurd read
  stops_reading (message.Remove place stamp index) result read = absurd read
  stops_reading message.Parts result read = absurd read
  stops_reading (message.Suffixes part) result read = absurd read
  stops_reading (message.Places part) result read = absurd read
