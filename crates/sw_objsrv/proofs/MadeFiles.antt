-- Which files there are after some first part of a change and of the removals of what it makes obsolete: what it makes is not obsolete.
use Rattle.std.proofs.Common.{◌≡◌, ◌⊎◌, inl, inr, ⊎_elim, ◌↔◌, ℕ, zero, suc, ◌<◌, Bool, true, false, cond, not, Contains, List, [], ◌∷◌, map, take, Some, sym, ap, subst, ◌∙◌, arith}
use Rattle.std.proofs.lemmas.List.Elements.{Contains-push_cases}
use Rattle.sw_disk.specs.Folder.{Change, File, Publish, Remove, Rename, all_changed, changed, renamed, same_name}
use Rattle.sw_hashpath.specs.FileName.{IsFileName, file_name_text}
use Rattle.sw_hashpath.specs.declared.file_name.FileName.{FileName}
use Rattle.sw_hashpath.specs.declared.file_name.FileName.TheVariants.{Data, Tombstone}
use Rattle.sw_hashdir.specs.Directory.{HasFloorAt, IsFloor}
use Rattle.sw_hashdir.specs.Obsolete.{IsAfter, IsBelow, IsObsolete, Replaces}
use Rattle.sw_hashdir.specs.declared.floor.Floor.{Floor}
use Rattle.sw_hashdir.specs.declared.floor.FloorKind.{FloorKind}
use Rattle.sw_hashdir.specs.declared.floor.FloorKind.TheVariants as kind
use Rattle.sw_hashdir.proofs.Texts.{one_text}
use Rattle.sw_diskfile.specs.Normal.{IsObsoleteText}
use Rattle.sw_diskfile.proofs.Directories.{passes_if_other, same_or_other}
use Rattle.sw_diskfile.proofs.Lists.{Contains-first, Contains-later, Contains-none, kept, keeps, mapped}
use Rattle.sw_message.specs.Table.{Allows}

-- ---- removals

-- a file whose name none of them has stays
pub stays : (obsolete : List (List ℕ)) (files : List File) (file : File) → Contains files file → (Contains obsolete file.name → ⊥) → Contains (all_changed (map Remove obsolete) files) file
stays [] files file there none = there
stays (name ∷ obsolete) files file there none =
    let other = (passes_if_other file.name name).1 (λ same. none (subst (λ (n : List ℕ). Contains (n ∷ obsolete) file.name) same (Contains-first file.name obsolete))) in
    stays obsolete (changed (Remove name) files) file (keeps (λ (f : File). not (same_name f.name name)) files file there other) (λ gone. none (Contains-later name obsolete file.name gone))

-- and there is none that was not there
pub was_there : (count : ℕ) (obsolete : List (List ℕ)) (files : List File) (file : File) → Contains (all_changed (take count (map Remove obsolete)) files) file → Contains files file
was_there zero obsolete files file has = has
was_there (suc count) [] files file has = has
was_there (suc count) (name ∷ obsolete) files file has = (kept (λ (f : File). not (same_name f.name name)) files file (was_there count obsolete (changed (Remove name) files) file has)).0

-- ---- a change, and then the removal of what it makes obsolete

-- each file that there is after the change was there before, or none of the removals has its name
abbrev pub StaysMade : List File → Change → List (List ℕ) → Type 0
StaysMade files change obsolete = (file : File) → Contains (changed change files) file → Contains files file ⊎ (Contains obsolete file.name → ⊥)

-- so after each first part there are files of the start and of the end
pub start_or_end : (files : List File) (change : Change) (obsolete : List (List ℕ)) → StaysMade files change obsolete → (count : ℕ) (file : File)
    → Contains (all_changed (take count (change ∷ map Remove obsolete)) files) file → Contains files file ⊎ Contains (all_changed (change ∷ map Remove obsolete) files) file
start_or_end files change obsolete made zero file has = inl has
start_or_end files change obsolete made (suc count) file has =
    let begun = changed change files in
    let there = was_there count obsolete begun file has in
    ⊎_elim (λ before. inl before) (λ none. inr (stays obsolete begun file there none)) (made file there)

pub none_gone : (files : List File) (change : Change) → StaysMade files change []
none_gone files change = λ file has. inr (Contains-none file.name)

-- ---- what a change makes is not obsolete

-- only plain names are replaced
replaced_plain : (made : FileName) (stamp index : ℕ) → Replaces made (Data stamp index true) → ⊥
replaced_plain (Data s i true) stamp index replaced = absurd (cc)
replaced_plain (Data s i false) stamp index replaced = replaced
replaced_plain (Tombstone s) stamp index replaced = replaced

replaced_data : (made : FileName) (stamp : ℕ) → Replaces made (Tombstone stamp) → ⊥
replaced_data (Data s i true) stamp replaced = absurd (cc)
replaced_data (Data s i false) stamp replaced = replaced
replaced_data (Tombstone s) stamp replaced = replaced

module _ (made : FileName) (names later : List FileName) (is_after : IsAfter made names later) where
  floor_before : (s : ℕ) (k : FloorKind) → IsBelow (record { stamp = s; kind = k }) made → HasFloorAt later s k → HasFloorAt names s k
  floor_before s kind.Durable below has = ⊎_elim
      (λ here. absurd (not_below has.0 (subst (IsBelow (record { stamp = s; kind = kind.Durable })) (sym here) below)))
      (λ before. (has.0, before.0))
      ((is_after (Data s has.0 true)).0 has.1)
    where
      not_below : (index : ℕ) → IsBelow (record { stamp = s; kind = kind.Durable }) (Data s index true) → ⊥
      not_below index below = ⊎_elim (λ less. absurd (omega (arith, less))) (λ level. absurd (cc)) below
  floor_before s kind.Tombstone below has = ⊎_elim
      (λ here. let less : s < s = subst (IsBelow (record { stamp = s; kind = kind.Tombstone })) (sym here) below in absurd (omega (arith, less)))
      (λ before. before.0)
      ((is_after (Tombstone s)).0 has)

  floor_after : (s : ℕ) (k : FloorKind) → HasFloorAt names s k → HasFloorAt later s k
  floor_after s kind.Durable has = (has.0, (is_after (Data s has.0 true)).1 (inr (has.1, replaced_plain made s has.0)))
  floor_after s kind.Tombstone has = (is_after (Tombstone s)).1 (inr (has, replaced_data made s))

  -- a floor that stands above it was that of the names before
  floor_above : (floor : Floor) → IsFloor later (Some floor) → IsBelow floor made → IsFloor names (Some floor)
  floor_above floor is below = (floor_before floor.stamp floor.kind below is.0, λ other has. is.1 other (floor_after other.stamp other.kind has))

-- an entry that becomes durable, of which the plain name was not obsolete
durable_stays : (primary : Bool) (stamp index : ℕ) (names later : List FileName) → IsAfter (Data stamp index true) names later → Contains names (Data stamp index false) → ((name : FileName) → IsObsolete primary names name → ⊥)
    → IsObsolete primary later (Data stamp index true) → ⊥
durable_stays primary stamp index names later is_after has none obsolete = ⊎_elim
    (λ twin. twin)
    (λ below. none (Data stamp index false) (has, inr (below.0, (below.1.0, floor_above (Data stamp index true) names later is_after below.1.0 below.1.1 below.1.2, below.1.2))))
    obsolete.1

-- a tombstone that no floor refuses
buried_stays : (primary : Bool) (stamp : ℕ) (names later : List FileName) → IsAfter (Tombstone stamp) names later → Allows names stamp → IsObsolete primary later (Tombstone stamp) → ⊥
buried_stays primary stamp names later is_after allows obsolete = ⊎_elim
    (λ twin. twin)
    (λ below. allows below.1.0 (floor_above (Tombstone stamp) names later is_after below.1.0 below.1.1 below.1.2, inl below.1.2))
    obsolete.1

-- so its text is not among those that go
not_gone : (primary : Bool) (later : List FileName) (obsolete : List (List ℕ)) → ((text : List ℕ) → Contains obsolete text ↔ IsObsoleteText primary later text) → ((name : FileName) → Contains later name → IsFileName name)
    → (made : FileName) → IsFileName made → (IsObsolete primary later made → ⊥) → Contains obsolete (file_name_text made) → ⊥
not_gone primary later obsolete all are made is_name none gone =
    let is = (all (file_name_text made)).0 gone in
    none (subst (IsObsolete primary later) (one_text is.0 made (are is.0 is.1.0) is_name (sym is.2)) is.1)

module _ (primary : Bool) (files : List File) (names later : List FileName) (obsolete : List (List ℕ)) (all : (text : List ℕ) → Contains obsolete text ↔ IsObsoleteText primary later text)
    (are : (name : FileName) → Contains later name → IsFileName name) where
  pub committed_stays : (stamp index : ℕ) → IsFileName (Data stamp index true) → IsAfter (Data stamp index true) names later → Contains names (Data stamp index false) → ((name : FileName) → IsObsolete primary names name → ⊥)
      → StaysMade files (Rename (file_name_text (Data stamp index false)) (file_name_text (Data stamp index true))) obsolete
  committed_stays stamp index is_name is_after has none file there =
      let plain = file_name_text (Data stamp index false) in
      let durable = file_name_text (Data stamp index true) in
      let from = mapped (renamed plain durable) files file there in
      ⊎_elim
      (λ same.
      let named : file.name ≡ durable = ap (λ (f : File). f.name) (sym from.2) ∙ ap (λ (b : Bool). cond b durable from.0.name) same.0 in
      inr (λ gone. not_gone primary later obsolete all are (Data stamp index true) is_name (durable_stays primary stamp index names later is_after has none) (subst (Contains obsolete) named gone)))
      (λ other.
      let kept : file ≡ from.0 = sym from.2 ∙ ap (λ (b : Bool). record from.0 { name = cond b durable from.0.name }) other.0 in
      inl (subst (Contains files) (sym kept) from.1))
      (same_or_other from.0.name plain)

  pub tombstone_stays : (stamp : ℕ) (file : File) → file.name ≡ file_name_text (Tombstone stamp) → IsFileName (Tombstone stamp) → IsAfter (Tombstone stamp) names later → Allows names stamp
      → StaysMade files (Publish file) obsolete
  tombstone_stays stamp file named is_name is_after allows other there = ⊎_elim
      (λ before. inl before)
      (λ here. inr (λ gone.
      not_gone primary later obsolete all are (Tombstone stamp) is_name (buried_stays primary stamp names later is_after allows)
      (subst (Contains obsolete) (ap (λ (f : File). f.name) (sym here) ∙ named) gone)))
      (Contains-push_cases files file other there)
