-- Of each file of a folder something holds by its name, also after changes that keep it.
use Rattle.std.proofs.Common.{◌≡◌, ℕ, Contains, List, subst}
use Rattle.std.specs.List.{All}
use Rattle.std.proofs.lemmas.List.Elements.{All-contains, All-contains_itself, All-weaker}
use Rattle.sw_disk.specs.Answers.{names_of}
use Rattle.sw_disk.specs.Folder.{Change, File, all_changed}
use Rattle.sw_hashpath.specs.FileName.{IsFileName, file_name_text}
use Rattle.sw_hashpath.specs.declared.file_name.FileName.{FileName}
use Rattle.sw_hashdir.proofs.Texts.{one_text}
use Rattle.sw_diskfile.proofs.Lists.{Contains-map, mapped}
use Rattle.sw_law_scene.proofs.Changed.{Keeps, all_changed-kept}

-- the name of a file
abbrev pub name_in : File → List ℕ
name_in file = file.name

module _ (Holds : FileName → Type 0) where
  -- of a file it holds by its name, if that is the text of one
  abbrev pub IsNamed : File → Type 0
  IsNamed file = (name : FileName) → IsFileName name → file.name ≡ file_name_text name → Holds name

  -- and of each of these
  abbrev pub AreNamed : List File → Type 0
  AreNamed files = (name : FileName) → IsFileName name → Contains (names_of files) (file_name_text name) → Holds name

  each_named : (files : List File) → AreNamed files → All IsNamed files
  each_named files named =
      All-weaker (Contains files) IsNamed (λ file has name spelt same. named name spelt (subst (Contains (names_of files)) same (Contains-map name_in files file has))) files (All-contains_itself files)

  all_named : (files : List File) → All IsNamed files → AreNamed files
  all_named files all = λ name spelt has. let from = mapped name_in files (file_name_text name) has in All-contains IsNamed files from.0 all from.1 name spelt from.2

  -- it holds after changes that keep it
  pub changed_named : (changes : List Change) (files : List File) → All (Keeps IsNamed) changes → AreNamed files → AreNamed (all_changed changes files)
  changed_named changes files keep named = all_named (all_changed changes files) (all_changed-kept IsNamed changes files keep (each_named files named))

  -- the text of a name is that of no other
  pub made_named : (made : FileName) → IsFileName made → Holds made → (name : FileName) → IsFileName name → file_name_text made ≡ file_name_text name → Holds name
  made_named made is_made holds name spelt same = subst Holds (one_text made name is_made spelt same) holds
