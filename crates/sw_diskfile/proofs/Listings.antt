-- Directories of listings.
use Rattle.std.proofs.Common.{ℕ, List}
use Rattle.std.proofs.lemmas.List.Sorted.{Contains-permutation, IsPermutation-sym}
use Rattle.sw_disk.specs.Answers.{IsListing}
use Rattle.sw_hashpath.specs.FileName.{file_name_text}
use Rattle.sw_hashpath.specs.declared.file_name.FileName.{FileName}
use Rattle.sw_hashdir.specs.Directory.{IsDirectory}

-- that of a folder's listing is the folder's
pub listed_directory : (texts listing : List (List ℕ)) (names : List FileName) → IsListing texts listing → IsDirectory listing names → IsDirectory texts names
listed_directory texts listing names is directory = λ name. (
  λ has. let there = (directory name).0 has in (there.0, Contains-permutation listing texts (file_name_text name) (IsPermutation-sym texts listing is.permutation) there.1),
  λ there. (directory name).1 (there.0, Contains-permutation texts listing (file_name_text name) is.permutation there.1),
)
