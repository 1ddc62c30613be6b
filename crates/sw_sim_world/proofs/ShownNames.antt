-- Names of files: their order tells nothing of a directory, and a name that is there is that of a file.
use Rattle.std.proofs.Common.{◌≡◌, ◌⊎◌, inl, inr, ⊎_elim, ℕ, zero, suc, Bool, true, false, cond, List, [], ◌∷◌, get_or, find, Contains, Some, refl, sym, ap, ◌∙◌, arith}
use Rattle.std.specs.Cmp.Lexicographic.{other_text, same_text}
use Rattle.std.specs.List.{All}
use Rattle.std.proofs.lemmas.List.Elements.{Contains-get_or}
use Rattle.std.proofs.lemmas.List.Sorted.{Contains-permutation, IsPermutation-sym}
use Rattle.sw_disk.specs.Answers.{IsListing, names_of}
use Rattle.sw_disk.specs.Folder.{File, content_at, content_of, named, same_name}
use Rattle.sw_hashpath.specs.declared.file_name.FileName.{FileName}
use Rattle.sw_hashpath.specs.declared.file_name.FileName.TheVariants.{Data}
use Rattle.sw_hashpath.specs.FileName.{IsFileName, file_name_text}
use Rattle.sw_hashdir.specs.Directory.{IsDirectory}
use Rattle.sw_hashdir.proofs.Laws.{entry_there}
use Rattle.sw_hashdir.specs.Listing.{IsListingOf, ListingModel}
use Rattle.sw_hashdir.specs.declared.entry.Entry.{Entry}

-- ---- directories

-- texts in another order have the same directories
pub same_directory : (texts listing : List (List ℕ)) (names : List FileName) → IsListing texts listing → IsDirectory listing names → IsDirectory texts names
same_directory texts listing names listed is name = (
  λ there. let was = (is name).0 there in (was.0, Contains-permutation listing texts (file_name_text name) (IsPermutation-sym texts listing listed.permutation) was.1),
  λ spelt. (is name).1 (spelt.0, Contains-permutation texts listing (file_name_text name) listed.permutation spelt.1),
)

-- there is a file of the name of an entry
abbrev pub HasNameOf : List (List ℕ) → Entry → Type 0
HasNameOf names entry = IsFileName (Data entry.stamp entry.index entry.durable) × Contains names (file_name_text (Data entry.stamp entry.index entry.durable))

-- each entry that is listed has one
pub entries_named : (texts : List (List ℕ)) (names : List FileName) (listing : ListingModel) → IsDirectory texts names → IsListingOf names listing → All (HasNameOf texts) listing.entries
entries_named texts names listing directory is k d within =
    let entry : Entry = get_or listing.entries k d in
    let has = (is.entries entry).0 (Contains-get_or listing.entries k d within) in
    (directory (Data entry.stamp entry.index entry.durable)).0 (entry_there names entry.stamp entry.index entry.durable has)

-- ---- files by their names

-- a file that is found by its name
pub record IsFound (files : List File) (text : List ℕ) : Type 0 where
  pub file : File
  pub there : Contains files file
  pub name_is : file.name ≡ text
  pub content_is : content_at text files ≡ Some file.content

Contains-cases : (text : List ℕ) (texts : List (List ℕ)) (other : List ℕ) → Contains (text ∷ texts) other → (text ≡ other) ⊎ Contains texts other
Contains-cases text texts other (zero, within, is) = inl is
Contains-cases text texts other (suc k, within, is) = inr (k, omega (arith, within), is)

found-cons : (file : File) (files : List File) (text : List ℕ) (is_same : Bool) → same_name file.name text ≡ is_same → (Contains (names_of files) text → IsFound files text)
    → Contains (file.name ∷ names_of files) text → IsFound (file ∷ files) text
found-cons file files text true same later has = record {
  file = file;
  there = (0, omega arith, refl);
  name_is = same_text file.name text (sym same);
  content_is = ap (λ (b : Bool). content_of (cond b (Some file) (find (named text) files))) same;
}
found-cons file files text false other later has =
    let found = later (⊎_elim (λ here. absurd (other_text file.name text (sym other) here)) (λ there. there) (Contains-cases file.name (names_of files) text has)) in
    record {
      file = found.file;
      there = (suc found.there.0, omega (arith, found.there.1), found.there.2);
      name_is = found.name_is;
      content_is = ap (λ (b : Bool). content_of (cond b (Some file) (find (named text) files))) other ∙ found.content_is;
    }

pub is_found : (files : List File) (text : List ℕ) → Contains (names_of files) text → IsFound files text
is_found [] text has = absurd (omega (arith, has.1))
is_found (file ∷ files) text has = found-cons file files text (same_name file.name text) refl (is_found files text) has
