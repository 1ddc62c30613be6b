-- The lines of what is shown: that of a file that is lent by the name of an entry, and all of them.
use Rattle.std.proofs.Common.{◌≡◌, ◌≢◌, ℕ, List, [], ◌∷◌, ◌++◌, length, map, Option, Some, None, option_map, refl, sym, ap, subst, ◌∙◌, arith}
use Rattle.std.specs.List.{All, AllZip}
use Rattle.std.proofs.lemmas.List.Elements.{All-contains}
use Rattle.std.proofs.lemmas.Option.{none-some, same_Some}
use Rattle.sw_disk.specs.Answers.{IsListing, names_of}
use Rattle.sw_disk.specs.Folder.{Content, File, content_at}
use Rattle.sw_memdisk.specs.Lent.{LendsFiles}
use Rattle.sw_hashpath.specs.FileName.{file_name_text}
use Rattle.sw_hashpath.specs.declared.file_name.FileName.{FileName}
use Rattle.sw_hashpath.specs.declared.file_name.FileName.TheVariants.{Data}
use Rattle.sw_hashdir.specs.Directory.{IsDirectory}
use Rattle.sw_hashdir.specs.Listing.{IsListingOf, ListingModel}
use Rattle.sw_hashdir.specs.declared.entry.Entry.{Entry}
use Rattle.sw_archive.specs.Archive.{IsArchive}
use Rattle.sw_sim_world.specs.declared.told.ShowLine.{ShowLine}
use Rattle.sw_sim_world.specs.declared.told.ShowLine.TheVariants.{Buried, Empty}
use Rattle.sw_sim_world.specs.Show.{HasArchive, IsLentEntry, IsReadable, IsShown, IsShownEntry, Lent, or_empty}
use Rattle.sw_sim_world.proofs.ShownNames.{HasNameOf, is_found, same_directory}

-- ---- one file

-- the content of bytes that were found
content_of_bytes : (found : Option Content) (bytes : List ℕ) → option_map (λ (content : Content). content.bytes) found ≡ Some bytes → (content : Content) × (found ≡ Some content) × (content.bytes ≡ bytes)
content_of_bytes None bytes is = absurd (none-some bytes is)
content_of_bytes (Some content) bytes is = (content, refl, same_Some content.bytes bytes is)

module _ (files : List File) (lent : Lent) (lends : LendsFiles files lent) where
  -- of an entry whose name is that of a file an archive is lent
  pub archive_lent : All IsReadable files → (entry : Entry) → HasNameOf (names_of files) entry → HasArchive lent entry
  archive_lent readable entry named =
      let found = is_found files (file_name_text (Data entry.stamp entry.index entry.durable)) named.1 in
      let archive = All-contains IsReadable files found.file readable found.there entry.stamp entry.index entry.durable named.0 found.name_is in
      record {
        named = named.0;
        bytes = found.file.content.bytes;
        found = lends (file_name_text (Data entry.stamp entry.index entry.durable)) ∙ ap (option_map (λ (content : Content). content.bytes)) found.content_is;
        archive = archive.0;
        is_archive = archive.1;
      }

  -- and what is shown of it is shown of the files
  line_shown : (device : ℕ) (entry : Entry) (line : ShowLine) → IsLentEntry device lent entry line → IsShownEntry device files entry line
  line_shown device entry line is =
      let name : List ℕ = file_name_text (Data entry.stamp entry.index entry.durable) in
      let content = content_of_bytes (content_at name files) is.bytes (sym (lends name) ∙ is.found) in
      record {
        content = content.0;
        there = content.1;
        archive = is.archive;
        is_archive = subst (λ (bytes : List ℕ). IsArchive bytes is.archive) (sym content.2) is.is_archive;
        line_is = is.line_is;
      }

  pub lines_shown : (device : ℕ) (entries : List Entry) (lines : List ShowLine) → AllZip (IsLentEntry device lent) entries lines → AllZip (IsShownEntry device files) entries lines
  lines_shown device [] [] all = tt
  lines_shown device [] (line ∷ lines) all = absurd all
  lines_shown device (entry ∷ entries) [] all = absurd all
  lines_shown device (entry ∷ entries) (line ∷ lines) all = (line_shown device entry line all.0, lines_shown device entries lines all.1)

-- ---- all lines

-- one more of each of two lists, place by place
pub zip-push : {A B : Type 0} (R : A → B → Type 0) (xs : List A) (ys : List B) (x : A) (y : B) → AllZip R xs ys → R x y → AllZip R (xs ++ x ∷ []) (ys ++ y ∷ [])
zip-push R [] [] x y all is = (is, tt)
zip-push R [] (b ∷ ys) x y all is = absurd all
zip-push R (a ∷ xs) [] x y all is = absurd all
zip-push R (a ∷ xs) (b ∷ ys) x y all is = (all.0, zip-push R xs ys x y all.1 is)

-- where there is no line, the one that says so
pub no_line : (device : ℕ) (lines : List ShowLine) → length lines ≡ 0 → or_empty device lines ≡ lines ++ Empty device ∷ []
no_line device [] none = refl
no_line device (line ∷ lines) none = absurd (omega (arith, none))

pub some_line : (device : ℕ) (lines : List ShowLine) → length lines ≢ 0 → or_empty device lines ≡ lines
some_line device [] some = absurd (some refl)
some_line device (line ∷ lines) some = refl

-- what is shown of files of which these are the names, in any order
pub all_shown : (device : ℕ) (files : List File) (texts : List (List ℕ)) (names : List FileName) (listing : ListingModel) (entries shown : List ShowLine) → IsListing (names_of files) texts → IsDirectory texts names
    → IsListingOf names listing → AllZip (IsShownEntry device files) listing.entries entries → shown ≡ or_empty device (entries ++ map (Buried device) listing.tombstones) → IsShown device files shown
all_shown device files texts names listing entries shown listed directory is_listing are shown_is = record {
  names = names;
  directory = same_directory (names_of files) texts names listed directory;
  listing = listing;
  is_listing = is_listing;
  entries = entries;
  are_entries = are;
  shown_is = shown_is;
}
