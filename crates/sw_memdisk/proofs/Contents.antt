-- Files and changes stay the same when a folder gets one content more, and how those contents are numbered after a crash.
use Rattle.std.proofs.Common.{◌≡◌, ℕ, zero, suc, ◌<◌, List, [], ◌∷◌, ◌++◌, length, map, refl, sym, ap, ◌∙◌, arith}
use Rattle.std.proofs.lemmas.List.{length-map, map-append}
use Rattle.sw_disk.specs.Folder.{Change, Content, File}
use Rattle.sw_disk.specs.Folder as change
use Rattle.sw_memdisk.specs.Held.{AllInside, AreInside, IsInside, change_of, content_number, content_of, file_of, files_in, no_content}
use Rattle.sw_memdisk.specs.Log.{crashed_content, crashed_file}
use Rattle.sw_memdisk.specs.declared.held.Held.{Held}
use Rattle.sw_memdisk.specs.declared.held.MemContent.{MemContent}
use Rattle.sw_memdisk.specs.declared.held.Move.{Move}
use Rattle.sw_memdisk.specs.declared.held.Move.TheVariants.{Publish, Rename, Remove}

-- ---- one content more

number_front : (contents : List MemContent) (content : MemContent) (number : ℕ) → number < length contents → content_number (contents ++ content ∷ []) number ≡ content_number contents number
number_front [] content number less = absurd (omega arith)
number_front (first ∷ contents) content zero less = refl
number_front (first ∷ contents) content (suc number) less = number_front contents content number (omega arith)

number_last : (contents : List MemContent) (content : MemContent) → content_number (contents ++ content ∷ []) (length contents) ≡ content_of content
number_last [] content = refl
number_last (first ∷ contents) content = number_last contents content

file_of-push : (contents : List MemContent) (content : MemContent) (held : Held) → held.content < length contents → file_of (contents ++ content ∷ []) held ≡ file_of contents held
file_of-push contents content held less = λ i. record { name = held.name.bytes; content = number_front contents content held.content less i }

pub files_in-push : (contents : List MemContent) (content : MemContent) (files : List Held) → AreInside (length contents) files → files_in (contents ++ content ∷ []) files ≡ files_in contents files
files_in-push contents content [] inside = refl
files_in-push contents content (held ∷ files) inside = λ i. file_of-push contents content held inside.0 i ∷ files_in-push contents content files inside.1 i

change_of-push : (contents : List MemContent) (content : MemContent) (move : Move) → IsInside (length contents) move → change_of (contents ++ content ∷ []) move ≡ change_of contents move
change_of-push contents content (Publish held) inside = ap change.Publish (file_of-push contents content held inside)
change_of-push contents content (Rename from to) inside = refl
change_of-push contents content (Remove name) inside = refl

changes_in-push : (contents : List MemContent) (content : MemContent) (moves : List Move) → AllInside (length contents) moves → map (change_of (contents ++ content ∷ [])) moves ≡ map (change_of contents) moves
changes_in-push contents content [] inside = refl
changes_in-push contents content (move ∷ moves) inside = λ i. change_of-push contents content move inside.0 i ∷ changes_in-push contents content moves inside.1 i

-- the changes after a file with the new content is published
pub published_is : (contents : List MemContent) (content : MemContent) (moves : List Move) (held : Held) (name : List ℕ) → AllInside (length contents) moves → held.content ≡ length contents → held.name.bytes ≡ name
    → map (change_of (contents ++ content ∷ [])) (moves ++ Publish held ∷ []) ≡ map (change_of contents) moves ++ change.Publish (record { name = name; content = content_of content }) ∷ []
published_is contents content moves held name inside last named =
    let number : content_number (contents ++ content ∷ []) held.content ≡ content_of content = ap (content_number (contents ++ content ∷ [])) last ∙ number_last contents content in
    let file : file_of (contents ++ content ∷ []) held ≡ record { name = name; content = content_of content } = λ i. record { name = named i; content = number i } in
    map-append (change_of (contents ++ content ∷ [])) moves (Publish held ∷ [])
    ∙ ap (λ (changes : List Change). changes ++ change.Publish (file_of (contents ++ content ∷ []) held) ∷ []) (changes_in-push contents content moves inside)
    ∙ ap (λ (f : File). map (change_of contents) moves ++ change.Publish f ∷ []) file

-- ---- a crash

-- a content by its number, of those that contracts see
abbrev number_in : List Content → ℕ → Content
number_in [] number = no_content
number_in (content ∷ contents) zero = content
number_in (content ∷ contents) (suc number) = number_in contents number

number_seen : (contents : List MemContent) (number : ℕ) → content_number contents number ≡ number_in (map content_of contents) number
number_seen [] number = refl
number_seen (content ∷ contents) zero = refl
number_seen (content ∷ contents) (suc number) = number_seen contents number

number_crashed : (contents : List Content) (number : ℕ) → number < length contents → number_in (map crashed_content contents) number ≡ crashed_content (number_in contents number)
number_crashed [] number less = absurd (omega arith)
number_crashed (content ∷ contents) zero less = refl
number_crashed (content ∷ contents) (suc number) less = number_crashed contents number (omega arith)

module _ (old new : List MemContent) (crashed : map content_of new ≡ map crashed_content (map content_of old)) where
  number_of : (number : ℕ) → number < length old → content_number new number ≡ crashed_content (content_number old number)
  number_of number less =
      number_seen new number
      ∙ ap (λ (contents : List Content). number_in contents number) crashed
      ∙ number_crashed (map content_of old) number (let e = length-map old content_of in omega (arith, e))
      ∙ ap crashed_content (sym (number_seen old number))

  -- the files have the contents that the crash left
  pub files_in-crashed : (files : List Held) → AreInside (length old) files → files_in new files ≡ map crashed_file (files_in old files)
  files_in-crashed [] inside = refl
  files_in-crashed (held ∷ files) inside = λ i. record { name = held.name.bytes; content = number_of held.content inside.0 i } ∷ files_in-crashed files inside.1 i
