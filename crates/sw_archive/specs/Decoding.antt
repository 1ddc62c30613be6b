-- What is decoded from archives, one segment after the other.
use Rattle.std.specs.Prelude.{◌≡◌, ◌≢◌, ◌≤◌, ◌<◌, ℕ, suc, ◌+◌, ◌-◌, List, [], ◌∷◌, ◌++◌, ⊤, length, take, drop}
use Rattle.std.specs.List.{All, AllPairs}
use Rattle.sw_types.specs.Object.{greatest_body}
use Rattle.sw_cauchy.specs.Share.{GatherModel, Share}
use Rattle.sw_cauchy.specs.Stripe.{fragment}
use Rattle.sw_archive.specs.Archive.{ArchiveModel, payload_length}
use Rattle.sw_archive.specs.Pieces.{AreOfPieces, ArePieces, joined_fragments}
use Rattle.sw_archive.specs.declared.decoding.Layout.{Layout}

-- the bytes of a payload of this layout
abbrev pub laid_length : Layout → ℕ
laid_length layout = payload_length layout.code.k layout.size layout.total

-- k archives of this layout, of different indices
pub record AreLaidOut (layout : Layout) (archives : List ArchiveModel) : Type 0 where
  pub size : 0 < layout.size
  pub total : layout.total ≤ greatest_body
  pub count : length archives ≡ layout.code.k
  pub alike : All (λ archive. (archive.k ≡ layout.code.k) × (archive.m ≡ layout.code.m) × (archive.segment ≡ layout.size) × (archive.body_length ≡ layout.total)) archives
  pub distinct : AllPairs (λ a b. a.index ≢ b.index) archives

-- a gather is of the layout's code
abbrev pub HasCode : Layout → GatherModel → Type 0
HasCode layout gather = (gather.k ≡ layout.code.k) × (gather.m ≡ layout.code.m)

-- so many bytes of a payload, with the archive's index
abbrev pub share_at : ℕ → ℕ → ArchiveModel → Share
share_at offset width archive = record { index = archive.index; bytes = take width (drop offset archive.payload) }

-- archives of the fragments from an index on, in their order
abbrev pub AreDataFrom : ℕ → List ArchiveModel → Type 0
AreDataFrom index [] = ⊤
AreDataFrom index (archive ∷ others) = (archive.index ≡ index) × AreDataFrom (suc index) others

-- the payloads have the fragments of these pieces there
abbrev pub HavePieces : ℕ → ℕ → ℕ → List ℕ → List ArchiveModel → Type 0
HavePieces k offset width pieces archives = All (λ archive. take width (drop offset archive.payload) ≡ fragment k width pieces archive.index) archives

-- behind so many bytes of a body, so many bytes of each payload are behind
pub record AreReached (layout : Layout) (done offset : ℕ) : Type 0 where
  pub within : done ≤ layout.total
  pub left : offset + payload_length layout.code.k layout.size (layout.total - done) ≡ laid_length layout

-- pieces of which these bytes were made, and others, which the payloads have behind the offset
pub record AreLeft (layout : Layout) (archives : List ArchiveModel) (made_of : ℕ → List (List ℕ) → List ℕ) (done offset : ℕ) (made : List ℕ) (pieces : List (List ℕ)) : Type 0 where
  pub others : List (List ℕ)
  pub are : ArePieces layout.code.k layout.size (layout.total - done) others
  pub payloads : All (λ archive. drop offset archive.payload ≡ joined_fragments layout.code.k layout.size (layout.total - done) others archive.index) archives
  pub whole : made ++ made_of (layout.total - done) others ≡ made_of layout.total pieces

-- a payload of this index was added
pub record IsRebuilt (archives : List ArchiveModel) (index : ℕ) (old new : List ℕ) : Type 0 where
  pub added : List ℕ
  pub appended : new ≡ old ++ added
  pub reach : All (λ archive. length added ≡ payload_length archive.k archive.segment archive.body_length) archives
  pub pieces : List (List ℕ)
  pub of : AreOfPieces archives pieces
  pub rebuilt : All (λ archive. added ≡ joined_fragments archive.k archive.segment archive.body_length pieces index) archives
