-- What payloads hold, whoever made them: of each segment, one fragment of its pieces. Behind a segment that a put made there are
-- zeros in its pieces; others may have any bytes there.
use Rattle.std.specs.Prelude.{◌≡◌, ℕ, ◌-◌, ◌*◌, ◌<◌, List, [], ◌∷◌, ◌++◌, length, min, take}
use Rattle.std.specs.List.{All}
use Rattle.sw_words.specs.Bytes.{IsBytes}
use Rattle.sw_cauchy.specs.Stripe.{fragment, fragment_width}
use Rattle.sw_archive.specs.Archive.{ArchiveModel}

-- the pieces of each segment of a body of so many bytes
abbrev pub ArePieces : ℕ → ℕ → ℕ → List (List ℕ) → Type 0
ArePieces k size total [] = total ≡ 0
ArePieces k size total (pieces ∷ others) =
    (0 < total) × IsBytes pieces × (length pieces ≡ k * fragment_width k (min size total)) × ArePieces k size (total - size) others

-- the fragments of an index, joined
abbrev pub joined_fragments : ℕ → ℕ → ℕ → List (List ℕ) → ℕ → List ℕ
joined_fragments k size total [] index = []
joined_fragments k size total (pieces ∷ others) index =
    fragment k (fragment_width k (min size total)) pieces index ++ joined_fragments k size (total - size) others index

-- the segments at the front of the pieces, joined
abbrev pub joined_segments : ℕ → ℕ → List (List ℕ) → List ℕ
joined_segments size total [] = []
joined_segments size total (pieces ∷ others) = take (min size total) pieces ++ joined_segments size (total - size) others

-- the payload of each of these archives has the fragments of these pieces
abbrev pub AreOfPieces : List ArchiveModel → List (List ℕ) → Type 0
AreOfPieces archives pieces =
    All (λ archive. ArePieces archive.k archive.segment archive.body_length pieces
    × (archive.payload ≡ joined_fragments archive.k archive.segment archive.body_length pieces archive.index)) archives

-- The body that these archives hold: the segments at the front of the pieces that they are of. Any k archives that stand
-- beside one another are of some pieces, and of no others.
pub record IsDecoded (archives : List ArchiveModel) (body : List ℕ) : Type 0 where
  pub pieces : List (List ℕ)
  pub of : AreOfPieces archives pieces
  pub joined : All (λ archive. body ≡ joined_segments archive.segment archive.body_length pieces) archives
