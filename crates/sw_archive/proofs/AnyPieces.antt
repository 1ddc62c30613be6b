-- Payloads of k archives are of some pieces, and of no others: segment by segment, any k fragments are.
use Rattle.std.proofs.Common.{◌≡◌, ◌≢◌, ◌≤◌, ◌<◌, ℕ, zero, suc, ◌+◌, ◌-◌, List, [], ◌∷◌, ◌++◌, length, take, drop, map, min, get_or, refl, sym, ap, ap₂, subst, ◌∙◌, inl, inr, arith, length-drop}
use Rattle.std.specs.List.{All, AllPairs}
use Rattle.std.proofs.lemmas.Bool.{cases_lt}
use Rattle.std.proofs.lemmas.List.{drop-drop, drop_at, get_or-map, length-map, length-take-le, nil_from_length, take-append-drop, take_at}
use Rattle.std.proofs.lemmas.List.Elements.{All-map}
use Rattle.sw_words.specs.Bytes.{IsBytes}
use Rattle.sw_words.proofs.ByteLists.{IsBytes-drop, IsBytes-take}
use Rattle.sw_cauchy.specs.Share.{AreFragments, AreShares, Share}
use Rattle.sw_cauchy.specs.Stripe.{fragment, fragment_width}
use Rattle.sw_cauchy.proofs.AnyFragments.{same_pieces, some_pieces}
use Rattle.sw_cauchy.proofs.Fragments.{length-fragment}
use Rattle.sw_archive.specs.Archive.{ArchiveModel, payload_length}
use Rattle.sw_archive.specs.Decoding.{share_at}
use Rattle.sw_archive.specs.Pieces.{ArePieces, joined_fragments}
use Rattle.sw_archive.proofs.Payloads.{payload_length-cut, payload_length-zero}

-- behind an offset, payloads of k archives of different indices, each for so many bytes of a body
pub record ArePayloads (k size total offset : ℕ) (archives : List ArchiveModel) : Type 0 where
  pub small : k ≤ 256
  pub some : 0 < k
  pub whole : 0 < size
  pub count : length archives ≡ k
  pub below : All (λ archive. archive.index < 256) archives
  pub distinct : AllPairs (λ a b. a.index ≢ b.index) archives
  pub bytes : All (λ archive. IsBytes archive.payload) archives
  pub reach : All (λ archive. length (drop offset archive.payload) ≡ payload_length k size total) archives

-- they have the fragments of these pieces there
abbrev pub HaveJoined : ℕ → ℕ → ℕ → ℕ → List ArchiveModel → List (List ℕ) → Type 0
HaveJoined k size total offset archives pieces = All (λ archive. drop offset archive.payload ≡ joined_fragments k size total pieces archive.index) archives

pairs_mapped : {X : Type 0} (R : X → X → Type 0) {Y : Type 0} (f : Y → X) (ys : List Y) → AllPairs (λ a b. R (f a) (f b)) ys → AllPairs R (map f ys)
pairs_mapped R f [] pairs i j other before within = absurd (omega (arith, within))
pairs_mapped R f (y ∷ ys) pairs i j other before within =
    let below : j < length (y ∷ ys) = omega (arith, within, length-map (y ∷ ys) f) in
    subst (λ a. R a (get_or (map f (y ∷ ys)) j other)) (sym (get_or-map f (y ∷ ys) i y other (omega (arith, before, below))))
    (subst (R (f (get_or (y ∷ ys) i y))) (sym (get_or-map f (y ∷ ys) j y other below)) (pairs i j y before below))

-- ---- the next segment

module _ (k size total offset : ℕ) (archives : List ArchiveModel) (are : ArePayloads k size total offset archives) where
  abbrev width : ℕ
  width = fragment_width k (min size total)

  abbrev shares : List Share
  shares = map (share_at offset width) archives

  reach_behind : payload_length k size total ≡ width + payload_length k size (total - size)
  reach_behind =
      let left : total - min size total ≡ total - size = omega arith in
      payload_length-cut k size total are.some are.whole ∙ ap (λ n. width + payload_length k size n) left

  shares_are : AreShares k width shares
  shares_are = record {
    small = are.small;
    count = length-map archives (share_at offset width) ∙ are.count;
    below = All-map (λ (share : Share). share.index < 256) (share_at offset width) archives are.below;
    distinct = pairs_mapped (λ (s t : Share). s.index ≢ t.index) (share_at offset width) archives are.distinct;
    bytes = All-map (λ (share : Share). IsBytes share.bytes) (share_at offset width) archives
        (λ position other below. IsBytes-take width _ (IsBytes-drop offset _ (are.bytes position other below)));
    wide = All-map (λ (share : Share). length share.bytes ≡ width) (share_at offset width) archives
        (λ position other below. length-take-le width _ (omega (arith, are.reach position other below, reach_behind)));
  }

  -- the payloads behind it
  behind : ArePayloads k size (total - size) (offset + width) archives
  behind = record {
    small = are.small;
    some = are.some;
    whole = are.whole;
    count = are.count;
    below = are.below;
    distinct = are.distinct;
    bytes = are.bytes;
    reach = λ position other below.
        let payload = (get_or archives position other).payload in
        omega (arith, length-drop (offset + width) payload, length-drop offset payload, are.reach position other below, reach_behind);
  }

  -- with the fragments of its pieces the payloads have those of all
  have_more : (first : List ℕ) (others : List (List ℕ)) → AreFragments k width first shares → HaveJoined k size (total - size) (offset + width) archives others → HaveJoined k size total offset archives (first ∷ others)
  have_more first others fragments have = λ position other below.
      let at = get_or archives position other in
      let share : Share = share_at offset width other in
      let there : position < length shares = omega (arith, below, length-map archives (share_at offset width)) in
      let here : take width (drop offset at.payload) ≡ fragment k width first at.index =
      subst (λ (share : Share). share.bytes ≡ fragment k width first share.index) (get_or-map (share_at offset width) archives position other share below) (fragments position share there) in
      sym (take-append-drop width (drop offset at.payload)) ∙ ap₂ (λ front back. front ++ back) here (drop-drop width offset at.payload ∙ have position other below)

  -- and where they have those of all, its shares are fragments of the first pieces
  have_first : (first : List ℕ) (others : List (List ℕ)) → HaveJoined k size total offset archives (first ∷ others) → AreFragments k width first shares
  have_first first others have =
      All-map (λ (share : Share). share.bytes ≡ fragment k width first share.index) (share_at offset width) archives
      (λ position other below.
      let index = (get_or archives position other).index in
      ap (take width) (have position other below) ∙ take_at (fragment k width first index) (joined_fragments k size (total - size) others index) width (length-fragment k width first index))

  have_others : (first : List ℕ) (others : List (List ℕ)) → HaveJoined k size total offset archives (first ∷ others) → HaveJoined k size (total - size) (offset + width) archives others
  have_others first others have = λ position other below.
      let at = get_or archives position other in
      sym (drop-drop width offset at.payload) ∙ ap (drop width) (have position other below)
      ∙ drop_at (fragment k width first at.index) (joined_fragments k size (total - size) others at.index) width (length-fragment k width first at.index)

-- ---- all segments

no_pieces : (k size total offset : ℕ) (archives : List ArchiveModel) → ArePayloads k size total offset archives → total ≡ 0 → (pieces : List (List ℕ)) × ArePieces k size total pieces × HaveJoined k size total offset archives pieces
no_pieces k size total offset archives are none =
    ([], none, (λ position other below. nil_from_length _ (are.reach position other below ∙ ap (payload_length k size) none ∙ payload_length-zero k size are.some are.whole)))

-- of at most n bytes
pub pieces_behind : (n k size total offset : ℕ) (archives : List ArchiveModel) → ArePayloads k size total offset archives → total ≤ n
    → (pieces : List (List ℕ)) × ArePieces k size total pieces × HaveJoined k size total offset archives pieces
pieces_behind zero k size total offset archives are within = no_pieces k size total offset archives are (omega (arith, within))
pieces_behind (suc n) k size total offset archives are within = elim (cases_lt 0 total) [
  | inr none ↦ no_pieces k size total offset archives are (omega (arith, none))
  | inl more ↦
      let first = some_pieces k (width k size total offset archives are) (shares k size total offset archives are) (shares_are k size total offset archives are) in
      let others = pieces_behind n k size (total - size) (offset + width k size total offset archives are) archives (behind k size total offset archives are) (omega (arith, within, more, are.whole)) in (
        first.0 ∷ others.0,
        (more, first.1, first.2, others.1),
        have_more k size total offset archives are first.0 others.0 first.3 others.2,
      )
]

pub one_behind : (k size total offset : ℕ) (archives : List ArchiveModel) → ArePayloads k size total offset archives → (a b : List (List ℕ)) → ArePieces k size total a → ArePieces k size total b
    → HaveJoined k size total offset archives a → HaveJoined k size total offset archives b → a ≡ b
one_behind k size total offset archives are [] [] a_are b_are a_have b_have = refl
one_behind k size total offset archives are [] (y ∷ ys) a_are b_are a_have b_have = absurd (omega (arith, a_are, b_are.0))
one_behind k size total offset archives are (x ∷ xs) [] a_are b_are a_have b_have = absurd (omega (arith, a_are.0, b_are))
one_behind k size total offset archives are (x ∷ xs) (y ∷ ys) a_are b_are a_have b_have =
    ap₂ (λ (first : List ℕ) (others : List (List ℕ)). first ∷ others)
    (same_pieces k (width k size total offset archives are) (shares k size total offset archives are) (shares_are k size total offset archives are) x y a_are.1 b_are.1 a_are.2 b_are.2
    (have_first k size total offset archives are x xs a_have) (have_first k size total offset archives are y ys b_have))
    (one_behind k size (total - size) (offset + width k size total offset archives are) archives (behind k size total offset archives are) xs ys a_are.3 b_are.3
    (have_others k size total offset archives are x xs a_have) (have_others k size total offset archives are y ys b_have))
