-- Where all archives are of data, their payloads hold the pieces of each segment as they stand.
use Rattle.std.proofs.Common.{◌≡◌, ◌≤◌, ◌<◌, ℕ, zero, suc, ◌+◌, ◌*◌, List, [], ◌∷◌, ◌++◌, length, take, drop, get_or, sym, ap, ◌∙◌, arith, append_assoc}
use Rattle.std.proofs.Math.Nat.{mul-le-mul_right}
use Rattle.std.proofs.lemmas.List.{append-nil, drop-drop, drop_all, take-append-drop}
use Rattle.sw_words.specs.Bytes.{IsBytes}
use Rattle.sw_cauchy.specs.Stripe.{fragment}
use Rattle.sw_cauchy.proofs.Fragments.{data_fragment}
use Rattle.sw_archive.specs.Archive.{ArchiveModel}
use Rattle.sw_archive.specs.Decoding.{AreDataFrom, HavePieces}

-- the index of the one at a position
pub data_index : (first : ℕ) (archives : List ArchiveModel) (position : ℕ) (archive : ArchiveModel) → AreDataFrom first archives → position < length archives → archive ≡ get_or archives position archive → archive.index ≡ first + position
data_index first [] position archive are below is = absurd (omega arith)
data_index first (head ∷ others) zero archive are below is = ap (λ (a : ArchiveModel). a.index) is ∙ are.0 ∙ omega arith
data_index first (head ∷ others) (suc position) archive are below is = data_index (suc first) others position archive are.1 (omega (arith, below)) is ∙ omega arith

-- one piece more, in front of those that are left
pub piece_more : (k width offset position : ℕ) (pieces before old : List ℕ) (archives : List ArchiveModel) (archive : ArchiveModel)
    → AreDataFrom 0 archives → length archives ≡ k → position < length archives → archive ≡ get_or archives position archive
    → IsBytes pieces → length pieces ≡ k * width → HavePieces k offset width pieces archives
    → before ++ drop (position * width) pieces ≡ old ++ pieces
    → (before ++ take width (drop offset archive.payload)) ++ drop ((position + 1) * width) pieces ≡ old ++ pieces
piece_more k width offset position pieces before old archives archive are count below is bytes whole have so_far =
    let rest : List ℕ = drop (position * width) pieces in
    let index : archive.index ≡ position = data_index 0 archives position archive are below is ∙ omega arith in
    let piece : take width (drop offset archive.payload) ≡ take width rest =
    ap (λ (a : ArchiveModel). take width (drop offset a.payload)) is
    ∙ have position archive below
    ∙ ap (λ (a : ArchiveModel). fragment k width pieces a.index) (sym is)
    ∙ ap (fragment k width pieces) index
    ∙ data_fragment k width position pieces (omega (arith, below, count)) bytes whole in
    let behind : drop ((position + 1) * width) pieces ≡ drop width rest = ap (λ n. drop n pieces) (omega arith) ∙ sym (drop-drop width (position * width) pieces) in
    ap (λ bytes. (before ++ bytes) ++ drop ((position + 1) * width) pieces) piece
    ∙ ap (λ bytes. (before ++ take width rest) ++ bytes) behind
    ∙ append_assoc before (take width rest) (drop width rest)
    ∙ ap (λ bytes. before ++ bytes) (take-append-drop width rest)
    ∙ so_far

-- and none is left behind the last
pub all_pieces : (k width position : ℕ) (pieces now old : List ℕ) → length pieces ≡ k * width → k ≤ position → now ++ drop (position * width) pieces ≡ old ++ pieces → now ≡ old ++ pieces
all_pieces k width position pieces now old whole all is =
    let over : k * width ≤ position * width = mul-le-mul_right width all in
    sym (append-nil now) ∙ ap (λ bytes. now ++ bytes) (sym (drop_all (position * width) pieces (omega (arith, over, whole)))) ∙ is
