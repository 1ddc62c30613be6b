-- Messages side by side, one for each index.
use Rattle.std.proofs.Common.{◌≡◌, ◌<◌, ◌+◌, ℕ, zero, suc, List, [], ◌∷◌, ◌++◌, length, map, replicate, refl, sym, ap, subst, ◌∙◌, arith}
use Rattle.std.specs.List.{range_with_len}
use Rattle.std.proofs.lemmas.List.{map-id}
use Rattle.std.proofs.lemmas.List.FromFn.{get_or-map-range_with_len, length-map-range_with_len}
use Rattle.std.proofs.lemmas.Simd.{zip2-map, zip2_splat_left}
use Rattle.sw_types.specs.Name.{NameModel, path_of}
use Rattle.sw_types.specs.Object.{ObjectModel}
use Rattle.sw_types.specs.Policy.{PolicyModel}
use Rattle.sw_md5.specs.Side.{HaveOneLength}
use Rattle.sw_md5.specs.UnderWay.{HoldsMessages, joined}
use Rattle.sw_md5.specs.declared.digests.Digests.{Digests}
use Rattle.sw_archive.specs.Archive.{header_of}
use Rattle.sw_archive.specs.Parts.{head_bytes}
use Rattle.sw_archive.specs.Put.{put_fields, put_label}
use Rattle.sw_archive.proofs.Openings.{length-opening_any}

-- lists of one length, one for each index
pub HaveOneLength-map : (f : ℕ → List ℕ) (n width : ℕ) → 0 < n → ((index : ℕ) → length (f index) ≡ width) → HaveOneLength (map f (range_with_len 0 n))
HaveOneLength-map f n width some wide = λ i below.
    let count = length-map-range_with_len f 0 n in
    let within : i < n = omega (arith, count) in
    ap length (get_or-map-range_with_len f 0 n i i [] within (omega arith)) ∙ wide i
    ∙ sym (ap length (get_or-map-range_with_len f 0 n 0 0 [] some (omega arith)) ∙ wide 0)

-- the labels of a put have one length
pub length-put_label : (policy : PolicyModel) (stamp : ℕ) (name : NameModel) (object : ObjectModel) (index : ℕ)
    → length (put_label policy stamp name object index) ≡ 36 + length object.body_md5 + length (path_of name ++ head_bytes object.head)
length-put_label policy stamp name object index =
    length-opening_any (header_of (put_fields policy stamp name object index)) (path_of name ++ head_bytes object.head) ∙ omega arith

-- ---- messages that go on

pub joined-none : (f : ℕ → List ℕ) (n : ℕ) → joined (replicate n []) (map f (range_with_len 0 n)) ≡ map f (range_with_len 0 n)
joined-none f n =
    zip2_splat_left (λ (message : List ℕ) (piece : List ℕ). message ++ piece) [] n (map f (range_with_len 0 n)) (length-map-range_with_len f 0 n) ∙ map-id (map f (range_with_len 0 n))

-- what is made of each of some lists
pub map-each : (f g : ℕ → List ℕ) (make : List ℕ → List ℕ) (from n : ℕ) → ((index : ℕ) → make (f index) ≡ g index) → map make (map f (range_with_len from n)) ≡ map g (range_with_len from n)
map-each f g make from zero same = refl
map-each f g make from (suc n) same =
    ap (λ (one : List ℕ). one ∷ map make (map f (range_with_len (from + 1) n))) (same from) ∙ ap (λ (rest : List (List ℕ)). g from ∷ rest) (map-each f g make (from + 1) n same)

-- lists that are the same for each index
map-same : (f g : ℕ → List ℕ) (from n : ℕ) → ((index : ℕ) → f index ≡ g index) → map f (range_with_len from n) ≡ map g (range_with_len from n)
map-same f g from zero same = refl
map-same f g from (suc n) same =
    ap (λ (one : List ℕ). one ∷ map f (range_with_len (from + 1) n)) (same from) ∙ ap (λ (rest : List (List ℕ)). g from ∷ rest) (map-same f g (from + 1) n same)

-- digests of messages so far, which with what is left are whole
pub record AreUnderWay (digests : Digests) (n : ℕ) (left whole : ℕ → List ℕ) : Type 0 where
  pub message : ℕ → List ℕ
  pub holds : HoldsMessages digests (map message (range_with_len 0 n))
  pub is : (index : ℕ) → message index ++ left index ≡ whole index

pub under_way : (digests : Digests) (n : ℕ) (left message : ℕ → List ℕ) → HoldsMessages digests (map message (range_with_len 0 n)) → AreUnderWay digests n left (λ index. message index ++ left index)
under_way digests n left message holds = record { message = message; holds = holds; is = λ index. refl }

-- with a piece of each
pub gone_on : (before after : Digests) (n : ℕ) (piece left rest whole : ℕ → List ℕ) → AreUnderWay before n left whole
    → ((messages : List (List ℕ)) → HoldsMessages before messages → HoldsMessages after (joined messages (map piece (range_with_len 0 n))))
    → ((index : ℕ) → (out more : List ℕ) → more ≡ out ++ piece index → out ++ left index ≡ whole index → more ++ rest index ≡ whole index)
    → AreUnderWay after n rest whole
gone_on before after n piece left rest whole under goes_on adds = record {
  message = λ index. under.message index ++ piece index;
  holds = subst (HoldsMessages after) (zip2-map (λ (message : List ℕ) (piece : List ℕ). message ++ piece) under.message piece (range_with_len 0 n)) (goes_on (map under.message (range_with_len 0 n)) under.holds);
  is = λ index. adds index (under.message index) (under.message index ++ piece index) refl (under.is index);
}

-- with nothing left
pub all_gone_on : (digests : Digests) (n : ℕ) (left whole : ℕ → List ℕ) → AreUnderWay digests n left whole → ((index : ℕ) (out : List ℕ) → out ++ left index ≡ whole index → out ≡ whole index)
    → HoldsMessages digests (map whole (range_with_len 0 n))
all_gone_on digests n left whole under over =
    subst (HoldsMessages digests) (map-same under.message whole 0 n (λ index. over index (under.message index) (under.is index))) under.holds
