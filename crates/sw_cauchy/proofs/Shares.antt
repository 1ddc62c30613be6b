-- Shares, and the indices and bytes that they are kept as.
use Rattle.std.proofs.Common.{◌≡◌, ℕ, zero, suc, ◌+◌, ◌*◌, ◌<◌, ◌≤◌, List, [], ◌∷◌, ◌++◌, length, drop, get_or, refl, sym, ap, ap₂, subst, ◌∙◌, arith, ◌≢◌, vec_capacity, length-append}
use Rattle.std.specs.List.{All, AllPairs}
use Rattle.std.proofs.lemmas.List.{take_all, take-append-le, drop-append-le, length-drop, get_or-take, get_or-drop}
use Rattle.std.proofs.lemmas.List.Elements.{All-push}
use Rattle.std.proofs.lemmas.List.Quantifiers.{all_pairs_push}
use Rattle.std.proofs.lemmas.Nat.{row_fits}
use Rattle.sw_cauchy.specs.declared.code.Code.{Code}
use Rattle.sw_cauchy.specs.declared.gather.Gather.TheInside.{Inside}
use Rattle.sw_cauchy.specs.Decodes.{Decodes}
use Rattle.sw_cauchy.specs.Gather.{shares_of, gather_model, IsGather}
use Rattle.sw_cauchy.specs.Share.{Share, GatherModel}

-- as many shares as indices
pub length-shares_of : (width : ℕ) (indices bytes : List ℕ) → length (shares_of width indices bytes) ≡ length indices
length-shares_of width [] bytes = refl
length-shares_of width (i ∷ indices) bytes = ap suc (length-shares_of width indices (drop width bytes))

-- one more share
shares_of-push : (width : ℕ) (indices bytes : List ℕ) (i : ℕ) (new : List ℕ) → length bytes ≡ length indices * width → length new ≡ width
    → shares_of width (indices ++ i ∷ []) (bytes ++ new) ≡ shares_of width indices bytes ++ record { index = i; bytes = new } ∷ []
shares_of-push width [] [] i new filled e =
    let P : List ℕ → Share = λ b. record { index = i; bytes = b } in
    ap (λ b. P b ∷ []) (take_all width new (omega arith))
shares_of-push width [] (b ∷ bytes) i new filled e = absurd (omega arith)
shares_of-push width (j ∷ indices) bytes i new filled e =
    let rest : length (drop width bytes) ≡ length indices * width = length-drop width bytes ∙ omega arith in
    let P : List ℕ → Share = λ b. record { index = j; bytes = b } in
    ap₂ (λ b shares. P b ∷ shares) (take-append-le width bytes new (omega arith))
    (ap (shares_of width (indices ++ i ∷ [])) (drop-append-le width bytes new (omega arith)) ∙ shares_of-push width indices (drop width bytes) i new rest e)

-- the index of a share
pub share_index : (width : ℕ) (indices bytes : List ℕ) (t : ℕ) (d : Share) (e : ℕ) → t < length indices → (get_or (shares_of width indices bytes) t d).index ≡ get_or indices t e
share_index width [] bytes t d e h = absurd (omega arith)
share_index width (i ∷ indices) bytes zero d e h = refl
share_index width (i ∷ indices) bytes (suc t) d e h = share_index width indices (drop width bytes) t d e (omega arith)

-- the byte at a position of a share
pub share_byte : (width : ℕ) (indices bytes : List ℕ) (t position : ℕ) (d : Share) → t < length indices → position < width
    → get_or ((get_or (shares_of width indices bytes) t d).bytes) position 0 ≡ get_or bytes (t * width + position) 0
share_byte width [] bytes t position d h l = absurd (omega arith)
share_byte width (i ∷ indices) bytes zero position d h l = get_or-take width bytes position 0 l ∙ ap (λ n. get_or bytes n 0) (omega arith)
share_byte width (i ∷ indices) bytes (suc t) position d h l =
    share_byte width indices (drop width bytes) t position d (omega arith) l
    ∙ get_or-drop width bytes (t * width + position) 0 ∙ ap (λ n. get_or bytes n 0) (omega arith)

-- the number of shares gathered
share_count : (inside : Inside) (gather : GatherModel) → gather_model inside ≡ gather → length gather.shares ≡ length inside.indices.items
share_count inside gather view =
    sym (ap (λ (v : GatherModel). length v.shares) view) ∙ length-shares_of inside.width inside.indices.items inside.bytes.items

-- with k shares there are k indices
pub full_count : (inside : Inside) (gather : GatherModel) → gather_model inside ≡ gather → length gather.shares ≡ gather.k → length inside.indices.items ≡ inside.code.k
full_count inside gather view enough = omega (arith, share_count inside gather view, ap (λ (v : GatherModel). v.k) view)

-- and k pieces of bytes
pub full_bytes : (inside : Inside) (gather : GatherModel) → gather_model inside ≡ gather → IsGather inside → length gather.shares ≡ gather.k → length inside.bytes.items ≡ inside.code.k * inside.width
full_bytes inside gather view kept enough = kept.filled ∙ ap (λ n. n * inside.width) (full_count inside gather view enough)

-- and what is kept decodes them
pub full_decodes : (inside : Inside) (gather : GatherModel) → gather_model inside ≡ gather → IsGather inside → length gather.shares ≡ gather.k
    → Decodes inside.code.k inside.decoder.matrix.items inside.indices.items
full_decodes inside gather view kept enough =
    subst (λ (xs : List ℕ). Decodes inside.code.k inside.decoder.matrix.items xs) (kept.follows (full_count inside gather view enough)) kept.decodes

-- ---- a share is added

-- a share may be added to what was gathered
pub record MayAdd (before : Inside) (index : ℕ) (fragment : List ℕ) : Type 0 where
  pub kept : IsGather before
  pub room : length before.indices.items < before.code.k
  pub width : length fragment ≡ before.width
  pub below : index < before.code.k + before.code.m
  pub new : (t d : ℕ) → t < length before.indices.items → get_or before.indices.items t d ≢ index

-- the conditions of adding, of the fields
pub may_add : (before : Inside) (gather : GatherModel) (index : ℕ) (fragment : List ℕ) → gather_model before ≡ gather → IsGather before
    → index < gather.k + gather.m → All (λ share. share.index ≢ index) gather.shares → length fragment ≡ gather.width → length gather.shares < gather.k
    → MayAdd before index fragment
may_add before gather index fragment view kept below new width room =
    let count = share_count before gather view in
    let k = ap (λ (v : GatherModel). v.k) view in
    let none : Share = record { index = 0; bytes = [] } in
    record {
      kept = kept;
      room = omega arith;
      width = width ∙ sym (ap (λ (v : GatherModel). v.width) view);
      below = omega (arith, ap (λ (v : GatherModel). v.m) view);
      new = λ t d h e.
          new t none (omega arith) (ap (λ (v : GatherModel). (get_or v.shares t none).index) (sym view) ∙ share_index before.width before.indices.items before.bytes.items t none d h ∙ e);
    }

-- there is room for its bytes
pub room_for_bytes : (before : Inside) (index : ℕ) (fragment : List ℕ) → MayAdd before index fragment → length before.bytes.items + length fragment ≤ vec_capacity before.bytes
room_for_bytes before index fragment may =
    omega (arith, may.kept.filled, may.kept.byte_room, may.width, row_fits (length before.indices.items) before.width before.code.k before.width may.room (omega arith))

-- with it the indices stay below the number of fragments
pub added_below : (before : Inside) (index : ℕ) (fragment : List ℕ) → MayAdd before index fragment → All (λ i. i < before.code.k + before.code.m) (before.indices.items ++ index ∷ [])
added_below before index fragment may =
    All-push (λ i. i < before.code.k + before.code.m) before.indices.items index may.kept.below may.below

-- and apart
pub added_distinct : (before : Inside) (index : ℕ) (fragment : List ℕ) → MayAdd before index fragment → AllPairs (λ s t. s ≢ t) (before.indices.items ++ index ∷ [])
added_distinct before index fragment may = all_pairs_push (λ s t. s ≢ t) before.indices.items index may.kept.distinct may.new

-- its index and its bytes are at the end, and what decodes them is there
pub record IsAdded (before after : Inside) (index : ℕ) (fragment : List ℕ) : Type 0 where
  pub code : after.code ≡ before.code
  pub width : after.width ≡ before.width
  pub indices : after.indices.items ≡ before.indices.items ++ index ∷ []
  pub bytes : after.bytes.items ≡ before.bytes.items ++ fragment
  pub index_room : vec_capacity before.indices ≤ vec_capacity after.indices
  pub byte_room : vec_capacity before.bytes ≤ vec_capacity after.bytes
  pub decodes : Decodes before.code.k after.decoder.matrix.items after.decoder.indices.items
  pub follows : length after.indices.items ≡ before.code.k → after.decoder.indices.items ≡ after.indices.items

-- what is kept stays in order
pub IsGather-added : (before after : Inside) (index : ℕ) (fragment : List ℕ) → MayAdd before index fragment → IsAdded before after index fragment → IsGather after
IsGather-added before after index fragment may added =
    let k = ap (λ (code : Code). code.k) added.code in
    let longer : length after.indices.items ≡ length before.indices.items + 1 = ap length added.indices ∙ length-append before.indices.items (index ∷ []) in
    record {
      count = omega (arith, longer, may.room);
      filled =
          ap length added.bytes ∙ length-append before.bytes.items fragment
          ∙ omega (arith, may.kept.filled, may.width) ∙ sym (ap₂ (λ n w. n * w) longer added.width);
      below = rw (added.code, added.indices) (added_below before index fragment may);
      distinct = rw added.indices (added_distinct before index fragment may);
      index_room = omega (arith, may.kept.index_room);
      byte_room = omega (arith, may.kept.byte_room, ap₂ (λ n w. n * w) k added.width);
      decodes = rw added.code added.decodes;
      follows = λ full. added.follows (full ∙ k);
    }

-- the share is the last one gathered
pub gather_model-added : (before after : Inside) (gather : GatherModel) (index : ℕ) (fragment : List ℕ) → gather_model before ≡ gather → MayAdd before index fragment → IsAdded before after index fragment
    → gather_model after ≡ record gather { shares = gather.shares ++ record { index = index; bytes = fragment } ∷ [] }
gather_model-added before after gather index fragment view may added =
    rw (added.code, added.width, added.indices, added.bytes, shares_of-push before.width before.indices.items before.bytes.items index fragment may.kept.filled may.width)
    (ap (λ (v : GatherModel). record v { shares = v.shares ++ record { index = index; bytes = fragment } ∷ [] }) view)
