-- Fragments of archives are gathered and decoded, segment after segment.
use Rattle.std.proofs.Common.{◌≡◌, ◌≢◌, ◌≤◌, ◌<◌, ℕ, ◌+◌, ◌-◌, ◌*◌, List, [], ◌∷◌, ◌++◌, length, take, drop, map, min, get_or, refl, sym, ap, subst, ◌∙◌, arith, append_assoc, length-take}
use Rattle.std.specs.List.{All, AllPairs}
use Rattle.std.proofs.lemmas.List.{append-nil, drop-drop, drop_at, get_or-take, get_or_read, map-append, take_at, take_more}
use Rattle.std.proofs.lemmas.List.Elements.{All-map}
use Rattle.sw_words.specs.Bytes.{IsBytes}
use Rattle.sw_cauchy.specs.Share.{AreFragments, GatherModel, Share}
use Rattle.sw_cauchy.specs.Stripe.{fragment, fragment_width}
use Rattle.sw_cauchy.proofs.Fragments.{length-fragment}
use Rattle.sw_archive.specs.Archive.{ArchiveModel, IsSound, payload_length}
use Rattle.sw_archive.specs.Assemble.{AreEnough, AreTogether}
use Rattle.sw_archive.specs.Decoding.{AreLaidOut, AreLeft, AreReached, HavePieces, IsRebuilt, laid_length, share_at}
use Rattle.sw_archive.specs.Pieces.{AreOfPieces, ArePieces, IsDecoded, joined_fragments, joined_segments}
use Rattle.sw_archive.specs.declared.decoding.Layout.{Layout}
use Rattle.sw_archive.proofs.Archives.{code_bounds}
use Rattle.sw_archive.proofs.Objects.{alike_to_first, count_of_first, no_archive}
use Rattle.sw_archive.proofs.Payloads.{payload_length-cut, payload_length-le, payload_length-zero}

-- ---- fragments are gathered

-- the archives before a position have other indices than the one there
pub others_before : (offset width : ℕ) (archives : List ArchiveModel) (position : ℕ) (archive : ArchiveModel) → AllPairs (λ a b. a.index ≢ b.index) archives → position < length archives
    → archive ≡ get_or archives position archive → All (λ share. share.index ≢ archive.index) (map (share_at offset width) (take position archives))
others_before offset width archives position archive distinct below is =
    All-map (λ share. share.index ≢ archive.index) (share_at offset width) (take position archives)
    (λ k other before same.
    let lt : k < position = omega (arith, length-take position archives) in
    let there : get_or (take position archives) k other ≡ get_or archives k other = get_or-take position archives k other lt in
    distinct k position other lt below (ap (λ (a : ArchiveModel). a.index) (sym there) ∙ same ∙ ap (λ (a : ArchiveModel). a.index) (get_or_read archives position archive below is other)))

abbrev gather_of : ℕ → ℕ → ℕ → List Share → GatherModel
gather_of k m width shares = record { k = k; m = m; width = width; shares = shares }

-- the share of one archive more
pub gathered_more : (k m width offset : ℕ) (archives : List ArchiveModel) (position : ℕ) (archive : ArchiveModel) (gather new : GatherModel) (index : ℕ) (bytes : List ℕ)
    → gather ≡ record { k = k; m = m; width = width; shares = map (share_at offset width) (take position archives) }
    → new ≡ record gather { shares = gather.shares ++ record { index = index; bytes = bytes } ∷ [] }
    → index ≡ archive.index → bytes ≡ take width (drop offset archive.payload) → position < length archives → archive ≡ get_or archives position archive
    → new ≡ record { k = k; m = m; width = width; shares = map (share_at offset width) (take (position + 1) archives) }
gathered_more k m width offset archives position archive gather new index bytes so_far added index_is bytes_are below is =
    let share : Share = record { index = index; bytes = bytes } in
    let shares = map (share_at offset width) (take position archives) in
    let this : share ≡ share_at offset width archive =
    ap (λ (i : ℕ). record { index = i; bytes = bytes }) index_is ∙ ap (λ (b : List ℕ). record { index = archive.index; bytes = b }) bytes_are in
    let more : take (position + 1) archives ≡ take position archives ++ archive ∷ [] =
    take_more archives position archive below ∙ ap (λ (a : ArchiveModel). take position archives ++ a ∷ []) (sym is) in
    added ∙ ap (λ (g : GatherModel). record g { shares = g.shares ++ share ∷ [] }) so_far ∙ ap (λ (s : Share). gather_of k m width (shares ++ s ∷ [])) this
    ∙ ap (gather_of k m width) (sym (map-append (share_at offset width) (take position archives) (archive ∷ []))) ∙ ap (λ (some : List ArchiveModel). gather_of k m width (map (share_at offset width) some)) (sym more)

-- ---- what was gathered is decoded

-- the shares are fragments of the pieces that the payloads have there
shares_are_fragments : (k width offset : ℕ) (pieces : List ℕ) (archives : List ArchiveModel) → HavePieces k offset width pieces archives → AreFragments k width pieces (map (share_at offset width) archives)
shares_are_fragments k width offset pieces archives have =
    All-map (λ (share : Share). share.bytes ≡ fragment k width pieces share.index) (share_at offset width) archives (λ position archive below. have position archive below)

-- what is decoded from any pieces, at those
pub decoded_there : (k m width offset count : ℕ) (archives : List ArchiveModel) (gather : GatherModel) → gather ≡ gather_of k m width (map (share_at offset width) archives) → width ≡ fragment_width k count
    → (Decoded : ℕ → ℕ → List ℕ → Type 0)
    → ((pieces : List ℕ) → IsBytes pieces → length pieces ≡ gather.k * gather.width → AreFragments gather.k gather.width pieces gather.shares → Decoded gather.k gather.width pieces)
    → (pieces : List ℕ) → IsBytes pieces → length pieces ≡ k * fragment_width k count → HavePieces k offset (fragment_width k count) pieces archives → Decoded k (fragment_width k count) pieces
decoded_there k m width offset count archives gather gathered width_is Decoded decodes pieces bytes whole have =
    let wide : ℕ = fragment_width k count in
    let same : gather ≡ gather_of k m wide (map (share_at offset wide) archives) = gathered ∙ ap (λ w. gather_of k m w (map (share_at offset w) archives)) width_is in
    subst (λ (g : GatherModel). (pieces : List ℕ) → IsBytes pieces → length pieces ≡ g.k * g.width → AreFragments g.k g.width pieces g.shares → Decoded g.k g.width pieces) same decodes
    pieces bytes whole (shares_are_fragments k wide offset pieces archives have)

-- ---- the layout of archives that stand beside one another

pub laid_out : (layout : Layout) (archives : List ArchiveModel) (first : ArchiveModel) → AreEnough archives → AreTogether archives → first ≡ get_or archives 0 first → IsSound first
    → layout.code.k ≡ first.k → layout.code.m ≡ first.m → layout.size ≡ first.segment → layout.total ≡ first.body_length → AreLaidOut layout archives
laid_out layout archives first enough together is sound k m size total =
    let bounds = code_bounds first.k first.m first.segment sound.code in
    let count = count_of_first archives first enough is in
    let alike = alike_to_first archives first enough together is in
    record {
      size = omega (arith, size, bounds.some_data, bounds.least_segment);
      total = omega (arith, total, sound.body_length);
      count = count ∙ sym k;
      alike = λ position other below.
          let same = alike position other below in (
            sym (k ∙ ap (λ (a : ArchiveModel). a.k) same),
            sym (m ∙ ap (λ (a : ArchiveModel). a.m) same),
            sym (size ∙ ap (λ (a : ArchiveModel). a.segment) same),
            sym (total ∙ ap (λ (a : ArchiveModel). a.body_length) same),
          );
      distinct = together.distinct;
    }

-- what holds of the numbers of one of them holds of the layout's
as_laid_out : (layout : Layout) (archives : List ArchiveModel) → AreLaidOut layout archives → (position : ℕ) (other : ArchiveModel) → position < length archives → (P : ℕ → ℕ → ℕ → Type 0)
    → let at = get_or archives position other in P at.k at.segment at.body_length → P layout.code.k layout.size layout.total
as_laid_out layout archives laid position other below P holds =
    let at = get_or archives position other in
    let same = laid.alike position other below in
    subst (λ n. P layout.code.k layout.size n) same.3 (subst (λ n. P layout.code.k n at.body_length) same.2 (subst (λ n. P n at.segment at.body_length) same.0 holds))

-- and the other way round
laid_out_as : (layout : Layout) (archives : List ArchiveModel) → AreLaidOut layout archives → (position : ℕ) (other : ArchiveModel) → position < length archives → (P : ℕ → ℕ → ℕ → Type 0)
    → let at = get_or archives position other in P layout.code.k layout.size layout.total → P at.k at.segment at.body_length
laid_out_as layout archives laid position other below P holds =
    let at = get_or archives position other in
    let same = laid.alike position other below in
    subst (λ n. P n at.segment at.body_length) (sym same.0) (subst (λ n. P layout.code.k n at.body_length) (sym same.2) (subst (λ n. P layout.code.k layout.size n) (sym same.3) holds))

-- how far the payload of one of them reaches
pub payload_reaches : (layout : Layout) (archives : List ArchiveModel) (position : ℕ) (archive : ArchiveModel) → AreLaidOut layout archives → position < length archives → archive ≡ get_or archives position archive
    → IsSound archive → length archive.payload ≡ laid_length layout
payload_reaches layout archives position archive laid below is sound =
    let same = subst (λ (a : ArchiveModel). (a.k ≡ layout.code.k) × (a.m ≡ layout.code.m) × (a.segment ≡ layout.size) × (a.body_length ≡ layout.total)) (sym is) (laid.alike position archive below) in
    sound.payload ∙ ap (λ n. payload_length n archive.segment archive.body_length) same.0 ∙ ap (λ n. payload_length layout.code.k n archive.body_length) same.2 ∙ ap (payload_length layout.code.k layout.size) same.3

pub laid_length-le : (layout : Layout) (archives : List ArchiveModel) → AreLaidOut layout archives → laid_length layout ≤ layout.total
laid_length-le layout archives laid = payload_length-le layout.code.k layout.size layout.total (omega (arith, layout.code.some_data)) laid.size

-- ---- what is made, one segment after the other

-- no segment is behind at first
pub none_reached : (layout : Layout) → AreReached layout 0 0
none_reached layout =
    let all : layout.total - 0 ≡ layout.total = omega arith in
    record { within = omega arith; left = omega (arith, ap (payload_length layout.code.k layout.size) all) }

-- all pieces are left
pub all_left : (layout : Layout) (archives : List ArchiveModel) (made_of : ℕ → List (List ℕ) → List ℕ) → AreLaidOut layout archives
    → (pieces : List (List ℕ)) → AreOfPieces archives pieces → AreLeft layout archives made_of 0 0 [] pieces
all_left layout archives made_of laid pieces of =
    let some : 0 < length archives = omega (arith, laid.count, layout.code.some_data) in
    let all : layout.total ≡ layout.total - 0 = omega arith in
    record {
      others = pieces;
      are = subst (λ n. ArePieces layout.code.k layout.size n pieces) all
          (as_laid_out layout archives laid 0 no_archive some (λ k size total. ArePieces k size total pieces) (of 0 no_archive some).0);
      payloads = λ position archive below.
          let at = get_or archives position archive in
          as_laid_out layout archives laid position archive below (λ k size total. at.payload ≡ joined_fragments k size total pieces at.index) (of position archive below).1
          ∙ ap (λ n. joined_fragments layout.code.k layout.size n pieces at.index) all;
      whole = ap (λ n. made_of n pieces) (sym all);
    }

module _ (layout : Layout) (archives : List ArchiveModel) (done offset count width : ℕ) (more : done < layout.total)
    (count_is : count ≡ min layout.size (layout.total - done)) (width_is : width ≡ fragment_width layout.code.k count) where
  abbrev k : ℕ
  k = layout.code.k

  abbrev size : ℕ
  size = layout.size

  abbrev total : ℕ
  total = layout.total

  module _ (whole_size : 0 < layout.size) (reached : AreReached layout done offset) where
    some : 0 < layout.code.k
    some = omega (arith, layout.code.some_data)

    -- how far the payloads reach behind the next segment
    left_behind : offset + width + payload_length k size (total - (done + count)) ≡ payload_length k size total
    left_behind =
        let cut = payload_length-cut k size (total - done) some whole_size in
        let left : total - (done + count) ≡ (total - done) - min size (total - done) = omega (arith, count_is) in
        let rest : payload_length k size (total - (done + count)) ≡ payload_length k size ((total - done) - min size (total - done)) = ap (payload_length k size) left in
        let wide : width ≡ fragment_width k (min size (total - done)) = width_is ∙ ap (fragment_width k) count_is in
        omega (arith, reached.left, cut, rest, wide)

    pub next_stop : offset + width ≤ laid_length layout
    next_stop = omega (arith, left_behind)

    -- the next segment is behind, too
    pub next_reached : AreReached layout (done + count) (offset + width)
    next_reached = record { within = omega (arith, count_is); left = left_behind }

  -- What is made of the next segment's pieces stands behind what was made.
  module _ (made_of : ℕ → List (List ℕ) → List ℕ) (part : ℕ → List ℕ → List ℕ) (made new : List ℕ) (pieces : List (List ℕ))
      (step : (n : ℕ) (first : List ℕ) (others : List (List ℕ)) → made_of n (first ∷ others) ≡ part (min size n) first ++ made_of (n - size) others)
      (decodes : (first : List ℕ) → IsBytes first → length first ≡ k * fragment_width k count → HavePieces k offset (fragment_width k count) first archives → new ≡ made ++ part count first) where
    next_of : (others : List (List ℕ)) → ArePieces k size (total - done) others
        → All (λ archive. drop offset archive.payload ≡ joined_fragments k size (total - done) others archive.index) archives
        → made ++ made_of (total - done) others ≡ made_of total pieces
        → AreLeft layout archives made_of (done + count) (offset + width) new pieces
    next_of [] are payloads whole = absurd (omega (arith, are, more))
    next_of (first ∷ others) are payloads whole =
        let n : ℕ = total - done in
        let counted : min size n ≡ count = sym count_is in
        let behind : n - size ≡ total - (done + count) = omega (arith, count_is) in
        let here : ℕ → List ℕ = λ index. fragment k (fragment_width k (min size n)) first index in
        let there : ℕ → List ℕ = λ index. joined_fragments k size (n - size) others index in
        let wide : (index : ℕ) → length (here index) ≡ fragment_width k count = λ index. length-fragment k (fragment_width k (min size n)) first index ∙ ap (fragment_width k) counted in
        let have : HavePieces k offset (fragment_width k count) first archives =
        λ position archive below.
        let index : ℕ = (get_or archives position archive).index in
        ap (take (fragment_width k count)) (payloads position archive below) ∙ take_at (here index) (there index) (fragment_width k count) (wide index)
        ∙ ap (λ c. fragment k (fragment_width k c) first index) counted in
        let this : new ≡ made ++ part count first = decodes first are.1 (are.2 ∙ ap (λ c. k * fragment_width k c) counted) have in
        record {
          others = others;
          are = subst (λ m. ArePieces k size m others) behind are.3;
          payloads = λ position archive below.
              let at = get_or archives position archive in
              sym (drop-drop width offset at.payload) ∙ ap (drop width) (payloads position archive below)
              ∙ drop_at (here at.index) (there at.index) width (wide at.index ∙ sym width_is) ∙ ap (λ m. joined_fragments k size m others at.index) behind;
          whole = ap (λ bytes. bytes ++ made_of (total - (done + count)) others) (this ∙ ap (λ c. made ++ part c first) count_is)
              ∙ append_assoc made (part (min size n) first) (made_of (total - (done + count)) others)
              ∙ ap (λ m. made ++ (part (min size n) first ++ made_of m others)) (sym behind) ∙ ap (λ bytes. made ++ bytes) (sym (step n first others)) ∙ whole;
        }

    pub next_left : AreLeft layout archives made_of done offset made pieces → AreLeft layout archives made_of (done + count) (offset + width) new pieces
    next_left left = next_of left.others left.are left.payloads left.whole

-- where no byte is left, all was made
all_made : (layout : Layout) (made_of : ℕ → List (List ℕ) → List ℕ) (n : ℕ) (made : List ℕ) (pieces others : List (List ℕ)) → n ≡ 0 → made_of n [] ≡ []
    → ArePieces layout.code.k layout.size n others → made ++ made_of n others ≡ made_of layout.total pieces → made ≡ made_of layout.total pieces
all_made layout made_of n made pieces [] over none are whole = sym (append-nil made) ∙ ap (λ bytes. made ++ bytes) (sym none) ∙ whole
all_made layout made_of n made pieces (first ∷ others) over none are whole = absurd (omega (arith, over, are.0))

pub none_left : (layout : Layout) (archives : List ArchiveModel) (made_of : ℕ → List (List ℕ) → List ℕ) (done offset : ℕ) (made : List ℕ) (pieces : List (List ℕ))
    → layout.total ≤ done → ((n : ℕ) → made_of n [] ≡ []) → AreLeft layout archives made_of done offset made pieces → made ≡ made_of layout.total pieces
none_left layout archives made_of done offset made pieces over none left =
    all_made layout made_of (layout.total - done) made pieces left.others (omega (arith, over)) (none (layout.total - done)) left.are left.whole

-- ---- a body is decoded

-- the body of what was decoded
pub body_decoded : (layout : Layout) (archives : List ArchiveModel) (done offset : ℕ) (body : List ℕ) → AreLaidOut layout archives → layout.total ≤ done
    → ((pieces : List (List ℕ)) → AreOfPieces archives pieces → AreLeft layout archives (joined_segments layout.size) done offset body pieces)
    → (pieces : List (List ℕ)) → AreOfPieces archives pieces → IsDecoded archives body
body_decoded layout archives done offset body laid over left pieces of = record {
  pieces = pieces;
  of = of;
  joined = λ position other below.
      laid_out_as layout archives laid position other below (λ k size total. body ≡ joined_segments size total pieces)
      (none_left layout archives (joined_segments layout.size) done offset body pieces over (λ n. refl) (left pieces of));
}

-- ---- a whole payload is rebuilt

-- the index is below the code's
pub index_below : (layout : Layout) (archives : List ArchiveModel) (index : ℕ) → AreLaidOut layout archives → All (λ archive. index < archive.k + archive.m) archives → index < layout.code.k + layout.code.m
index_below layout archives index laid below =
    let some : 0 < length archives = omega (arith, laid.count, layout.code.some_data) in
    let same = laid.alike 0 no_archive some in
    omega (arith, below 0 no_archive some, same.0, same.1)

-- the fragments of an index of these pieces
abbrev pub fragments_at : Layout → ℕ → ℕ → List (List ℕ) → List ℕ
fragments_at layout index total pieces = joined_fragments layout.code.k layout.size total pieces index

-- the fragments of an index so far were added
pub record ArePartRebuilt (layout : Layout) (archives : List ArchiveModel) (index done offset : ℕ) (old new : List ℕ) : Type 0 where
  pub reached : AreReached layout done offset
  pub fragments : List ℕ
  pub appended : new ≡ old ++ fragments
  pub count : length fragments ≡ offset
  pub left : (pieces : List (List ℕ)) → AreOfPieces archives pieces → AreLeft layout archives (fragments_at layout index) done offset fragments pieces

-- all of them
pub rebuilt : (layout : Layout) (archives : List ArchiveModel) (index done offset : ℕ) (old new : List ℕ) → AreLaidOut layout archives → ArePartRebuilt layout archives index done offset old new
    → layout.total ≤ done → (pieces : List (List ℕ)) → AreOfPieces archives pieces → IsRebuilt archives index old new
rebuilt layout archives index done offset old new laid part over pieces of =
    let none : layout.total - done ≡ 0 = omega arith in
    let nothing : payload_length layout.code.k layout.size (layout.total - done) ≡ 0 =
    ap (payload_length layout.code.k layout.size) none ∙ payload_length-zero layout.code.k layout.size (omega (arith, layout.code.some_data)) laid.size in
    let reach : length part.fragments ≡ laid_length layout = omega (arith, part.count, part.reached.left, nothing) in
    record {
      added = part.fragments;
      appended = part.appended;
      reach = λ position other below. laid_out_as layout archives laid position other below (λ k size total. length part.fragments ≡ payload_length k size total) reach;
      pieces = pieces;
      of = of;
      rebuilt = λ position other below.
          laid_out_as layout archives laid position other below (λ k size total. part.fragments ≡ joined_fragments k size total pieces index)
          (none_left layout archives (fragments_at layout index) done offset part.fragments pieces over (λ n. refl) (part.left pieces of));
    }
