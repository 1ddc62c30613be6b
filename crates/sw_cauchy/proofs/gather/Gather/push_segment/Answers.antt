use Rattle.std.proofs.Common.{◌≡◌, ◌+◌, ◌*◌, List, ℕ, ◌++◌, ◌∙◌, ap, ap₂, sym, subst, take, length, arith, length-append}
use Rattle.std.proofs.Math.Seq.{take-append-add}
use Rattle.std.proofs.lemmas.List.{length-take-le}
use Rattle.sw_cauchy.specs.Rows.{rows_times}
use Rattle.sw_cauchy.specs.Share.{GatherModel, AreFragments}
use Rattle.sw_cauchy.specs.Stripe.{fragment_width}
use Rattle.sw_cauchy.proofs.Decoding.{pieces_decoded, length-rows_times}
use Rattle.sw_cauchy.proofs.Fragments.{width_covers}
use Rattle.sw_cauchy.proofs.Shares.{full_decodes}
use Rattle.sw_cauchy.proofs.gather.Gather.push_segment.Goals as goal
use Rattle.sw_cauchy.proofs.gather.Gather.push_segment.Goals.{After-truncate}

-- what the matrix makes of the shares
abbrev rows : After-truncate → List ℕ
rows c = let g = c.self.inside in rows_times g.code.k g.width c.deref.result.now c.deref-2.result.now g.code.k

-- its front was added
added : (c : After-truncate) → c.truncate.new.self.items ≡ c.args.out.now.items ++ take c.args.segment_length (rows c)
added c =
    let before = c.args.out.now.items in
    let start : c.len-start.result ≡ length before = omega (arith, c.len-start.ensures, c.args.out.now.ok.0) in
    c.truncate.ensures.items
    ∙ ap (take (c.len-start.result + c.args.segment_length)) (c.in_ok-push_matrix_times.ensures ∙ ap (λ (bytes : List ℕ). bytes ++ rows c) c.in_ok-reserve.ensures.items)
    ∙ ap (λ n. take (n + c.args.segment_length) (before ++ rows c)) start
    ∙ take-append-add before (rows c) c.args.segment_length

pub returns-clause-length : goal.returns-clause-length
returns-clause-length c =
    let at = (goal.at.returns-clause-length c).After-truncate in
    let g = c.self.inside in
    let count : length (rows at) ≡ g.code.k * g.width = length-rows_times g.code.k g.width c.deref.result.now c.deref-2.result.now in
    let fits : fragment_width g.code.k c.args.segment_length ≡ g.width =
    subst (λ (v : GatherModel). fragment_width v.k c.args.segment_length ≡ v.width) (sym c.self.view_is) c.requires.fits in
    ap length (added at) ∙ length-append c.args.out.now.items (take c.args.segment_length (rows at))
    ∙ ap (λ n. length c.args.out.now.items + n)
    (length-take-le c.args.segment_length (rows at) (omega (arith, count, width_covers g.code.k c.args.segment_length g.code.some_data, ap (λ w. g.code.k * w) fits)))

pub returns-clause-decoded : goal.returns-clause-decoded
returns-clause-decoded c pieces ps whole are =
    let at = (goal.at.returns-clause-decoded c).After-truncate in
    let g = c.self.inside in
    let matrix = g.decoder.matrix.items in
    added at
    ∙ ap (λ (bytes : List ℕ). c.args.out.now.items ++ take c.args.segment_length bytes)
    (ap₂ (λ m b. rows_times g.code.k g.width m b g.code.k) c.deref.ensures.value c.deref-2.ensures.value
    ∙ pieces_decoded g.code.k g.width matrix g.indices.items g.bytes.items pieces
    (full_decodes g c.args.self.now c.self.view_is c.self.invariant c.requires.enough)
    ps
    (whole ∙ sym (ap (λ (v : GatherModel). v.k * v.width) c.self.view_is))
    (subst (λ (v : GatherModel). AreFragments v.k v.width pieces v.shares) (sym c.self.view_is) are))
