use Rattle.std.proofs.Common.{◌≡◌, List, ℕ, ◌++◌, ap, ap₂, sym, subst, length, get_or, ◌∙◌}
use Rattle.sw_cauchy.specs.Rows.{row_times}
use Rattle.sw_cauchy.specs.Share.{GatherModel, AreFragments}
use Rattle.sw_cauchy.specs.Stripe.{fragment, segment_fragment}
use Rattle.sw_cauchy.proofs.Decoding.{fragment_decoded, length-combined_row}
use Rattle.sw_cauchy.proofs.RowTimes.{length-row_times}
use Rattle.sw_cauchy.proofs.Shares.{full_decodes}
use Rattle.sw_cauchy.proofs.gather.Gather.rebuild.Goals as goal
use Rattle.sw_cauchy.proofs.gather.Gather.rebuild.Goals.{After-from}

-- the fragment is the sum of the row's products
made : (c : After-from) → c.from.result ≡ row_times (length c.write_fragment.new.fragment) c.self.inside.width (λ t. get_or c.write_fragment.new.fragment t 0) c.deref-2.result.now
made c = c.from.ensures ∙ c.in_ok-push_row_times.ensures ∙ ap (λ (bytes : List ℕ). bytes ++ row_times (length c.write_fragment.new.fragment) c.self.inside.width (λ t. get_or c.write_fragment.new.fragment t 0) c.deref-2.result.now) c.new-fragment.ensures.items

pub returns-clause-length : goal.returns-clause-length
returns-clause-length c =
    ap length (made (goal.at.returns-clause-length c).After-from) ∙ length-row_times _ _ _ _ ∙ ap (λ (v : GatherModel). v.width) c.self.view_is

pub returns-clause-decoded : goal.returns-clause-decoded
returns-clause-decoded c pieces ps whole are =
    let g = c.self.inside in
    let k = g.code.k in
    let index = c.args.index in
    let matrix = g.decoder.matrix.items in
    let decodes = full_decodes g c.args.self.now c.self.view_is c.self.invariant c.requires.enough in
    let row = c.write_fragment.new.fragment in
    let is : row ≡ segment_fragment k matrix index = c.write_fragment.ensures ∙ ap (λ m. segment_fragment k m index) c.deref.ensures.value in
    made (goal.at.returns-clause-decoded c).After-from
    ∙ ap₂ (λ n b. row_times n g.width (λ t. get_or row t 0) b) (ap length is ∙ length-combined_row k matrix index g.code.some_data decodes.square) c.deref-2.ensures.value
    ∙ fragment_decoded k g.width matrix g.indices.items g.bytes.items pieces row index
    decodes
    ps (subst (λ (v : GatherModel). AreFragments v.k v.width pieces v.shares) (sym c.self.view_is) are) g.code.some_data decodes.square is
    ∙ ap (λ (v : GatherModel). fragment v.k v.width pieces index) c.self.view_is
