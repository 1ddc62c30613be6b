use Rattle.std.proofs.Common.{◌*◌, [], map, get_or, inl, inr, arith, ap, ◌∙◌}
use Rattle.std.proofs.lemmas.Bool.{cases_lt}
use Rattle.sw_md5.specs.Side.{blocks_from}
use Rattle.sw_md5.proofs.blocks.add_blocks.Goals as goal

pub loop-group-preserved : goal.loop-group-preserved
loop-group-preserved g c =
    let inv = c.loop-group.invariant in
    record {
      done = λ i low within.
          elim (cases_lt i (8 * c.loop-group.group)) [
            | inl under ↦ c.add_next.ensures.before i under ∙ inv.done i under within
            | inr over ↦ c.add_next.ensures.within i over (omega arith) within ∙ ap (λ h. blocks_from h (get_or (map g.P.Piece.content c.args.pieces.now) i []) c.args.at c.args.blocks) (inv.ahead i over)
          ];
      ahead = λ i over. c.add_next.ensures.behind i (omega arith) ∙ inv.ahead i (omega arith);
    }

pub returns : goal.returns
returns g c = λ i within. c.loop-group.invariant.done i (omega arith) within
