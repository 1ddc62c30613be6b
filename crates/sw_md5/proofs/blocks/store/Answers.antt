use Rattle.std.proofs.Common.{◌≡◌, ◌≢◌, ◌+◌, ◌<◌, [], ◌∷◌, length, set, get_or, length-set, get_or-set_other, get_or-set_same, below_more, arith, ◌∙◌}
use Rattle.sw_md5.proofs.blocks.store.Goals as goal

pub loop-lane-preserved : goal.loop-lane-preserved
loop-lane-preserved g c =
    let n = c.loop-lane.lane in
    let inv = c.loop-lane.invariant in
    let lt : c.args.first + n < length c.loop-lane.states = omega (arith, inv.long) in
    record {
      long = length-set c.loop-lane.states _ _ ∙ inv.long;
      within = below_more (λ j. get_or (set c.loop-lane.states (c.args.first + n) _) (c.args.first + j) [] ≡ get_or c.to_words-a.result j 0 ∷ get_or c.to_words-b.result j 0 ∷ get_or c.to_words-c.result j 0 ∷ get_or c.to_words-d.result j 0 ∷ []) n
          (λ j h. let ne : c.args.first + j ≢ c.args.first + n = omega arith in rw get_or-set_other (inv.within j h))
          (rw get_or-set_same);
      before = λ i h. let ne : i ≢ c.args.first + n = omega arith in rw get_or-set_other (inv.before i h);
      behind = λ i h. let ne : i ≢ c.args.first + n = omega arith in rw get_or-set_other (inv.behind i (omega arith));
    }

pub returns-clause-within : goal.returns-clause-within
returns-clause-within g c = λ j l within.
    c.loop-lane.invariant.within j (omega arith)
    ∙ (λ t. c.to_words-a.ensures j l t ∷ c.to_words-b.ensures j l t ∷ c.to_words-c.ensures j l t ∷ c.to_words-d.ensures j l t ∷ [])

pub returns-clause-before : goal.returns-clause-before
returns-clause-before g c = c.loop-lane.invariant.before

pub returns-clause-behind : goal.returns-clause-behind
returns-clause-behind g c = λ i h. c.loop-lane.invariant.behind i (omega arith)
