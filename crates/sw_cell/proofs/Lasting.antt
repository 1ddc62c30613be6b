-- What a seat knows goes on growing: what it covered it covers still, and what it has learnt at last it has learnt since the beginning.
use Rattle.std.proofs.Common.{◌∙◌, arith}
use Rattle.sw_ring.specs.Cluster.{ClusterModel}
use Rattle.sw_pass.specs.Known.{Covers, history}
use Rattle.sw_pass.specs.Steps.{old_of}
use Rattle.sw_pass.specs.declared.known.Known.{Known}
use Rattle.sw_pass.specs.declared.known.Old.{Old}
use Rattle.sw_pass.proofs.Histories.{continues_more}
use Rattle.sw_cell.specs.Learning.{HasGrown, HasLearnt}

-- what one covers, a later one that covers it covers too
pub covers_still : (old : Old) (between after : Known) → Covers between old → Covers after (old_of between) → Covers after old
covers_still old between after first second = record {
  drawn = λ fact has. second.drawn fact (first.drawn fact has);
  histories = λ slot. continues_more (history after.histories slot) (history between.histories slot) (history old.histories slot) (second.histories slot) (first.histories slot);
}

module _ (before between after : Known) (first : HasGrown before between) where
  -- what has grown twice has grown
  pub grown_twice : HasGrown between after → HasGrown before after
  grown_twice second = record {
    covers = covers_still (old_of before) between after first.covers second.covers;
    mark = omega (arith, first.mark, second.mark);
    clock = second.clock ∙ first.clock;
    draws = second.draws ∙ first.draws;
  }

  -- and what it has learnt at last it has learnt
  pub learnt_since : (cluster : ClusterModel) → HasLearnt cluster between after → HasLearnt cluster before after
  learnt_since cluster second = record { grown = grown_twice second.grown; sound = second.sound; agree = second.agree }

-- Where a seat told a pass what it knew, the pass covers that still once it has grown.
pub told_still : (old : Old) (told after : Known) → Covers told old → HasGrown told after → Covers after old
told_still old told after covers grown = covers_still old told after covers grown.covers

-- What a pass has learnt once a seat told it something, it took in more of others, and it took in what the seat did at last.
pub learnt_last : (cluster : ClusterModel) (before told between after : Known) → HasLearnt cluster before told → HasGrown told between → HasLearnt cluster between after → HasLearnt cluster before after
learnt_last cluster before told between after first others last = learnt_since before between after (grown_twice before told between first.grown others) cluster last
