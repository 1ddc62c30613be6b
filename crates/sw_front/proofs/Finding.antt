-- What a get finds over a link that tells is one put's whole object.
use Rattle.std.proofs.Common.{List, Option, Some, None, refl}
use Rattle.sw_ring.specs.Cluster.{ClusterModel}
use Rattle.sw_message.specs.Learnt.{IsSoundBook, KnowsReplies, Learnt, Nothing}
use Rattle.sw_message.specs.Running.{MayRun, TellsSoundly}
use Rattle.sw_message.specs.Transcript.{IsRun, Step}
use Rattle.sw_message.proofs.Going.{are_known, sound_told}
use Rattle.sw_get.specs.Get.{Begun, IsBegun, IsEnd, IsNext}
use Rattle.sw_get.specs.declared.end.GetEnd.{GetEnd}
use Rattle.sw_get.specs.declared.end.GetEnd.TheVariants.{Found}
use Rattle.sw_get.proofs.Founds.{found_put}
use Rattle.sw_front.specs.Over.{FindsOnePut}

module _ (begun : Begun) (past : List Step) (valid : IsBegun begun) (run : IsRun (IsNext begun) past) where
  of_one_put : (learnt : Learnt) → IsSoundBook begun.cluster.policy learnt.book → KnowsReplies begun.cluster learnt past → (end : GetEnd) → IsEnd begun past end → FindsOnePut (Some learnt) begun past end
  of_one_put learnt book known (Found stamp object sources) ends =
      found_put begun past learnt stamp object sources valid run (record { one = book.one; objects = λ booked there. (book.puts booked there).object_rules })
      (are_known begun.cluster learnt book past known) ends
  of_one_put learnt book known end ends = tt

  pub finds : (of : Option ClusterModel) (learnt : Option Learnt) → TellsSoundly of learnt → MayRun begun.cluster Nothing past of learnt → (end : GetEnd) → IsEnd begun past end → FindsOnePut learnt begun past end
  finds of None sound may end ends = tt
  finds of (Some learnt) sound may end ends = of_one_put learnt (sound_told begun.cluster of (Some learnt) learnt sound may.same_cluster refl) (may.known learnt refl).1 end ends
