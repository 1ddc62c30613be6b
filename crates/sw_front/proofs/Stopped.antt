-- What went over a link before memory was wanted, or before no stamp was drawn.
use Rattle.std.proofs.Common.{◌≡◌, ℕ, true≢false, List, Some, None, Result, Ok, Err, sym}
use Rattle.std.specs.Prelude.{IsErr, IsErrAnd}
use Rattle.sw_types.specs.Name.{NameModel}
use Rattle.sw_types.specs.Object.{ObjectModel}
use Rattle.sw_types.specs.declared.memory.NoMemory.{NoMemory as Refused}
use Rattle.sw_ring.specs.Cluster.{ClusterModel}
use Rattle.sw_message.specs.Learnt.{Nothing}
use Rattle.sw_message.specs.Transcript.{Step}
use Rattle.sw_message.specs.declared.draw.DrawFault.{DrawFault}
use Rattle.sw_message.specs.declared.draw.DrawFault.TheVariants as draw
use Rattle.sw_delete.specs.declared.end.DeleteEnd.{DeleteEnd}
use Rattle.sw_get.specs.Get as gets
use Rattle.sw_get.specs.declared.end.GetEnd.{GetEnd}
use Rattle.sw_put.specs.declared.end.PutEnd.{PutEnd}
use Rattle.sw_front.specs.Over.{Calling, DeletesOver, Drawing, DrewAndWent, GetsOver, Learning, PutsOver, WentOver, delete_machine, put_machine}
use Rattle.sw_front.specs.declared.fault.FrontFault.{FrontFault}
use Rattle.sw_front.specs.declared.fault.FrontFault.TheVariants.{NoMemory, StampsSpent}

module _ {L : Type 0} (calls : Calling L) (losses : L → ℕ) (learnt : Learning L) (before after : L) where
  pub stopped_get : (begun : gets.Begun) (result : Result GetEnd Refused) → IsErr result → (past : List Step) × WentOver calls losses learnt begun.cluster Nothing (gets.IsNext begun) before past after
      → GetsOver calls losses learnt begun before result after
  stopped_get begun (Ok end) err went = absurd (true≢false (sym err))
  stopped_get begun (Err refused) err went = went

  module _ (draws : Drawing L) (cluster : ClusterModel) (name : NameModel) where
    pub stopped_put : (object : ObjectModel) (result : Result PutEnd FrontFault) → IsErrAnd result (λ fault. fault ≡ NoMemory)
        → (stamp : ℕ) × (past : List Step) × DrewAndWent draws calls losses learnt cluster name (Some object) (put_machine cluster name object) before stamp past after → PutsOver draws calls losses learnt cluster name object before result after
    stopped_put object (Ok end) err went = absurd err
    stopped_put object (Err NoMemory) err went = went
    stopped_put object (Err StampsSpent) err went = absurd (cc)

    pub unspent_put : (object : ObjectModel) (result : Result PutEnd FrontFault) → IsErrAnd result (λ fault. fault ≡ StampsSpent) → (fault : DrawFault) → draws before name (Some object) (Err fault) after
        → PutsOver draws calls losses learnt cluster name object before result after
    unspent_put object (Ok end) err fault drew = absurd err
    unspent_put object (Err NoMemory) err fault drew = absurd (cc)
    unspent_put object (Err StampsSpent) err draw.StampsSpent drew = drew

    pub stopped_delete : (result : Result DeleteEnd FrontFault) → IsErrAnd result (λ fault. fault ≡ NoMemory)
        → (stamp : ℕ) × (past : List Step) × DrewAndWent draws calls losses learnt cluster name None (delete_machine cluster name) before stamp past after → DeletesOver draws calls losses learnt cluster name before result after
    stopped_delete (Ok end) err went = absurd err
    stopped_delete (Err NoMemory) err went = went
    stopped_delete (Err StampsSpent) err went = absurd (cc)

    pub unspent_delete : (result : Result DeleteEnd FrontFault) → IsErrAnd result (λ fault. fault ≡ StampsSpent) → (fault : DrawFault) → draws before name None (Err fault) after → DeletesOver draws calls losses learnt cluster name before result after
    unspent_delete (Ok end) err fault drew = absurd err
    unspent_delete (Err NoMemory) err fault drew = absurd (cc)
    unspent_delete (Err StampsSpent) err draw.StampsSpent drew = drew
