-- A get beside which nothing steps, on devices that are all up, ends by what they have at its place.
use Rattle.std.proofs.Common.{◌≡◌, sym, subst}
use Rattle.sw_types.specs.Name.{NameModel}
use Rattle.sw_ring.specs.Cluster.{ClusterModel}
use Rattle.sw_get.specs.Get as gets
use Rattle.sw_get.specs.declared.end.GetEnd.{GetEnd}
use Rattle.sw_core.specs.Event.{Job}
use Rattle.sw_operation.specs.Operating.{IsGetOf}
use Rattle.sw_core.specs.World.{Operating, World}
use Rattle.sw_law_alone.specs.Alone.{IsReading}
use Rattle.sw_law_alone.proofs.Beginning.{get_in}
use Rattle.sw_law_alone.proofs.Gets.{one_get}
use Rattle.sw_law_complete.specs.Complete.{AreReady, HasOwnPlace, RunsAlone}
use Rattle.sw_law_complete.specs.Ends.{EndsByWhatIsThere}
use Rattle.sw_law_complete.proofs.GetEnds.{ends_so}
use Rattle.sw_law_complete.proofs.GetTold.{is_get, old_sound, told_truly}

-- by what they had as it started
pub get_complete : (cluster : ClusterModel) (old new : World) (name : NameModel) (job : Job) (operation : Operating) (begun : gets.Begun) (end : GetEnd) → RunsAlone cluster old job new operation → IsReading name job → AreReady old.scene
    → HasOwnPlace old.scene name → IsGetOf operation.begun begun → gets.IsEnd begun operation.past end → EndsByWhatIsThere old.scene (gets.place_of begun) end
get_complete cluster old new name job operation begun end runs reads ready own is ends =
    let get = get_in old name in
    let same : begun ≡ get = one_get begun get operation.begun is (is_get cluster old new name job operation runs reads ready) in
    subst (λ (it : gets.Begun). EndsByWhatIsThere old.scene (gets.place_of it) end) (sym same)
    (ends_so old.scene (old_sound cluster old new name job operation runs reads ready).scene name own operation.past (told_truly cluster old new name job operation runs reads ready) end
    (subst (λ (it : gets.Begun). gets.IsEnd it operation.past end) same ends))
