-- The second half of the headline, of what a script tells: gets that begin after a put or a delete was told to be acknowledged.
use Rattle.std.specs.Prelude.{◌≡◌, ◌⊎◌, ◌≤◌, ◌<◌, ℕ, ◌+◌, Bool, List, ◌∷◌, ◌++◌, Contains, length, Some}
use Rattle.sw_types.specs.Name.{NameModel}
use Rattle.sw_ring.specs.Cluster.{ClusterModel}
use Rattle.sw_delete.specs.Delete as deletes
use Rattle.sw_delete.specs.declared.end.DeleteEnd.TheVariants.{Deleted}
use Rattle.sw_get.specs.Get as gets
use Rattle.sw_get.specs.declared.end.GetEnd.{GetEnd}
use Rattle.sw_put.specs.Put as puts
use Rattle.sw_put.specs.declared.end.PutEnd.TheVariants.{Created}
use Rattle.sw_law_scene.specs.Scene.{StartedDelete, StartedPut}
use Rattle.sw_operation.specs.Operating as operations
use Rattle.sw_operation.specs.Operating.{IsGetOf}
use Rattle.sw_core.specs.World.{Operating, numbered}
use Rattle.sw_law_rounds.specs.Ends.{IsNotOlder, IsOvertaken, Shows}
use Rattle.sw_law_headline.specs.Headline.{AreOut}
use Rattle.sw_sim_exchange.specs.declared.lines.EndLine.{EndLine}
use Rattle.sw_operation.specs.declared.end.OpEnd.{OpEnd}
use Rattle.sw_operation.specs.declared.end.OpEnd.TheVariants as end
use Rattle.sw_sim_world.specs.Doing.{Done}

-- A line tells the end of an operation.
pub record TellsEndOf (done : Done) (operation : Operating) (how : OpEnd) : Type 0 where
  pub line : EndLine
  pub told : Contains done.told.ends line
  pub end_is : line.end ≡ how
  pub there : numbered done.after.world.operations line.operation ≡ Some operation

-- an end is that of a get, or of a head
abbrev pub IsGetEnd : OpEnd → GetEnd → Type 0
IsGetEnd (end.Get how) same = how ≡ same
IsGetEnd (end.Head how) same = how ≡ same
IsGetEnd other same = ⊥

-- A line tells the end of a get, or a head, of a name, which was started by a line after another one, with these devices out since a step.
pub record TellsLaterGet (earlier done : Done) (name : NameModel) (start : ℕ) (out : List ℕ) (how : GetEnd) : Type 0 where
  pub operation : Operating
  pub told_end : OpEnd
  pub tells : TellsEndOf done operation told_end
  pub end_is : IsGetEnd told_end how
  pub begun : gets.Begun
  pub begun_is : IsGetOf operation.begun begun
  pub same_name : begun.name ≡ name
  pub started_later : length earlier.after.world.operations < tells.line.operation
  pub are_out : AreOut done.after.world begun operation.past start out

-- A line tells that a put was created with so many commits, and a later one the end of a get of its name.
pub record TellsAfterPut (earlier done : Done) (stamp commits : ℕ) (out : List ℕ) (how : GetEnd) : Type 0 where
  pub operation : Operating
  pub tells : TellsEndOf earlier operation (end.Put (Created stamp commits))
  pub begun : puts.Begun
  pub begun_is : operation.begun ≡ operations.Put begun
  pub put : StartedPut
  pub started : Contains done.after.world.scene.book put
  pub put_is : put.booked.stamp ≡ stamp
  pub later : TellsLaterGet earlier done begun.name put.start out how

-- likewise after a delete
pub record TellsAfterDelete (earlier done : Done) (stamp marks : ℕ) (out : List ℕ) (how : GetEnd) : Type 0 where
  pub existed : Bool
  pub operation : Operating
  pub tells : TellsEndOf earlier operation (end.Delete (Deleted stamp marks existed))
  pub begun : deletes.Begun
  pub begun_is : operation.begun ≡ operations.Delete begun
  pub delete : StartedDelete
  pub started : Contains done.after.world.scene.marks delete
  pub delete_is : delete.marked.stamp ≡ stamp
  pub later : TellsLaterGet earlier done begun.name delete.start out how

-- In a story one line comes before another.
pub record ComesBefore (story : List Done) (earlier later : Done) : Type 0 where
  pub front : List Done
  pub between : List Done
  pub back : List Done
  pub is : story ≡ front ++ earlier ∷ between ++ later ∷ back

-- What a get tells after a put was told to be created: with fewer devices out than commits nothing older; and if at most q - k are, the
-- put or something newer, or that it was overtaken. After a delete: with fewer out than marks, nothing older.
pub record KeepsWord (cluster : ClusterModel) (story : List Done) : Type 0 where
  pub never_older : (earlier later : Done) (stamp commits : ℕ) (out : List ℕ) (how : GetEnd) → ComesBefore story earlier later → TellsAfterPut earlier later stamp commits out how → length out < commits → IsNotOlder stamp how
  pub shows : (earlier later : Done) (stamp commits : ℕ) (out : List ℕ) (how : GetEnd) → ComesBefore story earlier later → TellsAfterPut earlier later stamp commits out how → length out < commits
      → length out + cluster.policy.k ≤ cluster.policy.q → Shows stamp how ⊎ IsOvertaken how
  pub stays_deleted : (earlier later : Done) (stamp marks : ℕ) (out : List ℕ) (how : GetEnd) → ComesBefore story earlier later → TellsAfterDelete earlier later stamp marks out how → length out < marks → IsNotOlder stamp how
