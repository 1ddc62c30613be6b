-- An operation of a kind stands for what one of that kind was begun with.
use Rattle.std.proofs.Common.{List}
use Rattle.sw_message.specs.Transcript.{Step}
use Rattle.sw_delete.specs.Delete as deletes
use Rattle.sw_delete.specs.Standing as delete_standing
use Rattle.sw_get.specs.Get as gets
use Rattle.sw_get.specs.Standing as get_standing
use Rattle.sw_put.specs.Put as puts
use Rattle.sw_put.specs.Standing as put_standing
use Rattle.sw_operation.specs.Operating.{Begun, Delete, Get, Head, Put, Revert, Sync}
use Rattle.sw_operation.specs.Standing.{Stands}
use Rattle.sw_operation.specs.declared.any_op.AnyOp.TheVariants as any

module _ (P : Begun → Type 0) (past : List Step) where
  pub of_put : (op : put_standing.PutModel) → ((begun : puts.Begun) → put_standing.Stands op begun past → P (Put begun)) → (begun : Begun) → Stands (any.Put op) begun past → P begun
  of_put op has (Put begun) stands = has begun stands
  of_put op has begun stands = absurd stands

  pub of_get : (op : get_standing.GetModel) → ((begun : gets.Begun) → get_standing.Stands op begun past → P (Get begun)) → (begun : Begun) → Stands (any.Get op) begun past → P begun
  of_get op has (Get begun) stands = has begun stands
  of_get op has begun stands = absurd stands

  pub of_head : (op : get_standing.GetModel) → ((begun : gets.Begun) → get_standing.Stands op begun past → P (Head begun)) → (begun : Begun) → Stands (any.Head op) begun past → P begun
  of_head op has (Head begun) stands = has begun stands
  of_head op has begun stands = absurd stands

  pub of_delete : (op : delete_standing.DeleteModel) → ((begun : deletes.Begun) → delete_standing.Stands op begun past → P (Delete begun)) → (begun : Begun) → Stands (any.Delete op) begun past → P begun
  of_delete op has (Delete begun) stands = has begun stands
  of_delete op has begun stands = absurd stands
