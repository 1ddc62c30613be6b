-- A delete that runs alone where all devices are ready ends as deleted with k + m marks.
use Rattle.std.proofs.Common.{◌≡◌, ◌+◌, Bool, true, List, [], ◌∷◌, ◌++◌, Some, refl, sym, ap, subst, ◌∙◌}
use Rattle.std.proofs.lemmas.Option.{same_Some}
use Rattle.sw_types.specs.Name.{NameModel}
use Rattle.sw_ring.specs.Cluster.{ClusterModel}
use Rattle.sw_message.specs.Transcript.{Over, Step}
use Rattle.sw_delete.specs.Causes.{ToldExisted}
use Rattle.sw_delete.specs.Delete as deletes
use Rattle.sw_delete.specs.declared.end.DeleteEnd.TheVariants.{Deleted}
use Rattle.sw_law_scene.specs.Moves.{marks}
use Rattle.sw_law_scene.specs.Scene.{Scene}
use Rattle.sw_core.specs.Event.{Delete, Start, stamp_in}
use Rattle.sw_operation.specs.Operating.{Begun, Delete as DeleteBegun}
use Rattle.sw_core.specs.Sound.{IsSoundWorld}
use Rattle.sw_core.specs.World.{Operating, Rests, World}
use Rattle.sw_core.proofs.Happening.{run-sound}
use Rattle.sw_core.proofs.Leads.{run-more}
use Rattle.sw_core.proofs.Next.{no-answer}
use Rattle.sw_law_complete.specs.Complete.{AreReady, RunsAlone}
use Rattle.sw_law_complete.proofs.AnsweredRuns.{leads_served}
use Rattle.sw_law_complete.proofs.AnsweredWorlds.{begins_served}
use Rattle.sw_law_complete.proofs.DeleteTranscripts.{end_deleted}
use Rattle.sw_law_complete.proofs.DeleteWorlds.{Holds, Served, Serves, Serving, are_marked, delete_of, handles_delete, number, run_is}

module _ (of : ClusterModel) (old new : World) (name : NameModel) (operation : Operating) (alone : RunsAlone of old (Delete name) new operation) (ready : AreReady old.scene) where
  old_sound : IsSoundWorld of old
  old_sound = run-sound of alone.earlier old alone.run

  abbrev marked : Scene
  marked = marks (stamp_in old) name old.scene

  -- nothing is answered yet
  starts_serving : Serving old name marked
  starts_serving = record {
    same_cluster = refl;
    last = refl;
    disks = λ device member. let has = ready.sure device member in (has.0, has.1);
    answers = λ at sent answer has. absurd (no-answer of old old_sound at sent answer has);
  }

  -- so it is as it starts
  started : Served old name alone.started
  started = begins_served old.scene.cluster (number old name) (DeleteBegun (delete_of old name)) (stamp_in old) (Holds old name) (Serves old name) old refl marked starts_serving alone.started alone.starts.1

  -- and at its end
  ends : IsSoundWorld of new × Served old name new
  ends =
      leads_served of old.scene.cluster (number old name) (DeleteBegun (delete_of old name)) (stamp_in old) (Holds old name) (Serves old name) (handles_delete old name of) alone.started alone.own new
      (alone.earlier ++ Start (Delete name) ∷ []) (run-more of alone.earlier old (Start (Delete name)) alone.started alone.run alone.starts) started alone.delivers alone.leads

  same_operation : ends.1.operation ≡ operation
  same_operation = same_Some ends.1.operation operation (sym ends.1.there ∙ alone.there)

  -- where it is over
  over : deletes.delete_next (delete_of old name) ends.1.operation.past ≡ Over
  over =
      subst (λ (one : Begun). Rests one ends.1.operation.past true) ends.1.begun_is
      (subst (λ (b : Bool). Rests ends.1.operation.begun ends.1.operation.past b) (ap (λ (one : Operating). one.is_over) same_operation ∙ alone.over) ends.1.rests)

  -- the delete of a cluster ended so by a transcript
  abbrev IsEnded : ClusterModel → List Step → deletes.Begun → Type 0
  IsEnded cluster past begun = (existed : Bool) × (deletes.delete_end begun past ≡ Some (Deleted (stamp_in old) (cluster.policy.k + cluster.policy.m) existed)) × (existed ≡ true → ToldExisted past) × (ToldExisted past → existed ≡ true)

  one_delete : (one other : deletes.Begun) → DeleteBegun one ≡ DeleteBegun other → one ≡ other
  one_delete one other same = cc

  -- so it was deleted
  pub delete_deleted : (begun : deletes.Begun) → operation.begun ≡ DeleteBegun begun → IsEnded of operation.past begun
  delete_deleted begun is =
      subst (IsEnded of operation.past) (one_delete (delete_of old name) begun (sym ends.1.begun_is ∙ ap (λ (one : Operating). one.begun) same_operation ∙ is))
      (subst (λ (one : Operating). IsEnded of one.past (delete_of old name)) same_operation
      (subst (λ (one : ClusterModel). IsEnded one ends.1.operation.past (delete_of old name)) old_sound.same_cluster
      (end_deleted (delete_of old name) (record { rules = old_sound.scene.rules }) ends.1.operation.past (run_is old name of new ends.0 ends.1) (are_marked old name of new ends.0 ends.1) over)))
