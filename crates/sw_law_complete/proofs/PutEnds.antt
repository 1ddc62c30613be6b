-- A put that runs alone where all devices are ready and have room ends as created with k + m commits.
use Rattle.std.proofs.Common.{◌≡◌, inl, ◌+◌, Bool, true, [], ◌∷◌, ◌++◌, Some, refl, sym, ap, subst, ◌∙◌}
use Rattle.std.proofs.lemmas.Option.{same_Some}
use Rattle.sw_types.specs.Name.{NameModel}
use Rattle.sw_types.specs.Object.{ObjectModel}
use Rattle.sw_ring.specs.Cluster.{ClusterModel}
use Rattle.sw_message.specs.Transcript.{Over}
use Rattle.sw_put.specs.Put as puts
use Rattle.sw_put.specs.declared.end.PutEnd.TheVariants.{Created}
use Rattle.sw_law_scene.specs.Moves.{books}
use Rattle.sw_law_scene.specs.Scene.{Scene}
use Rattle.sw_core.specs.Event.{Put, Start, stamp_in}
use Rattle.sw_operation.specs.Operating.{Begun, Put as PutBegun}
use Rattle.sw_core.specs.Sound.{IsSoundWorld}
use Rattle.sw_core.specs.World.{Operating, Rests, World}
use Rattle.sw_core.proofs.Happening.{run-sound}
use Rattle.sw_core.proofs.Leads.{run-more}
use Rattle.sw_core.proofs.Next.{no-answer}
use Rattle.sw_law_complete.specs.Complete.{AreReady, HaveRoom, RunsAlone}
use Rattle.sw_law_complete.proofs.AnsweredRuns.{leads_served}
use Rattle.sw_law_complete.proofs.AnsweredWorlds.{begins_served}
use Rattle.sw_law_complete.proofs.PutTranscripts.{done_created}
use Rattle.sw_law_complete.proofs.PutWorlds.{Holds, Served, Serves, Serving, are_done, handles_put, number, put_of, run_is}

module _ (of : ClusterModel) (old new : World) (name : NameModel) (object : ObjectModel) (operation : Operating) (alone : RunsAlone of old (Put name object) new operation) (ready : AreReady old.scene)
    (room : HaveRoom old.scene (stamp_in old) name object) where
  old_sound : IsSoundWorld of old
  old_sound = run-sound of alone.earlier old alone.run

  abbrev booked : Scene
  booked = books (stamp_in old) name object old.scene

  -- nothing is answered yet
  starts_serving : Serving old name object booked
  starts_serving = record {
    same_cluster = refl;
    last = refl;
    disks = λ device member. let has = ready.sure device member in ((has.0, has.1), inl refl);
    answers = λ at sent answer has. absurd (no-answer of old old_sound at sent answer has);
  }

  -- so it is as it starts
  started : Served old name object alone.started
  started =
      begins_served old.scene.cluster (number old name object) (PutBegun (put_of old name object)) (stamp_in old) (Holds old name object) (Serves old name object) old refl booked starts_serving alone.started alone.starts.2

  -- and at its end
  ends : IsSoundWorld of new × Served old name object new
  ends =
      leads_served of old.scene.cluster (number old name object) (PutBegun (put_of old name object)) (stamp_in old) (Holds old name object) (Serves old name object)
      (handles_put old name object of old_sound alone.starts.1 room) alone.started alone.own new (alone.earlier ++ Start (Put name object) ∷ [])
      (run-more of alone.earlier old (Start (Put name object)) alone.started alone.run alone.starts) started alone.delivers alone.leads

  same_operation : ends.1.operation ≡ operation
  same_operation = same_Some ends.1.operation operation (sym ends.1.there ∙ alone.there)

  -- where it is over
  over : puts.put_next (put_of old name object) ends.1.operation.past ≡ Over
  over =
      subst (λ (one : Begun). Rests one ends.1.operation.past true) ends.1.begun_is
      (subst (λ (b : Bool). Rests ends.1.operation.begun ends.1.operation.past b) (ap (λ (one : Operating). one.is_over) same_operation ∙ alone.over) ends.1.rests)

  put_done : puts.put_end (put_of old name object) operation.past ≡ Some (Created (stamp_in old) (of.policy.k + of.policy.m))
  put_done =
      subst (λ (one : Operating). puts.put_end (put_of old name object) one.past ≡ Some (Created (stamp_in old) (of.policy.k + of.policy.m))) same_operation
      (done_created (put_of old name object) (record { rules = old_sound.scene.rules }) ends.1.operation.past
      (run_is old name object of old_sound alone.starts.1 room new ends.0 ends.1) (are_done old name object of old_sound alone.starts.1 room new ends.0 ends.1) over
      ∙ ap (λ (one : ClusterModel). Some (Created (stamp_in old) (one.policy.k + one.policy.m))) old_sound.same_cluster)

  one_put : (one other : puts.Begun) → PutBegun one ≡ PutBegun other → one ≡ other
  one_put one other same = cc

  -- so it was created
  pub put_created : (begun : puts.Begun) → operation.begun ≡ PutBegun begun → puts.put_end begun operation.past ≡ Some (Created (stamp_in old) (of.policy.k + of.policy.m))
  put_created begun is =
      subst (λ (one : puts.Begun). puts.put_end one operation.past ≡ Some (Created (stamp_in old) (of.policy.k + of.policy.m)))
      (one_put (put_of old name object) begun (sym ends.1.begun_is ∙ ap (λ (one : Operating). one.begun) same_operation ∙ is)) put_done
