-- A world stays sound as an operation starts.
use Rattle.std.proofs.Common.{◌≡◌, ⊎_elim, ℕ, ◌+◌, Bool, true, false, [], ◌∷◌, ◌++◌, length, refl, sym, subst, ◌∙◌, arith}
use Rattle.std.proofs.lemmas.List.{length-append}
use Rattle.std.proofs.lemmas.List.Elements.{Contains-push}
use Rattle.sw_types.specs.Name.{NameModel}
use Rattle.sw_diskfile.proofs.Lists.{Contains-map, Contains-none}
use Rattle.sw_ring.specs.Cluster.{ClusterModel, place_of_name}
use Rattle.sw_message.specs.Learnt.{HasOwn}
use Rattle.sw_message.specs.Message.{IsMember, is_primary}
use Rattle.sw_quorum.proofs.Places.{place_right}
use Rattle.sw_law_scene.specs.Moves.{books, marks}
use Rattle.sw_law_scene.specs.Scene.{Scene, StartedDelete, StartedPut, known_to}
use Rattle.sw_law_scene.specs.Sound.{IsSoundScene}
use Rattle.sw_law_scene.proofs.Growth.{Follows, books-follows, marks-follows, same-follows}
use Rattle.sw_law_scene.proofs.Sounds.{books-sound, marks-sound}
use Rattle.sw_core.specs.Event.{Begins, Delete, Get, Head, Job, Put, Recon, Starts, begins, stamp_in}
use Rattle.sw_operation.specs.Operating.{Begun, Delete as DeleteBegun, Get as GetBegun, Head as HeadBegun, IsBegun, Put as PutBegun, cluster_of, own_of, recon_of}
use Rattle.sw_core.specs.Sound.{IsSoundWorld, Stands}
use Rattle.sw_core.specs.World.{World}
use Rattle.sw_core.proofs.Numbered.{pushed-cases, pushed-last}
use Rattle.sw_core.proofs.Proceeding.{proceeds-sound, stands-on}

module _ (cluster : ClusterModel) (world : World) (sound : IsSoundWorld cluster world) where
  -- ---- one more operation

  module _ (begun : Begun) (scene : Scene) (follows : Follows world.scene scene) (is_sound : IsSoundScene scene) (valid : IsBegun begun) (same : cluster_of begun ≡ scene.cluster) (own : HasOwn (own_of begun) (known_to scene)) where
    abbrev next : ℕ
    next = length world.operations + 1

    abbrev begun_world : World
    begun_world = record world { scene = scene; operations = world.operations ++ begins begun world ∷ [] }

    stands : Stands scene next (begins begun world)
    stands = record {
      valid = valid;
      cluster = same;
      started = follows.grows.now;
      own = own;
      run = tt;
      told = λ sent reply has. absurd (Contains-none _ has);
      requests = λ at sent has. absurd (omega (arith, sound.numbers at next sent (follows.requests at next sent has)));
    }

    one_more : IsSoundWorld cluster begun_world
    one_more = record {
      same_cluster = follows.grows.cluster ∙ sound.same_cluster;
      scene = is_sound;
      operations = λ number operation is. ⊎_elim
          (λ old. stands-on world.scene scene follows.grows number operation (λ at sent has. follows.requests at number sent has) (sound.operations number operation old))
          (λ new. subst (Stands scene number) new.1 (subst (λ (n : ℕ). Stands scene n (begins begun world)) (sym new.0) stands))
          (pushed-cases world.operations (begins begun world) number operation is);
      numbers = λ at number sent has. omega (arith, sound.numbers at number sent (follows.requests at number sent has), length-append world.operations (begins begun world ∷ []));
    }

    begins-sound : (after : World) → Begins begun scene world after → IsSoundWorld cluster after
    begins-sound after goes = proceeds-sound cluster begun_world one_more next (begins begun world) (pushed-last world.operations (begins begun world)) [] stands after goes

  -- ---- each job

  recon-sound : (device : ℕ) (name : NameModel) → IsMember world.scene.cluster device → (after : World) (primary : Bool) → is_primary world.scene.cluster device (place_of_name world.scene.cluster name) ≡ primary
      → Begins (recon_of primary world.scene.cluster device name) world.scene world after → IsSoundWorld cluster after
  recon-sound device name member after true is =
      begins-sound (recon_of true world.scene.cluster device name) world.scene (same-follows world.scene) sound.scene
      (record { rules = sound.scene.rules; right = place_right world.scene.cluster name; primary = is }) refl tt after
  recon-sound device name member after false is =
      begins-sound (recon_of false world.scene.cluster device name) world.scene (same-follows world.scene) sound.scene
      (record { rules = sound.scene.rules; right = place_right world.scene.cluster name; member = member; handoff = is }) refl tt after

  pub starts-sound : (job : Job) (after : World) → Starts job world after → IsSoundWorld cluster after
  starts-sound (Put name object) after (left, put, goes) =
      begins-sound (PutBegun (record { cluster = world.scene.cluster; stamp = stamp_in world; name = name; object = object })) (books (stamp_in world) name object world.scene)
      (books-follows world.scene (stamp_in world) name object) (books-sound world.scene sound.scene world.clock name object put) (record { rules = sound.scene.rules }) refl
      (Contains-map (λ (one : StartedPut). one.booked) _ _ (Contains-push world.scene.book _)) after goes
  starts-sound (Delete name) after (left, goes) =
      begins-sound (DeleteBegun (record { cluster = world.scene.cluster; stamp = stamp_in world; name = name })) (marks (stamp_in world) name world.scene)
      (marks-follows world.scene (stamp_in world) name) (marks-sound world.scene sound.scene world.clock name) (record { rules = sound.scene.rules }) refl
      (Contains-map (λ (one : StartedDelete). one.marked) _ _ (Contains-push world.scene.marks _)) after goes
  starts-sound (Get name) after goes =
      begins-sound (GetBegun (record { cluster = world.scene.cluster; name = name })) world.scene (same-follows world.scene) sound.scene (record { rules = sound.scene.rules }) refl tt after goes
  starts-sound (Head name) after goes =
      begins-sound (HeadBegun (record { cluster = world.scene.cluster; name = name })) world.scene (same-follows world.scene) sound.scene (record { rules = sound.scene.rules }) refl tt after goes
  starts-sound (Recon device name) after (member, goes) =
      recon-sound device name member after (is_primary world.scene.cluster device (place_of_name world.scene.cluster name)) refl goes
