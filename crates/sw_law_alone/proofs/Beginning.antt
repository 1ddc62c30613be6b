-- A get that has just begun was shown nothing yet.
use Rattle.std.proofs.Common.{⊎_elim, ℕ, ◌+◌, [], ◌∷◌, ◌++◌, length, refl, subst, arith}
use Rattle.sw_types.specs.Name.{NameModel}
use Rattle.sw_ring.specs.Cluster.{ClusterModel}
use Rattle.sw_get.specs.Get as gets
use Rattle.sw_core.specs.Event.{Begins, Happens, Job, Start, begins}
use Rattle.sw_operation.specs.Operating.{Begun, Get as GetBegun, Head as HeadBegun, IsGetOf}
use Rattle.sw_core.specs.Sound.{IsSoundWorld}
use Rattle.sw_core.specs.World.{Operating, World}
use Rattle.sw_core.proofs.Numbered.{numbered-within, pushed-cases, pushed-last}
use Rattle.sw_core.proofs.Next.{no-answer, no-request}
use Rattle.sw_law_alone.specs.Alone.{AGet, AHead, IsReading}
use Rattle.sw_law_alone.proofs.Lone.{IsLone, proceeds}

-- the get of a name in a world's cluster
abbrev pub get_in : World → NameModel → gets.Begun
get_in world name = record { cluster = world.scene.cluster; name = name }

module _ (cluster : ClusterModel) (world : World) (sound : IsSoundWorld cluster world) (name : NameModel) where
  abbrev next : ℕ
  next = length world.operations + 1

  abbrev get : gets.Begun
  get = get_in world name

  -- an operation that is the get, or a head, begins
  begins_lone : (begun : Begun) → IsGetOf begun get → (after : World) → Begins begun world.scene world after → IsLone next get after
  begins_lone begun is after goes =
      proceeds next get (record world { operations = world.operations ++ begins begun world ∷ [] }) (record {
        begun = λ operation there. ⊎_elim
            (λ old. absurd (omega (arith, numbered-within world.operations next operation old)))
            (λ new. subst (λ (one : Operating). IsGetOf one.begun get) new.1 is)
            (pushed-cases world.operations (begins begun world) next operation there);
        requests = λ at sent has. absurd (no-request cluster world sound at sent has);
        answers = λ at sent reply has. absurd (no-answer cluster world sound at sent reply has);
      }) (begins begun world) (pushed-last world.operations (begins begun world)) [] after goes

  -- so it is once a get of the name was started, or a head
  pub starts_lone : (job : Job) → IsReading name job → (after : World) → Happens (Start job) world after → IsLone next get after
  starts_lone job (AGet same) after goes = begins_lone (GetBegun get) refl after goes
  starts_lone job (AHead same) after goes = begins_lone (HeadBegun get) refl after goes
