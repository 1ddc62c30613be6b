-- An operation goes on, starts, and is told an answer in one way.
use Rattle.std.proofs.Common.{◌≡◌, ℕ, ◌+◌, Bool, true, false, List, [], ◌∷◌, ◌++◌, length, Option, Some, None, refl, sym, ap₂, subst, ◌∙◌}
use Rattle.std.specs.Prelude.{MatchBool}
use Rattle.sw_types.specs.Name.{NameModel}
use Rattle.sw_ring.specs.Cluster.{KeepsRules, place_of_name}
use Rattle.sw_message.specs.Message.{is_primary}
use Rattle.sw_message.specs.Transcript.{Gave, Hand, Over, Step, Wait, after_answer}
use Rattle.sw_message.specs.declared.reply.Reply.{Reply}
use Rattle.sw_message.specs.declared.sent.Sent.{Sent}
use Rattle.sw_law_scene.specs.Moves.{books, marks, sends}
use Rattle.sw_law_scene.specs.Scene.{Scene}
use Rattle.sw_core.specs.Event.{Begins, Delete, Get, Head, TakesAnswer, Job, Proceeds, Put, Recon, Starts, begins, idle, stamp_in}
use Rattle.sw_operation.specs.Operating.{Begun, Delete as DeleteBegun, Get as GetBegun, Head as HeadBegun, IsNext, Put as PutBegun, cluster_of, recon_of}
use Rattle.sw_core.specs.World.{HandsOut, Operating, Rests, World, with_numbered}
use Rattle.sw_law_determined.proofs.Machines.{one_next}

-- ---- what is handed out

module _ (begun : Begun) (rules : KeepsRules (cluster_of begun)) where
  -- where it rests it hands nothing out
  rests_or_hands : (past : List Step) (is_over : Bool) (sent : Sent) → Rests begun past is_over → IsNext begun past (Hand sent) → ⊥
  rests_or_hands past true sent rests hands = let same : Over ≡ Hand sent = one_next begun rules past Over (Hand sent) rests hands in absurd (cc)
  rests_or_hands past false sent rests hands = let same : Wait ≡ Hand sent = one_next begun rules past Wait (Hand sent) rests hands in absurd (cc)

  one_rest : (past : List Step) (one other : Bool) → Rests begun past one → Rests begun past other → one ≡ other
  one_rest past true true x y = refl
  one_rest past false false x y = refl
  one_rest past true false x y = let same : Over ≡ Wait = one_next begun rules past Over Wait x y in absurd (cc)
  one_rest past false true x y = let same : Wait ≡ Over = one_next begun rules past Wait Over x y in absurd (cc)

  -- the same messages are handed out, and it rests in the same way
  one_handing : (sents others : List Sent) (past after later : List Step) (one other : Bool) → HandsOut begun sents past after → Rests begun after one → HandsOut begun others past later → Rests begun later other
      → (sents ≡ others) × (after ≡ later) × (one ≡ other)
  one_handing [] [] past after later one other x rests y stays =
      (refl, x ∙ sym y, one_rest past one other (subst (λ (steps : List Step). Rests begun steps one) x rests) (subst (λ (steps : List Step). Rests begun steps other) y stays))
  one_handing [] (sent ∷ others) past after later one other x rests y stays = absurd (rests_or_hands past one sent (subst (λ (steps : List Step). Rests begun steps one) x rests) y.0)
  one_handing (sent ∷ sents) [] past after later one other x rests y stays = absurd (rests_or_hands past other sent (subst (λ (steps : List Step). Rests begun steps other) y stays) x.0)
  one_handing (sent ∷ sents) (second ∷ others) past after later one other x rests y stays =
      let hands : Hand sent ≡ Hand second = one_next begun rules past (Hand sent) (Hand second) x.0 y.0 in
      let same : sent ≡ second = cc in
      let rest = one_handing sents others (Gave sent ∷ past) after later one other x.1 rests (subst (λ (this : Sent). HandsOut begun others (Gave this ∷ past) later) (sym same) y.1) stays in
      (ap₂ (λ (first : Sent) (more : List Sent). first ∷ more) same rest.0, rest.1, rest.2)

-- ---- an operation goes on

module _ (before : World) (number : ℕ) (operation : Operating) (rules : KeepsRules (cluster_of operation.begun)) (past : List Step) where
  abbrev operation_at : List Step → Bool → Operating
  operation_at steps is_over = record operation { past = steps; is_over = is_over }

  abbrev world_with : List Sent → Operating → World
  world_with sents later = record before { scene = sends number sents before.scene; operations = with_numbered number later before.operations }

  pub proceeds_once : (one other : World) → Proceeds before number operation past one → Proceeds before number operation past other → one ≡ other
  proceeds_once one other x y =
      let both = one_handing operation.begun rules x.sents y.sents past x.later.past y.later.past x.later.is_over y.later.is_over x.goes_on.handed x.goes_on.rests y.goes_on.handed y.goes_on.rests in
      let later : x.later ≡ y.later = x.goes_on.same ∙ ap₂ operation_at both.1 both.2 ∙ sym y.goes_on.same in
      x.after_is ∙ ap₂ world_with both.0 later ∙ sym y.after_is

-- ---- one is told an answer

module _ (world one other : World) (number ticket : ℕ) (answer : Option Reply) where
  told_by : (operation : Operating) → KeepsRules (cluster_of operation.begun) → (is_over : Bool)
      → MatchBool is_over (one ≡ idle world) (Proceeds world number operation (after_answer operation.past ticket answer) one)
      → MatchBool is_over (other ≡ idle world) (Proceeds world number operation (after_answer operation.past ticket answer) other) → one ≡ other
  told_by operation rules true x y = x ∙ sym y
  told_by operation rules false x y = proceeds_once world number operation rules (after_answer operation.past ticket answer) one other x y

  pub told_once : (found : Option Operating) → ((operation : Operating) → found ≡ Some operation → KeepsRules (cluster_of operation.begun)) → TakesAnswer found number ticket answer world one
      → TakesAnswer found number ticket answer world other → one ≡ other
  told_once None rules x y = x ∙ sym y
  told_once (Some operation) rules x y = told_by operation (rules operation refl) operation.is_over x y

-- ---- one starts

module _ (world one other : World) (rules : KeepsRules world.scene.cluster) where
  begins_once : (begun : Begun) → KeepsRules (cluster_of begun) → (scene : Scene) → Begins begun scene world one → Begins begun scene world other → one ≡ other
  begins_once begun kept scene x y =
      proceeds_once (record world { scene = scene; operations = world.operations ++ begins begun world ∷ [] }) (length world.operations + 1) (begins begun world) kept [] one other x y

  recon_rules : (primary : Bool) (device : ℕ) (name : NameModel) → KeepsRules (cluster_of (recon_of primary world.scene.cluster device name))
  recon_rules true device name = rules
  recon_rules false device name = rules

  pub starts_once : (job : Job) → Starts job world one → Starts job world other → one ≡ other
  starts_once (Put name object) x y =
      begins_once (PutBegun (record { cluster = world.scene.cluster; stamp = stamp_in world; name = name; object = object })) rules (books (stamp_in world) name object world.scene) x.2 y.2
  starts_once (Delete name) x y =
      begins_once (DeleteBegun (record { cluster = world.scene.cluster; stamp = stamp_in world; name = name })) rules (marks (stamp_in world) name world.scene) x.1 y.1
  starts_once (Get name) x y = begins_once (GetBegun (record { cluster = world.scene.cluster; name = name })) rules world.scene x y
  starts_once (Head name) x y = begins_once (HeadBegun (record { cluster = world.scene.cluster; name = name })) rules world.scene x y
  starts_once (Recon device name) x y =
      let primary = is_primary world.scene.cluster device (place_of_name world.scene.cluster name) in
      begins_once (recon_of primary world.scene.cluster device name) (recon_rules primary device name) world.scene x.1 y.1
