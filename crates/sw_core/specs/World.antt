-- A world: its scene, its clock, and its operations with their transcripts.
use Rattle.std.specs.Prelude.{◌≡◌, ℕ, zero, suc, Bool, true, false, List, [], ◌∷◌, slice_get, Option, None}
use Rattle.sw_ring.specs.Cluster.{ClusterModel}
use Rattle.sw_message.specs.Transcript.{Gave, Hand, Over, Step, Wait}
use Rattle.sw_message.specs.declared.sent.Sent.{Sent}
use Rattle.sw_law_scene.specs.Scene.{Scene, empty_scene}
use Rattle.sw_operation.specs.Operating.{Begun, IsNext}

-- an operation: what it was begun with, at which step, its transcript, the latest step first, and whether it is over
pub record Operating : Type 0 where
  pub begun : Begun
  pub start : ℕ
  pub past : List Step
  pub is_over : Bool

pub record World : Type 0 where
  pub scene : Scene
  -- what the clock shows
  pub clock : ℕ
  -- the first is that of number 1
  pub operations : List Operating

-- 1000000000.00000
abbrev pub first_clock : ℕ
first_clock = 100000000000000

-- nothing was started, no device has a file, and all are up
abbrev pub empty_world : ClusterModel → World
empty_world cluster = record { scene = empty_scene cluster; clock = first_clock; operations = [] }

-- ---- numbers from 1

abbrev pub numbered : {A : Type 0} → List A → ℕ → Option A
numbered items zero = None
numbered items (suc slot) = slice_get items slot

-- the items with another one of that number
abbrev pub with_numbered : {A : Type 0} → ℕ → A → List A → List A
with_numbered number item [] = []
with_numbered zero item (other ∷ others) = other ∷ others
with_numbered (suc zero) item (other ∷ others) = item ∷ others
with_numbered (suc (suc number)) item (other ∷ others) = other ∷ with_numbered (suc number) item others

-- ---- operations that go on

-- a machine hands out these messages, the first of them first
abbrev pub HandsOut : Begun → List Sent → (past after : List Step) → Type 0
HandsOut begun [] past after = after ≡ past
HandsOut begun (sent ∷ sents) past after = IsNext begun past (Hand sent) × HandsOut begun sents (Gave sent ∷ past) after

-- then it is over, or waits for an answer
abbrev pub Rests : Begun → List Step → (is_over : Bool) → Type 0
Rests begun past true = IsNext begun past Over
Rests begun past false = IsNext begun past Wait

-- An operation goes on from a transcript as far as it can.
pub record GoesOn (before : Operating) (past : List Step) (sents : List Sent) (after : Operating) : Type 0 where
  pub handed : HandsOut before.begun sents past after.past
  pub rests : Rests before.begun after.past after.is_over
  pub same : after ≡ record before { past = after.past; is_over = after.is_over }
