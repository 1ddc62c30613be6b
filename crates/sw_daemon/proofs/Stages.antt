-- What holds of the stage of a task, whichever it is.
use Rattle.std.proofs.Common.{◌≡◌, ℕ, Bool, true, false, List, [], ◌∷◌, length, refl, ap}
use Rattle.sw_message.specs.Message.{is_primary}
use Rattle.sw_message.specs.Transcript.{Closed, Gave, Hand, Next, Step, given, is_waiting}
use Rattle.sw_message.specs.declared.sent.Sent.{Sent}
use Rattle.sw_hashpath.specs.Place.{PlaceModel}
use Rattle.sw_recon.specs.Revert as reverts
use Rattle.sw_recon.specs.declared.status.Status.{Status}
use Rattle.sw_recon.specs.declared.status.Status.TheVariants.{Ends, Starts, Treats}
use Rattle.sw_daemon.specs.Pass as passes
use Rattle.sw_daemon.specs.Pass.{stage_of, treats}
use Rattle.sw_daemon.specs.Question as questions
use Rattle.sw_daemon.specs.Stage.{Asks, Begun, IsBegun, IsNext, Reverts, Syncs, cluster_of}
use Rattle.sw_daemon.specs.Staging.{Stands}
use Rattle.sw_daemon.specs.declared.stage.Stage.{Stage}
use Rattle.sw_daemon.specs.declared.stage.Stage.TheVariants as stage

-- ---- tickets

ticket_in : Next → ℕ
ticket_in (Hand sent) = sent.ticket
ticket_in other = 0

same-ticket : (sent : Sent) (next : Next) → Hand sent ≡ next → sent.ticket ≡ ticket_in next
unfolding ticket_in
same-ticket sent next is = ap ticket_in is

asks-numbered : (begun : questions.Begun) (past : List Step) (sent : Sent) → questions.IsNext begun past (Hand sent) → sent.ticket ≡ length (given past)
unfolding ticket_in
asks-numbered begun [] sent is = same-ticket sent _ is
asks-numbered begun (Gave one ∷ past) sent is = absurd (cc)
asks-numbered begun (Closed one answer ∷ past) sent is = absurd (cc)

module _ (begun : reverts.Begun) (past : List Step) (sent : Sent) where
  reverts-at : (number : ℕ) (status : Status) → Hand sent ≡ reverts.next_at begun number status → sent.ticket ≡ number
  unfolding ticket_in
  reverts-at number Starts is = same-ticket sent _ is
  reverts-at number (Treats course) is = same-ticket sent _ is
  reverts-at number (Ends end) is = absurd (cc)

  reverts-or : (waits : Bool) → reverts.next_or begun past waits (Hand sent) → sent.ticket ≡ length (given past)
  reverts-or true is = absurd (cc)
  reverts-or false (status, is, next) = reverts-at (length (given past)) status next

-- the ticket of a message is the number of those of the stage before it
pub numbered : (begun : Begun) (past : List Step) (sent : Sent) → IsNext begun past (Hand sent) → sent.ticket ≡ length (given past)
numbered (Asks begun) past sent is = asks-numbered begun past sent is
numbered (Syncs begun) past sent (state, is, hands) = hands.0
numbered (Reverts begun) past sent is = reverts-or begun past sent (is_waiting past) is

-- ---- what it was begun with

pub begun-so : (job : Stage) (begun : Begun) (past : List Step) → Stands job begun past → IsBegun begun
begun-so (stage.Asks question) (Asks begun) past stands = stands.valid
begun-so (stage.Syncs job) (Syncs begun) past stands = stands.valid
begun-so (stage.Reverts job) (Reverts begun) past stands = stands.valid
begun-so job begun past stands = absurd stands

module _ (begun : passes.Begun) where
  treats-cluster : (place : PlaceModel) (primary : Bool) → cluster_of (treats begun place primary) ≡ begun.cluster
  treats-cluster place true = refl
  treats-cluster place false = refl

  -- the cluster of a stage is that of the pass
  pub cluster-same : (task : passes.Task) → cluster_of (stage_of begun task) ≡ begun.cluster
  cluster-same passes.ListParts = refl
  cluster-same (passes.ListPlaces part) = refl
  cluster-same (passes.ListOwn part) = refl
  cluster-same (passes.ListOther part own heard device others) = refl
  cluster-same (passes.Treat place) = treats-cluster place (is_primary begun.cluster begun.device place)
