-- Entries are made durable at primaries, and rebuilt at those that lack theirs.
use Rattle.std.proofs.Common.{◌≡◌, ◌⊎◌, inl, inr, ℕ, true, not, Contains, List, [], ◌∷◌, length, Option, Some, subst}
use Rattle.std.specs.Prelude.{min, slice_get}
use Rattle.std.specs.List.{All, filter}
use Rattle.std.proofs.lemmas.List.Elements.{All-head}
use Rattle.std.proofs.lemmas.Option.{get_or_from_slice_get, slice_get_within}
use Rattle.sw_ring.proofs.Among.{among-from_Contains}
use Rattle.sw_message.specs.Floors.{durable_at}
use Rattle.sw_message.specs.Message.{is_primary}
use Rattle.sw_message.specs.Transcript.{Closed, Gave, Step}
use Rattle.sw_message.specs.declared.message.Msg.TheVariants as message
use Rattle.sw_message.specs.declared.reply.Reply.{Reply}
use Rattle.sw_message.specs.declared.reply.Reply.TheVariants as reply
use Rattle.sw_message.specs.declared.sent.Sent.{Sent}
use Rattle.sw_message.specs.declared.target.Target.{Target}
use Rattle.sw_quorum.specs.Targets.{targets_from}
use Rattle.sw_gather.specs.Choices.{choices_in, firsts}
use Rattle.sw_gather.proofs.Lists.{from_filter}
use Rattle.sw_sync.specs.Answers.{WasTold}
use Rattle.sw_sync.specs.Causes.{AreFailures, capped, count_told, is_committed}
use Rattle.sw_sync.specs.Parts.{Heard, Repair}
use Rattle.sw_sync.specs.Sync.{Begun, IsMessage, is_lacking, primaries, shows_none, shows_plain, stored, total}
use Rattle.sw_sync.specs.declared.errand.Errand.{Errand}
use Rattle.sw_sync.specs.declared.errand.Errand.TheVariants.{Ask, Commit, Delete, Fetch, Store}
use Rattle.sw_sync.specs.declared.stage.Stage.TheVariants.{Repairs}
use Rattle.sw_sync.proofs.Asking.{Surveyed, surveyed-later}
use Rattle.sw_sync.proofs.Errands.{Does, IsFor, does-gave, sent-is}
use Rattle.sw_sync.proofs.Failures.{failures-gave}
use Rattle.sw_sync.proofs.Firsts.{Once, once-gave}
use Rattle.sw_sync.proofs.Gathers.{Gathers, gathers-gave}
use Rattle.sw_sync.proofs.Messages.{told-cases, told-gave, told-later}
use Rattle.sw_sync.proofs.Plans.{OwnFloor}
use Rattle.sw_sync.proofs.Shows.{is-primary}

-- ---- what is to be done

-- the primary of an index stored what it was sent
abbrev pub IsStored : Begun → List Step → (stamp : ℕ) → Target → Type 0
IsStored begun past stamp target = (bytes : List ℕ) × WasTold past target.device (message.PutFrag begun.place stamp target.index bytes) (Some reply.Synced)

abbrev pub ToRepair : Begun → List Step → Heard → Repair → Errand → Type 0
ToRepair begun past heard repair (Commit target) =
    (Contains (targets_from 0 (primaries begun)) target × (shows_plain repair.stamp heard.lists target ≡ true)) ⊎ (Contains repair.lacking target × IsStored begun past repair.stamp target)
ToRepair begun past heard repair (Store target) = Contains repair.lacking target × (length repair.archives ≡ begun.cluster.policy.k)
ToRepair begun past heard repair (Fetch source) = Contains repair.tried source
ToRepair begun past heard repair other = ⊥

pub record Repairing (begun : Begun) (past : List Step) (repair : Repair) (due : List Errand) : Type 0 where
  pub heard : Heard
  pub surveyed : Surveyed begun past heard
  pub own : OwnFloor begun heard (durable_at repair.stamp)
  pub lacking : repair.lacking ≡ filter (shows_none repair.stamp heard.lists) (targets_from 0 (primaries begun))
  pub choices : repair.choices ≡ choices_in (total begun) repair.stamp heard.lists
  pub listed : repair.listed ≡ min (length (firsts repair.choices)) begun.cluster.policy.k
  pub does : Does begun repair.stamp (ToRepair begun past heard repair) past due
  pub once : Once begun repair.stamp (ToRepair begun past heard repair) past due
  pub commits : repair.commits ≡ capped (count_told (is_committed (λ index. not (is_lacking repair index))) past)
  pub rebuilt : repair.rebuilt ≡ capped (count_told (is_committed (is_lacking repair)) past)
  pub failures : AreFailures begun past repair.failed
  pub gathers : Gathers begun past repair due

-- the target of what is lacking is that of a primary
pub lacking-target : (begun : Begun) (past : List Step) (repair : Repair) (due : List Errand) (repairing : Repairing begun past repair due) (target : Target) → Contains repair.lacking target
    → Contains (targets_from 0 (primaries begun)) target × (shows_none repair.stamp repairing.heard.lists target ≡ true)
lacking-target begun past repair due repairing target there =
    from_filter (shows_none repair.stamp repairing.heard.lists) (targets_from 0 (primaries begun)) target (subst (λ these. Contains these target) repairing.lacking there)

-- and of what is to be made durable
pub commit-target : (begun : Begun) (past : List Step) (repair : Repair) (due : List Errand) (repairing : Repairing begun past repair due) (target : Target) → ToRepair begun past repairing.heard repair (Commit target)
    → Contains (targets_from 0 (primaries begun)) target
commit-target begun past repair due repairing target (inl plain) = plain.0
commit-target begun past repair due repairing target (inr stored) = (lacking-target begun past repair due repairing target stored.0).0

pub primary-there : (begun : Begun) (target : Target) → Contains (targets_from 0 (primaries begun)) target → Contains (primaries begun) target.device
primary-there begun target there = at-number (primaries begun) target.index target.device (is-primary begun target there)
  where
    at-number : (devices : List ℕ) (n device : ℕ) → slice_get devices n ≡ Some device → Contains devices device
    at-number devices n device at = (n, slice_get_within devices n device at, get_or_from_slice_get devices n device device at)

pub device-primary : (begun : Begun) (target : Target) → Contains (targets_from 0 (primaries begun)) target → is_primary begun.cluster target.device begun.place ≡ true
device-primary begun target there = among-from_Contains (primaries begun) target.device (primary-there begun target there)

-- ---- what was stored stays stored

module _ (begun : Begun) (past : List Step) (step : Step) (stamp : ℕ) (target : Target) where
  stored-later : IsStored begun past stamp target → IsStored begun (step ∷ past) stamp target
  stored-later (bytes, was) = (bytes, told-later past step target.device (message.PutFrag begun.place stamp target.index bytes) (Some reply.Synced) was)

-- where no other archive of it is stored by a step, what is to be done stays the same
module _ (begun : Begun) (past : List Step) (step : Step) (heard : Heard) (repair : Repair) where
  pub repair-later : (errand : Errand) → ToRepair begun past heard repair errand → ToRepair begun (step ∷ past) heard repair errand
  repair-later (Commit target) (inl plain) = inl plain
  repair-later (Commit target) (inr (lacking, was)) = inr (lacking, stored-later begun past step repair.stamp target was)
  repair-later (Store target) is = is
  repair-later (Fetch source) is = is
  repair-later (Ask device) is = is
  repair-later (Delete device) is = is

  pub repair-before : ((target : Target) → IsStored begun (step ∷ past) repair.stamp target → IsStored begun past repair.stamp target) → (errand : Errand) → ToRepair begun (step ∷ past) heard repair errand → ToRepair begun past heard repair errand
  repair-before before (Commit target) (inl plain) = inl plain
  repair-before before (Commit target) (inr (lacking, was)) = inr (lacking, before target was)
  repair-before before (Store target) is = is
  repair-before before (Fetch source) is = is
  repair-before before (Ask device) is = is
  repair-before before (Delete device) is = is

-- an answer that stores nothing
module _ (begun : Begun) (past : List Step) (repair : Repair) (sent : Sent) (answer : Option Reply) where
  pub stored-before : ((bytes : List ℕ) (target : Target) → sent.msg ≡ message.PutFrag begun.place repair.stamp target.index bytes → answer ≡ Some reply.Synced → ⊥) → (target : Target)
      → IsStored begun (Closed sent answer ∷ past) repair.stamp target → IsStored begun past repair.stamp target
  stored-before none target (bytes, was) = elim (told-cases past sent answer target.device (message.PutFrag begun.place repair.stamp target.index bytes) (Some reply.Synced) was) [
    | inl this ↦ absurd (none bytes target this.1 this.2)
    | inr before ↦ (bytes, before)
  ]

-- ---- a message is handed out

module _ (begun : Begun) (past : List Step) (repair : Repair) (due : List Errand) (repairing : Repairing begun past repair due) where
  abbrev Todo : List Step → Errand → Type 0
  Todo past = ToRepair begun past repairing.heard repair

  pub message-for : (errand : Errand) (sent : Sent) → IsMessage begun (Repairs repair) errand sent.device sent.msg → IsFor begun repair.stamp errand sent
  message-for (Ask device) sent is = (sent.ticket, [], sent-is sent device (message.Ask begun.place) is.0 is.1)
  message-for (Delete device) sent is = absurd is
  message-for (Fetch source) sent is = (sent.ticket, [], sent-is sent source.device (message.Fetch begun.place repair.stamp source.index) is.0 is.1)
  message-for (Store target) sent is = (sent.ticket, is.0, sent-is sent target.device (message.PutFrag begun.place repair.stamp target.index is.0) is.2 is.3)
  message-for (Commit target) sent is = (sent.ticket, [], sent-is sent target.device (message.Commit begun.place repair.stamp target.index) is.0 is.1)

  pub repairing-gave : (errand : Errand) (later : List Errand) (sent : Sent) → due ≡ errand ∷ later → IsMessage begun (Repairs repair) errand sent.device sent.msg → Repairing begun (Gave sent ∷ past) repair later
  repairing-gave errand later sent first is =
      let for = message-for errand sent is in
      record {
        heard = repairing.heard;
        surveyed = surveyed-later begun past (Gave sent) repairing.heard (λ device answer ticket same. cc) repairing.surveyed;
        own = repairing.own;
        lacking = repairing.lacking;
        choices = repairing.choices;
        listed = repairing.listed;
        does = does-gave begun repair.stamp (Todo past) (Todo (Gave sent ∷ past)) past due repairing.does (repair-later begun past (Gave sent) repairing.heard repair) errand later sent first for
            (repair-before begun past (Gave sent) repairing.heard repair
            (λ target was. (was.0, told-gave past sent target.device (message.PutFrag begun.place repair.stamp target.index was.0) (Some reply.Synced) was.1)));
        once = once-gave begun repair.stamp (Todo past) (Todo (Gave sent ∷ past)) past due repairing.once (repair-later begun past (Gave sent) repairing.heard repair) errand later sent first for
            (All-head (Todo past) errand later (subst (All (Todo past)) first repairing.does.sought))
            (repair-before begun past (Gave sent) repairing.heard repair
            (λ target was. (was.0, told-gave past sent target.device (message.PutFrag begun.place repair.stamp target.index was.0) (Some reply.Synced) was.1)));
        commits = repairing.commits;
        rebuilt = repairing.rebuilt;
        failures = failures-gave begun past sent repair.failed repairing.failures;
        gathers = gathers-gave begun past repair errand later sent for (subst (Gathers begun past repair) first repairing.gathers);
      }
