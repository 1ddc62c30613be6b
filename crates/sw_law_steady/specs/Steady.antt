-- A get to which devices show no change: how many of its rounds are kept as events.
use Rattle.std.specs.Prelude.{◌≡◌, ℕ, Bool, List, ◌++◌, Contains, Option, Some}
use Rattle.sw_hashdir.specs.Listing.{ListingModel}
use Rattle.sw_message.specs.Transcript.{Closed, Step}
use Rattle.sw_message.specs.declared.reply.Reply.{Reply}
use Rattle.sw_message.specs.declared.reply.Reply.TheVariants as reply
use Rattle.sw_message.specs.declared.sent.Sent.{Sent}
use Rattle.sw_message.specs.declared.target.Target.{Target}
use Rattle.sw_get.specs.Causes.{Shows}
use Rattle.sw_get.specs.Get.{Begun, Turn, ask_message, event_of, events, fetch_message, going_in}
use Rattle.sw_get.specs.declared.round_end.KeptEvent.{KeptEvent}

-- an answer of a device shows this listing
abbrev pub IsShownBy : List Step → (device : ℕ) → ListingModel → Type 0
IsShownBy past device listing = (sent : Sent) × (given : Reply) × Contains past (Closed sent (Some given)) × (sent.device ≡ device) × Shows sent.msg given listing

-- Each device shows one listing whenever it shows one, and where it says that a fragment is gone that listing has no entry of it.
pub record IsSteady (begun : Begun) (past : List Step) : Type 0 where
  pub one : (device : ℕ) (first second : ListingModel) → IsShownBy past device first → IsShownBy past device second → first ≡ second
  pub gone : (ticket stamp : ℕ) (source : Target) (listing : ListingModel) (durable : Bool) → Contains past (Closed (fetch_message begun ticket stamp source) (Some (reply.Gone listing)))
      → Contains listing.entries (record { stamp = stamp; index = source.index; durable = durable }) → ⊥

-- A device that misses a question misses each of its questions: where one is answered by a listing each is.
abbrev pub MissesAlike : Begun → List Step → Type 0
MissesAlike begun past = (device ticket other : ℕ) (answer : Option Reply) (listing : ListingModel) → Contains past (Closed (ask_message begun ticket device) (Some (reply.Held listing))) → Contains past (Closed (ask_message begun other device) answer)
    → (same : ListingModel) × (answer ≡ Some (reply.Held same))

-- the events of the rounds that were kept, with that of the last one if it is
abbrev pub kept_events : Begun → List Turn → List KeptEvent
kept_events begun turns = events begun turns ++ event_of (going_in begun turns)
