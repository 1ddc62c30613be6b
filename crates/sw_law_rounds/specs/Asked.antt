-- In which order the devices of a get's last round are asked and answer.
use Rattle.std.specs.Prelude.{◌≡◌, ℕ, List, ◌∷◌, ◌++◌, Contains, Option}
use Rattle.sw_hashdir.specs.Listing.{ListingModel}
use Rattle.sw_hashdir.specs.declared.floor.Floor.{Floor}
use Rattle.sw_message.specs.Floors.{floors_in}
use Rattle.sw_message.specs.Transcript.{Closed, Gave, Step}
use Rattle.sw_message.specs.declared.reply.Reply.{Reply}
use Rattle.sw_message.specs.declared.sent.Sent.{Sent}
use Rattle.sw_get.specs.Causes.{IsShown}
use Rattle.sw_get.specs.Get.{Begun, Hears, Sends, Turn, ask_message, round_in}
use Rattle.sw_get.specs.Meaning.{asked_meaning}

-- a message of the last round was handed out after these steps of the transcript
pub record IsSentAfter (begun : Begun) (past : List Step) (turns : List Turn) (sent : Sent) (earlier : List Step) : Type 0 where
  pub later : List Step
  pub place : past ≡ later ++ Gave sent ∷ earlier
  pub in_round : Contains (round_in begun turns).turns (Sends sent)

-- the device was asked in the last round, and among these steps it had answered or was given up
pub record HadAnswered (begun : Begun) (turns : List Turn) (device : ℕ) (earlier : List Step) : Type 0 where
  pub ticket : ℕ
  pub answer : Option Reply
  pub told : Contains earlier (Closed (ask_message begun ticket device) answer)
  pub heard : Contains (round_in begun turns).turns (Hears (ask_message begun ticket device) (asked_meaning answer))

-- an answer among these steps shows the floor
abbrev pub WasShown : List Step → Floor → Type 0
WasShown earlier floor = (listing : ListingModel) × IsShown earlier listing × Contains (floors_in listing) floor
